-- A circuit beside the settled graphs of what it is to compute and of what is assumed, and what is
-- known of them before they are compared.
use Rattle.std.specs.Prelude.{◌≡◌, ℕ, ◌<◌, ◌≤◌, ◌^◌, List, length, sum}
use Rattle.revs_tape.specs.Tapes.{AreWidths}
use Rattle.claim_check.specs.Settled.{SettledView, IsSettled}
use Rattle.mct_circuit.specs.Gates.{CircuitView, AreGatesOn}
use Rattle.circuit_plans.specs.declared.plan.TheConstants.{MOST_BORROWED}
use Rattle.circuit_plans.specs.declared.roles.Placing.{Placing}
use Rattle.circuit_verify.specs.Comparisons.{Comparison, beside, of_settled}
use Rattle.circuit_verify.specs.Verdicts.{IsComparable}

pub record ComparedView : Type 0 where
  pub graph : SettledView
  pub premise : SettledView
  pub params : List ℕ
  pub circuit : CircuitView
  pub placing : Placing
  pub borrow : ℕ

abbrev pub comparison : ComparedView → Comparison
comparison v = beside (of_settled v.params v.graph) (of_settled v.params v.premise) v.circuit
    v.placing v.borrow

pub record IsReady (v : ComparedView) : Type 0 where
  pub widths : AreWidths v.params
  pub inputs : sum v.params ≡ v.graph.inputs
  pub assumed_inputs : v.premise.inputs ≡ v.graph.inputs
  pub one_output : length v.premise.outputs ≡ 1
  pub borrow : v.borrow ≤ MOST_BORROWED
  pub comparable : IsComparable (comparison v)
  pub settled : IsSettled v.graph
  pub settled_premise : IsSettled v.premise
  pub gates : AreGatesOn v.circuit.lines v.circuit.gates
  pub few : v.circuit.lines < 2 ^ 32
