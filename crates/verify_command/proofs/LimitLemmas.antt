-- What is said of a circuit beside a program does not rest on the circuit's limit of gates.
use Rattle.std.proofs.Common.{◌≡◌, ℕ, ◌<◌, Bool, List, refl, subst}
use Rattle.mct_circuit.specs.Gates.{CircuitView, GateView}
use Rattle.circuit_plans.specs.declared.roles.Placing.{Placing}
use Rattle.circuit_verify.specs.Comparisons.{Comparison, Specification, beside}
use Rattle.circuit_verify.specs.Verdicts.{IsComparable, IsVerified}
use Rattle.circuit_verify.proofs.TapeLemmas.{comparable_moved, differs_moved, more_moved, verified_moved}
use Rattle.command_answers.specs.declared.fault.Fault.{Fault}
use Rattle.command_answers.specs.declared.fault.Fault.TheVariants as faults
use Rattle.revc_words.specs.Words.{OrderView}
use Rattle.verify_command.specs.Verify.{DiffersAt}
use Rattle.verify_command.specs.inside.Stages.{IsComparingFault}

abbrev pub compared : Specification → Specification → ℕ → ℕ → List GateView → Placing → ℕ → Comparison
compared program premise lines limit gates placing borrow =
    beside program premise (record { lines = lines; limit = limit; gates = gates }) placing borrow

module _ (program premise : Specification) (lines limit other : ℕ) (gates : List GateView) (placing : Placing) (borrow : ℕ) where
  -- each step is the same one
  own : (k : ℕ) → k < program.steps → (j : ℕ) × (j < program.steps) × ((input : List Bool) → program.step k input ≡ program.step j input)
  own k low = (k, low, λ input. refl)

  its : (k : ℕ) → k < premise.steps → (j : ℕ) × (j < premise.steps) × ((input : List Bool) → premise.step k input ≡ premise.step j input)
  its k low = (k, low, λ input. refl)

  pub verified_same : IsVerified (compared program premise lines limit gates placing borrow)
      → IsVerified (compared program premise lines other gates placing borrow)
  verified_same =
      verified_moved program.params program.steps program.steps program.step program.step program.outputs program.value own
      premise.params premise.params premise.steps premise.steps premise.step premise.step premise.outputs premise.outputs premise.value its
      lines limit other gates placing borrow

  comparable_same : IsComparable (compared program premise lines limit gates placing borrow)
      → IsComparable (compared program premise lines other gates placing borrow)
  comparable_same =
      comparable_moved program.params program.steps program.steps program.step program.step program.outputs program.value own
      premise.params premise.params premise.steps premise.steps premise.step premise.step premise.outputs premise.outputs premise.value its
      lines limit other gates placing borrow

  differs_same : (number : ℕ) (bits : List Bool) → DiffersAt (compared program premise lines limit gates placing borrow) number bits
      → DiffersAt (compared program premise lines other gates placing borrow) number bits
  differs_same number bits h = record {
    comparable = comparable_same h.comparable;
    before = h.before;
    first = differs_moved program.params program.steps program.steps program.step program.step program.outputs program.value own
        premise.params premise.params premise.steps premise.steps premise.step premise.step premise.outputs premise.outputs premise.value its
        lines limit other gates placing borrow h.before bits h.first;
    count = h.count;
  }

  pub stops_same : (order : OrderView) (fault : Fault) → IsComparingFault order fault (compared program premise lines limit gates placing borrow)
      → IsComparingFault order fault (compared program premise lines other gates placing borrow)
  stops_same order (faults.FewOutputs inputs outputs) h = h
  stops_same order (faults.FewLines lines need) h = h
  stops_same order (faults.WideGate number) h = record { outputs = h.outputs; enough = h.enough; before = h.before; first = h.first; count = h.count }
  stops_same order (faults.CircuitDiagram most) h = (
    h.0,
    comparable_same h.1,
    more_moved program.params program.steps program.steps program.step program.step program.outputs program.value own
        premise.params premise.params premise.steps premise.steps premise.step premise.step premise.outputs premise.outputs premise.value its
        lines limit other gates placing borrow order.nodes h.2,
    h.3,
  )
  stops_same order (faults.Differs number bits) h = (h.0, differs_same number bits h.1)
  stops_same order faults.Unsettled h = (h.0, comparable_same h.1)
  stops_same order (faults.Memory _) h = comparable_same h
  stops_same order fault h = h

-- the same of a circuit with these lines and gates
pub verified_circuit : (program premise : Specification) (circuit : CircuitView) (lines limit : ℕ) (gates : List GateView) (placing : Placing) (borrow : ℕ)
    → circuit.lines ≡ lines → circuit.gates ≡ gates → IsVerified (beside program premise circuit placing borrow)
    → IsVerified (compared program premise lines limit gates placing borrow)
verified_circuit program premise circuit lines limit gates placing borrow l g h =
    subst (λ gs. IsVerified (compared program premise lines limit gs placing borrow)) g
    (subst (λ n. IsVerified (compared program premise n limit circuit.gates placing borrow)) l
    (verified_same program premise circuit.lines circuit.limit limit circuit.gates placing borrow h))

pub stops_circuit : (program premise : Specification) (circuit : CircuitView) (lines limit : ℕ) (gates : List GateView) (placing : Placing) (borrow : ℕ)
    (order : OrderView) (fault : Fault) → circuit.lines ≡ lines → circuit.gates ≡ gates
    → IsComparingFault order fault (beside program premise circuit placing borrow)
    → IsComparingFault order fault (compared program premise lines limit gates placing borrow)
stops_circuit program premise circuit lines limit gates placing borrow order fault l g h =
    subst (λ gs. IsComparingFault order fault (compared program premise lines limit gs placing borrow)) g
    (subst (λ n. IsComparingFault order fault (compared program premise n limit circuit.gates placing borrow)) l
    (stops_same program premise circuit.lines circuit.limit limit circuit.gates placing borrow order fault h))
