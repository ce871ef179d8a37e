-- `tidy`: the file of fewer narrow gates in place of a circuit's, or of gates in an order of a
-- smaller depth, on its lines or on one more.
use Rattle.std.specs.Prelude.{ℕ, ◌+◌, Bool, Ok, List}
use Rattle.command_answers.specs.Outcomes.{Promise}
use Rattle.mct_circuit.specs.Gates.{GateView}
use Rattle.circuit_plans.specs.declared.plan.TheConstants.{MOST_GATES}
use Rattle.circuit_tidy.specs.Tidied.{IsTidied}
use Rattle.flip_orders.specs.Orders.{AreReordered}
use Rattle.revc_words.specs.declared.order.Aim.{Aim}
use Rattle.revc_words.specs.declared.order.Aim.TheVariants.{Gates, Depth, Order}
use Rattle.revc_words.specs.Words.{OrderView}
use Rattle.circuit_commands.specs.declared.limits.TheConstants.{MOST_TIDIED_GATES}
use Rattle.circuit_commands.specs.Circuits.{ReadCircuit, line_count}
use Rattle.circuit_commands.specs.Convert.{HasSplit, IsNarrowFile, added_lines, promise_within}

-- the most gates of the split list, for what a circuit is tidied
abbrev pub most_gates : Aim → ℕ
most_gates Gates = MOST_TIDIED_GATES
most_gates Depth = MOST_TIDIED_GATES
most_gates Order = MOST_GATES

-- tidied gates of a list in another order: the same gates, each as often, with the same line map,
-- and neither deeper nor of a greater Toffoli depth
pub record AreTidiedInOrder (lines : ℕ) (before gates : List GateView) : Type 0 where
  pub between : List GateView
  pub tidied : IsTidied lines before between
  pub order : AreReordered between gates

-- These gates are made of a list: tidied gates, where no pair cancels, no block is longer than its
-- elimination, and which are at most as many, with the line map of the list; such gates in another
-- order; or the list itself in another order.
abbrev pub AreMadeFor : Aim → (lines : ℕ) → (before gates : List GateView) → Type 0
AreMadeFor Gates lines before gates = IsTidied lines before gates
AreMadeFor Depth lines before gates = AreTidiedInOrder lines before gates
AreMadeFor Order lines before gates = AreReordered before gates

-- these gates are made of the split list of a circuit
pub record IsTidiedFor (aim : Aim) (circuit : ReadCircuit) (added : Bool) (gates : List GateView)
    : Type 0 where
  pub before : List GateView
  pub split : HasSplit (most_gates aim) circuit added (Ok before)
  pub made : AreMadeFor aim (line_count circuit + added_lines added) before gates

-- what is written
abbrev pub Gives : OrderView → List ℕ → List ℕ → Type 0
Gives order text written =
    IsNarrowFile (IsTidiedFor order.aim) order.from order.to text written

abbrev pub promise : Promise
promise = promise_within (λ order. most_gates order.aim) Gives
