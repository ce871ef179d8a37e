-- Circuits in place that are verified.
use Rattle.std.specs.Prelude.{◌≡◌, ℕ, ◌≤◌, length}
use Rattle.circuit_plans.specs.declared.roles.Placing.TheVariants.{InPlace}
use Rattle.circuit_plans.specs.Plans.{BudgetView, LaidView, roles_of}
use Rattle.claim_assumptions.specs.Assumptions.{premise}
use Rattle.circuit_verify.specs.Comparisons.{Comparison, beside, of_tape, roles_in}
use Rattle.circuit_verify.specs.Verdicts.{IsVerified}
use Rattle.revs_tape.specs.Tapes.{TapeView}

-- a circuit beside a tape whose outputs it is to put in place, on the inputs on which the first so
-- many claims hold
abbrev pub in_place : TapeView → ℕ → BudgetView → LaidView → Comparison
in_place tape assumed budget laid =
    beside (of_tape tape) (of_tape (premise assumed tape)) laid.circuit InPlace budget.borrow

-- the circuit is verified, its lines have the roles of one in place, and it is within the budget
pub record IsFound (tape : TapeView) (assumed : ℕ) (budget : BudgetView) (laid : LaidView)
    : Type 0 where
  pub verified : IsVerified (in_place tape assumed budget laid)
  pub roles : roles_of laid ≡ roles_in (in_place tape assumed budget laid)
  pub few_lines : laid.circuit.lines ≤ budget.lines
  pub few_gates : length laid.circuit.gates ≤ budget.gates
