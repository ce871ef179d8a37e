-- Why the calls on a program's text fail.
use Rattle.std.specs.Prelude.{ℕ, List}
use Rattle.command_answers.specs.declared.fault.Fault.{Fault}
use Rattle.command_answers.specs.declared.fault.Fault.TheVariants.{Memory, Refused}
use Rattle.command_answers.specs.declared.fault.Refusal.TheVariants.{At}
use Rattle.program_texts.specs.Eval.{Stops}
use Rattle.program_texts.specs.Refusals.{IsRefusal}
use Rattle.program_texts.specs.Settling.{StopsSettling}

-- why a text leaves no tape: it is refused at a place, or there was no memory left
abbrev pub IsTextFault : List ℕ → Fault → Type 0
IsTextFault text (Refused (At kind at)) = IsRefusal text (At kind at)
IsTextFault text (Memory _) = Unit {0}
IsTextFault text _ = ⊥

-- why the claims of a text are not settled, or there was no memory left
abbrev pub IsSettlingFault : List ℕ → ℕ → ℕ → Fault → Type 0
IsSettlingFault text assumed nodes (Memory _) = Unit {0}
IsSettlingFault text assumed nodes fault = StopsSettling text assumed nodes fault

-- why a text and a word give no value, or there was no memory left
abbrev pub IsEvalFault : List ℕ → List ℕ → Fault → Type 0
IsEvalFault text word (Memory _) = Unit {0}
IsEvalFault text word fault = Stops text word fault
