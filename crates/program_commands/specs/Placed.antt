-- `compile`: the file of a program's circuit, with the outputs where the order says.
use Rattle.std.specs.Prelude.{ℕ, List, [], ◌∷◌, Some}
use Rattle.circuit_plans.specs.declared.roles.Placing.{Placing}
use Rattle.circuit_plans.specs.declared.roles.Placing.TheVariants.{Added, InPlace}
use Rattle.command_answers.specs.Outcomes.{Promise, budget_promise}
use Rattle.command_answers.specs.declared.fault.Fault.{Fault}
use Rattle.command_answers.specs.declared.fault.Fault.TheVariants.{Memory}
use Rattle.program_commands.specs.Compile as beside
use Rattle.program_commands.specs.InPlace.{IsCompiledInPlace, StopsInPlace}
use Rattle.program_texts.specs.Refusals.{program_limit}
use Rattle.revc_words.specs.Words.{OrderView}

abbrev pub gives_by : Placing → OrderView → List ℕ → List ℕ → Type 0
gives_by (Added start) order text written = beside.Gives order text written
gives_by InPlace order text written = IsCompiledInPlace order text written

abbrev pub causes_by : Placing → OrderView → List ℕ → Fault → Type 0
causes_by (Added start) order text fault = beside.IsCause order text fault
causes_by InPlace order text fault = StopsInPlace order text fault

-- that a circuit in place is found is not promised
abbrev pub serves_by : Placing → OrderView → List ℕ → Type 0
serves_by (Added start) order text = beside.Serves order text
serves_by InPlace order text = ⊥

-- what is written
abbrev pub Gives : OrderView → List ℕ → List ℕ → Type 0
Gives order text written = gives_by order.outputs order text written

-- why nothing is
abbrev pub IsCause : OrderView → List ℕ → Fault → Type 0
IsCause order text fault = causes_by order.outputs order text fault

-- where something is, unless memory or a device is wanting
abbrev pub Serves : OrderView → List ℕ → Type 0
Serves order text = serves_by order.outputs order text

-- why there is no file, or there was no memory left
abbrev pub IsCompilingFault : OrderView → List ℕ → Fault → Type 0
IsCompilingFault order text (Memory _) = Unit {0}
IsCompilingFault order text fault = IsCause order text fault

abbrev pub promise : Promise
promise = budget_promise (Some program_limit) (3 ∷ 4 ∷ 5 ∷ 6 ∷ 7 ∷ 18 ∷ 19 ∷ 20 ∷ []) Gives IsCause
    Serves
