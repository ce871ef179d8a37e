-- `gen`: the program of an adder.
use Rattle.std.specs.Prelude.{◌≡◌, ℕ, List, None, []}
use Rattle.command_answers.specs.Outcomes.{Promise, exact_promise}
use Rattle.command_answers.specs.declared.fault.Fault.{Fault}
use Rattle.arith_templates.specs.Adder.{adder_text}
use Rattle.revc_words.specs.Words.{OrderView}

-- what is written: the text of the adder of so many bits, whatever is on the source
abbrev pub Gives : OrderView → List ℕ → List ℕ → Type 0
Gives order text written = written ≡ adder_text order.number

-- why nothing is: nothing but memory or a device may be wanting
abbrev pub IsCause : OrderView → List ℕ → Fault → Type 0
IsCause order text fault = ⊥

-- where something is, unless memory or a device is wanting: always
abbrev pub Serves : OrderView → List ℕ → Type 0
Serves order text = Unit {0}

abbrev pub promise : Promise
promise = exact_promise None [] Gives IsCause Serves
