-- What the top call promises of each command.
use Rattle.std.specs.Prelude.{ℕ, Option, Some, None, List, [], ◌∷◌}
use Rattle.command_answers.specs.Outcomes.{Promise}
use Rattle.command_answers.specs.declared.fault.Fault.{Fault}
use Rattle.command_answers.specs.declared.limit.TextLimit.{TextLimit}
use Rattle.revc_words.specs.declared.commands.Command.{Command}
use Rattle.revc_words.specs.declared.commands.Command.TheVariants as commands
use Rattle.revc_words.specs.Words.{OrderView}
use Rattle.program_commands.specs.Placed as compile
use Rattle.program_texts.specs.Check as check
use Rattle.program_texts.specs.Eval as eval
use Rattle.program_commands.specs.Ands as ands
use Rattle.program_commands.specs.Gen as gen
use Rattle.program_commands.specs.Bench as bench
use Rattle.circuit_commands.specs.Stat as stat
use Rattle.circuit_commands.specs.Run as run
use Rattle.circuit_commands.specs.Convert as convert
use Rattle.circuit_commands.specs.Tidy as tidy
use Rattle.verify_command.specs.Verify as verify
use Rattle.program_commands.specs.Arith as arith

abbrev pub promise_of : Command → Promise
promise_of commands.Compile = compile.promise
promise_of commands.Check = check.promise
promise_of commands.Ands = ands.promise
promise_of commands.Eval = eval.promise
promise_of commands.Stat = stat.promise
promise_of commands.Run = run.promise
promise_of commands.Convert = convert.promise
promise_of commands.Tidy = tidy.promise
promise_of commands.Gen = gen.promise
promise_of commands.Bench = bench.promise
promise_of commands.Verify = verify.promise
promise_of commands.Arith = arith.promise

-- ---- the promise of an order

-- the limit of the text that it reads, if it reads one
abbrev pub reads_of : OrderView → Option TextLimit
reads_of order = (promise_of order.command).reads

-- these bytes are what it asks for, with this text on the source
abbrev pub Gives : OrderView → List ℕ → List ℕ → Type 0
Gives order = (promise_of order.command).Gives order

-- the text lets it end with this fault
abbrev pub IsCause : OrderView → List ℕ → Fault → Type 0
IsCause order = (promise_of order.command).IsCause order

-- it ends well with this text, unless memory or a device is wanting
abbrev pub Serves : OrderView → List ℕ → Type 0
Serves order = (promise_of order.command).Serves order

-- ---- statuses and texts

-- that of a fault of the source, where it is read, before these
abbrev pub with_reading : Option TextLimit → List ℕ → List ℕ
with_reading None statuses = statuses
with_reading (Some limit) statuses = 9 ∷ statuses

-- the statuses with which a command may end: success, faults of devices and memory, and those of
-- its causes
abbrev pub statuses_of : Promise → List ℕ
statuses_of promise = 0 ∷ 10 ∷ 11 ∷ with_reading promise.reads promise.statuses

-- the text of a command, where it is told: that of the source, and none where the source is not
-- read
abbrev pub text_told : Option TextLimit → Option (List ℕ) → Option (List ℕ)
text_told None rest = Some []
text_told (Some limit) rest = rest

-- the most bytes of that text
abbrev pub most_bytes : Option TextLimit → ℕ
most_bytes None = 0
most_bytes (Some limit) = limit.bytes
