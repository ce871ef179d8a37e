-- What each command prepares is what its order gives.
use Rattle.std.proofs.Common.{◌≡◌, ℕ, List, sym, subst}
use Rattle.revc_driver.specs.Commands.{Gives, promise_of}
use Rattle.revc_words.specs.declared.commands.Command.{Command}
use Rattle.revc_words.specs.Words.{OrderView}

pub given_of : (order : OrderView) (text written : List ℕ) (command : Command) → order.command ≡ command → (promise_of command).Gives order text written
    → Gives order text written
given_of order text written command is h = subst (λ (c : Command). (promise_of c).Gives order text written) (sym is) h
