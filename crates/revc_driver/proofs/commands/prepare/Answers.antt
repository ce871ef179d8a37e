use Rattle.std.proofs.Common.{subst}
use Rattle.revc_words.specs.Commands.{takes_of}
use Rattle.revc_words.specs.declared.commands.Command.{Command}
use Rattle.revc_words.specs.declared.commands.Command.TheVariants as commands
use Rattle.revc_words.specs.Words.{HasNumber, order_of}
use Rattle.revc_driver.proofs.CommandLemmas.{given_of}
use Rattle.revc_driver.proofs.commands.prepare.Goals as goal

pub returns-in_ok-laid-in-Compile-clause-ok : goal.returns-in_ok-laid-in-Compile-clause-ok
returns-in_ok-laid-in-Compile-clause-ok c =
    given_of (order_of c.args.order.now) c.args.text.items _ commands.Compile c.in-Compile.is
    (rw c.deref.ensures.value at c.in_ok-laid-in-Compile.ensures.ok)

pub make-requires : goal.make-requires
make-requires c =
    let limits = c.requires.limits in
    record {
      size = record {
        some = subst (λ (command : Command). HasNumber (takes_of command) c.args.order.now.number) c.in-Arith.is limits.some_bits;
        few = limits.few_bits;
        factor = λ multiplies. (limits.some_factor multiplies, limits.small_factor);
      };
    }
