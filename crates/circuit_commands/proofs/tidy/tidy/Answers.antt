use Rattle.circuit_commands.proofs.TidyLemmas.{tidied_written}
use Rattle.circuit_commands.proofs.tidy.tidy.Goals as goal

pub returns-clause-ok : goal.returns-clause-ok
returns-clause-ok c =
    tidied_written c.args.aim c.args.from c.args.text.items c.in_ok-split.split c.in_ok-made.made c.in_ok-split.ensures.ok c.in_ok-made.ensures
