use Rattle.std.proofs.Common.{sym, ◌∙◌}
use Rattle.eager_cleanup.proofs.KnownLemmas.{value_dropped}
use Rattle.eager_cleanup.proofs.known.drop_last.Goals as goal

pub returns-then-last_use-user : goal.returns-then-last_use-user
returns-then-last_use-user c =
    value_dropped c.args.graph.now c.args.user c.in-Node.k c.args.known.now (sym c.last_use.ensures ∙ c.if-last_use-user.true) c.requires.values
