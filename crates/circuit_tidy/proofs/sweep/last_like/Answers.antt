use Rattle.std.proofs.Common.{◌∙◌, sym}
use Rattle.circuit_tidy.proofs.SweepLemmas.{last_found}
use Rattle.circuit_tidy.proofs.sweep.last_like.Goals as goal

pub returns-then-is_like : goal.returns-then-is_like
returns-then-is_like c =
    last_found c.args.flips.now c.args.flip _ c.search.left c.search-test.true c.search.invariant.0 (sym c.is_like.ensures ∙ c.if-is_like.true)
    c.search.invariant.1
