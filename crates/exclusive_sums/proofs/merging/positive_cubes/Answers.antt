use Rattle.std.proofs.Common.{[], map, ap, ◌∙◌}
use Rattle.exclusive_sums.specs.Cubes.{positive}
use Rattle.exclusive_sums.proofs.FillingLemmas.{filled_more}
use Rattle.exclusive_sums.proofs.merging.positive_cubes.Goals as goal

pub loop-monomial-preserved : goal.loop-monomial-preserved
loop-monomial-preserved c =
    filled_more (map positive) c.args.monomials.now c.loop-monomial.monomial-index c.monomial-item.result c.in_ok-positive_cube.field-0
    [] c.loop-monomial.cubes.items c.push.new.self.items c.loop-monomial-test.true
    (c.in_ok-positive_cube.ensures ∙ ap (map positive) (c.inputs.ensures ∙ c.monomial-item.is)) c.in_ok-push.ensures.items c.loop-monomial.invariant
