use Rattle.std.proofs.Common.{◌≡◌, refl, ap, ◌∙◌, subst}
use Rattle.exclusive_sums.specs.Cubes.{AreFarApart, Merges, done, cubes_of}
use Rattle.exclusive_sums.proofs.MergingLemmas.{sum_from_merges}
use Rattle.exclusive_sums.proofs.merging.merge.Goals as goal

pub returns-clause-recipe : goal.returns-clause-recipe
returns-clause-recipe c =
    let start : c.in_ok-cubes.cubes.items ≡ cubes_of c.args.poly.now = c.in_ok-cubes.ensures ∙ ap cubes_of c.monomials.ensures.monomials in
    let apart : AreFarApart c.loop-first.cubes.items = subst AreFarApart c.deref.ensures.value (c.in_default.ensures.none refl) in
    subst (λ cubes. Merges cubes c.loop-first.cubes.items) start (c.loop-first.invariant c.loop-first.cubes.items (done c.loop-first.cubes.items apart))

pub returns-clause-sum : goal.returns-clause-sum
returns-clause-sum c = sum_from_merges c.args.poly.now c.loop-first.cubes.items c.monomials.ensures.polynomial.rising (returns-clause-recipe c)
