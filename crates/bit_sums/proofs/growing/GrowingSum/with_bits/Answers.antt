use Rattle.std.proofs.Common.{not, refl, subst}
use Rattle.list_facts.proofs.BitLemmas.{not-beq}
use Rattle.bit_sums.specs.Sums.{SumView}
use Rattle.bit_sums.specs.inside.Putting.{WithBits}
use Rattle.bit_sums.proofs.growing.GrowingSum.with_bits.Goals as goal

pub returns : goal.returns
returns c =
    let one = not (mathlib.Core.Bool.beq c.self.inside.one c.args.one) in
    let new : SumView = record { bits = c.in_ok-appended.field-0.items; products = c.self.inside.products.keys; one = one } in
    subst (λ (s : SumView). WithBits s c.args.more.items c.args.one new) c.self.view_is
    (record { bits = c.in_ok-appended.ensures; products = refl; constant = not-beq c.self.inside.one c.args.one })
