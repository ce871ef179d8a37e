use Rattle.std.proofs.Common.{ap₂, ◌∙◌}
use Rattle.std.specs.Bool.{xor}
use Rattle.list_facts.proofs.BitLemmas.{not-beq}
use Rattle.wide_sums.proofs.ToggleLemmas.{added}
use Rattle.wide_sums.proofs.sum.WideSum.plus.Goals as goal

pub returns : goal.returns
returns c =
    let bits = rw (c.bits.ensures, c.bits-2.ensures) at c.in_ok-bits.ensures in
    let products = rw (c.products.ensures, c.products-2.ensures) at c.in_ok-products.ensures in
    rw c.new.ensures (added _ _ _ bits products (not-beq c.one.result c.one-2.result ∙ ap₂ xor c.one.ensures c.one-2.ensures))
