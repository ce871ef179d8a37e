use Rattle.std.proofs.Common.{subst}
use Rattle.bit_sums.specs.Growing.{IsSumOf}
use Rattle.bit_sums.specs.Sums.{SumView}
use Rattle.bit_sums.proofs.TotalLemmas.{both}
use Rattle.bit_sums.proofs.growing.GrowingSum.with.Goals as goal

pub returns : goal.returns
returns c =
    subst (λ (s : SumView). IsSumOf c.args.self s c.put_all.new.self) c.other.view_is
    (both c.args.self (record { bits = c.other.inside.bits.items; products = c.other.inside.products.keys; one = c.other.inside.one }) c.in_ok-sum.sum
    c.put_all.new.self c.in_ok-products.products.items c.in_ok-sum.ensures c.in_ok-products.ensures c.in_ok-put_all.ensures)
