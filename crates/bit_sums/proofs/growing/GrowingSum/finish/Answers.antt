use Rattle.std.proofs.Common.{List, subst}
use Rattle.dependency_graph.specs.declared.node.Base.{Base}
use Rattle.bit_sums.specs.Growing.{IsFinished}
use Rattle.bit_sums.specs.Sums.{SumView}
use Rattle.bit_sums.specs.inside.Steps.{IsRisingOf}
use Rattle.bit_sums.proofs.TotalLemmas.{finished}
use Rattle.bit_sums.proofs.growing.GrowingSum.finish.Goals as goal

pub returns : goal.returns
returns c =
    rw c.new.ensures
    (subst (λ (s : SumView).
    IsFinished s (record { bits = c.in_ok-rising.field-0.items; products = c.in_ok-products.products.items; one = c.self.inside.one })) c.self.view_is
    (finished (record { bits = c.self.inside.bits.items; products = c.self.inside.products.keys; one = c.self.inside.one }) c.in_ok-rising.field-0.items
    c.in_ok-products.products.items c.self.invariant (subst (λ (l : List Base). IsRisingOf l c.in_ok-rising.field-0.items)
    c.deref.ensures.value c.in_ok-rising.ensures)
    c.in_ok-products.ensures))
