use Rattle.std.proofs.Common.{subst, sym}
use Rattle.flip_lists.specs.Flips.{AreFlipsOn, gates_of}
use Rattle.flip_orders.specs.inside.Depths.{AreDepthsOf}
use Rattle.flip_orders.proofs.CircuitLemmas.{still_on}
use Rattle.flip_orders.proofs.best.order_for.Goals as goal

pub of-requires : goal.of-requires
of-requires c =
    subst (AreFlipsOn c.args.lines) (sym c.deref-2.ensures.value)
    (still_on c.args.lines c.args.flips.now c.in_ok-flips.flips.items c.in_ok-flips.ensures c.requires)

pub returns : goal.returns
returns c = record {
  order = c.in_ok-flips.ensures;
  depths = subst (λ l. AreDepthsOf (gates_of l) c.in_ok-depths.depths) c.deref-2.ensures.value c.in_ok-depths.ensures;
}
