use Rattle.std.proofs.Common.{false}
use Rattle.sum_cuts.proofs.WideLemmas.{constant_numbered}
use Rattle.sum_cuts.proofs.wide.WideCut.sum.Goals as goal

pub loop-place-init : goal.loop-place-init
loop-place-init c = record {
  all = c.requires;
  own = constant_numbered c.args.products.now c.args.self.now.sums.items c.args.self.now.diagram.nodes
      (record { form = c.constant.result; number = c.truth.result }) false c.truth.ensures.stands c.constant.ensures;
}
