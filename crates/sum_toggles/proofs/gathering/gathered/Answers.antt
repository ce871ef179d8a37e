use Rattle.sum_toggles.proofs.StepLemmas.{first_gathered, second_gathered}
use Rattle.sum_toggles.proofs.gathering.gathered.Goals as goal

pub gather_all-requires : goal.gather_all-requires
gather_all-requires c =
    rw (c.own_base.ensures, c.first-a.ensures.first, c.second-b.ensures.second)
    (first_gathered c.args.on.first c.args.on.lines.now c.args.product.now c.first-a.ensures.product c.requires)

pub gather_all-requires-2 : goal.gather_all-requires-2
gather_all-requires-2 c =
    rw (c.own_base-2.ensures, c.first-a.ensures.first, c.second-b.ensures.second)
    (second_gathered c.args.on.first c.args.on.lines.now c.args.product.now c.first-a.ensures.product c.requires)
