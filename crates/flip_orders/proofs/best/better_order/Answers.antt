use Rattle.std.proofs.Common.{None, subst}
use Rattle.flip_orders.proofs.CircuitLemmas.{AreNoDeeper, better}
use Rattle.flip_orders.proofs.best.better_order.Goals as goal

pub returns-in-Some : goal.returns-in-Some
returns-in-Some c =
    let flips = c.args.flips.now in
    let most = c.in_ok-most.most in
    let first = better flips most None c.better_of-better.result c.in_ok-first.first c.in_ok-most.ensures tt c.in_ok-first.ensures c.better_of-better.ensures in
    let second = better flips most c.better_of-better.result c.better_of.result c.in_ok-second.second c.in_ok-most.ensures first c.in_ok-second.ensures
    c.better_of.ensures in
    subst (AreNoDeeper flips) c.in-Some.is second
