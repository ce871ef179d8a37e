use Rattle.std.proofs.Common.{◌<◌, length, rules}
use Rattle.exclusive_sums.proofs.CubeLemmas.{begin_apart}
use Rattle.exclusive_sums.proofs.cube.are_close.Goals as goal

pub returns-then-left-right-2-clause-far : goal.returns-then-left-right-2-clause-far
returns-then-left-right-2-clause-far c = λ _.
    let some : 0 < length c.args.left.now = search rules in
    begin_apart c.args.left.now c.args.right.now _ c.requires.left c.requires.right c.if-left-right.true some c.if-left-right-2.true
