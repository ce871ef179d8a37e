use Rattle.std.proofs.Common.{false}
use Rattle.exclusive_sums.specs.inside.Merging.{flipped}
use Rattle.exclusive_sums.proofs.FillingLemmas.{filled_more}
use Rattle.exclusive_sums.proofs.cube.put_flipped.Goals as goal

pub loop-literal-preserved : goal.loop-literal-preserved
loop-literal-preserved c =
    filled_more flipped c.args.rest.now c.loop-literal.literal-index (record { input = 0; positive = false }) c.flipped.result
    c.args.literals.now.items c.loop-literal.literals.items c.push.new.self.items c.loop-literal-test.true c.flipped.ensures
    c.in_ok-push.ensures.items c.loop-literal.invariant
