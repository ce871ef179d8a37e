use Rattle.std.proofs.Common.{◌+◌, ◌-◌, ap, drop, subst, sym, take, arith}
use Rattle.std.specs.Global.{Vec}
use Rattle.flip_lists.specs.declared.flip.Flip.{Flip}
use Rattle.circuit_tidy.specs.inside.Walking.{IsFrontAnswer, IsLonger}
use Rattle.circuit_tidy.proofs.BlockLemmas.{all_short, longer_in, passed_begun, passed_more, still_within}
use Rattle.circuit_tidy.proofs.blocks.first_longer.Goals as goal

pub walk-init : goal.walk-init
walk-init c = (omega arith, passed_begun c.args.flips.now)

pub returns-in-Some : goal.returns-in-Some
returns-in-Some c =
    let front = c.in_ok-front.ensures in
    let longer = subst (IsFrontAnswer c.split_at.result.1.now c.in_ok-front.front.length) c.in-Some.is front.answer in
    let placed = longer_in c.args.flips.now c.split_at.result.1.now c.in-Some.shorter.items c.walk.start c.in_ok-front.front.length c.walk.invariant.0
    c.split_at.ensures.back front.within longer in
    record {
      ordered = omega arith;
      within = placed.0;
      is = subst (IsLonger (take (c.walk.start + c.in_ok-front.front.length - c.walk.start) (drop c.walk.start c.args.flips.now)))
          (ap (λ (v : Vec Flip). v.items) (sym c.in-Some.shorter-is)) placed.1;
    }

pub walk-preserved : goal.walk-preserved
walk-preserved c =
    let front = c.in_ok-front.ensures in
    let passed = subst (IsFrontAnswer c.split_at.result.1.now c.in_ok-front.front.length) c.in-None.is front.answer in (
      still_within c.args.flips.now c.split_at.result.1.now c.walk.start c.in_ok-front.front.length c.walk.invariant.0 c.split_at.ensures.back front.within,
      passed_more c.args.flips.now c.split_at.result.1.now c.walk.start c.in_ok-front.front.length c.split_at.ensures.back c.walk.invariant.1 passed,
    )

pub returns : goal.returns
returns c = all_short c.args.flips.now c.walk.start c.walk-test.false c.walk.invariant.1
