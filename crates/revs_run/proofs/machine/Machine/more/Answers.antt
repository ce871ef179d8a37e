use Rattle.std.proofs.Common.{◌+◌, drop}
use Rattle.std.proofs.lemmas.Int.{to_z-of_z}
use Rattle.revc_base.proofs.ResultLemmas.{passes_on}
use Rattle.revs_run.proofs.NumberLemmas.{left_from, more_next, more_stuck}
use Rattle.revs_run.proofs.machine.Machine.more.Goals as goal

pub loop-step-preserved : goal.loop-step-preserved
loop-step-preserved c = simp (to_z-of_z, c.in_ok-sum.ensures.fits)
    (more_next c.args.self.now c.loop-step.self c.work.new.self c.args.env _ c.in_ok-sum.sum c.step-item.result
    (drop (c.loop-step.step-index + 1) c.args.steps.now) (drop c.loop-step.step-index c.args.steps.now) c.place.result _ c.requires.env
    (left_from c.args.steps.now c.loop-step.step-index c.step-item.result c.loop-step-test.true c.step-item.is) c.place.ensures c.loop-step.invariant
    c.in_ok-work.ensures.ok c.in_ok-sum.ensures.ok)

pub returns-in_err-sum-clause-err : goal.returns-in_err-sum-clause-err
returns-in_err-sum-clause-err c = passes_on _ c.from_residual-in_err-sum.result c.from_residual-in_err-sum.ensures.1
    (more_stuck c.args.self.now c.loop-step.self c.work.new.self c.args.env _ c.step-item.result
    (drop (c.loop-step.step-index + 1) c.args.steps.now) (drop c.loop-step.step-index c.args.steps.now) c.place.result _ c.in_err-sum.field-0.0
    c.requires.env (left_from c.args.steps.now c.loop-step.step-index c.step-item.result c.loop-step-test.true c.step-item.is) c.place.ensures
    (simp (to_z-of_z, c.ranges.first) at c.loop-step.invariant) c.in_ok-work.ensures.ok c.in_err-sum.ensures.err)
