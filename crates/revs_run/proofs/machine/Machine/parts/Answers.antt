use Rattle.std.proofs.Common.{◌+◌, drop}
use Rattle.std.proofs.lemmas.List.{drop_all}
use Rattle.revs_run.proofs.ProgressLemmas.{stops}
use Rattle.revs_run.specs.inside.Machines.{env_in, envs_of}
use Rattle.revs_run.proofs.NumberLemmas.{left_from}
use Rattle.revs_run.proofs.PartLemmas.{parts_begun, parts_more, parts_stuck, parts_done}
use Rattle.revs_run.proofs.machine.Machine.parts.Goals as goal

pub loop-part-init : goal.loop-part-init
loop-part-init c = parts_begun c.args.self.now (env_in (envs_of c.args.self.now) c.args.env) c.args.whole c.args.parts.now c.args.value
    c.requires.machine c.requires.made

pub loop-part-preserved : goal.loop-part-preserved
loop-part-preserved c = parts_more c.args.self.now c.loop-part.self c.part.new.self c.args.env c.args.whole c.part-item.result
    (drop (c.loop-part.part-index + 1) c.args.parts.now) (drop c.loop-part.part-index c.args.parts.now) c.loop-part.made c.in_ok-made.made _ c.requires.env
    (left_from c.args.parts.now c.loop-part.part-index c.part-item.result c.loop-part-test.true c.part-item.is) c.loop-part.invariant c.in_ok-made.ensures

pub returns-in_err-made : goal.returns-in_err-made
returns-in_err-made c = stops _ _ c.from_residual.result c.from_residual.ensures.1
    (parts_stuck c.args.self.now c.loop-part.self c.args.env c.args.whole c.part-item.result (drop (c.loop-part.part-index + 1) c.args.parts.now)
    (drop c.loop-part.part-index c.args.parts.now) c.loop-part.made _ c.in_err-made.field-0.0 c.requires.env
    (left_from c.args.parts.now c.loop-part.part-index c.part-item.result c.loop-part-test.true c.part-item.is) c.loop-part.invariant c.in_err-made.ensures)

pub returns : goal.returns
returns c = parts_done c.args.self.now c.loop-part.self (env_in (envs_of c.args.self.now) c.args.env) c.args.whole
    (drop c.loop-part.part-index c.args.parts.now) c.loop-part.made _
    (drop_all c.loop-part.part-index c.args.parts.now c.loop-part-test.false) c.loop-part.invariant
