use Rattle.qasm_format.proofs.SpreadLemmas.{gate_is_different, pushed_more}
use Rattle.qasm_format.proofs.reader.push_gates.Goals as goal

pub gate_at-requires-clause-different : goal.gate_at-requires-clause-different
gate_at-requires-clause-different c =
    gate_is_different c.in-Some.controls.now c.in-Some.target.now c.args.spots.now c.loop-i.i c.in-Some.ensures.cases.0
    (c.requires.different.says c.loop-i.i c.loop-i-test.true)

pub loop-i-preserved : goal.loop-i-preserved
loop-i-preserved c =
    pushed_more c.in-Some.controls.now c.in-Some.target.now c.loop-i.i _ _ _ c.in_ok-gate_at.field-0 c.loop-i.invariant c.in_ok-gate_at.ensures
    c.in_ok-push.ensures.items
