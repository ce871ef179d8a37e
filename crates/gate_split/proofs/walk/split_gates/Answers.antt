use Rattle.std.proofs.Common.{◌∙◌}
use Rattle.gate_split.proofs.SplitListLemmas.{one_further}
use Rattle.gate_split.proofs.WalkLemmas.{gate_at, gate_has}
use Rattle.gate_split.proofs.walk.split_gates.Goals as goal

pub push_piece-requires-clause-gate : goal.push_piece-requires-clause-gate
push_piece-requires-clause-gate c =
    rw c.loop-gate.invariant.1 (gate_at c.args.lines c.args.gates.now c.loop-gate.gate-index c.gate-item.result c.requires.placed c.loop-gate-test.true
    c.gate-item.is)

pub push_piece-requires-clause-some : goal.push_piece-requires-clause-some
push_piece-requires-clause-some c =
    rw c.loop-gate.invariant.1 (gate_has c.args.lines c.args.gates.now c.loop-gate.gate-index c.gate-item.result c.loop-gate.split.items
    c.loop-gate-test.true c.gate-item.is c.loop-gate.invariant.0 c.requires.some)

pub loop-gate-preserved : goal.loop-gate-preserved
loop-gate-preserved c = (
  one_further c.args.lines c.args.gates.now c.loop-gate.gate-index c.gate-item.result c.loop-gate.split.items c.loop-gate-test.true
      c.gate-item.is c.loop-gate.invariant.0 ∙ rw c.loop-gate.invariant.1 at c.in_ok-push_piece.ensures.split,
  c.push_piece.ensures.same ∙ c.loop-gate.invariant.1,
)
