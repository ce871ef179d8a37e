use Rattle.std.proofs.Common.{length, sym, subst, arith}
use Rattle.mct_circuit.specs.Gates.{IsGateOn}
use Rattle.real_format.proofs.GateLineLemmas.{gate_stands}
use Rattle.real_format.proofs.gate.gate_of.Goals as goal

pub new-requires : goal.new-requires
new-requires c =
    (gate_stands _ _ _ c.controls_of.new.stamps c.args.stamp c.args.words.now _ c.in_ok-controls.controls.items c.in_ok-op.op (omega arith)
    c.in_ok-controls.ensures.stamps c.in_ok-controls.ensures.ok c.in_ok-op.ensures.ok).different

pub returns-clause-placed : goal.returns-clause-placed
returns-clause-placed c =
    subst (IsGateOn (length c.args.names.now)) (sym c.new.ensures)
    (gate_stands _ _ _ c.controls_of.new.stamps c.args.stamp c.args.words.now _ c.in_ok-controls.controls.items c.in_ok-op.op (omega arith)
    c.in_ok-controls.ensures.stamps c.in_ok-controls.ensures.ok c.in_ok-op.ensures.ok)
