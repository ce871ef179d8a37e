use Rattle.std.proofs.Common.{◌<◌, List, length, sym, subst}
use Rattle.std.specs.List.{AllByRecursion}
use Rattle.mct_circuit.specs.declared.gate.Control.{Control}
use Rattle.mct_circuit.proofs.GateListLemmas.{controls_below}
use Rattle.mct_circuit.specs.Gates.{targets_of}
use Rattle.gate_split.proofs.PieceLemmas.{narrow_is_positive, narrow_is_short}
use Rattle.circuit_verify.proofs.LineLemmas.{flip_made}
use Rattle.circuit_verify.proofs.StepLemmas.{target_inside}
use Rattle.circuit_verify.proofs.walking.flipped_line.Goals as goal

pub control_numbers-left-requires : goal.control_numbers-left-requires
control_numbers-left-requires c =
    subst (λ (cs : List Control). AllByRecursion (λ (control : Control). control.line < length c.args.lines.now) cs) (sym c.controls.ensures.controls)
    (controls_below (length c.args.lines.now) c.args.gate.now.controls (targets_of c.args.gate.now.op) c.requires.placed.in_range)

pub returns : goal.returns
returns c =
    let lines = c.args.lines.now in
    let gate = c.args.gate.now in
    let inside = target_inside (length lines) gate c.args.target c.requires.placed c.requires.target in
    flip_made lines gate c.args.target c.truth-always.result c.index-lines-target.result c.control_numbers-left.result.0
    c.control_numbers-left.result.1 c.controls.result.now c.args.diagram.now c.flip.new.self c.flip.result c.requires.target inside
    (narrow_is_short gate c.requires.narrow) (narrow_is_positive gate c.requires.narrow)
    (controls_below (length lines) gate.controls (targets_of gate.op) c.requires.placed.in_range) c.truth-always.ensures.stands
    c.index-lines-target.is c.controls.ensures.controls c.control_numbers-left.ensures c.flip.ensures
