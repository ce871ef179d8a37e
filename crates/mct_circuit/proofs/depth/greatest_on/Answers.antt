use Rattle.std.proofs.Common.{◌≡◌, map, max, sym, ◌∙◌, arith}
use Rattle.mct_circuit.specs.declared.gate.Control.{Control}
use Rattle.mct_circuit.specs.declared.gate.Op.{Op}
use Rattle.mct_circuit.specs.Gates.{lines_of, targets_of}
use Rattle.mct_circuit.specs.Sizes.{greatest_at}
use Rattle.mct_circuit.proofs.GateListLemmas.{controls_below, flip_below, swap_below}
use Rattle.mct_circuit.proofs.DepthLemmas.{greatest_at-append}
use Rattle.mct_circuit.proofs.depth.greatest_on.Goals as goal
use Rattle.mct_circuit.proofs.depth.greatest_on.Goals.{After-op}

pub greatest_on_controls-of_controls-requires : goal.greatest_on_controls-of_controls-requires
greatest_on_controls-of_controls-requires c = rw c.controls.ensures.controls (controls_below _ _ _ c.requires)

pub bounds-depths-target : goal.bounds-depths-target
bounds-depths-target c = flip_below _ c.args.gate.now _ _ c.requires c.op.ensures.op c.in-Flip.is

pub bounds-depths-first : goal.bounds-depths-first
bounds-depths-first c = (swap_below _ c.args.gate.now _ _ _ c.requires c.op.ensures.op c.in-Swap.is).0

pub bounds-depths-second : goal.bounds-depths-second
bounds-depths-second c = (swap_below _ c.args.gate.now _ _ _ c.requires c.op.ensures.op c.in-Swap.is).1

-- at the controls, and where the gate's operation goes
in_parts : (c : After-op) (op : Op) → c.op.result ≡ op → greatest_at c.args.depths.now (lines_of c.args.gate.now)
    ≡ max (greatest_at c.args.depths.now (map (λ (control : Control). control.line) c.controls.result.now)) (greatest_at c.args.depths.now (targets_of op))
in_parts c op is =
    rw (c.controls.ensures.controls, ← (sym c.op.ensures.op ∙ is))
    (greatest_at-append c.args.depths.now (map (λ (control : Control). control.line) c.args.gate.now.controls) (targets_of c.args.gate.now.op))

pub returns-in-Flip : goal.returns-in-Flip
returns-in-Flip c = omega (arith, in_parts (goal.at.returns-in-Flip c).After-op _ c.in-Flip.is, c.max.ensures)

pub returns-in-Swap : goal.returns-in-Swap
returns-in-Swap c = omega (arith, in_parts (goal.at.returns-in-Swap c).After-op _ c.in-Swap.is, c.max-in-Swap.ensures, c.max-in-Swap-2.ensures)
