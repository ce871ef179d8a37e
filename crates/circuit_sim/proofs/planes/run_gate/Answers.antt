use Rattle.std.proofs.Common.{length-set, sym, ◌∙◌}
use Rattle.mct_circuit.proofs.GateListLemmas.{controls_below, flip_below, swap_below}
use Rattle.circuit_sim.proofs.GateLemmas.{flip_mapped, swap_mapped}
use Rattle.circuit_sim.proofs.planes.run_gate.Goals as goal

pub mask-met-requires : goal.mask-met-requires
mask-met-requires c = rw c.controls.ensures.controls (controls_below _ _ _ c.requires)

pub bounds-planes-target : goal.bounds-planes-target
bounds-planes-target c = flip_below _ c.args.gate.now _ _ c.requires c.op.ensures.op c.in-Flip.is

pub bounds-planes-target-in-Flip : goal.bounds-planes-target-in-Flip
bounds-planes-target-in-Flip c = flip_below _ c.args.gate.now _ _ c.requires c.op.ensures.op c.in-Flip.is

pub bounds-planes-first : goal.bounds-planes-first
bounds-planes-first c = (swap_below _ c.args.gate.now _ _ _ c.requires c.op.ensures.op c.in-Swap.is).0

pub bounds-planes-second : goal.bounds-planes-second
bounds-planes-second c = (swap_below _ c.args.gate.now _ _ _ c.requires c.op.ensures.op c.in-Swap.is).1

pub bounds-planes-first-in-Swap : goal.bounds-planes-first-in-Swap
bounds-planes-first-in-Swap c = (swap_below _ c.args.gate.now _ _ _ c.requires c.op.ensures.op c.in-Swap.is).0

pub bounds-planes-second-in-Swap : goal.bounds-planes-second-in-Swap
bounds-planes-second-in-Swap c = rw (length-set c.args.planes.now c.in-Swap.first c.exchanged-there.result.0)
    (swap_below _ c.args.gate.now _ _ _ c.requires c.op.ensures.op c.in-Swap.is).1

pub returns-in-Flip : goal.returns-in-Flip
returns-in-Flip c =
    flip_mapped c.args.gate.now c.args.planes.now c.in-Flip.target c.mask-met.result (sym c.op.ensures.op ∙ c.in-Flip.is)
    (flip_below _ c.args.gate.now _ _ c.requires c.op.ensures.op c.in-Flip.is) (rw c.controls.ensures.controls at c.mask-met.ensures)

pub returns-in-Swap : goal.returns-in-Swap
returns-in-Swap c =
    let both = swap_below _ c.args.gate.now _ _ _ c.requires c.op.ensures.op c.in-Swap.is in
    swap_mapped c.args.gate.now c.args.planes.now c.in-Swap.first c.in-Swap.second c.mask-met.result c.exchanged-there.result.0 c.exchanged-there.result.1
    (sym c.op.ensures.op ∙ c.in-Swap.is) both.0 both.1 (rw c.controls.ensures.controls at c.mask-met.ensures)
    c.exchanged-there.ensures.first c.exchanged-there.ensures.second
