use Rattle.std.proofs.Common.{length-set, sym, ◌∙◌}
use Rattle.mct_circuit.proofs.GateListLemmas.{controls_below, flip_below, swap_below}
use Rattle.circuit_sim.proofs.LaneLemmas.{vector_at, flip_mapped_in_lanes, swap_mapped_in_lanes}
use Rattle.circuit_sim.proofs.lanes.run_gate.Goals as goal

pub mask-met-requires-clause-lines : goal.mask-met-requires-clause-lines
mask-met-requires-clause-lines c = rw c.controls.ensures.controls (controls_below _ _ _ c.requires.lines)

pub bounds-planes-target : goal.bounds-planes-target
bounds-planes-target c = flip_below _ c.args.gate.now _ _ c.requires.lines c.op.ensures.op c.in-Flip.is

pub slice_copy_out-exchanged : goal.slice_copy_out-exchanged
slice_copy_out-exchanged c = (swap_below _ c.args.gate.now _ _ _ c.requires.lines c.op.ensures.op c.in-Swap.is).0

pub slice_copy_out-exchanged-in-Swap : goal.slice_copy_out-exchanged-in-Swap
slice_copy_out-exchanged-in-Swap c = (swap_below _ c.args.gate.now _ _ _ c.requires.lines c.op.ensures.op c.in-Swap.is).1

pub exchanged-requires : goal.exchanged-requires
exchanged-requires c =
    let both = swap_below _ c.args.gate.now _ _ _ c.requires.lines c.op.ensures.op c.in-Swap.is in
    (vector_at _ _ c.requires.vectors both.0, vector_at _ _ c.requires.vectors both.1, c.mask-met.ensures.long)

pub bounds-planes-first : goal.bounds-planes-first
bounds-planes-first c = (swap_below _ c.args.gate.now _ _ _ c.requires.lines c.op.ensures.op c.in-Swap.is).0

pub bounds-planes-second : goal.bounds-planes-second
bounds-planes-second c = rw (length-set c.args.planes.now c.in-Swap.first c.exchanged.result.0)
    (swap_below _ c.args.gate.now _ _ _ c.requires.lines c.op.ensures.op c.in-Swap.is).1

pub returns-in-Flip : goal.returns-in-Flip
returns-in-Flip c =
    flip_mapped_in_lanes c.args.gate.now c.args.planes.now c.in-Flip.target c.mask-met.result c.requires.vectors (sym c.op.ensures.op ∙ c.in-Flip.is)
    (flip_below _ c.args.gate.now _ _ c.requires.lines c.op.ensures.op c.in-Flip.is) (rw c.controls.ensures.controls at c.mask-met.ensures)

pub returns-in-Swap : goal.returns-in-Swap
returns-in-Swap c =
    let both = swap_below _ c.args.gate.now _ _ _ c.requires.lines c.op.ensures.op c.in-Swap.is in
    swap_mapped_in_lanes c.args.gate.now c.args.planes.now c.in-Swap.first c.in-Swap.second c.mask-met.result c.exchanged.result.0 c.exchanged.result.1
    c.requires.vectors (sym c.op.ensures.op ∙ c.in-Swap.is) both.0 both.1 (rw c.controls.ensures.controls at c.mask-met.ensures)
    c.exchanged.ensures.first c.exchanged.ensures.second
