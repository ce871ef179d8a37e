use Rattle.std.proofs.Common.{◌≡◌, ℕ, ◌<◌, ◌++◌, [], ◌∷◌, cond, length, length-set, map, set, get_or, sym, ◌∙◌}
use Rattle.mct_circuit.specs.declared.gate.Control.{Control}
use Rattle.mct_circuit.specs.Sizes.{has_line}
use Rattle.std.proofs.lemmas.List.{append_assoc}
use Rattle.mct_circuit.proofs.DepthLemmas.{set_more}
use Rattle.mct_circuit.proofs.GateListLemmas.{controls_below, flip_below, swap_below}
use Rattle.mct_circuit.proofs.depth.set_all.Goals as goal
use Rattle.mct_circuit.proofs.depth.set_all.Goals.{After-op}

pub set_controls-requires : goal.set_controls-requires
set_controls-requires c = rw c.controls.ensures.controls (controls_below _ _ _ c.requires)

pub bounds-depths-first : goal.bounds-depths-first
bounds-depths-first c = rw c.set_controls.auto.depths (swap_below _ c.args.gate.now _ _ _ c.requires c.op.ensures.op c.in-Swap.is).0

pub bounds-depths-second : goal.bounds-depths-second
bounds-depths-second c = rw (length-set c.set_controls.new.depths c.in-Swap.first c.args.depth, c.set_controls.auto.depths)
    (swap_below _ c.args.gate.now _ _ _ c.requires c.op.ensures.op c.in-Swap.is).1

-- behind the controls, one line more
one_set : (c : After-op) (line target : ℕ) → target < length c.args.depths.now → get_or (set c.set_controls.new.depths target c.args.depth) line 0
    ≡ cond (has_line line (map (λ (control : Control). control.line) c.args.gate.now.controls ++ target ∷ [])) c.args.depth (get_or c.args.depths.now line 0)
one_set c line target low =
    set_more c.set_controls.new.depths target c.args.depth line (map (λ (control : Control). control.line) c.args.gate.now.controls)
    (get_or c.args.depths.now line 0) (rw c.set_controls.auto.depths low) (rw c.controls.ensures.controls at (c.set_controls.ensures line))

pub returns-in-Flip : goal.returns-in-Flip
returns-in-Flip c = λ line.
    let low = flip_below _ c.args.gate.now _ _ c.requires c.op.ensures.op c.in-Flip.is in
    rw (sym c.op.ensures.op ∙ c.in-Flip.is) (one_set (goal.at.returns-in-Flip c).After-op line c.in-Flip.target low)

pub returns-in-Swap : goal.returns-in-Swap
returns-in-Swap c = λ line.
    let lines = map (λ (control : Control). control.line) c.args.gate.now.controls in
    let low = (swap_below _ c.args.gate.now _ _ _ c.requires c.op.ensures.op c.in-Swap.is).0 in
    let all = set_more (set c.set_controls.new.depths c.in-Swap.first c.args.depth) c.in-Swap.second c.args.depth line (lines ++ c.in-Swap.first ∷ [])
    (get_or c.args.depths.now line 0) (bounds-depths-second c) (one_set (goal.at.returns-in-Swap c).After-op line c.in-Swap.first low) in
    rw (sym c.op.ensures.op ∙ c.in-Swap.is) (rw (append_assoc lines (c.in-Swap.first ∷ []) (c.in-Swap.second ∷ [])) at all)
