-- Gates in parts: their lines are in range, and their text is that of a format's lines.
use Rattle.std.proofs.Common.{◌≡◌, ℕ, ◌<◌, List, [], ◌∷◌, ◌++◌, length, get_or, map, slice_get, Some, refl, sym, ap, ◌∙◌, subst}
use Rattle.std.specs.List.{flat_map, AllByRecursion}
use Rattle.list_facts.proofs.AllLemmas.{AllByRecursion-at}
use Rattle.mct_circuit.specs.declared.gate.Control.{Control}
use Rattle.mct_circuit.specs.declared.gate.Op.{Op}
use Rattle.mct_circuit.specs.declared.gate.Op.TheVariants.{Flip}
use Rattle.mct_circuit.specs.Gates.{GateView, IsGateOn, AreNarrow, targets_of}
use Rattle.revc_io.proofs.PieceLemmas.{mapped_item}
use Rattle.format_parts.specs.Flips.{FlipTexts, AreFlipsOn, flip_text, op_text, gate_text, gates_text}

controls_in_range : (n : ℕ) (controls : List Control) (targets : List ℕ)
    → AllByRecursion (λ line. line < n) (map (λ (control : Control). control.line) controls ++ targets)
    → AllByRecursion (λ (control : Control). control.line < n) controls × AllByRecursion (λ line. line < n) targets
controls_in_range n [] targets h = (tt, h)
controls_in_range n (c ∷ cs) targets h = let rest = controls_in_range n cs targets h.1 in ((h.0, rest.0), rest.1)

-- the lines of the flip at a place are in range
pub flip_in_range : (n : ℕ) (gates : List GateView) (i : ℕ) (d : GateView) (target : ℕ) → AreFlipsOn n gates → i < length gates
    → Flip target ≡ (get_or gates i d).op
    → AllByRecursion (λ (control : Control). control.line < n) (get_or gates i d).controls × (target < n)
flip_in_range n gates i d target on low is =
    let gate = get_or gates i d in
    let placed : IsGateOn n gate = AllByRecursion-at (IsGateOn n) gates i d on.1 low in
    let parts = controls_in_range n gate.controls (targets_of gate.op) placed.in_range in
    (parts.0, (subst (λ op. AllByRecursion (λ line. line < n) (targets_of op)) (sym is) parts.1).0)

-- the text of the flip at a place
pub flip_at : (texts : FlipTexts) (gates : List GateView) (i : ℕ) (d : GateView) (target : ℕ) → i < length (map (gate_text texts) gates)
    → Flip target ≡ (get_or gates i d).op
    → slice_get (map (gate_text texts) gates) i ≡ Some (flip_text texts (get_or gates i d).controls target)
flip_at texts gates i d target low is =
    mapped_item (gate_text texts) gates i d low ∙ ap (λ (op : Op). Some (op_text texts (get_or gates i d).controls op)) (sym is)

-- where each flip is a line of words, so are the gates
pub gates_are_lines : {Words : Type 0} (texts : FlipTexts) (line : Words → List ℕ) (words : GateView → Words)
    → ((gate : GateView) (target : ℕ) → gate.op ≡ Flip target → flip_text texts gate.controls target ≡ line (words gate))
    → (gates : List GateView) → AreNarrow gates → gates_text texts gates ≡ flat_map line (map words gates)
gates_are_lines texts line words each [] narrow = refl
gates_are_lines texts line words each (gate ∷ gates) narrow =
    let flip : gate.op ≡ Flip narrow.0.target = ap (λ (g : GateView). g.op) narrow.0.is_flip in
    let one : gate_text texts gate ≡ line (words gate) = ap (op_text texts gate.controls) flip ∙ each gate narrow.0.target flip in
    ap (λ (t : List ℕ). t ++ gates_text texts gates) one
    ∙ ap (λ (t : List ℕ). line (words gate) ++ t) (gates_are_lines texts line words each gates narrow.1)
