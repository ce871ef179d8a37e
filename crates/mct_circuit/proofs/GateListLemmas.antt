-- One gate after another, and the lines of a gate in a list.
use Rattle.std.proofs.Common.{◌≡◌, ℕ, ◌+◌, ◌<◌, Bool, List, ◌∷◌, ◌++◌, length, get_or, drop, map, sym, ap, ◌∙◌, subst}
use Rattle.std.specs.List.{AllByRecursion}
use Rattle.std.proofs.lemmas.List.{drop_more}
use Rattle.mct_circuit.specs.declared.gate.Control.{Control}
use Rattle.mct_circuit.specs.declared.gate.Op.{Op}
use Rattle.mct_circuit.specs.declared.gate.Op.TheVariants.{Flip, Swap}
use Rattle.mct_circuit.specs.Gates.{GateView, after_gate, line_map, lines_of, targets_of, IsGateOn, AreGatesOn}
use Rattle.list_facts.proofs.AllLemmas.{AllByRecursion-at, AllByRecursion-from_map, AllByRecursion-left, AllByRecursion-right}

-- the lines of each gate of a circuit are below the number of its lines
pub lines_below : (n : ℕ) (gates : List GateView) (i : ℕ) (gate : GateView) → AreGatesOn n gates → i < length gates → gate ≡ get_or gates i gate
    → AllByRecursion (λ line. line < n) (lines_of gate)
lines_below n gates i gate g h e = (rw (← e) at (AllByRecursion-at (IsGateOn n) gates i gate g h)).in_range

-- the same where the gate is read of a slice
pub lines_below_in : (n : ℕ) (gates slice : List GateView) (i : ℕ) (gate : GateView) (long : ℕ) → long ≡ n → slice ≡ gates → AreGatesOn n gates
    → i < length gates → gate ≡ get_or slice i gate → AllByRecursion (λ line. line < long) (lines_of gate)
lines_below_in n gates slice i gate long same is on low e =
    subst (λ (m : ℕ). AllByRecursion (λ line. line < m) (lines_of gate)) (sym same)
    (lines_below n gates i gate on low (subst (λ (gs : List GateView). gate ≡ get_or gs i gate) is e))

-- the lines of the controls of a gate are below
pub controls_below : (n : ℕ) (controls : List Control) (targets : List ℕ)
    → AllByRecursion (λ line. line < n) (map (λ (control : Control). control.line) controls ++ targets)
    → AllByRecursion (λ (control : Control). control.line < n) controls
controls_below n controls targets p = AllByRecursion-from_map (λ line. line < n) (λ (control : Control). control.line) controls
    (AllByRecursion-left (λ line. line < n) (map (λ (control : Control). control.line) controls) targets p)

-- the lines that a gate changes, as its operation was read, are below
pub flip_below : (n : ℕ) (gate : GateView) (op : Op) (target : ℕ) → AllByRecursion (λ line. line < n) (lines_of gate) → op ≡ gate.op → op ≡ Flip target
    → target < n
flip_below n gate op target low same is =
    (subst (λ o. AllByRecursion (λ line. line < n) (targets_of o)) (sym same ∙ is) (AllByRecursion-right (λ line. line < n)
    (map (λ (control : Control). control.line) gate.controls) (targets_of gate.op) low)).0

pub swap_below : (n : ℕ) (gate : GateView) (op : Op) (first second : ℕ) → AllByRecursion (λ line. line < n) (lines_of gate) → op ≡ gate.op
    → op ≡ Swap first second → (first < n) × (second < n)
swap_below n gate op first second low same is =
    let both = subst (λ o. AllByRecursion (λ line. line < n) (targets_of o)) (sym same ∙ is) (AllByRecursion-right (λ line. line < n)
    (map (λ (control : Control). control.line) gate.controls) (targets_of gate.op) low) in
    (both.0, both.1.0)

pub line_map_more : (gates : List GateView) (i : ℕ) (gate : GateView) (bits whole : List Bool) → i < length gates → gate ≡ get_or gates i gate
    → line_map (drop i gates) bits ≡ whole → line_map (drop (i + 1) gates) (after_gate gate bits) ≡ whole
line_map_more gates i gate bits whole h e p =
    let at : drop i gates ≡ gate ∷ drop (i + 1) gates = drop_more gates i gate h ∙ ap (λ g. g ∷ drop (i + 1) gates) (sym e) in
    ap (λ gs. line_map gs bits) (sym at) ∙ p
