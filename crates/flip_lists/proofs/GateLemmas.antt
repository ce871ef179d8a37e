-- Narrow gates as flips, and back.
use Rattle.std.proofs.Common.{◌≡◌, ℕ, ◌≤◌, List, [], ◌∷◌, length, map, refl, sym, ap, ◌∙◌, subst, arith}
use Rattle.mct_circuit.specs.declared.gate.Control.{Control}
use Rattle.mct_circuit.specs.declared.gate.Op.{Op}
use Rattle.mct_circuit.specs.declared.gate.Op.TheVariants.{Flip as Op_flip}
use Rattle.mct_circuit.specs.Gates.{GateView, AreGatesOn, AreNarrow, IsNarrow, flip_of, positive}
use Rattle.flip_lists.specs.declared.flip.Controls.{Controls}
use Rattle.flip_lists.specs.declared.flip.Controls.TheVariants.{Zero, One, Two}
use Rattle.flip_lists.specs.declared.flip.Flip.{Flip}
use Rattle.flip_lists.specs.Flips.{AreFlipsOn, controls_of, gate_of, gates_of, lines_in}

-- ---- lists

few_controls : (c : Controls) → length (lines_in c) ≤ 2
few_controls Zero = omega arith
few_controls (One a) = omega arith
few_controls (Two a b) = omega arith

pub flips_are_narrow : (flips : List Flip) → AreNarrow (gates_of flips)
flips_are_narrow [] = tt
flips_are_narrow (f ∷ fs) = (
  record { controls = controls_of f; target = f.target; few = few_controls f.controls; is_flip = refl },
  flips_are_narrow fs,
)

pub flips_on_from : (n : ℕ) (flips : List Flip) (gates : List GateView) → gates_of flips ≡ gates → AreGatesOn n gates → AreFlipsOn n flips
flips_on_from n flips gates e on = back flips (subst (AreGatesOn n) (sym e) on)
  where
    back : (flips : List Flip) → AreGatesOn n (gates_of flips) → AreFlipsOn n flips
    back [] on = tt
    back (f ∷ fs) on = (on.0, back fs on.1)

pub gates_are_on : (n : ℕ) (flips : List Flip) → AreFlipsOn n flips → AreGatesOn n (gates_of flips)
gates_are_on n [] on = tt
gates_are_on n (f ∷ fs) on = (on.0, gates_are_on n fs on.1)

-- ---- one gate

lines_again : (lines : List ℕ) → map (λ (control : Control). control.line) (map positive lines) ≡ lines
lines_again [] = refl
lines_again (x ∷ xs) = ap (λ l. x ∷ l) (lines_again xs)

same_flip : (t u : ℕ) (op : Op) → Op_flip t ≡ op → Op_flip u ≡ op → t ≡ u
same_flip t u op e f = let both : Op_flip t ≡ Op_flip u = e ∙ sym f in cc

pub flip_is : (gate : GateView) (controls : Controls) (target : ℕ) (seen : List Control) → IsNarrow gate
    → lines_in controls ≡ map (λ (control : Control). control.line) seen
    → seen ≡ gate.controls → Op_flip target ≡ gate.op → gate_of (record { controls = controls; target = target }) ≡ gate
flip_is gate controls target seen narrow lines same op =
    let all : lines_in controls ≡ narrow.controls =
    lines ∙ ap (map (λ (control : Control). control.line)) (same ∙ ap (λ (g : GateView). g.controls) narrow.is_flip) ∙ lines_again narrow.controls in
    let at : target ≡ narrow.target = same_flip target narrow.target gate.op op (sym (ap (λ (g : GateView). g.op) narrow.is_flip)) in
    ap (λ l. flip_of l target) all ∙ ap (flip_of narrow.controls) at ∙ sym narrow.is_flip
