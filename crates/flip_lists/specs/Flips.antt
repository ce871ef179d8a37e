-- Flips under at most two controls: their gates, which two are alike, and which are free of each
-- other.
use Rattle.std.specs.Prelude.{ℕ, Bool, true, false, not, ◌==◌, ◌&&◌, ◌||◌, List, [], ◌∷◌, map}
use Rattle.std.specs.List.{AllByRecursion, list_all}
use Rattle.mct_circuit.specs.Gates.{GateView, IsGateOn, flip_of}
use Rattle.mct_circuit.specs.Sizes.{has_line}
use Rattle.flip_lists.specs.declared.flip.Controls.{Controls}
use Rattle.flip_lists.specs.declared.flip.Controls.TheVariants.{Zero, One, Two}
use Rattle.flip_lists.specs.declared.flip.Flip.{Flip}

-- ---- as gates

abbrev pub lines_in : Controls → List ℕ
lines_in Zero = []
lines_in (One line) = line ∷ []
lines_in (Two first second) = first ∷ second ∷ []

abbrev pub controls_of : Flip → List ℕ
controls_of flip = lines_in flip.controls

abbrev pub gate_of : Flip → GateView
gate_of flip = flip_of (controls_of flip) flip.target

abbrev pub gates_of : List Flip → List GateView
gates_of flips = map gate_of flips

abbrev pub AreFlipsOn : ℕ → List Flip → Type 0
AreFlipsOn n flips = AllByRecursion (λ flip. IsGateOn n (gate_of flip)) flips

-- ---- two flips

abbrev pub are_among : List ℕ → List ℕ → Bool
are_among these those = list_all (λ line. has_line line those) these

-- the same target, and the same set of controls
abbrev pub are_alike : Flip → Flip → Bool
are_alike one other =
    (one.target == other.target)
    && (are_among (controls_of one) (controls_of other)
    && are_among (controls_of other) (controls_of one))

-- the target of neither is a control of the other
abbrev pub are_free : Flip → Flip → Bool
are_free one other =
    not (has_line one.target (controls_of other)) && not (has_line other.target (controls_of one))

-- ---- one flip

-- the line is the target or a control
abbrev pub touches : ℕ → Flip → Bool
touches line flip = (line == flip.target) || has_line line (controls_of flip)

-- one control: the gate CX
abbrev pub is_one : Controls → Bool
is_one Zero = false
is_one (One line) = true
is_one (Two first second) = false

abbrev pub is_cx : Flip → Bool
is_cx flip = is_one flip.controls
