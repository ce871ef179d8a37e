-- Depths on lines where each node reads copies of its operands that no other gate touches.
use Rattle.std.proofs.Common.{◌≡◌, ◌≢◌, ℕ, ◌+◌, ◌≤◌, max, Bool, true, false, cond, ◌||◌, eqb, List, [], ◌∷◌}
use Rattle.std.proofs.Common.{refl, sym, subst, inl, inr, arith}
use Rattle.std.proofs.lemmas.Bool.{false≢true}
use Rattle.std.proofs.lemmas.Bool.Decides.{eqb_tells}
use Rattle.mct_circuit.specs.Gates.{GateView, flip_of, lines_of}
use Rattle.mct_circuit.specs.Sizes.{greatest_depth, has_line, toffoli_weight}
use Rattle.mct_circuit.proofs.DepthLemmas.{depth_on, depth_on-cons, gate_depth_on}

-- the greatest Toffoli depth of a gate on a line, where the latest gate comes first
abbrev pub depth_at : ℕ → List GateView → ℕ
depth_at line gates = depth_on toffoli_weight (line ∷ []) gates

-- ---- one gate more

apart_at : (shared : Bool) (deep rest : ℕ) → shared ≡ false → max (cond (shared || false) deep 0) rest ≡ rest
apart_at true deep rest is = absurd (false≢true (sym is))
apart_at false deep rest is = omega arith

-- a line that the gate does not touch
pub untouched : (line : ℕ) (gate : GateView) (gates : List GateView) → has_line line (lines_of gate) ≡ false
    → depth_at line (gate ∷ gates) ≡ depth_at line gates
untouched line gate gates none =
    apart_at (has_line line (lines_of gate)) (toffoli_weight gate + depth_on toffoli_weight (lines_of gate) gates) (depth_at line gates) none

most_at : (shared : Bool) (deep rest most : ℕ) → deep ≤ most → rest ≤ most → max (cond (shared || false) deep 0) rest ≤ most
most_at true deep rest most less more = omega (arith, less, more)
most_at false deep rest most less more = omega (arith, less, more)

-- any line, where the gate's depth and that on the line are bounded
pub bounded : (line most : ℕ) (gate : GateView) (gates : List GateView) → toffoli_weight gate + depth_on toffoli_weight (lines_of gate) gates ≤ most
    → depth_at line gates ≤ most → depth_at line (gate ∷ gates) ≤ most
bounded line most gate gates deep less =
    most_at (has_line line (lines_of gate)) (toffoli_weight gate + depth_on toffoli_weight (lines_of gate) gates) (depth_at line gates) most deep less

-- the greatest depth grows to no more than the gate's
pub greatest_bounded : (most : ℕ) (gate : GateView) (gates : List GateView) → toffoli_weight gate + depth_on toffoli_weight (lines_of gate) gates ≤ most
    → greatest_depth toffoli_weight gates ≤ most → greatest_depth toffoli_weight (gate ∷ gates) ≤ most
greatest_bounded most gate gates deep less = let is = gate_depth_on toffoli_weight gate gates in omega (arith, is, deep, less)

-- ---- lines of flips

differs : (x y : ℕ) → x ≢ y → eqb x y ≡ false
differs x y other = elim (eqb_tells x y) as (λ _. eqb x y ≡ false) [ inl e ↦ absurd (other e.1) | inr e ↦ e.0 ]

not_two : (line s t : ℕ) → line ≢ s → line ≢ t → has_line line (s ∷ (t ∷ [])) ≡ false
not_two line s t one other = rw (differs line s one, differs line t other) refl

not_three : (line s t u : ℕ) → line ≢ s → line ≢ t → line ≢ u → has_line line (s ∷ (t ∷ (u ∷ []))) ≡ false
not_three line s t u one other third = rw (differs line s one, differs line t other, differs line u third) refl

two_lines : (s t most : ℕ) (gates : List GateView) → depth_at s gates ≤ most → depth_at t gates ≤ most
    → depth_on toffoli_weight (s ∷ (t ∷ [])) gates ≤ most
two_lines s t most gates one other = let is = depth_on-cons toffoli_weight s (t ∷ []) gates in omega (arith, is, one, other)

three_lines : (s t u most : ℕ) (gates : List GateView) → depth_at s gates ≤ most → depth_at t gates ≤ most → depth_at u gates ≤ most
    → depth_on toffoli_weight (s ∷ (t ∷ (u ∷ []))) gates ≤ most
three_lines s t u most gates one other third =
    let is = depth_on-cons toffoli_weight s (t ∷ (u ∷ [])) gates in
    let rest = two_lines t u most gates other third in
    omega (arith, is, one, rest)

-- ---- flips under one line and under none

no_weight : (deep most : ℕ) → deep ≤ most → 0 + deep ≤ most
no_weight deep most less = omega (arith, less)

-- the depth on the line of the control, or on another line than the target, is as before where the target was not touched
pub under_one : (s t : ℕ) (gates : List GateView) → depth_at t gates ≤ depth_at s gates → (line : ℕ) → line ≢ t
    → depth_at line (flip_of (s ∷ []) t ∷ gates) ≤ depth_at line gates
under_one s t gates fresh line other = elim (eqb_tells line s) as (λ _. depth_at line (flip_of (s ∷ []) t ∷ gates) ≤ depth_at line gates) [
  | inl e ↦ bounded line (depth_at line gates) (flip_of (s ∷ []) t) gates
      (no_weight (depth_on toffoli_weight (s ∷ (t ∷ [])) gates) (depth_at line gates) (two_lines s t (depth_at line gates) gates
      (subst (λ (l : ℕ). depth_at s gates ≤ depth_at l gates) (sym e.1) (omega arith))
      (subst (λ (l : ℕ). depth_at t gates ≤ depth_at l gates) (sym e.1) fresh))) (omega arith)
  | inr e ↦ (let same = untouched line (flip_of (s ∷ []) t) gates (not_two line s t e.1 other) in omega (arith, same))
]

-- what bounds both lines bounds all that were within it
pub under_one_within : (s t most : ℕ) (gates : List GateView) → depth_at s gates ≤ most → depth_at t gates ≤ most → (line : ℕ)
    → depth_at line gates ≤ most → depth_at line (flip_of (s ∷ []) t ∷ gates) ≤ most
under_one_within s t most gates one other line less =
    bounded line most (flip_of (s ∷ []) t) gates (no_weight (depth_on toffoli_weight (s ∷ (t ∷ [])) gates) most (two_lines s t most gates one other)) less

pub under_one_greatest : (s t most : ℕ) (gates : List GateView) → depth_at s gates ≤ most → depth_at t gates ≤ most
    → greatest_depth toffoli_weight gates ≤ most → greatest_depth toffoli_weight (flip_of (s ∷ []) t ∷ gates) ≤ most
under_one_greatest s t most gates one other less =
    greatest_bounded most (flip_of (s ∷ []) t) gates (no_weight (depth_on toffoli_weight (s ∷ (t ∷ [])) gates) most (two_lines s t most gates one other)) less

pub under_one_apart : (s t : ℕ) (gates : List GateView) (line : ℕ) → line ≢ s → line ≢ t
    → depth_at line (flip_of (s ∷ []) t ∷ gates) ≡ depth_at line gates
under_one_apart s t gates line one other = untouched line (flip_of (s ∷ []) t) gates (not_two line s t one other)

pub under_none : (t : ℕ) (gates : List GateView) (line : ℕ) → depth_at line (flip_of [] t ∷ gates) ≤ depth_at line gates
under_none t gates line = elim (eqb_tells line t) as (λ _. depth_at line (flip_of [] t ∷ gates) ≤ depth_at line gates) [
  | inl e ↦ bounded line (depth_at line gates) (flip_of [] t) gates
      (no_weight (depth_at t gates) (depth_at line gates) (subst (λ (l : ℕ). depth_at t gates ≤ depth_at l gates) (sym e.1) (omega arith))) (omega arith)
  | inr e ↦ (let same = untouched line (flip_of [] t) gates (rw (differs line t e.1) refl) in omega (arith, same))
]

pub under_none_greatest : (t most : ℕ) (gates : List GateView) → depth_at t gates ≤ most → greatest_depth toffoli_weight gates ≤ most
    → greatest_depth toffoli_weight (flip_of [] t ∷ gates) ≤ most
under_none_greatest t most gates one less = greatest_bounded most (flip_of [] t) gates (no_weight (depth_at t gates) most one) less

-- ---- a flip under two lines

pub under_two : (s t u most : ℕ) (gates : List GateView) → depth_at s gates ≤ most → depth_at t gates ≤ most → depth_at u gates ≤ most → (line : ℕ)
    → depth_at line gates ≤ most + 1 → depth_at line (flip_of (s ∷ (t ∷ [])) u ∷ gates) ≤ most + 1
under_two s t u most gates one other third line less =
    bounded line (most + 1) (flip_of (s ∷ (t ∷ [])) u) gates
    (let deep = three_lines s t u most gates one other third in omega (arith, deep)) less

pub under_two_greatest : (s t u most : ℕ) (gates : List GateView) → depth_at s gates ≤ most → depth_at t gates ≤ most → depth_at u gates ≤ most
    → greatest_depth toffoli_weight gates ≤ most + 1 → greatest_depth toffoli_weight (flip_of (s ∷ (t ∷ [])) u ∷ gates) ≤ most + 1
under_two_greatest s t u most gates one other third less =
    greatest_bounded (most + 1) (flip_of (s ∷ (t ∷ [])) u) gates
    (let deep = three_lines s t u most gates one other third in omega (arith, deep)) less

pub under_two_apart : (s t u : ℕ) (gates : List GateView) (line : ℕ) → line ≢ s → line ≢ t → line ≢ u
    → depth_at line (flip_of (s ∷ (t ∷ [])) u ∷ gates) ≡ depth_at line gates
under_two_apart s t u gates line one other third = untouched line (flip_of (s ∷ (t ∷ [])) u) gates (not_three line s t u one other third)
