-- The greatest depths on the lines of a circuit, as it grows.
use Rattle.std.proofs.Common.{◌≡◌, ℕ, ◌+◌, ◌<◌, ◌≤◌, max, Bool, true, false, cond, ◌||◌, eqb, List, [], ◌∷◌, ◌++◌, length, get_or, set, take, reverse}
use Rattle.std.proofs.Common.{refl, sym, inl, inr, arith}
use Rattle.std.proofs.lemmas.List.{get_or-set_same, get_or-set_other, take_more, reverse-append}
use Rattle.std.proofs.lemmas.List.Folds.{list_any-append}
use Rattle.std.proofs.lemmas.Bool.Decides.{eqb_tells}
use Rattle.mct_circuit.specs.Gates.{GateView, lines_of}
use Rattle.mct_circuit.specs.Sizes.{has_line, share_a_line, gate_depth, greatest_at, is_flip_under}
use Rattle.mct_circuit.specs.declared.depth.Counting.{Counting}
use Rattle.mct_circuit.specs.declared.depth.Counting.TheVariants.{EachGate, Toffolis}
use Rattle.mct_circuit.specs.inside.Counting.{weight_for}

-- ---- numbers at lines

pub greatest_at-append : (numbers xs ys : List ℕ) → greatest_at numbers (xs ++ ys) ≡ max (greatest_at numbers xs) (greatest_at numbers ys)
greatest_at-append numbers [] ys = omega arith
greatest_at-append numbers (x ∷ xs) ys = let e = greatest_at-append numbers xs ys in omega arith

set_is : (numbers : List ℕ) (k v line : ℕ) → k < length numbers → get_or (set numbers k v) line 0 ≡ cond (eqb line k) v (get_or numbers line 0)
set_is numbers k v line h =
    elim (eqb_tells line k) [ inl s ↦ rw (s.0, s.1) (get_or-set_same numbers k v 0 h) | inr s ↦ rw s.0 (get_or-set_other numbers k line v 0 s.1) ]

chosen : (a b : Bool) (v old : ℕ) → cond b v (cond a v old) ≡ cond (a || (b || false)) v old
chosen true true v old = refl
chosen true false v old = refl
chosen false true v old = refl
chosen false false v old = refl

-- one line more is set
pub set_more : (numbers : List ℕ) (k v line : ℕ) (lines : List ℕ) (old : ℕ) → k < length numbers → get_or numbers line 0 ≡ cond (has_line line lines) v old
    → get_or (set numbers k v) line 0 ≡ cond (has_line line (lines ++ k ∷ [])) v old
set_more numbers k v line lines old h e =
    rw (set_is numbers k v line h, e, list_any-append (λ other. eqb line other) lines (k ∷ [])) (chosen (has_line line lines) (eqb line k) v old)

-- ---- depths by weights

-- the greatest depth of a gate on one of these lines, or 0, where the latest gate comes first
abbrev pub depth_on : (GateView → ℕ) → List ℕ → List GateView → ℕ
depth_on weigh lines [] = 0
depth_on weigh lines (gate ∷ earlier) =
    max (cond (share_a_line lines (lines_of gate)) (weigh gate + depth_on weigh (lines_of gate) earlier) 0) (depth_on weigh lines earlier)

one_deeper : (shared : Bool) (w a b deeper : ℕ) → deeper ≡ w + b → max (cond shared (w + a) 0) deeper ≡ w + max (cond shared a 0) b
one_deeper true w a b deeper f = omega arith
one_deeper false w a b deeper f = omega arith

-- a gate is as much deeper than the gates on its lines as it weighs
pub gate_depth_on : (weigh : GateView → ℕ) (gate : GateView) (gates : List GateView)
    → gate_depth weigh gate gates ≡ weigh gate + depth_on weigh (lines_of gate) gates
gate_depth_on weigh gate [] = omega arith
gate_depth_on weigh gate (other ∷ earlier) =
    rw (gate_depth_on weigh other earlier)
    (one_deeper (share_a_line (lines_of gate) (lines_of other)) (weigh gate) (weigh other + depth_on weigh (lines_of other) earlier)
    (depth_on weigh (lines_of gate) earlier) (gate_depth weigh gate earlier) (gate_depth_on weigh gate earlier))

pub depth_on-none : (weigh : GateView → ℕ) (gates : List GateView) → depth_on weigh [] gates ≡ 0
depth_on-none weigh [] = refl
depth_on-none weigh (g ∷ gs) = let e = depth_on-none weigh gs in omega arith

both : (a b : Bool) (d x y z : ℕ) → z ≡ max x y → max (cond (a || b) d 0) z ≡ max (max (cond (a || false) d 0) x) (max (cond b d 0) y)
both true true d x y z e = omega arith
both true false d x y z e = omega arith
both false true d x y z e = omega arith
both false false d x y z e = omega arith

pub depth_on-cons : (weigh : GateView → ℕ) (line : ℕ) (lines : List ℕ) (gates : List GateView)
    → depth_on weigh (line ∷ lines) gates ≡ max (depth_on weigh (line ∷ []) gates) (depth_on weigh lines gates)
depth_on-cons weigh line lines [] = refl
depth_on-cons weigh line lines (g ∷ gs) =
    both (has_line line (lines_of g)) (share_a_line lines (lines_of g)) (weigh g + depth_on weigh (lines_of g) gs)
    (depth_on weigh (line ∷ []) gs) (depth_on weigh lines gs) (depth_on weigh (line ∷ lines) gs) (depth_on-cons weigh line lines gs)

pub greatest_at-depths : (weigh : GateView → ℕ) (numbers : List ℕ) (gates : List GateView) (lines : List ℕ)
    → ((line : ℕ) → get_or numbers line 0 ≡ depth_on weigh (line ∷ []) gates) → greatest_at numbers lines ≡ depth_on weigh lines gates
greatest_at-depths weigh numbers gates [] h = sym (depth_on-none weigh gates)
greatest_at-depths weigh numbers gates (x ∷ xs) h =
    let e = greatest_at-depths weigh numbers gates xs h in
    let f = depth_on-cons weigh x xs gates in
    let k = h x in omega arith

cond_le : (b : Bool) (d n : ℕ) → d ≤ n → cond b d 0 ≤ n
cond_le true d n h = h
cond_le false d n h = omega arith

-- where no gate weighs more than 1, a depth is at most the number of gates
pub depth_on-le : (weigh : GateView → ℕ) → ((gate : GateView) → weigh gate ≤ 1) → (lines : List ℕ) (gates : List GateView)
    → depth_on weigh lines gates ≤ length gates
depth_on-le weigh light lines [] = omega arith
depth_on-le weigh light lines (g ∷ gs) =
    let e = depth_on-le weigh light lines gs in
    let f = depth_on-le weigh light (lines_of g) gs in
    let w = light g in
    let k = cond_le (share_a_line lines (lines_of g)) (weigh g + depth_on weigh (lines_of g) gs) (length gs + 1) (omega arith) in
    omega arith

or_cases : (a b : Bool) → (a || b) ≡ true → a ≡ false → b ≡ true
or_cases true b e n = absurd (cc)
or_cases false b e n = e

-- the depth on a line of a gate is at most that on all of them
pub depth_on-member : (weigh : GateView → ℕ) (line : ℕ) (lines : List ℕ) (gates : List GateView) → has_line line lines ≡ true
    → depth_on weigh (line ∷ []) gates ≤ depth_on weigh lines gates
depth_on-member weigh line [] gates e = absurd (cc)
depth_on-member weigh line (x ∷ xs) gates e =
    let f = depth_on-cons weigh x xs gates in
    elim (eqb_tells line x) [
      | inl s ↦ rw s.1 (omega arith)
      | inr s ↦ (let g = depth_on-member weigh line xs gates (or_cases (eqb line x) (has_line line xs) e s.0) in
          omega arith)
    ]

step_on : (b : Bool) (w d x : ℕ) → (b ≡ true → x ≤ d) → cond b (w + d) x ≡ max (cond (b || false) (w + d) 0) x
step_on true w d x h = let k = h refl in omega arith
step_on false w d x h = omega arith

-- one gate more
pub depths_more : (weigh : GateView → ℕ) (numbers : List ℕ) (gate : GateView) (gates : List GateView) (depth line : ℕ)
    → ((l : ℕ) → get_or numbers l 0 ≡ depth_on weigh (l ∷ []) gates) → depth ≡ weigh gate + greatest_at numbers (lines_of gate)
    → cond (has_line line (lines_of gate)) depth (get_or numbers line 0) ≡ depth_on weigh (line ∷ []) (gate ∷ gates)
depths_more weigh numbers gate gates depth line h e =
    rw (e, greatest_at-depths weigh numbers gates (lines_of gate) h, h line)
    (step_on (has_line line (lines_of gate)) (weigh gate) (depth_on weigh (lines_of gate) gates) (depth_on weigh (line ∷ []) gates)
    (λ t. depth_on-member weigh line (lines_of gate) gates t))

pub latest_first : (gates : List GateView) (i : ℕ) (gate : GateView) → i < length gates → gate ≡ get_or gates i gate
    → reverse (take (i + 1) gates) ≡ gate ∷ reverse (take i gates)
latest_first gates i gate h e = rw (take_more gates i gate h, ← e) (reverse-append (take i gates) (gate ∷ []))

pub one_at_most : (counting : Counting) (gate : GateView) → weight_for counting gate ≤ 1
one_at_most EachGate gate = omega arith
one_at_most Toffolis gate = cond_le (is_flip_under 2 gate) 1 1 (omega arith)
