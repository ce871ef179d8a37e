-- Flips as changes of bits: two lines at a time, and flips that do not meet.
use Rattle.std.proofs.Common.{◌≡◌, ◌≢◌, ℕ, ◌<◌, Bool, true, false, not, cond, ◌&&◌, List, [], ◌∷◌, ◌++◌, length, map, set, swap, refl, sym, ap, ◌∙◌}
use Rattle.std.specs.List.{AllByRecursion, list_all}
use Rattle.std.proofs.Math.Bool.{not-not}
use Rattle.std.proofs.lemmas.List.{length-set, get_or-set_same, get_or-set_other, set-set, set_comm, set-get_or, map-append}
use Rattle.std.proofs.lemmas.List.Folds.{list_all-append}
use Rattle.mct_circuit.specs.declared.gate.Control.{Control}
use Rattle.mct_circuit.specs.declared.gate.Op.TheVariants.{Flip, Swap}
use Rattle.list_facts.specs.Bits.{bit_of}
use Rattle.list_facts.proofs.TableLemmas.{of_three_bits}
use Rattle.mct_circuit.specs.Gates.{is_met, after_gate, flip_of, positive}
use Rattle.mct_circuit.proofs.ReversalLemmas.{swap_is}
use Rattle.gate_split.specs.Split.{Avoids}

abbrev pub all_on : List Bool → List ℕ → Bool
all_on bits lines = list_all (is_met bits) (map positive lines)

abbrev pub flip_when : Bool → ℕ → List Bool → List Bool
flip_when b line bits = cond b (set bits line (not (bit_of bits line))) bits

abbrev pub flipped : Bool → Bool → Bool
flipped b bit = cond b (not bit) bit

pub length-flip : (b : Bool) (line : ℕ) (bits : List Bool) → length (flip_when b line bits) ≡ length bits
length-flip true line bits = length-set bits line (not (bit_of bits line))
length-flip false line bits = refl

pub length-flip_of : (controls : List ℕ) (target : ℕ) (bits : List Bool) → length (after_gate (flip_of controls target) bits) ≡ length bits
length-flip_of controls target bits = length-flip (all_on bits controls) target bits

pub bit_of-flip : (b : Bool) (line other : ℕ) (bits : List Bool) → line ≢ other → bit_of (flip_when b line bits) other ≡ bit_of bits other
bit_of-flip true line other bits d = get_or-set_other bits line other (not (bit_of bits line)) false (λ e. d (sym e))
bit_of-flip false line other bits d = refl

pub all_on-flip : (b : Bool) (line : ℕ) (bits : List Bool) (lines : List ℕ) → Avoids line lines → all_on (flip_when b line bits) lines ≡ all_on bits lines
all_on-flip b line bits [] d = refl
all_on-flip b line bits (x ∷ xs) d = rw (bit_of-flip b line x bits d.0, all_on-flip b line bits xs d.1)

pub all_on-append : (bits : List Bool) (xs ys : List ℕ) → all_on bits (xs ++ ys) ≡ (all_on bits xs && all_on bits ys)
all_on-append bits xs ys = rw (map-append positive xs ys) (list_all-append (is_met bits) (map positive xs) (map positive ys))

pub flips_meet : (b c : Bool) (s t : ℕ) (bits : List Bool) → s ≢ t → flip_when b s (flip_when c t bits) ≡ flip_when c t (flip_when b s bits)
flips_meet false c s t bits d = refl
flips_meet true false s t bits d = refl
flips_meet true true s t bits d =
    rw (get_or-set_other bits t s (not (bit_of bits t)) false d, get_or-set_other bits s t (not (bit_of bits s)) false (λ e. d (sym e)))
    (set_comm bits t s (not (bit_of bits t)) (not (bit_of bits s)) (λ e. d (sym e)))

-- flips of which neither changes what the other reads or changes
pub flips_commute : (R S : List ℕ) (t u : ℕ) (bits : List Bool) → t ≢ u → Avoids t S → Avoids u R
    → after_gate (flip_of S u) (after_gate (flip_of R t) bits) ≡ after_gate (flip_of R t) (after_gate (flip_of S u) bits)
flips_commute R S t u bits d apart_t apart_u =
    rw (all_on-flip (all_on bits R) t bits S apart_t, all_on-flip (all_on bits S) u bits R apart_u)
    (flips_meet (all_on bits S) (all_on bits R) u t bits (λ e. d (sym e)))

pub flip-flip : (b : Bool) (line : ℕ) (bits : List Bool) → line < length bits → flip_when b line (flip_when b line bits) ≡ bits
flip-flip false line bits h = refl
flip-flip true line bits h =
    rw (get_or-set_same bits line (not (bit_of bits line)) false h, not-not (bit_of bits line))
    (set-set bits line (not (bit_of bits line)) (bit_of bits line) ∙ set-get_or bits line false)

pub flip_of-flip_of : (controls : List ℕ) (target : ℕ) (bits : List Bool) → Avoids target controls → target < length bits
    → after_gate (flip_of controls target) (after_gate (flip_of controls target) bits) ≡ bits
flip_of-flip_of controls target bits d h = rw (all_on-flip (all_on bits controls) target bits controls d) (flip-flip (all_on bits controls) target bits h)

-- ---- two lines

-- the bits with x at one line and y at another
abbrev with_two : List Bool → ℕ → ℕ → Bool → Bool → List Bool
with_two bits a t x y = set (set bits a x) t y

record AreTwo (bits : List Bool) (a t : ℕ) : Type 0 where
  low_a : a < length bits
  low_t : t < length bits
  apart : a ≢ t

two_same : (bits : List Bool) (a t : ℕ) → with_two bits a t (bit_of bits a) (bit_of bits t) ≡ bits
two_same bits a t = rw (set-get_or bits a false) (set-get_or bits t false)

bit_first : (bits : List Bool) (a t : ℕ) (x y : Bool) → AreTwo bits a t → bit_of (with_two bits a t x y) a ≡ x
bit_first bits a t x y w = get_or-set_other (set bits a x) t a y false w.apart ∙ get_or-set_same bits a x false w.low_a

bit_second : (bits : List Bool) (a t : ℕ) (x y : Bool) → AreTwo bits a t → bit_of (with_two bits a t x y) t ≡ y
bit_second bits a t x y w = get_or-set_same (set bits a x) t y false (rw (length-set bits a x) w.low_t)

set_first : (bits : List Bool) (a t : ℕ) (x y z : Bool) → AreTwo bits a t → set (with_two bits a t x y) a z ≡ with_two bits a t z y
set_first bits a t x y z w = set_comm (set bits a x) t a y z (λ e. w.apart (sym e)) ∙ ap (λ l. set l t y) (set-set bits a x z)

flip_first : (bits : List Bool) (a t : ℕ) (b x y : Bool) → AreTwo bits a t → flip_when b a (with_two bits a t x y) ≡ with_two bits a t (flipped b x) y
flip_first bits a t true x y w = rw (bit_first bits a t x y w) (set_first bits a t x y (not x) w)
flip_first bits a t false x y w = refl

flip_second : (bits : List Bool) (a t : ℕ) (b x y : Bool) → AreTwo bits a t → flip_when b t (with_two bits a t x y) ≡ with_two bits a t x (flipped b y)
flip_second bits a t true x y w = rw (bit_second bits a t x y w) (set-set (set bits a x) t y (not y))
flip_second bits a t false x y w = refl

pub met_same : (bits changed : List Bool) (controls : List Control) → AllByRecursion
    (λ (control : Control). bit_of changed control.line ≡ bit_of bits control.line) controls
    → list_all (is_met changed) controls ≡ list_all (is_met bits) controls
met_same bits changed [] s = refl
met_same bits changed (c ∷ cs) s = rw (s.0, met_same bits changed cs s.1)

bit_third : (bits : List Bool) (a t : ℕ) (x y : Bool) (line : ℕ) → a ≢ line → t ≢ line → bit_of (with_two bits a t x y) line ≡ bit_of bits line
bit_third bits a t x y line da dt = get_or-set_other (set bits a x) t line y false (λ e. dt (sym e)) ∙ get_or-set_other bits a line x false (λ e. da (sym e))

all_on-two : (bits : List Bool) (a t : ℕ) (x y : Bool) (lines : List ℕ) → Avoids a lines → Avoids t lines
    → all_on (with_two bits a t x y) lines ≡ all_on bits lines
all_on-two bits a t x y [] da dt = refl
all_on-two bits a t x y (l ∷ ls) da dt = rw (bit_third bits a t x y l da.0 dt.0, all_on-two bits a t x y ls da.1 dt.1)

and_true : (b : Bool) → (b && true) ≡ b
and_true true = refl
and_true false = refl

-- the flip of t by C and a
by_both : (bits : List Bool) (a t : ℕ) (x y : Bool) (C : List ℕ) → AreTwo bits a t → Avoids a C → Avoids t C
    → after_gate (flip_of (C ++ a ∷ []) t) (with_two bits a t x y) ≡ with_two bits a t x (flipped (all_on bits C && x) y)
by_both bits a t x y C w da dt =
    let now = with_two bits a t x y in
    let met : all_on now (C ++ a ∷ []) ≡ (all_on bits C && x) = all_on-append now C (a ∷ [])
    ∙ rw (all_on-two bits a t x y C da dt, bit_first bits a t x y w, and_true x) refl in
    rw met (flip_second bits a t (all_on bits C && x) x y w)

-- the flip of a by D
by_others : (bits : List Bool) (a t : ℕ) (x y : Bool) (D : List ℕ) → AreTwo bits a t → Avoids a D → Avoids t D
    → after_gate (flip_of D a) (with_two bits a t x y) ≡ with_two bits a t (flipped (all_on bits D) x) y
by_others bits a t x y D w da dt = rw (all_on-two bits a t x y D da dt) (flip_first bits a t (all_on bits D) x y w)

twice_told : (x y a t : Bool) → flipped (x && flipped y a) (flipped (x && a) t) ≡ flipped (y && x) t
twice_told true true true t = refl
twice_told true true false t = refl
twice_told true false true t = not-not t
twice_told true false false t = refl
twice_told false true a t = refl
twice_told false false a t = refl

-- a flip of t by C and a, before and behind a flip of a by D, flips t by D and C
pub before_and_behind : (bits : List Bool) (a t : ℕ) (C D : List ℕ) → a < length bits → t < length bits → a ≢ t → Avoids a C → Avoids t C → Avoids a D
    → Avoids t D
    → after_gate (flip_of (C ++ a ∷ []) t) (after_gate (flip_of D a) (after_gate (flip_of (C ++ a ∷ []) t) bits))
    ≡ after_gate (flip_of D a) (after_gate (flip_of (D ++ C) t) bits)
before_and_behind bits a t C D la lt d ac tc ad td =
    let w : AreTwo bits a t = record { low_a = la; low_t = lt; apart = d } in
    let A = bit_of bits a in let T = bit_of bits t in
    let x = all_on bits C in let y = all_on bits D in
    let G : List Bool → List Bool = after_gate (flip_of (C ++ a ∷ []) t) in
    let F : List Bool → List Bool = after_gate (flip_of D a) in
    let one : G bits ≡ with_two bits a t A (flipped (x && A) T) = ap G (sym (two_same bits a t)) ∙ by_both bits a t A T C w ac tc in
    let two : F (G bits) ≡ with_two bits a t (flipped y A) (flipped (x && A) T) = ap F one ∙ by_others bits a t A (flipped (x && A) T) D w ad td in
    let three : G (F (G bits)) ≡ with_two bits a t (flipped y A) (flipped (x && flipped y A) (flipped (x && A) T)) = ap G two
    ∙ by_both bits a t (flipped y A) (flipped (x && A) T) C w ac tc in
    let whole : after_gate (flip_of (D ++ C) t) bits ≡ with_two bits a t A (flipped (y && x) T) =
    ap (λ b. flip_when b t bits) (all_on-append bits D C) ∙ ap (flip_when (y && x) t) (sym (two_same bits a t)) ∙ flip_second bits a t (y && x) A T w in
    three ∙ ap (λ b. with_two bits a t (flipped y A) b) (twice_told x y A T) ∙ sym (ap F whole ∙ by_others bits a t A (flipped (y && x) T) D w ad td)

-- ---- swaps

exchange_first : (x a b : Bool) → flipped (flipped (x && flipped b a) b) (flipped b a) ≡ cond x b a
exchange_first = of_three_bits (λ x a b. flipped (flipped (x && flipped b a) b) (flipped b a)) (λ x a b. cond x b a) refl

exchange_second : (x a b : Bool) → flipped (x && flipped b a) b ≡ cond x a b
exchange_second = of_three_bits (λ x a b. flipped (x && flipped b a) b) (λ x a b. cond x a b) refl

swapped : (x : Bool) (bits : List Bool) (a b : ℕ) → AreTwo bits a b → with_two bits a b (cond x (bit_of bits b) (bit_of bits a))
    (cond x (bit_of bits a) (bit_of bits b)) ≡ cond x (swap bits a b) bits
swapped true bits a b w = sym (swap_is bits a b w.low_a w.low_t)
swapped false bits a b w = two_same bits a b

lines_apart : (bits : List Bool) (a b : ℕ) (x y : Bool) (controls : List Control) → AllByRecursion (λ (control : Control). a ≢ control.line) controls
    → AllByRecursion (λ (control : Control). b ≢ control.line) controls
    → AllByRecursion (λ (control : Control). bit_of (with_two bits a b x y) control.line ≡ bit_of bits control.line) controls
lines_apart bits a b x y [] da db = tt
lines_apart bits a b x y (c ∷ cs) da db = (bit_third bits a b x y c.line da.0 db.0, lines_apart bits a b x y cs da.1 db.1)

-- a swap of a and b is a flip of a by b, of b by the controls and a, and of a by b
pub swap_by_flips : (bits : List Bool) (a b : ℕ) (controls : List Control) → a < length bits → b < length bits → a ≢ b
    → AllByRecursion (λ (control : Control). a ≢ control.line) controls → AllByRecursion (λ (control : Control). b ≢ control.line) controls
    → after_gate (flip_of (b ∷ []) a) (after_gate (record { controls = controls ++ positive a ∷ []; op = Flip b }) (after_gate (flip_of (b ∷ []) a) bits))
    ≡ after_gate (record { controls = controls; op = Swap a b }) bits
swap_by_flips bits a b controls la lb d da db =
    let w : AreTwo bits a b = record { low_a = la; low_t = lb; apart = d } in
    let A = bit_of bits a in let B = bit_of bits b in
    let x = list_all (is_met bits) controls in
    let CX : List Bool → List Bool = after_gate (flip_of (b ∷ []) a) in
    let M : List Bool → List Bool = after_gate (record { controls = controls ++ positive a ∷ []; op = Flip b }) in
    let cx : (X Y : Bool) → CX (with_two bits a b X Y) ≡ with_two bits a b (flipped Y X) Y =
    λ X Y. rw (bit_second bits a b X Y w, and_true Y) (flip_first bits a b Y X Y w) in
    let m : (X Y : Bool) → M (with_two bits a b X Y) ≡ with_two bits a b X (flipped (x && X) Y) =
    λ X Y. rw (
      list_all-append (is_met (with_two bits a b X Y)) controls (positive a ∷ []),
      met_same bits (with_two bits a b X Y) controls (lines_apart bits a b X Y controls da db),
      bit_first bits a b X Y w,
      and_true X,
    )
    (flip_second bits a b (x && X) X Y w) in
    let one : CX bits ≡ with_two bits a b (flipped B A) B = ap CX (sym (two_same bits a b)) ∙ cx A B in
    let two : M (CX bits) ≡ with_two bits a b (flipped B A) (flipped (x && flipped B A) B) = ap M one ∙ m (flipped B A) B in
    let three = ap CX two ∙ cx (flipped B A) (flipped (x && flipped B A) B) in
    three ∙ rw (exchange_first x A B, exchange_second x A B) (swapped x bits a b w)
