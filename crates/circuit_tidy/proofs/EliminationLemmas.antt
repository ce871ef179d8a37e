-- The elimination of a list of additions has its line map.
use Rattle.std.proofs.Common.{◌≡◌, ◌≢◌, ℕ, ◌<◌, Bool, true, false, not, ◌&&◌, ◌||◌, eqb, cond, List, [], ◌∷◌, ◌++◌, length, map, filter, reverse, set, refl}
use Rattle.std.proofs.Common.{sym, ap, ◌∙◌, subst, ◌⊎◌, inl, inr}
use Rattle.std.proofs.Common.{arith}
use Rattle.std.specs.Bool.{xor}
use Rattle.std.specs.List.{AllByRecursion}
use Rattle.std.proofs.lemmas.Bool.{cases_Bool, cases_eq, eq-eqb, ne_eqb, eqb-true, eqb-false, and_parts, or_parts, not-true, both_ways, false≢true, or_left}
use Rattle.std.proofs.lemmas.Bool.{or_right, or_cases}
use Rattle.std.proofs.lemmas.Bool.{false_from_ne_true}
use Rattle.std.proofs.lemmas.List.{ext_get_or, get_or-set_same, get_or-set_other, length-set, map-append, reverse-append}
use Rattle.list_facts.specs.Bits.{bit_of}
use Rattle.list_facts.specs.Lists.{AreDifferent, IsRising}
use Rattle.list_facts.proofs.OrderLemmas.{AreDifferent-rising, IsRising-filter}
use Rattle.list_facts.proofs.AllLemmas.{AllByRecursion-append, AllByRecursion-reverse}
use Rattle.list_facts.proofs.BitLemmas.{xor_one, xor_none, xor_nothing, xor_same, xor_swap, xor-and_left, xor-and_right, and_nothing}
use Rattle.mct_circuit.specs.Gates.{line_map, IsGateOn, AreGatesOn}
use Rattle.mct_circuit.specs.Sizes.{has_line}
use Rattle.mct_circuit.proofs.FlipLemmas.{flip_sets}
use Rattle.mct_circuit.proofs.ReversalLemmas.{reversed_behind}
use Rattle.circuit_tidy.specs.Blocks.{cx}
use Rattle.circuit_tidy.specs.Elimination.{Addition, Rows, own_rows, with_addition, with_additions, first_with, first_step, second_step, steps_at, noted}
use Rattle.circuit_tidy.specs.Elimination.{eliminated}
use Rattle.flip_lists.specs.Flips.{gate_of, gates_of}
use Rattle.flip_lists.proofs.FlipLemmas.{after}
use Rattle.circuit_tidy.proofs.ParityLemmas.{parity, parity-same, parity-xor, parity-one}

-- ---- one addition

pub added-onto : (rows : Rows) (a : Addition) (line x : ℕ) → line ≡ a.onto → with_addition rows a line x ≡ xor (rows line x) (rows a.from x)
added-onto rows a line x e = ap (λ b. cond b (xor (rows line x) (rows a.from x)) (rows line x)) (eq-eqb line a.onto e)

pub added-other : (rows : Rows) (a : Addition) (line x : ℕ) → line ≢ a.onto → with_addition rows a line x ≡ rows line x
added-other rows a line x ne = ap (λ b. cond b (xor (rows line x) (rows a.from x)) (rows line x)) (ne_eqb line a.onto ne)

-- an addition of one line below n onto another
pub record IsAddition (n : ℕ) (a : Addition) : Type 0 where
  pub from : a.from < n
  pub onto : a.onto < n
  pub differ : a.from ≢ a.onto

pub with_additions-append : (rows : Rows) (xs ys : List Addition) → with_additions rows (xs ++ ys) ≡ with_additions (with_additions rows xs) ys
with_additions-append rows [] ys = refl
with_additions-append rows (a ∷ xs) ys = with_additions-append (with_addition rows a) xs ys

-- what each addition of a kind keeps, a list of them keeps
pub kept : (P : Rows → Type 0) (Q : Addition → Type 0) → ((rows : Rows) (a : Addition) → Q a → P rows → P (with_addition rows a))
    → (rows : Rows) (adds : List Addition) → AllByRecursion Q adds → P rows → P (with_additions rows adds)
kept P Q step rows [] all here = here
kept P Q step rows (a ∷ adds) all here = kept P Q step (with_addition rows a) adds all.1 (step rows a all.0 here)

-- ---- rows as parities of the first bits

abbrev pub value : Rows → (ℕ → Bool) → ℕ → ℕ → Bool
value rows bit n line = parity (λ x. rows line x && bit x) n

value-onto : (rows : Rows) (a : Addition) (bit : ℕ → Bool) (n line : ℕ) → line ≡ a.onto
    → value (with_addition rows a) bit n line ≡ xor (value rows bit n line) (value rows bit n a.from)
value-onto rows a bit n line e =
    parity-same (λ x. with_addition rows a line x && bit x) (λ x. xor (rows line x && bit x) (rows a.from x && bit x)) n
    (λ x lt. ap (λ b. b && bit x) (added-onto rows a line x e) ∙ sym (xor-and_left (rows line x) (rows a.from x) (bit x)))
    ∙ parity-xor (λ x. rows line x && bit x) (λ x. rows a.from x && bit x) n

value-other : (rows : Rows) (a : Addition) (bit : ℕ → Bool) (n line : ℕ) → line ≢ a.onto → value (with_addition rows a) bit n line ≡ value rows bit n line
value-other rows a bit n line ne =
    parity-same (λ x. with_addition rows a line x && bit x) (λ x. rows line x && bit x) n (λ x lt. ap (λ b. b && bit x) (added-other rows a line x ne))

-- each bit is now the parity of the first bits in its line's row
pub record AreRowsOf (n : ℕ) (rows : Rows) (bits now : List Bool) : Type 0 where
  pub long : length now ≡ n
  pub each : (line : ℕ) → line < n → bit_of now line ≡ value rows (bit_of bits) n line

own_rows_are : (n : ℕ) (bits : List Bool) → length bits ≡ n → AreRowsOf n own_rows bits bits
own_rows_are n bits long = record { long = long; each = λ line lt. sym (parity-one (bit_of bits) line n lt) }

and_true : (b : Bool) → (b && true) ≡ b
and_true true = refl
and_true false = refl

after-cx : (a : Addition) (bits : List Bool) → after (cx a) bits ≡ set bits a.onto (xor (bit_of bits a.from) (bit_of bits a.onto))
after-cx a bits =
    flip_sets (record { line = a.from; positive = true } ∷ []) a.onto bits
    ∙ ap (λ b. set bits a.onto (xor b (bit_of bits a.onto))) (and_true (bit_of bits a.from))

one_more : (n : ℕ) (rows : Rows) (a : Addition) (bits now : List Bool) → IsAddition n a → AreRowsOf n rows bits now
    → AreRowsOf n (with_addition rows a) bits (after (cx a) now)
one_more n rows a bits now is are = record {
  long = ap length (after-cx a now) ∙ length-set now a.onto (xor (bit_of now a.from) (bit_of now a.onto)) ∙ are.long;
  each = λ line lt. ap (λ l. bit_of l line) (after-cx a now) ∙ elim (cases_eq line a.onto) as (λ _. bit_of (set now a.onto (xor (bit_of now a.from)
      (bit_of now a.onto))) line ≡ value (with_addition rows a) (bit_of bits) n line) [
        | inl e ↦ here line e lt
        | inr ne ↦ get_or-set_other now a.onto line (xor (bit_of now a.from) (bit_of now a.onto)) false ne ∙ are.each line lt
            ∙ sym (value-other rows a (bit_of bits) n line ne)
      ];
}
  where
    here : (line : ℕ) → line ≡ a.onto → line < n
        → bit_of (set now a.onto (xor (bit_of now a.from) (bit_of now a.onto))) line ≡ value (with_addition rows a) (bit_of bits) n line
    here line e lt =
        ap (bit_of (set now a.onto (xor (bit_of now a.from) (bit_of now a.onto)))) e
        ∙ get_or-set_same now a.onto (xor (bit_of now a.from) (bit_of now a.onto)) false (let long = are.long in let below = is.onto in omega arith)
        ∙ xor_swap (bit_of now a.from) (bit_of now a.onto)
        ∙ ap (λ b. xor b (bit_of now a.from)) (ap (bit_of now) (sym e) ∙ are.each line lt)
        ∙ ap (xor (value rows (bit_of bits) n line)) (are.each a.from is.from)
        ∙ sym (value-onto rows a (bit_of bits) n line e)

pub rows_after : (n : ℕ) (adds : List Addition) (rows : Rows) (bits now : List Bool) → AllByRecursion (IsAddition n) adds → AreRowsOf n rows bits now
    → AreRowsOf n (with_additions rows adds) bits (line_map (gates_of (map cx adds)) now)
rows_after n [] rows bits now all are = are
rows_after n (a ∷ adds) rows bits now all are =
    rows_after n adds (with_addition rows a) bits (after (cx a) now) all.1 (one_more n rows a bits now all.0 are)

pub own_is_nothing : (n : ℕ) (rows : Rows) (bits now : List Bool) → length bits ≡ n → AreRowsOf n rows bits now → ((line x : ℕ) → line < n → x < n
    → rows line x ≡ eqb line x)
    → now ≡ bits
own_is_nothing n rows bits now long are own =
    ext_get_or false now bits (are.long ∙ sym long)
    (λ line lt. let below : line < n = let same = are.long in omega arith in
    are.each line below
    ∙ parity-same (λ x. rows line x && bit_of bits x) (λ x. eqb line x && bit_of bits x) n (λ x less. ap (λ b. b && bit_of bits x) (own line x below less))
    ∙ parity-one (bit_of bits) line n below)

-- ---- what the elimination keeps

-- The columns but those that are still to come are clear, rows of other lines are their own, and no assignment but that of
-- zeros has all parities 0.
pub record AreReduced (n : ℕ) (lines todo : List ℕ) (rows : Rows) : Type 0 where
  pub clear : (x line : ℕ) → has_line x todo ≡ false → line < n → x < n → rows line x ≡ eqb line x
  pub own : (line x : ℕ) → has_line line lines ≡ false → line < n → x < n → rows line x ≡ eqb line x
  pub kernel : (bit : ℕ → Bool) → ((line : ℕ) → line < n → value rows bit n line ≡ false) → (x : ℕ) → x < n → bit x ≡ false

lacks_other : (x y : ℕ) (lines : List ℕ) → has_line x lines ≡ false → has_line y lines ≡ true → x ≢ y
lacks_other x y lines lacks has e = both_ways (has_line y lines) (subst (λ z. has_line z lines ≡ false) e lacks) has

-- an addition from a line that is still to come, onto one of the lines
pub record IsWithin (n : ℕ) (lines todo : List ℕ) (a : Addition) : Type 0 where
  pub is : IsAddition n a
  pub from : has_line a.from todo ≡ true
  pub onto : has_line a.onto lines ≡ true

kernel_kept : (n : ℕ) (rows : Rows) (a : Addition) → IsAddition n a
    → ((bit : ℕ → Bool) → ((line : ℕ) → line < n → value rows bit n line ≡ false) → (x : ℕ) → x < n → bit x ≡ false)
    → (bit : ℕ → Bool) → ((line : ℕ) → line < n → value (with_addition rows a) bit n line ≡ false) → (x : ℕ) → x < n → bit x ≡ false
kernel_kept n rows a is kernel bit zero_now = kernel bit (λ line lt. elim (cases_eq line a.onto) [
  | inl e ↦
      sym (xor_nothing (value rows bit n line))
      ∙ ap (xor (value rows bit n line)) (sym (sym (value-other rows a bit n a.from is.differ) ∙ zero_now a.from is.from))
      ∙ sym (value-onto rows a bit n line e) ∙ zero_now line lt
  | inr ne ↦ sym (value-other rows a bit n line ne) ∙ zero_now line lt
])

pub reduced_kept : (n : ℕ) (lines todo : List ℕ) (rows : Rows) (a : Addition) → IsWithin n lines todo a → AreReduced n lines todo rows
    → AreReduced n lines todo (with_addition rows a)
reduced_kept n lines todo rows a within reduced = record {
  clear = λ x line lacks lt less. elim (cases_eq line a.onto) [
    | inl e ↦ added-onto rows a line x e
        ∙ ap (λ b. xor b (rows a.from x)) (reduced.clear x line lacks lt less)
        ∙ ap (xor (eqb line x)) (reduced.clear x a.from lacks within.is.from less
        ∙ ne_eqb a.from x (λ same. lacks_other x a.from todo lacks within.from (sym same)))
        ∙ xor_nothing (eqb line x)
    | inr ne ↦ added-other rows a line x ne ∙ reduced.clear x line lacks lt less
  ];
  own = λ line x lacks lt less. added-other rows a line x (lacks_other line a.onto lines lacks within.onto) ∙ reduced.own line x lacks lt less;
  kernel = kernel_kept n rows a within.is reduced.kernel;
}

pub reduced_at_first : (n : ℕ) (lines : List ℕ) → AreReduced n lines lines own_rows
reduced_at_first n lines = record {
  clear = λ x line lacks lt less. refl;
  own = λ line x lacks lt less. refl;
  kernel = λ bit none x lt. sym (parity-one bit x n lt) ∙ none x lt;
}

-- ---- the first step

data FirstWith (rows : Rows) (column : ℕ) (lines : List ℕ) : Type 0 where
  found : (line : ℕ) → has_line line lines ≡ true → rows line column ≡ true
      → first_with rows column lines ≡ record { from = line; onto = column } ∷ [] → FirstWith rows column lines
  lacking : ((line : ℕ) → has_line line lines ≡ true → rows line column ≡ false) → FirstWith rows column lines

first_with_says : (rows : Rows) (column : ℕ) (lines : List ℕ) → FirstWith rows column lines
first_with_says rows column [] = lacking (λ line has. absurd (false≢true has))
first_with_says rows column (l ∷ ls) = elim (cases_Bool (rows l column)) [
  | inl e ↦ found l (or_left (eqb l l) (has_line l ls) (eq-eqb l l refl)) e
      (ap (λ b. cond b (record { from = l; onto = column } ∷ []) (first_with rows column ls)) e)
  | inr e ↦ further e (first_with_says rows column ls)
]
  where
    further : rows l column ≡ false → FirstWith rows column ls → FirstWith rows column (l ∷ ls)
    further e (found line has is same) =
        found line (or_right (eqb line l) (has_line line ls) has) is
        (ap (λ b. cond b (record { from = l; onto = column } ∷ []) (first_with rows column ls)) e ∙ same)
    further e (lacking none) = lacking (λ line has. elim (or_cases (eqb line l) (has_line line ls) has) [
      | inl same ↦ subst (λ z. rows z column ≡ false) (sym (eqb-true line l same)) e
      | inr later ↦ none line later
    ])

and_swap : (a b : Bool) → (a && b) ≡ (b && a)
and_swap true b = sym (and_true b)
and_swap false b = sym (and_nothing b)

-- an assignment for a column that no row of its line or of a later one has
abbrev unseen : Rows → ℕ → ℕ → Bool
unseen rows c x = xor (eqb c x) (rows x c)

-- some row of the column's line or of a later one has the column: otherwise its lines would determine a bit of each assignment
some_row_has : (n : ℕ) (lines : List ℕ) (c : ℕ) (later : List ℕ) (rows : Rows) → AreReduced n lines (c ∷ later) rows → c < n
    → rows c c ≡ false → ((line : ℕ) → has_line line later ≡ true → rows line c ≡ false) → ⊥
some_row_has n lines c later rows reduced low here none =
    let one : unseen rows c c ≡ true = ap (λ b. xor b (rows c c)) (eq-eqb c c refl) ∙ ap (xor true) here ∙ xor_one false in
    both_ways (unseen rows c c) (reduced.kernel (unseen rows c) zero_on c low) one
  where
    cleared : (line x : ℕ) → line < n → x < n → (rows line x && rows x c) ≡ (eqb line x && rows x c)
    cleared line x lt less = elim (cases_Bool (rows x c)) [
      | inl has ↦ ap (λ b. b && rows x c) (reduced.clear x line
          (false_from_ne_true (has_line x (c ∷ later)) (λ among. elim (or_cases (eqb x c) (has_line x later) among) [
            | inl e ↦ both_ways (rows x c) (subst (λ z. rows z c ≡ false) (sym (eqb-true x c e)) here) has
            | inr behind ↦ both_ways (rows x c) (none x behind) has
          ])) lt less)
      | inr lacks ↦ ap (λ b. rows line x && b) lacks ∙ and_nothing (rows line x) ∙ sym (ap (λ b. eqb line x && b) lacks ∙ and_nothing (eqb line x))
    ]

    zero_on : (line : ℕ) → line < n → value rows (unseen rows c) n line ≡ false
    zero_on line lt =
        parity-same (λ x. rows line x && unseen rows c x) (λ x. xor (eqb c x && rows line x) (eqb line x && rows x c)) n
        (λ x less. sym (xor-and_right (eqb c x) (rows x c) (rows line x))
        ∙ ap (λ b. xor b (rows line x && rows x c)) (and_swap (rows line x) (eqb c x))
        ∙ ap (xor (eqb c x && rows line x)) (cleared line x lt less))
        ∙ parity-xor (λ x. eqb c x && rows line x) (λ x. eqb line x && rows x c) n
        ∙ ap (λ b. xor b (parity (λ x. eqb line x && rows x c) n)) (parity-one (rows line) c n low)
        ∙ ap (xor (rows line c)) (parity-one (λ x. rows x c) line n lt) ∙ xor_same (rows line c)

-- the lines of an elimination
pub record AreLines (n : ℕ) (lines : List ℕ) : Type 0 where
  pub rising : IsRising lines
  pub low : (x : ℕ) → has_line x lines ≡ true → x < n

-- the columns that are still to come
record AreToCome (lines todo : List ℕ) : Type 0 where
  different : AreDifferent todo
  part : (x : ℕ) → has_line x todo ≡ true → has_line x lines ≡ true

lacks_from : (x : ℕ) (lines : List ℕ) → AllByRecursion (λ y. x ≢ y) lines → has_line x lines ≡ false
lacks_from x [] apart = refl
lacks_from x (y ∷ ys) apart = ap (λ b. b || has_line x ys) (ne_eqb x y apart.0) ∙ lacks_from x ys apart.1

-- what one of the two steps does
record IsStep (n : ℕ) (lines todo : List ℕ) (c : ℕ) (rows : Rows) (adds : List Addition) : Type 0 where
  within : AllByRecursion (IsWithin n lines todo) adds
  has : with_additions rows adds c c ≡ true

first_steps : (n : ℕ) (lines : List ℕ) (c : ℕ) (later : List ℕ) (rows : Rows) → AreLines n lines → AreToCome lines (c ∷ later)
    → AreReduced n lines (c ∷ later) rows → IsStep n lines (c ∷ later) c rows (first_step rows c later)
first_steps n lines c later rows are to_come reduced = elim (cases_Bool (rows c c)) [
  | inl has ↦ subst (IsStep n lines (c ∷ later) c rows) (sym (ap (λ b. cond b [] (first_with rows c later)) has)) (record { within = tt; has = has })
  | inr lacks ↦ subst (IsStep n lines (c ∷ later) c rows) (sym (ap (λ b. cond b [] (first_with rows c later)) lacks)) (by lacks (first_with_says rows c later))
]
  where
    here : has_line c lines ≡ true
    here = to_come.part c (or_left (eqb c c) (has_line c later) (eq-eqb c c refl))

    by : rows c c ≡ false → FirstWith rows c later → IsStep n lines (c ∷ later) c rows (first_with rows c later)
    by lacks (found line among is same) =
        let behind : has_line line (c ∷ later) ≡ true = or_right (eqb line c) (has_line line later) among in
        let differ : line ≢ c = λ e. both_ways (has_line line later) (subst (λ z. has_line z later ≡ false) (sym e)
        (lacks_from c later to_come.different.0)) among in
        subst (IsStep n lines (c ∷ later) c rows) (sym same) (record {
          within = (
            record {
              is = record { from = are.low line (to_come.part line behind); onto = are.low c here; differ = differ };
              from = behind;
              onto = here;
            },
            tt,
          );
          has = added-onto rows (record { from = line; onto = c }) c c refl ∙ ap (λ b. xor b (rows line c)) lacks ∙ xor_none (rows line c) ∙ is;
        })
    by lacks (lacking none) = absurd (some_row_has n lines c later rows reduced (are.low c here) lacks none)

-- ---- the second step

abbrev pub from_to : ℕ → ℕ → Addition
from_to c line = record { from = c; onto = line }

pub has_line-filter : (x : ℕ) (test : ℕ → Bool) (lines : List ℕ) → has_line x (filter test lines) ≡ (has_line x lines && test x)
has_line-filter x test [] = refl
has_line-filter x test (y ∷ ys) = elim (cases_Bool (test y)) [
  | inl passes ↦ rw passes (taken (eqb x y) (has_line x (filter test ys)) (has_line x ys) (test x) (has_line-filter x test ys)
      (λ e. subst (λ z. test z ≡ true) (sym (eqb-true x y e)) passes))
  | inr fails ↦ rw fails (left (eqb x y) (has_line x (filter test ys)) (has_line x ys) (test x) (has_line-filter x test ys)
      (λ e. subst (λ z. test z ≡ false) (sym (eqb-true x y e)) fails))
]
  where
    taken : (same among has t : Bool) → among ≡ (has && t) → (same ≡ true → t ≡ true) → (same || among) ≡ ((same || has) && t)
    taken true among has t e passes = sym (passes refl)
    taken false among has t e passes = e

    left : (same among has t : Bool) → among ≡ (has && t) → (same ≡ true → t ≡ false) → among ≡ ((same || has) && t)
    left true among has t e fails = e ∙ ap (λ b. has && b) (fails refl) ∙ and_nothing has ∙ sym (fails refl)
    left false among has t e fails = e

second_column : (c : ℕ) (lines : List ℕ) (rows : Rows) → AreDifferent lines → has_line c lines ≡ false → rows c c ≡ true
    → (line : ℕ) → with_additions rows (map (from_to c) lines) line c ≡ xor (has_line line lines) (rows line c)
second_column c [] rows different apart has line = sym (xor_none (rows line c))
second_column c (m ∷ ms) rows different apart has line =
    let parts = or_parts (eqb c m) (has_line c ms) apart in
    let still : with_addition rows (from_to c m) c c ≡ true = added-other rows (from_to c m) c c (eqb-false c m parts.0) ∙ has in
    second_column c ms (with_addition rows (from_to c m)) different.1 parts.1 still line ∙ elim (cases_eq line m) [
      | inl e ↦
          ap (λ b. xor b (with_addition rows (from_to c m) line c)) (ap (λ l. has_line l ms) e ∙ lacks_from m ms different.0)
          ∙ xor_none (with_addition rows (from_to c m) line c)
          ∙ added-onto rows (from_to c m) line c e ∙ ap (xor (rows line c)) has ∙ xor_swap (rows line c) true
          ∙ sym (ap (λ b. xor (b || has_line line ms) (rows line c)) (eq-eqb line m e))
      | inr ne ↦
          ap (xor (has_line line ms)) (added-other rows (from_to c m) line c ne)
          ∙ sym (ap (λ b. xor (b || has_line line ms) (rows line c)) (ne_eqb line m ne))
    ]

-- the lines whose rows lose the column
abbrev losing : Rows → ℕ → List ℕ → List ℕ
losing rows c lines = filter (λ line. not (eqb line c) && rows line c) lines

loses : (rows : Rows) (c line : ℕ) (lines : List ℕ) → has_line line (losing rows c lines) ≡ (has_line line lines && (not (eqb line c) && rows line c))
loses rows c line lines = has_line-filter line (λ l. not (eqb l c) && rows l c) lines

never_itself : (rows : Rows) (c : ℕ) (lines : List ℕ) → has_line c (losing rows c lines) ≡ false
never_itself rows c lines =
    loses rows c c lines ∙ ap (λ b. has_line c lines && (not b && rows c c)) (eq-eqb c c refl) ∙ and_nothing (has_line c lines)

column_cleared : (n : ℕ) (lines todo : List ℕ) (c : ℕ) (rows : Rows) → AreLines n lines → AreReduced n lines todo rows → c < n → rows c c ≡ true
    → (line : ℕ) → line < n → with_additions rows (second_step rows c lines) line c ≡ eqb line c
column_cleared n lines todo c rows are reduced low has line lt =
    second_column c (losing rows c lines) rows
    (AreDifferent-rising (losing rows c lines) (IsRising-filter (λ l. not (eqb l c) && rows l c) lines are.rising))
    (never_itself rows c lines) has line
    ∙ elim (cases_eq line c) [
      | inl e ↦
          ap (λ b. xor b (rows line c)) (ap (λ l. has_line l (losing rows c lines)) e ∙ never_itself rows c lines)
          ∙ xor_none (rows line c) ∙ ap (λ l. rows l c) e ∙ has ∙ sym (eq-eqb line c e)
      | inr ne ↦
          ap (λ b. xor b (rows line c)) (loses rows c line lines ∙ ap (λ b. has_line line lines && (not b && rows line c)) (ne_eqb line c ne))
          ∙ elsewhere ne (cases_Bool (has_line line lines))
    ]
  where
    elsewhere : line ≢ c → (has_line line lines ≡ true) ⊎ (has_line line lines ≡ false) → xor (has_line line lines && rows line c) (rows line c) ≡ eqb line c
    elsewhere ne (inl among) = ap (λ b. xor (b && rows line c) (rows line c)) among ∙ xor_same (rows line c) ∙ sym (ne_eqb line c ne)
    elsewhere ne (inr other) =
        ap (λ b. xor (b && rows line c) (rows line c)) other ∙ xor_none (rows line c) ∙ reduced.own line c other lt low

second_within : (n : ℕ) (lines todo : List ℕ) (c : ℕ) (rows : Rows) → c < n → has_line c todo ≡ true → (ms : List ℕ)
    → AllByRecursion (λ m. (has_line m lines ≡ true) × (m < n) × (c ≢ m)) ms → AllByRecursion (IsWithin n lines todo) (map (from_to c) ms)
second_within n lines todo c rows low among [] all = tt
second_within n lines todo c rows low among (m ∷ ms) all = (
  record { is = record { from = low; onto = all.0.1; differ = all.0.2 }; from = among; onto = all.0.0 },
  second_within n lines todo c rows low among ms all.1,
)

all_that_has : (P : ℕ → Type 0) (ms : List ℕ) → ((m : ℕ) → has_line m ms ≡ true → P m) → AllByRecursion P ms
all_that_has P [] each = tt
all_that_has P (m ∷ ms) each = (
  each m (or_left (eqb m m) (has_line m ms) (eq-eqb m m refl)),
  all_that_has P ms (λ x has. each x (or_right (eqb x m) (has_line x ms) has)),
)

-- ---- both steps, column by column

record AreSteps (n : ℕ) (lines later : List ℕ) (rows : Rows) (adds : List Addition) : Type 0 where
  all : AllByRecursion (IsAddition n) adds
  reduced : AreReduced n lines later (with_additions rows adds)

is_addition : (n : ℕ) (lines todo : List ℕ) (adds : List Addition) → AllByRecursion (IsWithin n lines todo) adds → AllByRecursion (IsAddition n) adds
is_addition n lines todo [] all = tt
is_addition n lines todo (a ∷ adds) all = (all.0.is, is_addition n lines todo adds all.1)

steps_reduce : (n : ℕ) (lines : List ℕ) (c : ℕ) (later : List ℕ) (rows : Rows) → AreLines n lines → AreToCome lines (c ∷ later)
    → AreReduced n lines (c ∷ later) rows → AreSteps n lines later rows (steps_at rows lines c later)
steps_reduce n lines c later rows are to_come reduced =
    let here : has_line c (c ∷ later) ≡ true = or_left (eqb c c) (has_line c later) (eq-eqb c c refl) in
    let low : c < n = are.low c (to_come.part c here) in
    let first = first_step rows c later in
    let one = first_steps n lines c later rows are to_come reduced in
    let now = with_additions rows first in
    let reduced_now = kept (AreReduced n lines (c ∷ later)) (IsWithin n lines (c ∷ later)) (reduced_kept n lines (c ∷ later)) rows first one.within reduced in
    let second = second_step now c lines in
    let within = second_within n lines (c ∷ later) c now low here (losing now c lines)
    (all_that_has (λ m. (has_line m lines ≡ true) × (m < n) × (c ≢ m)) (losing now c lines) (λ m has.
    let parts = and_parts (has_line m lines) (not (eqb m c) && now m c) (sym (loses now c m lines) ∙ has) in
    (parts.0, are.low m parts.0, λ e. eqb-false m c (not-true (eqb m c) (and_parts (not (eqb m c)) (now m c) parts.1).0) (sym e)))) in
    let reduced_then = kept (AreReduced n lines (c ∷ later)) (IsWithin n lines (c ∷ later)) (reduced_kept n lines (c ∷ later)) now second within reduced_now in
    record {
      all = AllByRecursion-append (IsAddition n) first second (is_addition n lines (c ∷ later) first one.within) (is_addition n lines
          (c ∷ later) second within);
      reduced = subst (AreReduced n lines later) (sym (with_additions-append rows first second)) (record {
        clear = λ x line lacks lt less. elim (cases_eq x c) as (λ _. with_additions now second line x ≡ eqb line x) [
          | inl e ↦ subst (λ z. with_additions now second line z ≡ eqb line z) (sym e)
              (column_cleared n lines (c ∷ later) c now are reduced_now low one.has line lt)
          | inr ne ↦ reduced_then.clear x line (ap (λ b. b || has_line x later) (ne_eqb x c ne) ∙ lacks) lt less
        ];
        own = reduced_then.own;
        kernel = reduced_then.kernel;
      });
    }

record Clears (n : ℕ) (rows : Rows) (adds : List Addition) : Type 0 where
  all : AllByRecursion (IsAddition n) adds
  own : (line x : ℕ) → line < n → x < n → with_additions rows adds line x ≡ eqb line x

noted_clears : (n : ℕ) (lines : List ℕ) → AreLines n lines → (todo : List ℕ) (rows : Rows) → AreToCome lines todo → AreReduced n lines todo rows
    → Clears n rows (noted rows lines todo)
noted_clears n lines are [] rows to_come reduced = record { all = tt; own = λ line x lt less. reduced.clear x line refl lt less }
noted_clears n lines are (c ∷ later) rows to_come reduced =
    let steps = steps_at rows lines c later in
    let done = steps_reduce n lines c later rows are to_come reduced in
    let rest = noted_clears n lines are later (with_additions rows steps)
    (record { different = to_come.different.1; part = λ x has. to_come.part x (or_right (eqb x c) (has_line x later) has) }) done.reduced in
    record {
      all = AllByRecursion-append (IsAddition n) steps (noted (with_additions rows steps) lines later) done.all rest.all;
      own = λ line x lt less.
          ap (λ (r : Rows). r line x) (with_additions-append rows steps (noted (with_additions rows steps) lines later)) ∙ rest.own line x lt less;
    }

-- ---- the line map

gate_on : (n : ℕ) (a : Addition) → IsAddition n a → IsGateOn n (gate_of (cx a))
gate_on n a is = record { different = ((is.differ, tt), (tt, tt)); in_range = (is.from, (is.onto, tt)) }

pub gates_on : (n : ℕ) (adds : List Addition) → AllByRecursion (IsAddition n) adds → AllByRecursion (λ flip. IsGateOn n (gate_of flip)) (map cx adds)
gates_on n [] all = tt
gates_on n (a ∷ adds) all = (gate_on n a all.0, gates_on n adds all.1)

gates_of_cxs : (n : ℕ) (adds : List Addition) → AllByRecursion (IsAddition n) adds → AreGatesOn n (gates_of (map cx adds))
gates_of_cxs n [] all = tt
gates_of_cxs n (a ∷ adds) all = (gate_on n a all.0, gates_of_cxs n adds all.1)

gates-reverse : (adds : List Addition) → gates_of (map cx (reverse adds)) ≡ reverse (gates_of (map cx adds))
gates-reverse [] = refl
gates-reverse (a ∷ adds) =
    ap (λ l. gates_of (map cx l)) (reverse-append (a ∷ []) adds)
    ∙ ap gates_of (map-append cx (reverse adds) (a ∷ [])) ∙ map-append gate_of (map cx (reverse adds)) (cx a ∷ [])
    ∙ ap (λ l. l ++ gate_of (cx a) ∷ []) (gates-reverse adds)
    ∙ sym (reverse-append (gate_of (cx a) ∷ []) (gates_of (map cx adds)))

-- what an elimination does
pub record Replaces (n : ℕ) (old : List Addition) (now : List Addition) : Type 0 where
  pub all : AllByRecursion (IsAddition n) now
  pub same : (bits : List Bool) → length bits ≡ n → line_map (gates_of (map cx now)) bits ≡ line_map (gates_of (map cx old)) bits

pub eliminated_replaces : (n : ℕ) (lines : List ℕ) (adds : List Addition) → AreLines n lines → AllByRecursion (IsWithin n lines lines) adds
    → Replaces n adds (eliminated lines adds)
eliminated_replaces n lines adds are within =
    let rows = with_additions own_rows adds in
    let notes = noted rows lines lines in
    let done = noted_clears n lines are lines rows (record { different = AreDifferent-rising lines are.rising; part = λ x has. has })
    (kept (AreReduced n lines lines) (IsWithin n lines lines) (reduced_kept n lines lines) own_rows adds within (reduced_at_first n lines)) in
    record {
      all = AllByRecursion-reverse (IsAddition n) notes done.all;
      same = λ bits long.
          let now = line_map (gates_of (map cx adds)) bits in
          let rows_now = rows_after n adds own_rows bits bits (is_addition n lines lines adds within) (own_rows_are n bits long) in
          let back : line_map (gates_of (map cx notes)) now ≡ bits =
          own_is_nothing n (with_additions rows notes) bits (line_map (gates_of (map cx notes)) now) long
          (rows_after n notes rows bits now done.all rows_now) done.own in
          ap (λ gs. line_map gs bits) (gates-reverse notes)
          ∙ ap (line_map (reverse (gates_of (map cx notes)))) (sym back)
          ∙ reversed_behind (gates_of (map cx notes)) now (subst (λ m. AreGatesOn m (gates_of (map cx notes))) (sym rows_now.long)
          (gates_of_cxs n notes done.all));
    }
