-- Rows as bits of words: what the steps on words do to the rows that they hold.
use Rattle.std.proofs.Common.{◌≡◌, ◌≢◌, ℕ, zero, suc, ◌+◌, ◌*◌, ◌%◌, ◌^◌, ◌<◌, ◌≤◌, ◌==◌, bit_xor, inl, inr, Bool, true, false, not, ◌&&◌, eqb, cond, List}
use Rattle.std.proofs.Common.{[], ◌∷◌, ◌++◌}
use Rattle.std.proofs.Common.{length, map, filter, take, drop, reverse, Result, set, get_or, refl, sym, ap, ◌∙◌, subst, arith}
use Rattle.std.specs.Bool.{xor}
use Rattle.std.specs.List.{AllByRecursion}
use Rattle.std.specs.Result.{OnOk}
use Rattle.std.proofs.lemmas.Result.{on_ok_weaker}
use Rattle.std.proofs.lemmas.Bool.{cases_Bool, cases_eq, eq-eqb, ne_eqb}
use Rattle.std.proofs.lemmas.List.{append_assoc, append-nil, drop_more, drop_all, get_or-set_same, get_or-set_other, get_or_append_left, get_or_push}
use Rattle.std.proofs.lemmas.List.{get_or_read, length-set, map-append, map_more, reverse-append, take_more, take_all}
use Rattle.std.proofs.lemmas.List.Elements.{filter-append}
use Rattle.std.proofs.lemmas.Nat.{one_shl}
use Rattle.std.proofs.lemmas.Nat.Bits.{bit_at_xor, bit_at-lt, bit_at-pow_same, bit_at-pow_other}
use Rattle.list_facts.specs.Lists.{IsRising, AreDifferent}
use Rattle.list_facts.proofs.AllLemmas.{AllByRecursion-at}
use Rattle.list_facts.proofs.BitLemmas.{is_one-sum}
use Rattle.list_facts.proofs.OrderLemmas.{AreDifferent-rising}
use Rattle.flip_lists.specs.declared.flip.Flip.{Flip}
use Rattle.circuit_tidy.specs.Blocks.{addition_of, cx}
use Rattle.circuit_tidy.specs.Elimination.{Addition, Rows, own_rows, with_addition, with_additions, first_with, first_step, second_step, noted}
use Rattle.circuit_tidy.specs.inside.BitRows.{bit_at_place, HoldRows, AreOwnWords, AddsRow, AddRows, IsNoted, between_places}
use Rattle.circuit_tidy.proofs.EliminationLemmas.{added-onto, added-other, with_additions-append, from_to}

-- ---- bits

pub bit-xor : (place a b : ℕ) → bit_at_place place (bit_xor a b) ≡ xor (bit_at_place place a) (bit_at_place place b)
bit-xor place a b = ap (λ (x : ℕ). x == 1) (bit_at_xor a b place) ∙ is_one-sum _ _ (bit_at-lt a place) (bit_at-lt b place)

pub bit-power : (place other : ℕ) → bit_at_place other (2 ^ place) ≡ eqb place other
bit-power place other = elim (cases_eq other place) [
  | inl e ↦ ap (λ p. bit_at_place p (2 ^ place)) e ∙ ap (λ (x : ℕ). x == 1) (bit_at-pow_same place) ∙ sym (eq-eqb place other (sym e))
  | inr ne ↦ ap (λ (x : ℕ). x == 1) (bit_at-pow_other place other ne) ∙ sym (ne_eqb place other (λ e. ne (sym e)))
]

-- a bit of a word that was read
pub read_bit : (words : List ℕ) (place column read : ℕ) (b : Bool) → b ≡ bit_at_place column read → place < length words → read ≡ get_or words place read
    → b ≡ bit_at_place column (get_or words place 0)
read_bit words place column read b e low is = e ∙ ap (bit_at_place column) (get_or_read words place read low is 0)

-- ---- different lines

pub line_at_differs : (lines : List ℕ) → AreDifferent lines → (p q : ℕ) → p < length lines → q < length lines → p ≢ q → get_or lines p 0 ≢ get_or lines q 0
line_at_differs [] different p q lp lq ne e = omega (arith, lp)
line_at_differs (x ∷ xs) different zero zero lp lq ne e = ne refl
line_at_differs (x ∷ xs) different zero (suc q) lp lq ne e =
    AllByRecursion-at (λ y. x ≢ y) xs q 0 different.0 (omega (arith, lq)) e
line_at_differs (x ∷ xs) different (suc p) zero lp lq ne e =
    AllByRecursion-at (λ y. x ≢ y) xs p 0 different.0 (omega (arith, lp)) (sym e)
line_at_differs (x ∷ xs) different (suc p) (suc q) lp lq ne e =
    line_at_differs xs different.1 p q (omega (arith, lp)) (omega (arith, lq)) (λ same. ne (ap suc same)) e

pub own_words_hold : (lines words : List ℕ) → IsRising lines → AreOwnWords (length lines) words → HoldRows lines words own_rows
own_words_hold lines words up own = record {
  long = own.long;
  each = λ p q lp lq. own.each p q lp lq ∙ elim (cases_eq p q) as (λ _. eqb p q ≡ eqb (get_or lines p 0) (get_or lines q 0)) [
    | inl e ↦ eq-eqb p q e ∙ sym (eq-eqb (get_or lines p 0) (get_or lines q 0) (ap (λ i. get_or lines i 0) e))
    | inr ne ↦ ne_eqb p q ne ∙ sym (ne_eqb (get_or lines p 0) (get_or lines q 0) (line_at_differs lines (AreDifferent-rising lines up) p q lp lq ne))
  ];
}

pub own_more : (count : ℕ) (words now : List ℕ) (word : ℕ) → count < 64 → word ≡ 1 * 2 ^ count % 2 ^ 64 → now ≡ words ++ word ∷ [] → ((p q : ℕ) → p < count
    → q < 64 → bit_at_place q (get_or words p 0) ≡ eqb p q)
    → length words ≡ count → (p q : ℕ) → p < count + 1 → q < 64 → bit_at_place q (get_or now p 0) ≡ eqb p q
own_more count words now word small is pushed each long p q lp lq = ap (λ l. bit_at_place q (get_or l p 0)) pushed ∙ elim (cases_eq p count) [
  | inl e ↦ ap (bit_at_place q) (get_or_push words word 0 p (long ∙ sym e) ∙ is ∙ one_shl count 64 small) ∙ bit-power count q ∙ ap (λ i. eqb i q) (sym e)
  | inr ne ↦
      let low : p < count = let other : p ≢ count = ne in omega arith in
      ap (bit_at_place q) (get_or_append_left words (word ∷ []) 0 p (omega (arith, low, long))) ∙ each p q low lq
]

-- ---- one addition

pub adds_row : (lines old : List ℕ) (from onto value : ℕ) (a : Addition) → IsRising lines → length old ≡ length lines → from < length lines
    → onto < length lines
    → value ≡ bit_xor (get_or old onto 0) (get_or old from 0) → a.from ≡ get_or lines from 0 → a.onto ≡ get_or lines onto 0
    → AddsRow lines old (set old onto value) a
adds_row lines old from onto value a up long lf lo is at_from at_onto = record {
  long = length-set old onto value;
  holds = λ rows hold. record {
    long = length-set old onto value ∙ long;
    each = λ p q lp lq. elim (cases_eq p onto) as (λ _. bit_at_place q (get_or (set old onto value) p 0) ≡ with_addition rows a (get_or lines p 0)
        (get_or lines q 0)) [
          | inl e ↦
              ap (bit_at_place q) (ap (λ i. get_or (set old onto value) i 0) e ∙ get_or-set_same old onto value 0 (omega (arith, lo, long)) ∙ is)
              ∙ bit-xor q (get_or old onto 0) (get_or old from 0)
              ∙ ap (λ b. xor b (bit_at_place q (get_or old from 0))) (ap (λ i. bit_at_place q (get_or old i 0)) (sym e) ∙ hold.each p q lp lq)
              ∙ ap (xor (rows (get_or lines p 0) (get_or lines q 0))) (hold.each from q lf lq ∙ ap (λ l. rows l (get_or lines q 0)) (sym at_from))
              ∙ sym (added-onto rows a (get_or lines p 0) (get_or lines q 0) (ap (λ i. get_or lines i 0) e ∙ sym at_onto))
          | inr ne ↦
              ap (bit_at_place q) (get_or-set_other old onto p value 0 ne) ∙ hold.each p q lp lq
              ∙ sym (added-other rows a (get_or lines p 0) (get_or lines q 0)
              (λ same. line_at_differs lines (AreDifferent-rising lines up) p onto lp lo ne (same ∙ at_onto)))
        ];
  };
}

pub one_more_added : (lines old mid new : List ℕ) (adds : List Addition) (a : Addition) → AddRows lines old mid adds → AddsRow lines mid new a
    → AddRows lines old new (adds ++ a ∷ [])
one_more_added lines old mid new adds a these this =
    record {
      holds = λ rows hold. subst (HoldRows lines new) (sym (with_additions-append rows adds (a ∷ []))) (this.holds (with_additions rows adds)
          (these.holds rows hold));
    }

-- ---- the first step

-- nothing is to be done
pub noted_nothing : (lines words : List ℕ) (notes : List Flip) (steps : Rows → List Addition) → ((rows : Rows) → HoldRows lines words rows → steps rows ≡ [])
    → IsNoted lines words words notes notes steps
noted_nothing lines words notes steps none = record {
  long = refl;
  holds = λ rows hold. subst (HoldRows lines words) (sym (ap (with_additions rows) (none rows hold))) hold;
  notes = λ rows hold. sym (append-nil notes) ∙ sym (ap (λ l. notes ++ map cx l) (none rows hold));
}

pub noted_one : (lines old new : List ℕ) (before behind : List Flip) (a : Addition) (steps : Rows → List Addition)
    → ((rows : Rows) → HoldRows lines old rows → steps rows ≡ a ∷ []) → AddsRow lines old new a → behind ≡ before ++ cx a ∷ []
    → IsNoted lines old new before behind steps
noted_one lines old new before behind a steps one adds is = record {
  long = adds.long;
  holds = λ rows hold. subst (HoldRows lines new) (sym (ap (with_additions rows) (one rows hold))) (adds.holds rows hold);
  notes = λ rows hold. is ∙ sym (ap (λ l. before ++ map cx l) (one rows hold));
}

pub first_has : (lines words : List ℕ) (c : ℕ) (later : List ℕ) (rows : Rows) → HoldRows lines words rows → c < length lines
    → bit_at_place c (get_or words c 0) ≡ true
    → first_step rows (get_or lines c 0) later ≡ []
first_has lines words c later rows hold lt has =
    ap (λ b. cond b [] (first_with rows (get_or lines c 0) later)) (sym (hold.each c c lt lt) ∙ has)

pub first_lacks : (lines words : List ℕ) (c : ℕ) (later : List ℕ) (rows : Rows) → HoldRows lines words rows → c < length lines
    → bit_at_place c (get_or words c 0) ≡ false
    → first_step rows (get_or lines c 0) later ≡ first_with rows (get_or lines c 0) later
first_lacks lines words c later rows hold lt lacks =
    ap (λ b. cond b [] (first_with rows (get_or lines c 0) later)) (sym (hold.each c c lt lt) ∙ lacks)

pub first_with-found : (lines words : List ℕ) (c place : ℕ) (rows : Rows) → HoldRows lines words rows → c < length lines → place < length lines
    → bit_at_place c (get_or words place 0) ≡ true
    → first_with rows (get_or lines c 0) (drop place lines) ≡ between_places lines place c ∷ []
first_with-found lines words c place rows hold lc lp has =
    ap (first_with rows (get_or lines c 0)) (drop_more lines place 0 lp)
    ∙ ap (λ b. cond b (between_places lines place c ∷ []) (first_with rows (get_or lines c 0) (drop (place + 1) lines))) (sym (hold.each place c lp lc) ∙ has)

pub first_with-passed : (lines words : List ℕ) (c place : ℕ) (rows : Rows) → HoldRows lines words rows → c < length lines → place < length lines
    → bit_at_place c (get_or words place 0) ≡ false
    → first_with rows (get_or lines c 0) (drop place lines) ≡ first_with rows (get_or lines c 0) (drop (place + 1) lines)
first_with-passed lines words c place rows hold lc lp lacks =
    ap (first_with rows (get_or lines c 0)) (drop_more lines place 0 lp)
    ∙ ap (λ b. cond b (between_places lines place c ∷ []) (first_with rows (get_or lines c 0) (drop (place + 1) lines))) (sym (hold.each place c lp lc) ∙ lacks)

-- ---- the second step

abbrev keeps_column : Rows → ℕ → ℕ → Bool
keeps_column rows c line = not (eqb line c) && rows line c

pub second-has : (rows : Rows) (c line : ℕ) → line ≢ c → rows line c ≡ true → second_step rows c (line ∷ []) ≡ from_to c line ∷ []
second-has rows c line ne has =
    ap (λ b. map (from_to c) (cond (not b && rows line c) (line ∷ []) [])) (ne_eqb line c ne) ∙ ap (λ b. map (from_to c) (cond b (line ∷ []) [])) has

-- additions onto other lines leave a row
row_stays : (c line x : ℕ) (ms : List ℕ) (rows : Rows) → AllByRecursion (λ m. line ≢ m) ms → with_additions rows (map (from_to c) ms) line x ≡ rows line x
row_stays c line x [] rows apart = refl
row_stays c line x (m ∷ ms) rows apart = row_stays c line x ms (with_addition rows (from_to c m)) apart.1 ∙ added-other rows (from_to c m) line x apart.0

filter_apart : (test : ℕ → Bool) (line : ℕ) (xs : List ℕ) → AllByRecursion (λ m. line ≢ m) xs → AllByRecursion (λ m. line ≢ m) (filter test xs)
filter_apart test line [] apart = tt
filter_apart test line (x ∷ xs) apart =
    elim (cases_Bool (test x)) [
      | inl e ↦ rw e (apart.0, filter_apart test line xs apart.1)
      | inr e ↦ rw e (filter_apart test line xs apart.1)
    ]

-- a line is none of those before it
apart_before : (lines : List ℕ) → AreDifferent lines → (place : ℕ) → place < length lines → AllByRecursion (λ m. get_or lines place 0 ≢ m) (take place lines)
apart_before [] different place lt = absurd (omega (arith, lt))
apart_before (x ∷ xs) different zero lt = tt
apart_before (x ∷ xs) different (suc place) lt = (
  λ e. AllByRecursion-at (λ y. x ≢ y) xs place 0 different.0 (omega (arith, lt)) (sym e),
  apart_before xs different.1 place (omega (arith, lt)),
)

second_step-append : (rows : Rows) (c : ℕ) (xs ys : List ℕ) → second_step rows c (xs ++ ys) ≡ second_step rows c xs ++ second_step rows c ys
second_step-append rows c xs ys =
    ap (map (from_to c)) (filter-append (keeps_column rows c) xs ys)
    ∙ map-append (from_to c) (filter (keeps_column rows c) xs) (filter (keeps_column rows c) ys)

second-same : (rows other : Rows) (c line : ℕ) → other line c ≡ rows line c → second_step other c (line ∷ []) ≡ second_step rows c (line ∷ [])
second-same rows other c line e = ap (λ b. map (from_to c) (cond (not (eqb line c) && b) (line ∷ []) [])) e

pub second_begun : (lines words : List ℕ) (notes : List Flip) (c : ℕ) → IsNoted lines words words notes notes (λ rows. second_step rows c (take 0 lines))
second_begun lines words notes c = noted_nothing lines words notes (λ rows. second_step rows c (take 0 lines)) (λ rows hold. refl)

pub second_more : (lines old mid new : List ℕ) (before between behind : List Flip) (c place : ℕ) → IsRising lines → place < length lines
    → IsNoted lines old mid before between (λ rows. second_step rows c (take place lines))
    → IsNoted lines mid new between behind (λ rows. second_step rows c (get_or lines place 0 ∷ []))
    → IsNoted lines old new before behind (λ rows. second_step rows c (take (place + 1) lines))
second_more lines old mid new before between behind c place up lt these this = record {
  long = this.long ∙ these.long;
  holds = λ rows hold.
      let now = with_additions rows (second_step rows c (take place lines)) in
      subst (HoldRows lines new) (sym (ap (with_additions rows) (whole rows)
      ∙ with_additions-append rows (second_step rows c (take place lines)) (second_step rows c (get_or lines place 0 ∷ []))))
      (subst (λ adds. HoldRows lines new (with_additions now adds)) (still rows) (this.holds now (these.holds rows hold)));
  notes = λ rows hold.
      let now = with_additions rows (second_step rows c (take place lines)) in
      this.notes now (these.holds rows hold)
      ∙ ap (λ adds. between ++ map cx adds) (still rows)
      ∙ ap (λ l. l ++ map cx (second_step rows c (get_or lines place 0 ∷ []))) (these.notes rows hold)
      ∙ append_assoc before (map cx (second_step rows c (take place lines))) (map cx (second_step rows c (get_or lines place 0 ∷ [])))
      ∙ ap (λ l. before ++ l) (sym (map-append cx (second_step rows c (take place lines)) (second_step rows c (get_or lines place 0 ∷ []))))
      ∙ sym (ap (λ adds. before ++ map cx adds) (whole rows));
}
  where
    whole : (rows : Rows) → second_step rows c (take (place + 1) lines) ≡ second_step rows c (take place lines) ++ second_step rows c
        (get_or lines place 0 ∷ [])
    whole rows = ap (second_step rows c) (take_more lines place 0 lt) ∙ second_step-append rows c (take place lines) (get_or lines place 0 ∷ [])

    still : (rows : Rows) → second_step (with_additions rows (second_step rows c (take place lines))) c (get_or lines place 0 ∷ []) ≡ second_step rows c
        (get_or lines place 0 ∷ [])
    still rows = second-same rows (with_additions rows (second_step rows c (take place lines))) c (get_or lines place 0)
        (row_stays c (get_or lines place 0) c (filter (keeps_column rows c) (take place lines)) rows
        (filter_apart (keeps_column rows c) (get_or lines place 0) (take place lines) (apart_before lines (AreDifferent-rising lines up) place lt)))

-- ---- column by column

pub record IsNoting (lines words : List ℕ) (whole : List Addition) (column : ℕ) (notes : List Flip) : Type 0 where
  pub rows : Rows
  pub hold : HoldRows lines words rows
  pub left : notes ++ map cx (noted rows lines (drop column lines)) ≡ map cx whole

pub noting_begun : (lines words now : List ℕ) (adds : List Addition) → IsRising lines → AreOwnWords (length lines) words → AddRows lines words now adds
    → IsNoting lines now (noted (with_additions own_rows adds) lines lines) 0 []
noting_begun lines words now adds up own added =
    record { rows = with_additions own_rows adds; hold = added.holds own_rows (own_words_hold lines words up own); left = refl }

pub noting_more : (lines old mid new : List ℕ) (whole : List Addition) (column : ℕ) (before between behind : List Flip) → column < length lines
    → IsNoting lines old whole column before
    → IsNoted lines old mid before between (λ rows. first_step rows (get_or lines column 0) (drop (column + 1) lines))
    → IsNoted lines mid new between behind (λ rows. second_step rows (get_or lines column 0) lines)
    → IsNoting lines new whole (column + 1) behind
noting_more lines old mid new whole column before between behind lt noting one two =
    let c = get_or lines column 0 in
    let later = drop (column + 1) lines in
    let rows = noting.rows in
    let first = first_step rows c later in
    let then = with_additions rows first in
    let second = second_step then c lines in
    let steps = first ++ second in
    let rest = noted (with_additions rows steps) lines later in
    let held = one.holds rows noting.hold in
    record {
      rows = with_additions rows steps;
      hold = subst (HoldRows lines new) (sym (with_additions-append rows first second)) (two.holds then held);
      left =
          ap (λ l. l ++ map cx rest) (two.notes then held ∙ ap (λ l. l ++ map cx second) (one.notes rows noting.hold))
          ∙ append_assoc (before ++ map cx first) (map cx second) (map cx rest) ∙ append_assoc before (map cx first) (map cx second ++ map cx rest)
          ∙ ap (λ l. before ++ l) (sym (append_assoc (map cx first) (map cx second) (map cx rest))
          ∙ ap (λ l. l ++ map cx rest) (sym (map-append cx first second)) ∙ sym (map-append cx steps rest))
          ∙ ap (λ l. before ++ map cx (noted rows lines l)) (sym (drop_more lines column 0 lt))
          ∙ noting.left;
    }

pub noting_done : (lines words : List ℕ) (whole : List Addition) (column : ℕ) (notes : List Flip) → length lines ≤ column
    → IsNoting lines words whole column notes
    → notes ≡ map cx whole
noting_done lines words whole column notes le noting =
    sym (append-nil notes) ∙ sym (ap (λ l. notes ++ map cx (noted noting.rows lines l)) (drop_all column lines le)) ∙ noting.left

map_cx-reverse : (adds : List Addition) → reverse (map cx adds) ≡ map cx (reverse adds)
map_cx-reverse [] = refl
map_cx-reverse (a ∷ adds) =
    reverse-append (cx a ∷ []) (map cx adds) ∙ ap (λ l. l ++ cx a ∷ []) (map_cx-reverse adds)
    ∙ sym (ap (map cx) (reverse-append (a ∷ []) adds) ∙ map-append cx (reverse adds) (a ∷ []))

pub noting_reversed : (lines words : List ℕ) (whole : List Addition) (column : ℕ) (notes : List Flip) → length lines ≤ column
    → IsNoting lines words whole column notes
    → reverse notes ≡ map cx (reverse whole)
noting_reversed lines words whole column notes le noting = ap reverse (noting_done lines words whole column notes le noting) ∙ map_cx-reverse whole

pub block_more : (lines old mid new : List ℕ) (block : List Flip) (i : ℕ) (d : Flip) → i < length block → AddRows lines old mid (map addition_of (take i block))
    → AddsRow lines mid new (addition_of (get_or block i d)) → AddRows lines old new (map addition_of (take (i + 1) block))
block_more lines old mid new block i d lt these this =
    subst (AddRows lines old new) (sym (map_more addition_of block i d lt))
    (one_more_added lines old mid new (map addition_of (take i block)) (addition_of (get_or block i d)) these this)

-- a row of a later line was found
pub found_first : (lines old now new : List ℕ) (before between behind : List Flip) (c place : ℕ) {E : Type 0} (r : Result (Unit {0}) E) → c < length lines
    → place < length lines
    → false ≡ bit_at_place c (get_or old c 0) → now ≡ old → between ≡ before
    → ((rows : Rows) → HoldRows lines now rows → first_with rows (get_or lines c 0) (drop (c + 1) lines) ≡ first_with rows (get_or lines c 0)
    (drop place lines))
    → true ≡ bit_at_place c (get_or now place 0) → AddsRow lines now new (between_places lines place c)
    → OnOk r (behind ≡ between ++ cx (between_places lines place c) ∷ [])
    → OnOk r (IsNoted lines old new before behind (λ rows. first_step rows (get_or lines c 0) (drop (c + 1) lines)))
found_first lines old now new before between behind c place r lc lp lacks same kept passed has adds notes =
    let added : AddsRow lines old new (between_places lines place c) = subst (λ w. AddsRow lines w new (between_places lines place c)) same adds in
    on_ok_weaker r (λ is. noted_one lines old new before behind (between_places lines place c) (λ rows. first_step rows (get_or lines c 0) (drop (c + 1) lines))
    (λ rows hold. let hold_now : HoldRows lines now rows = subst (λ w. HoldRows lines w rows) (sym same) hold in
    first_lacks lines old c (drop (c + 1) lines) rows hold lc (sym lacks) ∙ passed rows hold_now
    ∙ first_with-found lines now c place rows hold_now lc lp (sym has))
    added (is ∙ ap (λ l. l ++ cx (between_places lines place c) ∷ []) kept)) notes

pub found_no_first : (lines old now : List ℕ) (before behind : List Flip) (c place : ℕ) → c < length lines → length lines ≤ place
    → false ≡ bit_at_place c (get_or old c 0) → now ≡ old → behind ≡ before
    → ((rows : Rows) → HoldRows lines now rows → first_with rows (get_or lines c 0) (drop (c + 1) lines) ≡ first_with rows (get_or lines c 0)
    (drop place lines))
    → IsNoted lines old now before behind (λ rows. first_step rows (get_or lines c 0) (drop (c + 1) lines))
found_no_first lines old now before behind c place lc past lacks same kept passed =
    subst (λ w. IsNoted lines old w before behind (λ rows. first_step rows (get_or lines c 0) (drop (c + 1) lines))) (sym same)
    (subst (λ b. IsNoted lines old old before b (λ rows. first_step rows (get_or lines c 0) (drop (c + 1) lines))) (sym kept)
    (noted_nothing lines old before (λ rows. first_step rows (get_or lines c 0) (drop (c + 1) lines))
    (λ rows hold. first_lacks lines old c (drop (c + 1) lines) rows hold lc (sym lacks) ∙ passed rows (subst (λ w. HoldRows lines w rows) (sym same) hold)
    ∙ ap (first_with rows (get_or lines c 0)) (drop_all place lines past))))

pub found_other : (lines old new : List ℕ) (before behind : List Flip) (c place : ℕ) {E : Type 0} (r : Result (Unit {0}) E) → IsRising lines
    → c < length lines → place < length lines
    → place ≢ c → true ≡ bit_at_place c (get_or old place 0) → AddsRow lines old new (between_places lines c place)
    → OnOk r (behind ≡ before ++ cx (between_places lines c place) ∷ [])
    → OnOk r (IsNoted lines old new before behind (λ rows. second_step rows (get_or lines c 0) (get_or lines place 0 ∷ [])))
found_other lines old new before behind c place r up lc lp ne has adds notes =
    on_ok_weaker r (λ is. noted_one lines old new before behind (between_places lines c place) (λ rows. second_step rows (get_or lines c 0)
    (get_or lines place 0 ∷ []))
    (λ rows hold. second-has rows (get_or lines c 0) (get_or lines place 0)
    (line_at_differs lines (AreDifferent-rising lines up) place c lp lc ne) (sym (hold.each place c lp lc) ∙ sym has)) adds is) notes

pub second_done : (lines old new : List ℕ) (before behind : List Flip) (c place : ℕ) → length lines ≤ place
    → IsNoted lines old new before behind (λ rows. second_step rows c (take place lines))
    → IsNoted lines old new before behind (λ rows. second_step rows c lines)
second_done lines old new before behind c place le noted =
    subst (λ l. IsNoted lines old new before behind (λ rows. second_step rows c l)) (take_all place lines le) noted
