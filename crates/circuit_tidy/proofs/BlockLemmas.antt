-- Blocks: the lines that they touch, and what a walk over them finds.
use Rattle.std.proofs.Common.{◌≡◌, ◌≢◌, ℕ, zero, suc, ◌+◌, ◌-◌, ◌<◌, ◌≤◌, ◌⊎◌, inl, inr, Bool, true, false, not, ◌&&◌, ◌||◌, eqb, ltb, leb, cond, List, [], ◌∷◌}
use Rattle.std.proofs.Common.{◌++◌}
use Rattle.std.proofs.Common.{length, map, take, drop, get_or, refl, sym, ap, ◌∙◌, subst, arith}
use Rattle.std.specs.List.{AllByRecursion, list_any}
use mir.Val.{bool_byte}
use Rattle.std.proofs.lemmas.Bool.{cases_Bool, cases_eq, both_ways, false≢true, eqb-true, eqb-false, eq-eqb, ne_eqb, ltb-true, ltb-false, leb-true, leb-false}
use Rattle.std.proofs.lemmas.Bool.{le-leb}
use Rattle.std.proofs.lemmas.Bool.{or_cases, or_left, or_right, and_parts, false_from_ne_true}
use Rattle.std.proofs.lemmas.List.{drop_more, drop_all, drop-drop, length-drop, take-append-drop, take_more, length-take-le}
use Rattle.std.proofs.lemmas.List.Folds.{list_any-append}
use Rattle.list_facts.specs.Lists.{IsRising, below}
use Rattle.list_facts.proofs.AllLemmas.{AllByRecursion-append, AllByRecursion-left, AllByRecursion-right, AllByRecursion-take, AllByRecursion-drop}
use Rattle.list_facts.proofs.AllLemmas.{AllByRecursion-weaker, AllByRecursion-push}
use Rattle.list_facts.proofs.OrderLemmas.{IsRising-filter}
use Rattle.list_facts.proofs.TableLemmas.{of_three_bits}
use Rattle.mct_circuit.specs.Gates.{IsGateOn}
use Rattle.mct_circuit.specs.Sizes.{has_line}
use Rattle.flip_lists.specs.declared.flip.Controls.{Controls}
use Rattle.flip_lists.specs.declared.flip.Controls.TheVariants.{Zero, One, Two}
use Rattle.flip_lists.specs.declared.flip.Flip.{Flip}
use Rattle.circuit_tidy.specs.Blocks.{AreBlocks, EndsBefore, IsBlock, IsNoLonger, addition_of, all_walked, block_taken, cx, elimination_of}
use Rattle.circuit_tidy.specs.Blocks.{one_line, passed_over, touched}
use Rattle.circuit_tidy.specs.Elimination.{eliminated}
use Rattle.flip_lists.specs.Flips.{AreFlipsOn, controls_of, gate_of, is_cx, is_one, lines_in, touches}
use Rattle.circuit_tidy.specs.inside.BitRows.{IsCxOn}
use Rattle.circuit_tidy.specs.inside.Walking.{AreShort, AreTouched, HaveShortBlocks, IsFirstCx, IsLonger, IsPassed, IsBlockOf, StopsBefore, takes}
use Rattle.circuit_tidy.specs.inside.Walking.{with_line, with_lines_of}
use Rattle.circuit_tidy.specs.declared.blocks.Block.{Block}
use Rattle.circuit_tidy.proofs.EliminationLemmas.{has_line-filter}
use Rattle.flip_lists.proofs.IndexLemmas.{lines_of_flip}

-- ---- one more line

has_line-with_line : (x line : ℕ) (lines : List ℕ) → has_line x (with_line line lines) ≡ (eqb x line || has_line x lines)
has_line-with_line x line [] = refl
has_line-with_line x line (y ∷ ys) = elim (cases_Bool (eqb line y)) [
  | inl e ↦ rw e (there x line y ys (eqb-true line y e))
  | inr ne ↦ elim (cases_Bool (ltb line y)) [
    | inl lt ↦ rw (ne, lt) refl
    | inr ge ↦ rw (ne, ge) (ap (λ b. eqb x y || b) (has_line-with_line x line ys) ∙ turn (eqb x y) (eqb x line) (has_line x ys))
  ]
]
  where
    turn : (a b d : Bool) → (a || (b || d)) ≡ (b || (a || d))
    turn = of_three_bits (λ a b d. a || (b || d)) (λ a b d. b || (a || d)) refl

    by : (a d : Bool) → (a || d) ≡ (a || (a || d))
    by true d = refl
    by false d = refl

    there : (x line y : ℕ) (ys : List ℕ) → line ≡ y → (eqb x y || has_line x ys) ≡ (eqb x line || (eqb x y || has_line x ys))
    there x line y ys e = by (eqb x y) (has_line x ys) ∙ ap (λ l. eqb x l || (eqb x y || has_line x ys)) (sym e)

all_from_has : (P : ℕ → Type 0) (xs : List ℕ) → ((x : ℕ) → has_line x xs ≡ true → P x) → AllByRecursion P xs
all_from_has P [] each = tt
all_from_has P (x ∷ xs) each = (
  each x (or_left (eqb x x) (has_line x xs) (eq-eqb x x refl)),
  all_from_has P xs (λ y has. each y (or_right (eqb y x) (has_line y xs) has)),
)

all_at_has : (P : ℕ → Type 0) (xs : List ℕ) (x : ℕ) → AllByRecursion P xs → has_line x xs ≡ true → P x
all_at_has P [] x all has = absurd (false≢true has)
all_at_has P (y ∷ ys) x all has = elim (or_cases (eqb x y) (has_line x ys) has) [
  | inl e ↦ subst P (sym (eqb-true x y e)) all.0
  | inr later ↦ all_at_has P ys x all.1 later
]

rising-with_line : (line : ℕ) (lines : List ℕ) → IsRising lines → IsRising (with_line line lines)
rising-with_line line [] up = (tt, tt)
rising-with_line line (y ∷ ys) up = elim (cases_Bool (eqb line y)) [
  | inl e ↦ rw e up
  | inr ne ↦ elim (cases_Bool (ltb line y)) [
    | inl lt ↦
        let less = ltb-true line y lt in
        rw (ne, lt) ((less, AllByRecursion-weaker (λ z. y < z) (λ z. line < z) (λ z above. omega (arith, less, above)) ys up.0), up)
    | inr ge ↦
        rw (ne, ge) (
          all_from_has (λ z. y < z) (with_line line ys) (λ z has. above z (or_cases (eqb z line) (has_line z ys) (sym (has_line-with_line z line ys) ∙ has))
              (ltb-false line y ge) (eqb-false line y ne)),
          rising-with_line line ys up.1,
        )
  ]
]
  where
    above : (z : ℕ) → (eqb z line ≡ true) ⊎ (has_line z ys ≡ true) → y ≤ line → line ≢ y → y < z
    above z (inl e) le ne = let same = eqb-true z line e in omega (arith, same, le, ne)
    above z (inr has) le ne = all_at_has (λ w. y < w) ys z up.0 has

length-with_line : (line : ℕ) (lines : List ℕ) → IsRising lines → length (with_line line lines) ≡ length lines + cond (has_line line lines) 0 1
length-with_line line [] up = refl
length-with_line line (y ∷ ys) up = elim (cases_Bool (eqb line y)) [
  | inl e ↦ rw e (omega arith)
  | inr ne ↦ elim (cases_Bool (ltb line y)) [
    | inl lt ↦
        let less = ltb-true line y lt in
        let none : has_line line ys ≡ false = false_from_ne_true (has_line line ys) (λ has. let more = all_at_has (λ z. y < z) ys line up.0 has in absurd
        (omega (arith, less, more))) in
        rw (ne, lt, none) (omega arith)
    | inr ge ↦ rw (ne, ge) (omega (arith, length-with_line line ys up.1))
  ]
]

-- ---- rising lists by their elements

same_rising : (xs ys : List ℕ) → IsRising xs → IsRising ys → ((x : ℕ) → has_line x xs ≡ has_line x ys) → xs ≡ ys
same_rising [] [] up also same = refl
same_rising [] (y ∷ ys) up also same = absurd (both_ways (has_line y (y ∷ ys)) (sym (same y)) (or_left (eqb y y) (has_line y ys) (eq-eqb y y refl)))
same_rising (x ∷ xs) [] up also same = absurd (both_ways (has_line x (x ∷ xs)) (same x) (or_left (eqb x x) (has_line x xs) (eq-eqb x x refl)))
same_rising (x ∷ xs) (y ∷ ys) up also same =
    let le = least x xs y ys up also same in
    let ge = least y ys x xs also up (λ z. sym (same z)) in
    let e : x ≡ y = omega (arith, le, ge) in
    let tail = same_rising xs ys up.1 also.1 (λ z. rest z e) in cc
  where
    -- the first of one is no less than that of the other
    least : (x : ℕ) (xs : List ℕ) (y : ℕ) (ys : List ℕ) → IsRising (x ∷ xs) → IsRising (y ∷ ys) → ((z : ℕ) → has_line z (x ∷ xs) ≡ has_line z (y ∷ ys)) → y ≤ x
    least x xs y ys up also same =
        elim (or_cases (eqb x y) (has_line x ys) (sym (same x) ∙ or_left (eqb x x) (has_line x xs) (eq-eqb x x refl))) [
          | inl e ↦ omega (arith, eqb-true x y e)
          | inr later ↦ omega (arith, all_at_has (λ z. y < z) ys x also.0 later)
        ]

    lacks : (l : List ℕ) (a z : ℕ) → z ≡ a → AllByRecursion (λ w. a < w) l → has_line z l ≡ false
    lacks l a z here all = false_from_ne_true (has_line z l) (λ has. let more = all_at_has (λ w. a < w) l z all has in absurd (omega (arith, here, more)))

    rest : (z : ℕ) → x ≡ y → has_line z xs ≡ has_line z ys
    rest z e = elim (cases_eq z x) [
      | inl here ↦
          lacks xs x z here up.0 ∙ sym (lacks ys y z (here ∙ e) also.0)
      | inr ne ↦
          ap (λ b. b || has_line z xs) (sym (ne_eqb z x ne)) ∙ same z ∙ ap (λ b. b || has_line z ys) (ne_eqb z y (λ f. ne (f ∙ sym e)))
    ]

-- ---- lines below a bound

pub has_line-below : (n x : ℕ) → x < n → has_line x (below n) ≡ true
has_line-below zero x lt = absurd (omega (arith, lt))
has_line-below (suc n) x lt = list_any-append (λ o. eqb x o) (below n) (n ∷ []) ∙ elim (cases_eq x n) [
  | inl e ↦ or_right (has_line x (below n)) (eqb x n || false) (or_left (eqb x n) false (eq-eqb x n e))
  | inr ne ↦ or_left (has_line x (below n)) (eqb x n || false) (has_line-below n x (let other : x ≢ n = ne in omega arith))
]

pub below_rises : (n : ℕ) → IsRising (below n)
below_rises n = (rises n).0
  where
    push : (xs : List ℕ) (m : ℕ) → IsRising xs → AllByRecursion (λ x. x < m) xs → IsRising (xs ++ m ∷ [])
    push [] m up low = (tt, tt)
    push (x ∷ xs) m up low = (AllByRecursion-push (λ y. x < y) xs m up.0 low.0, push xs m up.1 low.1)

    rises : (n : ℕ) → IsRising (below n) × AllByRecursion (λ x. x < n) (below n)
    rises zero = (tt, tt)
    rises (suc n) =
        let rest = rises n in (
          push (below n) n rest.0 rest.1,
          AllByRecursion-push (λ x. x < suc n) (below n) n (AllByRecursion-weaker (λ x. x < n) (λ x. x < suc n) (λ x lt. omega (arith, lt))
              (below n) rest.1) (omega arith),
        )

-- ---- the lines that flips touch

touches_low : (n line : ℕ) (flip : Flip) → IsGateOn n (gate_of flip) → touches line flip ≡ true → line < n
touches_low n line flip on touch =
    let lines = lines_of_flip n flip on in
    elim (or_cases (eqb line flip.target) (has_line line (controls_of flip)) touch) [
      | inl e ↦ subst (λ l. l < n) (sym (eqb-true line flip.target e)) lines.target
      | inr has ↦ all_at_has (λ l. l < n) (controls_of flip) line lines.low has
    ]

pub any_low : (n line : ℕ) (flips : List Flip) → AreFlipsOn n flips → list_any (touches line) flips ≡ true → line < n
any_low n line [] on any = absurd (false≢true any)
any_low n line (f ∷ fs) on any = elim (or_cases (touches line f) (list_any (touches line) fs) any) [
  | inl here ↦ touches_low n line f on.0 here
  | inr later ↦ any_low n line fs on.1 later
]

pub touched_is : (n : ℕ) (flips : List Flip) (lines : List ℕ) → AreFlipsOn n flips → AreTouched flips lines → touched n flips ≡ lines
touched_is n flips lines on are =
    same_rising (touched n flips) lines (IsRising-filter (λ l. list_any (touches l) flips) (below n) (below_rises n)) are.rising
    (λ x. has_line-filter x (λ l. list_any (touches l) flips) (below n) ∙ by x (cases_Bool (list_any (touches x) flips)) ∙ sym (are.each x))
  where
    nothing : (b : Bool) → (b && false) ≡ false
    nothing true = refl
    nothing false = refl

    by : (x : ℕ) → (list_any (touches x) flips ≡ true) ⊎ (list_any (touches x) flips ≡ false)
        → (has_line x (below n) && list_any (touches x) flips) ≡ list_any (touches x) flips
    by x (inl any) = ap (λ b. b && list_any (touches x) flips) (has_line-below n x (any_low n x flips on any))
    by x (inr none) = ap (λ b. has_line x (below n) && b) none ∙ nothing (has_line x (below n)) ∙ sym none

touches_cx : (line : ℕ) (flip : Flip) → is_cx flip ≡ true → touches line flip ≡ (eqb line flip.target || eqb line (one_line flip.controls))
touches_cx line flip is = ap (λ b. eqb line flip.target || b) (by flip.controls is)
  where
    nothing : (b : Bool) → (b || false) ≡ b
    nothing true = refl
    nothing false = refl

    by : (c : Controls) → is_one c ≡ true → has_line line (lines_in c) ≡ eqb line (one_line c)
    by Zero e = absurd (false≢true e)
    by (One a) e = nothing (eqb line a)
    by (Two a b) e = absurd (false≢true e)

pub one_more_touched : (flips : List Flip) (flip : Flip) (lines : List ℕ) → is_cx flip ≡ true → AreTouched flips lines
    → AreTouched (flips ++ flip ∷ []) (with_lines_of flip lines)
one_more_touched flips flip lines is are =
    let one = with_line (one_line flip.controls) lines in
    record {
      rising = rising-with_line flip.target one (rising-with_line (one_line flip.controls) lines are.rising);
      each = λ line.
          has_line-with_line line flip.target one
          ∙ ap (λ b. eqb line flip.target || b) (has_line-with_line line (one_line flip.controls) lines
          ∙ ap (λ b. eqb line (one_line flip.controls) || b) (are.each line))
          ∙ turn (eqb line flip.target) (eqb line (one_line flip.controls)) (list_any (touches line) flips)
          ∙ ap (λ b. list_any (touches line) flips || (b || false)) (sym (touches_cx line flip is))
          ∙ sym (list_any-append (touches line) flips (flip ∷ []));
    }
  where
    turn : (a b d : Bool) → (a || (b || d)) ≡ (d || ((a || b) || false))
    turn = of_three_bits (λ a b d. a || (b || d)) (λ a b d. d || ((a || b) || false)) refl

pub length-with_lines_of : (flip : Flip) (lines : List ℕ) → IsRising lines
    → length (with_lines_of flip lines) ≡ length lines + cond (has_line (one_line flip.controls) lines) 0 1
    + cond (eqb flip.target (one_line flip.controls) || has_line flip.target lines) 0 1
length-with_lines_of flip lines up =
    length-with_line flip.target (with_line (one_line flip.controls) lines) (rising-with_line (one_line flip.controls) lines up)
    ∙ ap (λ b. length (with_line (one_line flip.controls) lines) + cond b 0 1) (has_line-with_line flip.target (one_line flip.controls) lines)
    ∙ ap (λ k. k + cond (eqb flip.target (one_line flip.controls) || has_line flip.target lines) 0 1) (length-with_line (one_line flip.controls) lines up)

-- ---- the place for a line

-- ---- a block

pub cxs_on : (lines : List ℕ) (flips block : List Flip) → AllByRecursion (λ flip. is_cx flip ≡ true) block
    → ((line : ℕ) → list_any (touches line) block ≡ true → has_line line lines ≡ true) → AllByRecursion (IsCxOn lines) block
cxs_on lines flips [] cxs all = tt
cxs_on lines flips (f ∷ fs) cxs all = (
  record {
    is = cxs.0;
    from = all (one_line f.controls) (or_left (touches (one_line f.controls) f) (list_any (touches (one_line f.controls)) fs)
        (touches_cx (one_line f.controls) f cxs.0 ∙ or_right (eqb (one_line f.controls) f.target) (eqb (one_line f.controls) (one_line f.controls)) (eq-eqb
        (one_line f.controls) (one_line f.controls) refl)));
    onto = all f.target (or_left (touches f.target f) (list_any (touches f.target) fs)
        (or_left (eqb f.target f.target) (has_line f.target (controls_of f)) (eq-eqb f.target f.target refl)));
  },
  cxs_on lines flips fs cxs.1 (λ line any. all line (or_right (touches line f) (list_any (touches line) fs) any)),
)

pub block_on : (block : List Flip) (lines : List ℕ) → AllByRecursion (λ flip. is_cx flip ≡ true) block → AreTouched block lines
    → AllByRecursion (IsCxOn lines) block
block_on block lines cxs are = cxs_on lines block block cxs (λ line any. are.each line ∙ any)

-- ---- what a walk passes over

none_left : (n : ℕ) (flips : List Flip) → flips ≡ [] → HaveShortBlocks n flips
none_left n flips e = subst (HaveShortBlocks n) (sym e) (record { blocks = []; are = all_walked; short = tt })

pub all_short : (flips : List Flip) (start : ℕ) → length flips ≤ start → IsPassed flips start → AreShort flips
all_short flips start le passed = record { blocks = λ n on. passed.blocks n on (none_left n (drop start flips) (drop_all start flips le)) }

pub passed_begun : (flips : List Flip) → IsPassed flips 0
passed_begun flips = record { blocks = λ n on rest. rest }

pub passed_more : (flips rest : List Flip) (start count : ℕ) → rest ≡ drop start flips → IsPassed flips start → IsPassed rest count
    → IsPassed flips (start + count)
passed_more flips rest start count is these this = record {
  blocks = λ n on behind.
      let on_rest : AreFlipsOn n rest = subst (AreFlipsOn n) (sym is) (AllByRecursion-drop (λ f. IsGateOn n (gate_of f)) start flips on) in
      these.blocks n on (subst (HaveShortBlocks n) is (this.blocks n on_rest
      (subst (HaveShortBlocks n) (sym (ap (drop count) is ∙ drop-drop count start flips)) behind)));
}

pub no_cx_passed : (flips : List Flip) (first : Flip) → 1 ≤ length flips → is_cx (get_or flips 0 first) ≡ false → IsPassed flips 1
no_cx_passed [] first some is = absurd (omega (arith, some))
no_cx_passed (f ∷ fs) first some is = record {
  blocks = λ n on behind. record { blocks = behind.blocks; are = passed_over f fs behind.blocks is behind.are; short = behind.short };
}

ends_before : (n : ℕ) (block rest : List Flip) (lines : List ℕ) → AreFlipsOn n (block ++ rest) → AreTouched block lines → StopsBefore lines rest
    → EndsBefore n block rest
ends_before n block [] lines on are stops = tt
ends_before n block (next ∷ rest) lines on are stops = by (cases_Bool (is_cx next))
  where
    by : (is_cx next ≡ true) ⊎ (is_cx next ≡ false) → EndsBefore n block (next ∷ rest)
    by (inr other) = inl other
    by (inl is) =
        let long : leb (length (with_lines_of next lines)) 64 ≡ false = sym (ap (λ b. b && leb (length (with_lines_of next lines)) 64) is) ∙ stops in
        let on_more : AreFlipsOn n (block ++ next ∷ []) =
        AllByRecursion-append (λ f. IsGateOn n (gate_of f)) block (next ∷ []) (AllByRecursion-left (λ f. IsGateOn n (gate_of f)) block (next ∷ rest) on)
        ((AllByRecursion-right (λ f. IsGateOn n (gate_of f)) block (next ∷ rest) on).0, tt) in
        let same = touched_is n (block ++ next ∷ []) (with_lines_of next lines) on_more (one_more_touched block next lines is are) in
        inr (subst (λ l. 64 < length l) (sym same) (leb-false (length (with_lines_of next lines)) 64 long))

-- what is known of the block at the start of some flips
pub record IsCut (flips : List Flip) (count : ℕ) (lines : List ℕ) : Type 0 where
  pub some : 1 ≤ count
  pub within : count ≤ length flips
  pub cxs : AllByRecursion (λ flip. is_cx flip ≡ true) (take count flips)
  pub touched : AreTouched (take count flips) lines
  pub few : length lines ≤ 64
  pub stops : StopsBefore lines (drop count flips)

cut_is_block : (n : ℕ) (flips : List Flip) (count : ℕ) (lines : List ℕ) → IsCut flips count lines → AreFlipsOn n (take count flips)
    → IsBlock n (take count flips)
cut_is_block n flips count lines cut on = record {
  some = let long = length-take-le count flips cut.within in let some = cut.some in omega arith;
  cxs = cut.cxs;
  few = subst (λ l. length l ≤ 64) (sym (touched_is n (take count flips) lines on cut.touched)) cut.few;
}

pub cut_elimination : (n : ℕ) (flips : List Flip) (count : ℕ) (lines : List ℕ) (shorter : List Flip) → IsCut flips count lines → AreFlipsOn n (take count flips)
    → shorter ≡ map cx (eliminated lines (map addition_of (take count flips))) → shorter ≡ elimination_of n (take count flips)
cut_elimination n flips count lines shorter cut on is =
    is ∙ sym (ap (λ l. map cx (eliminated l (map addition_of (take count flips)))) (touched_is n (take count flips) lines on cut.touched))

pub block_passed : (flips : List Flip) (count : ℕ) (lines : List ℕ) (shorter : List Flip) → IsCut flips count lines
    → shorter ≡ map cx (eliminated lines (map addition_of (take count flips))) → count ≤ length shorter → IsPassed flips count
block_passed flips count lines shorter cut is long = record {
  blocks = λ n on behind.
      let whole = take-append-drop count flips in
      let on_block : AreFlipsOn n (take count flips) = AllByRecursion-take (λ f. IsGateOn n (gate_of f)) count flips on in
      let no_longer : IsNoLonger n (take count flips) =
      subst (λ l. length (take count flips) ≤ length l) (cut_elimination n flips count lines shorter cut on_block is)
      (let size = length-take-le count flips cut.within in omega (arith, size, long)) in
      record {
        blocks = take count flips ∷ behind.blocks;
        are = subst (λ l. AreBlocks n l (take count flips ∷ behind.blocks)) whole
            (block_taken (take count flips) (drop count flips) behind.blocks (cut_is_block n flips count lines cut on_block)
            (ends_before n (take count flips) (drop count flips) lines (subst (AreFlipsOn n) (sym whole) on) cut.touched cut.stops) behind.are);
        short = (no_longer, behind.short);
      };
}

pub block_longer : (flips : List Flip) (count : ℕ) (lines : List ℕ) (shorter : List Flip) → IsCut flips count lines
    → shorter ≡ map cx (eliminated lines (map addition_of (take count flips))) → length shorter < count → IsLonger (take count flips) shorter
block_longer flips count lines shorter cut is less = record {
  is = λ n on. (cut_is_block n flips count lines cut on, cut_elimination n flips count lines shorter cut on is);
  few = let size = length-take-le count flips cut.within in omega (arith, size, less);
}

-- ---- the loops

pub takes_so : (lines : List ℕ) (flip : Flip) (from one two : ℕ) → One from ≡ flip.controls → IsRising lines → one ≡ bool_byte (not (has_line from lines))
    → two ≡ bool_byte (not (eqb flip.target from || has_line flip.target lines)) → leb (length lines + one + two) 64 ≡ takes lines flip
takes_so lines flip from one two is up first second =
    ap (λ k. leb k 64) (ap (λ k. length lines + k + two) (first ∙ turned (has_line from lines))
    ∙ ap (λ k. length lines + cond (has_line from lines) 0 1 + k) (second ∙ turned (eqb flip.target from || has_line flip.target lines)))
    ∙ sym (ap (λ b. b && leb (length (with_lines_of flip lines)) 64) (sym (ap is_one is))
    ∙ ap (λ k. leb k 64) (length-with_lines_of flip lines up
    ∙ ap (λ l. length lines + cond (has_line l lines) 0 1 + cond (eqb flip.target l || has_line flip.target lines) 0 1) (sym (ap one_line is))))
  where
    turned : (b : Bool) → bool_byte (not b) ≡ cond b 0 1
    turned true = refl
    turned false = refl

pub block_grows : (flips : List Flip) (count : ℕ) (lines seen now : List ℕ) (d : Flip) → count < length flips
    → AllByRecursion (λ flip. is_cx flip ≡ true) (take count flips)
    → AreTouched (take count flips) lines → seen ≡ lines → takes seen (get_or flips count d) ≡ true → now ≡ with_lines_of (get_or flips count d) lines
    → AllByRecursion (λ flip. is_cx flip ≡ true) (take (count + 1) flips) × AreTouched (take (count + 1) flips) now × (length now ≤ 64)
block_grows flips count lines seen now d lt cxs are same take_it is =
    let next = get_or flips count d in
    let parts = and_parts (is_cx next) (leb (length (with_lines_of next lines)) 64) (subst (λ l. takes l next ≡ true) same take_it) in
    let more = take_more flips count d lt in (
      subst (AllByRecursion (λ flip. is_cx flip ≡ true)) (sym more) (AllByRecursion-push (λ flip. is_cx flip ≡ true) (take count flips) next cxs parts.0),
      subst (AreTouched (take (count + 1) flips)) (sym is) (subst (λ l. AreTouched l (with_lines_of next lines)) (sym more) (one_more_touched
          (take count flips) next lines parts.0 are)),
      subst (λ l. length l ≤ 64) (sym is) (leb-true (length (with_lines_of next lines)) 64 parts.1),
    )

-- no flip is left, or the next is not taken
pub data Stops (flips : List Flip) (count : ℕ) (lines : List ℕ) : Type 0 where
  at_end : length flips ≤ count → Stops flips count lines
  at_next : (seen : List ℕ) (d : Flip) → count < length flips → seen ≡ lines → takes seen (get_or flips count d) ≡ false
      → Stops flips count lines

stops_before : (flips : List Flip) (count : ℕ) (lines : List ℕ) → Stops flips count lines → StopsBefore lines (drop count flips)
stops_before flips count lines (at_end le) = subst (StopsBefore lines) (sym (drop_all count flips le)) tt
stops_before flips count lines (at_next seen d lt same refused) =
    subst (StopsBefore lines) (sym (drop_more flips count d lt)) (subst (λ l. takes l (get_or flips count d) ≡ false) same refused)

length-with_line_most : (line : ℕ) (lines : List ℕ) → length (with_line line lines) ≤ length lines + 1
length-with_line_most line [] = omega arith
length-with_line_most line (y ∷ ys) = elim (cases_Bool (eqb line y)) [
  | inl e ↦ rw e (omega arith)
  | inr ne ↦ elim (cases_Bool (ltb line y)) [ inl lt ↦ rw (ne, lt) (omega arith) | inr ge ↦ rw (ne, ge) (omega (arith, length-with_line_most line ys)) ]
]

-- a first CX is always taken
some_taken : (flips : List Flip) (count : ℕ) (lines : List ℕ) → 1 ≤ length flips → IsFirstCx flips → AreTouched (take count flips) lines
    → Stops flips count lines → 1 ≤ count
some_taken flips (suc count) lines some first are stops = omega arith
some_taken [] zero lines some first are stops = absurd (omega (arith, some))
some_taken (f ∷ fs) zero lines some first are (at_end le) = absurd (omega (arith, le))
some_taken (f ∷ fs) zero lines some first are (at_next seen d lt same refused) =
    let none : lines ≡ [] = same_rising lines [] are.rising tt (λ x. are.each x) in
    let one = length-with_line_most f.target (with_line (one_line f.controls) []) in
    let long : leb (length (with_lines_of f [])) 64 ≡ true = le-leb (length (with_lines_of f [])) 64 (omega (arith, one)) in
    let taken : takes [] f ≡ true = ap (λ b. b && leb (length (with_lines_of f [])) 64) first ∙ long in
    absurd (both_ways (takes [] f) (subst (λ l. takes l f ≡ false) (same ∙ none) refused) taken)

pub block_ends : (flips : List Flip) (block : Block) → 1 ≤ length flips → IsFirstCx flips → block.length ≤ length flips
    → AllByRecursion (λ flip. is_cx flip ≡ true) (take block.length flips) → AreTouched (take block.length flips) block.lines.items
    → length block.lines.items ≤ 64
    → Stops flips block.length block.lines.items → IsBlockOf flips block
block_ends flips block some first within cxs are few stops = record {
  some = some_taken flips block.length block.lines.items some first are stops;
  within = within;
  cxs = cxs;
  touched = are;
  few = few;
  stops = stops_before flips block.length block.lines.items stops;
}

pub cut_of : (flips : List Flip) (block : Block) → IsBlockOf flips block → IsCut flips block.length block.lines.items
cut_of flips block is = record { some = is.some; within = is.within; cxs = is.cxs; touched = is.touched; few = is.few; stops = is.stops }

pub first_is_cx : (flips : List Flip) (d : Flip) → 1 ≤ length flips → is_cx (get_or flips 0 d) ≡ true → IsFirstCx flips
first_is_cx [] d some is = tt
first_is_cx (f ∷ fs) d some is = is

pub longer_in : (flips rest shorter : List Flip) (start count : ℕ) → start ≤ length flips → rest ≡ drop start flips → count ≤ length rest
    → IsLonger (take count rest) shorter → (start + count ≤ length flips) × IsLonger (take (start + count - start) (drop start flips)) shorter
longer_in flips rest shorter start count le is few longer =
    let size : start + count - start ≡ count = omega arith in (
      omega (arith, le, few, ap length is, length-drop start flips),
      subst (λ k. IsLonger (take k (drop start flips)) shorter) (sym size) (subst (λ r. IsLonger (take count r) shorter) is longer),
    )

pub still_within : (flips rest : List Flip) (start count : ℕ) → start ≤ length flips → rest ≡ drop start flips → count ≤ length rest
    → start + count ≤ length flips
still_within flips rest start count le is few = omega (arith, le, few, ap length is, length-drop start flips)
