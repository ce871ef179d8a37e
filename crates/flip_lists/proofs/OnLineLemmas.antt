-- The places of flips on each line, as one is put behind the other.
use Rattle.std.proofs.Common.{◌≡◌, ◌∙◌, ℕ, zero, suc, ◌+◌, ◌<◌, ◌≤◌, List, [], ◌∷◌, ◌++◌, length, drop, set, get_or, replicate, refl, sym, ap, subst, arith}
use Rattle.std.proofs.Common.{Bor, Option, Some, None, slice_get, eqb, leb, ltb, true, false, inl, inr}
use Rattle.std.specs.List.{AllByRecursion}
use Rattle.std.specs.List.Sorted.{IsNonDecreasing, IsPartitionPoint, IsPartitionedBy}
use Rattle.std.specs.Global.{Vec}
use Rattle.std.proofs.lemmas.Bool.{cases_Bool, eqb-true, eqb-false, ltb-true, ltb-false, lt-ltb, lt-leb, le-leb}
use Rattle.std.proofs.lemmas.List.{append-nil, drop_all, get_or_past}
use Rattle.std.proofs.lemmas.Option.{slice_get_past, slice_get_read}
use Rattle.std.specs.Option.{is_some, option_copied, IfSome}
use Rattle.list_facts.proofs.AllLemmas.{AllByRecursion-append, AllByRecursion-at, AllByRecursion-weaker}
use Rattle.flip_lists.specs.declared.flip.Flip.{Flip}
use Rattle.flip_lists.specs.declared.looks.OnLines.{OnLines}
use Rattle.flip_lists.specs.Flips.{controls_of}
use Rattle.flip_lists.specs.Looks.{AreOnLines, first_from, line_places, places_on, times}
use Rattle.flip_lists.specs.inside.Looks.{ArePutOn}
use Rattle.flip_lists.specs.inside.Index.{contents, places_at}
use Rattle.flip_lists.proofs.IndexLemmas.{changed_at, contents-push, kept_at, length-contents, same_length}

-- ---- one place on one line

put_at : (old new : List (Vec ℕ)) (line place key : ℕ) → contents new ≡ set (contents old) line (places_at old line ++ place ∷ []) → line < length old
    → places_at new key ≡ places_at old key ++ replicate (times key (line ∷ [])) place
put_at old new line place key e within =
    elim (cases_Bool (eqb key line)) [
      | inl same ↦ rw same (subst (λ k. places_at new k ≡ places_at old k ++ place ∷ []) (sym (eqb-true key line same))
          (changed_at old new line (places_at old line ++ place ∷ []) e within))
      | inr other ↦ rw other (kept_at old new line key (places_at old line ++ place ∷ []) e (eqb-false key line other)
          ∙ sym (append-nil (places_at old key)))
    ]

pub put_on : (old new : OnLines) (line place : ℕ) (v d : Vec ℕ) → line < length old.places.items → d ≡ get_or old.places.items line d
    → v.items ≡ d.items ++ place ∷ [] → new.places.items ≡ set old.places.items line v → ArePutOn (line ∷ []) place old new
put_on old new line place v d within read pushed is =
    let e = ap contents is ∙ contents-push old.places.items line place v d within read pushed in
    record {
      long = same_length old.places.items new.places.items line _ e;
      each = λ key below. put_at old.places.items new.places.items line place key e within;
    }

-- ---- all of them

-- the flips before a place are put; with the places of the others they are all
pub record ArePutSoFar (lines : ℕ) (flips : List Flip) (place : ℕ) (now : OnLines) : Type 0 where
  pub long : length now.places.items ≡ lines
  pub each : (line : ℕ) → line < lines → line_places now line ++ places_on line place (drop place flips) ≡ places_on line 0 flips

-- ---- they rise

behind_rises : (x : ℕ) (xs : List ℕ) → AllByRecursion (λ y. x ≤ y) xs → IsNonDecreasing xs → IsNonDecreasing (x ∷ xs)
behind_rises x xs all rises zero zero d before within = omega arith
behind_rises x xs all rises zero (suc j) d before within = AllByRecursion-at (λ y. x ≤ y) xs j d all (omega (arith, within))
behind_rises x xs all rises (suc i) zero d before within = absurd (omega (arith, before))
behind_rises x xs all rises (suc i) (suc j) d before within = rises i j d (omega (arith, before)) (omega (arith, within))

copies_low : (n place : ℕ) → AllByRecursion (λ y. place ≤ y) (replicate n place)
copies_low zero place = tt
copies_low (suc n) place = (omega arith, copies_low n place)

copies_rise : (n place : ℕ) (xs : List ℕ) → AllByRecursion (λ y. place ≤ y) xs → IsNonDecreasing xs → IsNonDecreasing (replicate n place ++ xs)
copies_rise zero place xs all rises = rises
copies_rise (suc n) place xs all rises =
    behind_rises place (replicate n place ++ xs) (AllByRecursion-append (λ y. place ≤ y) (replicate n place) xs (copies_low n place) all)
    (copies_rise n place xs all rises)

places_low : (line place : ℕ) (flips : List Flip) → AllByRecursion (λ y. place ≤ y) (places_on line place flips)
places_low line place [] = tt
places_low line place (flip ∷ flips) =
    let n = times line (flip.target ∷ controls_of flip) in
    AllByRecursion-append (λ y. place ≤ y) (replicate n place) (places_on line (place + 1) flips) (copies_low n place)
    (AllByRecursion-weaker (λ y. place + 1 ≤ y) (λ y. place ≤ y) (λ y more. omega (arith, more)) (places_on line (place + 1) flips)
    (places_low line (place + 1) flips))

none_rise : IsNonDecreasing []
none_rise i j d before within = absurd (omega (arith, within))

places_rise : (line place : ℕ) (flips : List Flip) → IsNonDecreasing (places_on line place flips)
places_rise line place [] = none_rise
places_rise line place (flip ∷ flips) =
    copies_rise (times line (flip.target ∷ controls_of flip)) place (places_on line (place + 1) flips)
    (AllByRecursion-weaker (λ y. place + 1 ≤ y) (λ y. place ≤ y) (λ y more. omega (arith, more)) (places_on line (place + 1) flips)
    (places_low line (place + 1) flips))
    (places_rise line (place + 1) flips)

pub all_put : (lines : ℕ) (flips : List Flip) (place : ℕ) (now : OnLines) → ArePutSoFar lines flips place now → length flips ≤ place
    → AreOnLines lines flips now
all_put lines flips place now so end =
    let each : (line : ℕ) → line < lines → line_places now line ≡ places_on line 0 flips = λ line below.
    sym (append-nil (line_places now line)) ∙ ap (λ fs. line_places now line ++ places_on line place fs) (sym (drop_all place flips end))
    ∙ so.each line below in
    record {
      long = so.long;
      each = each;
      rise = λ line. elim (cases_Bool (ltb line lines)) [
        | inl below ↦ subst IsNonDecreasing (sym (each line (ltb-true line lines below))) (places_rise line 0 flips)
        | inr past ↦ subst IsNonDecreasing (sym (get_or_past (contents now.places.items) line []
            (subst (λ n. n ≤ line) (sym (length-contents now.places.items ∙ so.long)) (ltb-false line lines past)))) none_rise
      ];
    }

-- ---- the first from a place on

pub rising_parted : (from : ℕ) (xs : List ℕ) → IsNonDecreasing xs → IsPartitionedBy (λ y. ltb y from) xs
rising_parted from xs rises i j d before within early =
    lt-ltb (get_or xs i d) from (omega (arith, rises i j d before within, ltb-true (get_or xs j d) from early))

pub first_at : (from : ℕ) (xs : List ℕ) (i : ℕ) → i ≤ length xs → IsPartitionPoint (λ y. ltb y from ≡ true) (λ y. ltb y from ≡ false) xs i
    → slice_get xs i ≡ first_from from xs
first_at from [] i within parted = slice_get_past [] i (omega arith)
first_at from (x ∷ xs) zero within parted =
    let late : leb from x ≡ true = le-leb from x (ltb-false x from (parted.1 0 x (omega arith) (omega arith))) in
    rw late refl
first_at from (x ∷ xs) (suc i) within parted =
    let early : leb from x ≡ false = lt-leb from x (ltb-true x from (parted.0 0 x (omega arith) (omega arith))) in
    rw early (first_at from xs i (omega (arith, within))
    (λ k d low high. parted.0 (suc k) d (omega arith) (omega (arith, high)), λ k d low high. parted.1 (suc k) d (omega (arith, low)) (omega (arith, high))))

-- what is found at a place, as `v.get(i).copied()` gives it
pub copied_at : (xs : List ℕ) (i : ℕ) (found : Option (Bor ℕ)) → is_some found ≡ ltb i (length xs) → IfSome found (λ x. x.now ≡ get_or xs i x.now)
    → option_copied found ≡ slice_get xs i
copied_at xs i None some same = sym (slice_get_past xs i (ltb-false i (length xs) (sym some)))
copied_at xs i (Some x) some same = sym (slice_get_read xs (length xs) i x.now refl (ltb-true i (length xs) (sym some)) same)
