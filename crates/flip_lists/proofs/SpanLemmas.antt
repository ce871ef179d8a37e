-- Spans of which the nearest ones go, or change.
use Rattle.std.proofs.Common.{◌≡◌, ◌∙◌, ℕ, ◌+◌, ◌-◌, ◌<◌, ◌≤◌, List, [], ◌∷◌, ◌++◌, length, map, take, drop, set, get_or, sym, ap, subst, arith}
use Rattle.std.proofs.Common.{Option, slice_get, Some}
use Rattle.std.specs.Prelude.{IfSome}
use Rattle.std.specs.List.{AllByRecursion}
use Rattle.std.proofs.lemmas.List.{append_assoc, get_or_append_left, get_or-take, length-take-le, set-append_left, take-append-drop, take_more_set}
use Rattle.std.proofs.lemmas.Option.{slice_get_read}
use Rattle.std.proofs.Math.Seq.{take-set-lt}
use Rattle.list_facts.proofs.CutLemmas.{drop_read}
use Rattle.flip_lists.specs.declared.spans.Span.{Span}
use Rattle.flip_lists.specs.Spans.{Changes, nearest}

-- ---- the nearest one

-- what holds of the nearest one, as `v[v.len() - 1]` gives it
nearest_is : (P : Span → Type 0) (spans : List Span) (n : ℕ) (span : Span) → n ≡ length spans → 0 < n → span ≡ get_or spans (n - 1) span
    → P span → IfSome (nearest spans) P
nearest_is P spans n span long some is here =
    let at : slice_get spans (n - 1) ≡ Some span = slice_get_read spans n (n - 1) span long (omega (arith, some)) is in
    subst (λ m. IfSome (slice_get spans (m - 1)) P) long (subst (λ (s : Option Span). IfSome s P) (sym at) here)

-- ---- those at the end go

-- an end of the old spans is gone, of which each begins before the place
pub record IsLeft (place : ℕ) (old spans : List Span) : Type 0 where
  pub gone : List Span
  pub cut : old ≡ spans ++ gone
  pub before : AllByRecursion (λ span. span.start < place) gone

-- ---- those at the end change

-- of the old spans those from k on are changed, and each of them meets the fact
pub record AreChanged (P : Span → Type 0) (change : Span → Span) (old : List Span) (k : ℕ) (spans : List Span) : Type 0 where
  pub within : k ≤ length old
  pub are : spans ≡ take k old ++ map change (drop k old)
  pub meet : AllByRecursion P (drop k old)

-- the next one is as it was
unchanged : (P : Span → Type 0) (change : Span → Span) (old : List Span) (k j : ℕ) (spans : List Span) (span : Span) → AreChanged P change old k spans
    → j + 1 ≡ k → span ≡ get_or spans j span → span ≡ get_or old j span
unchanged P change old k j spans span so next is =
    is ∙ ap (λ xs. get_or xs j span) so.are
    ∙ get_or_append_left (take k old) (map change (drop k old)) span j (omega (arith, next, length-take-le k old so.within))
    ∙ get_or-take k old j span (omega (arith, next))

pub changed_more : (P : Span → Type 0) (change : Span → Span) (old : List Span) (k j : ℕ) (spans : List Span) (span : Span)
    → AreChanged P change old k spans → j + 1 ≡ k → span ≡ get_or spans j span → P span → AreChanged P change old j (set spans j (change span))
changed_more P change old k j spans span so next is here =
    let inside : j < length old = omega (arith, next, so.within) in
    let more : drop j old ≡ span ∷ drop k old =
    drop_read old j span inside (unchanged P change old k j spans span so next is) ∙ ap (λ n. span ∷ drop n old) next in
    let seam : set (take k old) j (change span) ≡ take j old ++ change span ∷ [] =
    sym (take-set-lt k old j (change span) (omega (arith, next))) ∙ ap (λ n. take n (set old j (change span))) (sym next)
    ∙ take_more_set old j (change span) inside in
    record {
      within = omega (arith, inside);
      are = ap (λ xs. set xs j (change span)) so.are
          ∙ set-append_left (take k old) (map change (drop k old)) j (change span) (omega (arith, next, length-take-le k old so.within))
          ∙ ap (λ xs. xs ++ map change (drop k old)) seam ∙ append_assoc (take j old) (change span ∷ []) (map change (drop k old))
          ∙ ap (λ xs. take j old ++ map change xs) (sym more);
      meet = rw more (here, so.meet);
    }

-- up to the nearest one that does not meet the fact
pub changed_up_to : (P : Span → Type 0) (change : Span → Span) (old : List Span) (k j : ℕ) (spans : List Span) (span : Span)
    → AreChanged P change old k spans → j + 1 ≡ k → span ≡ get_or spans j span → ¬ P span → Changes P change old spans
changed_up_to P change old k j spans span so next is stays =
    let short = length-take-le k old so.within in
    let last : span ≡ get_or (take k old) (k - 1) span =
    unchanged P change old k j spans span so next is ∙ sym (get_or-take k old j span (omega (arith, next)))
    ∙ ap (λ n. get_or (take k old) n span) (omega (arith, next)) in
    record {
      front = take k old;
      end = drop k old;
      cut = record {
        cut = sym (take-append-drop k old);
        stays = nearest_is (λ s. ¬ P s) (take k old) k span (sym short) (omega (arith, next)) last stays;
        meet = so.meet;
      };
      changed = so.are;
    }
