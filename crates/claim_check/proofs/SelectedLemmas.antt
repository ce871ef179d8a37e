-- Numbers that stand at different places of a list: their sums, and tests that all pass.
use Rattle.std.proofs.Common.{◌≡◌, ◌≢◌, ℕ, zero, suc, ◌+◌, ◌<◌, ◌≤◌, Bool, true, false, ◌&&◌, inl, inr, List, [], ◌∷◌, ◌++◌, length, map, take}
use Rattle.std.proofs.Common.{get_or, refl, sym, ap, ◌∙◌, arith}
use Rattle.std.specs.List.{AllByRecursion, list_all, sum_by}
use Rattle.std.proofs.lemmas.List.{map_push, take_all, take_more}
use Rattle.std.proofs.lemmas.List.Sums.{sum_by-cons}
use Rattle.list_facts.specs.Lists.{IsAmong, AreDifferent, below}
use Rattle.list_facts.proofs.AllLemmas.{AllByRecursion-both, AllByRecursion-weaker}
use Rattle.list_facts.proofs.AmongLemmas.{all_from_among}
use Rattle.list_facts.proofs.OrderLemmas.{AreDifferent-below, among_below, below_bound}
use Rattle.claim_check.specs.Measures.{AreSelected}

abbrev pub at : List ℕ → ℕ → ℕ
at all place = get_or all place 0

-- ---- the whole list by its places

first_places : (all : List ℕ) (n : ℕ) → n ≤ length all → map (at all) (below n) ≡ take n all
first_places all zero le = refl
first_places all (suc n) le =
    let next : n + 1 ≡ suc n = omega arith in
    map_push (at all) (below n) n
    ∙ ap (λ (z : List ℕ). z ++ at all n ∷ []) (first_places all n (omega (arith, le)))
    ∙ sym (take_more all n 0 (omega (arith, le)))
    ∙ ap (λ (z : ℕ). take z all) next

pub all_places : (all : List ℕ) → all ≡ map (at all) (below (length all))
all_places all = sym (first_places all (length all) (omega arith) ∙ take_all (length all) all (omega arith))

pub selects_all : (all : List ℕ) → AreSelected all all
selects_all all = record {
  places = below (length all);
  different = AreDifferent-below (length all);
  inside = all_from_among (λ place. place < length all) (below (length all)) (below_bound (length all));
  are = all_places all;
}

-- ---- sums

sum_next : (f h : ℕ → ℕ) (x : ℕ) (xs : List ℕ) → sum_by f (map h (x ∷ xs)) ≡ f (h x) + sum_by f (map h xs)
sum_next f h x xs = sum_by-cons f (h x) (map h xs)

record Without (f h : ℕ → ℕ) (x : ℕ) (ys : List ℕ) : Type 0 where
  left : List ℕ
  sum : sum_by f (map h ys) ≡ f (h x) + sum_by f (map h left)
  others : (z : ℕ) → x ≢ z → IsAmong z ys → IsAmong z left

without : (f h : ℕ → ℕ) (x : ℕ) (ys : List ℕ) → IsAmong x ys → Without f h x ys
without f h x [] k = absurd k
without f h x (y ∷ ys) k = elim k as (λ _. Without f h x (y ∷ ys)) [
  | inl same ↦ record {
    left = ys;
    sum = sum_next f h y ys ∙ ap (λ (z : ℕ). f (h z) + sum_by f (map h ys)) (sym same);
    others = λ z ne among. elim among as (λ _. IsAmong z ys) [ inl here ↦ absurd (ne (same ∙ sym here)) | inr later ↦ later ];
  }
  | inr there ↦
      let rest = without f h x ys there in
      record {
        left = y ∷ rest.left;
        sum = omega (arith, sum_next f h y ys, sum_next f h y rest.left, rest.sum);
        others = λ z ne among. elim among as (λ _. IsAmong z (y ∷ rest.left)) [ inl here ↦ inl here | inr later ↦ inr (rest.others z ne later) ];
      }
]

sum_among : (f h : ℕ → ℕ) (xs ys : List ℕ) → AreDifferent xs → AllByRecursion (λ x. IsAmong x ys) xs → sum_by f (map h xs) ≤ sum_by f (map h ys)
sum_among f h [] ys different among = omega arith
sum_among f h (x ∷ xs) ys different among =
    let rest = without f h x ys among.0 in
    let fewer = sum_among f h xs rest.left different.1
    (AllByRecursion-both (λ z. x ≢ z) (λ z. IsAmong z ys) (λ z. IsAmong z rest.left) rest.others xs different.0 among.1) in
    omega (arith, sum_next f h x xs, rest.sum, fewer)

pub selected_sum : (f : ℕ → ℕ) (some all : List ℕ) → AreSelected some all → sum_by f some ≤ sum_by f all
selected_sum f some all is =
    let few = sum_among f (at all) is.places (below (length all)) is.different
    (AllByRecursion-weaker (λ place. place < length all) (λ place. IsAmong place (below (length all))) (among_below (length all)) is.places is.inside) in
    omega (arith, few, ap (sum_by f) is.are, ap (sum_by f) (all_places all))

-- ---- tests

and_first : (a b : Bool) → (a && b) ≡ true → a ≡ true
and_first true b e = refl
and_first false b e = e

and_second : (a b : Bool) → (a && b) ≡ true → b ≡ true
and_second true b e = e
and_second false b e = cc

and_all : (a b : Bool) → a ≡ true → b ≡ true → (a && b) ≡ true
and_all a b e f = rw e f

pass_at : (test : ℕ → Bool) (all : List ℕ) (place : ℕ) → list_all test all ≡ true → place < length all → test (at all place) ≡ true
pass_at test [] place passed inside = absurd (omega (arith, inside))
pass_at test (x ∷ xs) zero passed inside = and_first (test x) (list_all test xs) passed
pass_at test (x ∷ xs) (suc place) passed inside =
    pass_at test xs place (and_second (test x) (list_all test xs) passed) (omega (arith, inside))

pass_map : (test : ℕ → Bool) (all places : List ℕ) → list_all test all ≡ true → AllByRecursion (λ place. place < length all) places
    → list_all test (map (at all) places) ≡ true
pass_map test all [] passed inside = refl
pass_map test all (place ∷ places) passed inside =
    and_all (test (at all place)) (list_all test (map (at all) places)) (pass_at test all place passed inside.0) (pass_map test all places passed inside.1)

pub selected_pass : (test : ℕ → Bool) (some all : List ℕ) → AreSelected some all → list_all test all ≡ true → list_all test some ≡ true
selected_pass test some all is passed = ap (list_all test) is.are ∙ pass_map test all is.places passed is.inside
