-- Ranks: the number of kept ones below a number.
use Rattle.std.proofs.Common.{◌≡◌, ℕ, zero, suc, ◌+◌, ◌-◌, ◌<◌, ◌≤◌, Bool, true, false, inl, inr, List, [], ◌∷◌, ◌++◌, length, map, filter, get_or}
use Rattle.std.proofs.Common.{refl, sym, ap, ◌∙◌, arith}
use mir.Val.{bool_byte}
use Rattle.std.proofs.lemmas.Bool.{cases_Bool, cases_lt, cases_eq}
use Rattle.std.proofs.lemmas.List.{map_push, length-map, length_push, get_or_append_left, get_or_push}
use Rattle.list_facts.specs.Lists.{below}
use Rattle.dependency_graph.proofs.TableLemmas.{below_next}
use Rattle.dependency_graph.proofs.UseLemmas.{filter_push}
use Rattle.claim_check.specs.Kept.{rank}

-- ---- the next number

pub filter_kept : (kept : ℕ → Bool) (k : ℕ) → kept k ≡ true → filter kept (below (k + 1)) ≡ filter kept (below k) ++ k ∷ []
filter_kept kept k is = ap (filter kept) (below_next k) ∙ filter_push kept (below k) k ∙ rw is refl

pub filter_other : (kept : ℕ → Bool) (k : ℕ) → kept k ≡ false → filter kept (below (k + 1)) ≡ filter kept (below k)
filter_other kept k is = ap (filter kept) (below_next k) ∙ filter_push kept (below k) k ∙ rw is refl

pub rank_kept : (kept : ℕ → Bool) (k : ℕ) → kept k ≡ true → rank kept (k + 1) ≡ rank kept k + 1
rank_kept kept k is = ap length (filter_kept kept k is) ∙ length_push (filter kept (below k)) k ∙ omega arith

pub rank_other : (kept : ℕ → Bool) (k : ℕ) → kept k ≡ false → rank kept (k + 1) ≡ rank kept k
rank_other kept k is = ap length (filter_other kept k is)

-- a table of ranks, with one more
pub ranks_more : (kept : ℕ → Bool) (k count byte : ℕ) (table now : List ℕ) → byte ≡ bool_byte (kept k) → now ≡ table ++ count ∷ []
    → (table ≡ map (rank kept) (below k)) × (count ≡ rank kept k) × (count ≤ k)
    → (now ≡ map (rank kept) (below (k + 1))) × (count + byte ≡ rank kept (k + 1)) × (count + byte ≤ k + 1)
ranks_more kept k count byte table now is pushed so_far =
    let filled : now ≡ map (rank kept) (below (k + 1)) =
    pushed ∙ ap (λ (z : List ℕ). z ++ count ∷ []) so_far.0 ∙ ap (λ (n : ℕ). map (rank kept) (below k) ++ n ∷ []) so_far.1
    ∙ sym (ap (map (rank kept)) (below_next k) ∙ map_push (rank kept) (below k) k) in
    elim (cases_Bool (kept k)) [
      | inl marked ↦
          let one : byte ≡ 1 = is ∙ ap bool_byte marked in
          (filled, omega (arith, so_far.1, one, rank_kept kept k marked), omega (arith, so_far.2, one))
      | inr other ↦
          let none : byte ≡ 0 = is ∙ ap bool_byte other in
          (filled, omega (arith, so_far.1, none, rank_other kept k other), omega (arith, so_far.2, none))
    ]

rank_next : (kept : ℕ → Bool) (k : ℕ) → (rank kept k ≤ rank kept (k + 1)) × (rank kept (k + 1) ≤ rank kept k + 1)
rank_next kept k = elim (cases_Bool (kept k)) [
  | inl is ↦ (omega (arith, rank_kept kept k is), omega (arith, rank_kept kept k is))
  | inr is ↦ (omega (arith, rank_other kept k is), omega (arith, rank_other kept k is))
]

-- ---- order

rank_more : (kept : ℕ → Bool) (k more : ℕ) → rank kept k ≤ rank kept (k + more)
rank_more kept k zero = let same : k ≡ k + 0 = omega arith in omega (arith, ap (rank kept) same)
rank_more kept k (suc more) =
    let same : (k + more) + 1 ≡ k + suc more = omega arith in
    omega (arith, rank_more kept k more, (rank_next kept (k + more)).0, ap (rank kept) same)

pub rank_up : (kept : ℕ → Bool) (j k : ℕ) → j ≤ k → rank kept j ≤ rank kept k
rank_up kept j k le =
    let same : j + (k - j) ≡ k = omega (arith, le) in
    omega (arith, rank_more kept j (k - j), ap (rank kept) same)

pub rank_below : (kept : ℕ → Bool) (j k : ℕ) → kept j ≡ true → j < k → rank kept j < rank kept k
rank_below kept j k is low = omega (arith, rank_kept kept j is, rank_up kept (j + 1) k (omega (arith, low)))

pub rank_one : (kept : ℕ → Bool) (j k : ℕ) → kept j ≡ true → kept k ≡ true → rank kept j ≡ rank kept k → j ≡ k
rank_one kept j k is also same = elim (cases_lt j k) as (λ _. j ≡ k) [
  | inl less ↦ absurd (omega (arith, rank_below kept j k is less, same))
  | inr more ↦ elim (cases_lt k j) as (λ _. j ≡ k) [
    | inl less ↦ absurd (omega (arith, rank_below kept k j also less, same))
    | inr least ↦ omega (arith, more, least)
  ]
]

-- ---- each number up to a rank is the rank of some number

pub record HasRank (kept : ℕ → Bool) (n number : ℕ) : Type 0 where
  pub at : ℕ
  pub inside : at ≤ n
  pub is : rank kept at ≡ number

pub has_rank : (kept : ℕ → Bool) (n number : ℕ) → number ≤ rank kept n → HasRank kept n number
has_rank kept zero number within = record { at = 0; inside = omega arith; is = omega (arith, within) }
has_rank kept (suc n) number within = elim (cases_eq number (rank kept (suc n))) as (λ _. HasRank kept (suc n) number) [
  | inl same ↦ record { at = suc n; inside = omega arith; is = sym same }
  | inr other ↦
      let next : n + 1 ≡ suc n = omega arith in
      let earlier = has_rank kept n number (omega (arith, within, other, (rank_next kept n).1, ap (rank kept) next)) in
      record { at = earlier.at; inside = omega (arith, earlier.inside); is = earlier.is }
]

pub record IsRankOf (kept : ℕ → Bool) (n number : ℕ) : Type 0 where
  pub at : ℕ
  pub below : at + 1 ≤ n
  pub are_kept : kept at ≡ true
  pub is : rank kept at ≡ number

pub rank_of : (kept : ℕ → Bool) (n number : ℕ) → number < rank kept n → IsRankOf kept n number
rank_of kept zero number within = absurd (omega (arith, within))
rank_of kept (suc n) number within =
    let next : n + 1 ≡ suc n = omega arith in
    elim (cases_lt number (rank kept n)) as (λ _. IsRankOf kept (suc n) number) [
      | inl early ↦
          let earlier = rank_of kept n number early in
          record { at = earlier.at; below = omega (arith, earlier.below); are_kept = earlier.are_kept; is = earlier.is }
      | inr late ↦ elim (cases_Bool (kept n)) as (λ _. IsRankOf kept (suc n) number) [
        | inl is ↦ record {
          at = n;
          below = omega arith;
          are_kept = is;
          is = omega (arith, late, within, rank_kept kept n is, ap (rank kept) next);
        }
        | inr not ↦ absurd (omega (arith, late, within, rank_other kept n not, ap (rank kept) next))
      ]
    ]

-- ---- what stands at a rank

pub at_rank : {A : Type 0} (kept : ℕ → Bool) (f : ℕ → A) (n j : ℕ) (d : A) → kept j ≡ true → j < n
    → get_or (map f (filter kept (below n))) (rank kept j) d ≡ f j
at_rank kept f zero j d is low = absurd (omega (arith, low))
at_rank {A} kept f (suc n) j d is low =
    let so_far = map f (filter kept (below n)) in
    let size : length so_far ≡ rank kept n = length-map (filter kept (below n)) f in
    let next : suc n ≡ n + 1 = omega arith in
    elim (cases_Bool (kept n)) as (λ _. get_or (map f (filter kept (below (suc n)))) (rank kept j) d ≡ f j) [
      | inl here ↦
          ap (λ (z : ℕ). get_or (map f (filter kept (below z))) (rank kept j) d) next
          ∙ ap (λ (z : List ℕ). get_or (map f z) (rank kept j) d) (filter_kept kept n here)
          ∙ ap (λ (z : List A). get_or z (rank kept j) d) (map_push f (filter kept (below n)) n)
          ∙ elim (cases_lt j n) as (λ _. get_or (so_far ++ f n ∷ []) (rank kept j) d ≡ f j) [
            | inl less ↦
                get_or_append_left so_far (f n ∷ []) d (rank kept j) (omega (arith, size, rank_below kept j n is less))
                ∙ at_rank kept f n j d is less
            | inr more ↦
                let same : n ≡ j = omega (arith, low, more) in
                get_or_push so_far (f n) d (rank kept j) (size ∙ ap (rank kept) same) ∙ ap f same
          ]
      | inr not ↦
          elim (cases_lt j n) as (λ _. get_or (map f (filter kept (below (suc n)))) (rank kept j) d ≡ f j) [
            | inl less ↦
                ap (λ (z : ℕ). get_or (map f (filter kept (below z))) (rank kept j) d) next
                ∙ ap (λ (z : List ℕ). get_or (map f z) (rank kept j) d) (filter_other kept n not)
                ∙ at_rank kept f n j d is less
            | inr more ↦
                let same : n ≡ j = omega (arith, low, more) in
                let clash : true ≡ false = sym is ∙ sym (ap kept same) ∙ not in
                cc
          ]
    ]

pub rank_within : (kept : ℕ → Bool) (n : ℕ) → rank kept n ≤ n
rank_within kept zero = omega arith
rank_within kept (suc n) =
    let next : n + 1 ≡ suc n = omega arith in
    omega (arith, rank_within kept n, (rank_next kept n).1, ap (rank kept) next)
