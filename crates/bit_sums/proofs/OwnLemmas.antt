-- Which bits two sets have for themselves, and how many.
use Rattle.std.proofs.Common.{◌≡◌, ◌≢◌, ◌⊎◌, ℕ, ◌+◌, List, [], ◌∷◌, length, refl, sym, ap, ◌∙◌, subst, inl, inr, arith}
use Rattle.std.specs.List.{AllByRecursion}
use Rattle.std.specs.declared.cmp.Ordering.TheVariants.{Less, Equal}
use Rattle.std.proofs.lemmas.Cmp.{tied_itself}
use Rattle.list_facts.specs.Lists.{IsAmong}
use Rattle.list_facts.proofs.AmongLemmas.{all_among, among_source, gathered}
use Rattle.revs_tape.specs.Polynomials.{IsInOrder}
use Rattle.revs_tape.specs.inside.Aligned.{Pair, left, right, both, aligned, alone, key_of}
use Rattle.revs_tape.proofs.AlignmentLemmas.{lefts, rights, lefts-aligned, rights-aligned, IsTied, tied-aligned, by_key, in_order-aligned}
use Rattle.dependency_graph.specs.declared.node.Base.{Base}
use Rattle.bit_sums.specs.Bits.{AreRising, HasOwn, apart, base_cmp}
use Rattle.bit_sums.specs.inside.Steps.{AreApart}
use Rattle.bit_sums.proofs.SetLemmas.{base_total, same_base}

-- ---- pairs of two sets

-- a bit is not below itself
not_below : (x y : Base) → x ≡ y → base_cmp x y ≡ Less → ⊥
not_below x y e h =
    let same : base_cmp x x ≡ Equal = tied_itself base_total x in
    let less : base_cmp x x ≡ Less = subst (λ z. base_cmp x z ≡ Less) (sym e) h in
    cc

-- two pairs of one key are one
same_pair : (ps : List (Pair Base)) → IsInOrder (by_key base_cmp) ps → (p q : Pair Base) → IsAmong p ps → IsAmong q ps → key_of p ≡ key_of q → p ≡ q
same_pair [] up p q k m e = absurd k
same_pair (r ∷ rs) up p q k m e = elim k as (λ _. p ≡ q) [
  | inl here ↦ elim m as (λ _. p ≡ q) [
    | inl there ↦ here ∙ sym there
    | inr later ↦ absurd (not_below (key_of r) (key_of q) (ap key_of (sym here) ∙ e) (all_among (λ s. by_key base_cmp r s ≡ Less) rs up.0 q later))
  ]
  | inr later ↦ elim m as (λ _. p ≡ q) [
    | inl there ↦ absurd (not_below (key_of r) (key_of p) (ap key_of (sym there) ∙ sym e) (all_among (λ s. by_key base_cmp r s ≡ Less) rs up.0 p later))
    | inr also ↦ same_pair rs up.1 p q later also e
  ]
]

-- the element of one list in a pair, where there is one
abbrev left_of : Pair Base → List Base
left_of (left x) = x ∷ []
left_of (right y) = []
left_of (both x y) = x ∷ []

abbrev right_of : Pair Base → List Base
right_of (left x) = []
right_of (right y) = y ∷ []
right_of (both x y) = y ∷ []

lefts-gathered : (ps : List (Pair Base)) → gathered left_of ps ≡ lefts ps
lefts-gathered [] = refl
lefts-gathered (left x ∷ ps) = ap (λ zs. x ∷ zs) (lefts-gathered ps)
lefts-gathered (right y ∷ ps) = lefts-gathered ps
lefts-gathered (both x y ∷ ps) = ap (λ zs. x ∷ zs) (lefts-gathered ps)

rights-gathered : (ps : List (Pair Base)) → gathered right_of ps ≡ rights ps
rights-gathered [] = refl
rights-gathered (left x ∷ ps) = rights-gathered ps
rights-gathered (right y ∷ ps) = ap (λ zs. y ∷ zs) (rights-gathered ps)
rights-gathered (both x y ∷ ps) = ap (λ zs. y ∷ zs) (rights-gathered ps)

only_one : (x z : Base) → IsAmong z (x ∷ []) → x ≡ z
only_one x z k = elim k as (λ _. x ≡ z) [ inl e ↦ sym e | inr none ↦ absurd none ]

left_key : (p : Pair Base) → IsTied base_cmp p → (z : Base) → IsAmong z (left_of p) → key_of p ≡ z
left_key (left x) t z k = only_one x z k
left_key (right y) t z k = absurd k
left_key (both x y) t z k = only_one x z k

right_key : (p : Pair Base) → IsTied base_cmp p → (z : Base) → IsAmong z (right_of p) → key_of p ≡ z
right_key (left x) t z k = absurd k
right_key (right y) t z k = only_one y z k
right_key (both x y) t z k = same_base x y t ∙ only_one y z k

-- a pair that has none of one list: no element of that list is its key
lacking : (side : Pair Base → List Base) → ((p : Pair Base) → IsTied base_cmp p → (z : Base) → IsAmong z (side p) → key_of p ≡ z)
    → (ps : List (Pair Base)) → IsInOrder (by_key base_cmp) ps → AllByRecursion (IsTied base_cmp) ps
    → (p : Pair Base) → IsAmong p ps → side p ≡ [] → IsAmong (key_of p) (gathered side ps) → ⊥
lacking side keys ps up tied p k none m =
    let source = among_source side (key_of p) ps m in
    let key : key_of source.0 ≡ key_of p = keys source.0 (all_among (IsTied base_cmp) ps tied source.0 source.1) (key_of p) source.2 in
    let one : source.0 ≡ p = same_pair ps up source.0 p source.1 k key in
    subst (IsAmong (key_of p)) (ap side one ∙ none) source.2

-- ---- two sets

pub left_lacks : (a b : List Base) → AreRising a → AreRising b → (x : Base) → IsAmong (left x) (aligned base_cmp a b) → IsAmong x b → ⊥
left_lacks a b up top x k m =
    lacking right_of right_key (aligned base_cmp a b) (in_order-aligned base_cmp base_total a b up top) (tied-aligned base_cmp a b) (left x) k refl
    (subst (IsAmong x) (sym (rights-gathered (aligned base_cmp a b) ∙ rights-aligned base_cmp a b)) m)

pub right_lacks : (a b : List Base) → AreRising a → AreRising b → (y : Base) → IsAmong (right y) (aligned base_cmp a b) → IsAmong y a → ⊥
right_lacks a b up top y k m =
    lacking left_of left_key (aligned base_cmp a b) (in_order-aligned base_cmp base_total a b up top) (tied-aligned base_cmp a b) (right y) k refl
    (subst (IsAmong y) (sym (lefts-gathered (aligned base_cmp a b) ∙ lefts-aligned base_cmp a b)) m)

-- ---- how many stand in the left list alone

left_count : List (Pair Base) → ℕ
left_count [] = 0
left_count (left x ∷ ps) = 1 + left_count ps
left_count (right y ∷ ps) = left_count ps
left_count (both x y ∷ ps) = left_count ps

-- twice those are what is apart and the left list, less the right one
counted_left : (ps : List (Pair Base)) → length (alone ps) + length (lefts ps) ≡ (left_count ps + left_count ps) + length (rights ps)
unfolding left_count
counted_left [] = refl
counted_left (left x ∷ ps) = omega (arith, counted_left ps)
counted_left (right y ∷ ps) = omega (arith, counted_left ps)
counted_left (both x y ∷ ps) = omega (arith, counted_left ps)

some_left : (ps : List (Pair Base)) → (left_count ps ≡ 0) ⊎ ((x : Base) × IsAmong (left x) ps)
unfolding left_count
some_left [] = inl refl
some_left (left x ∷ ps) = inr (x, inl refl)
some_left (right y ∷ ps) = elim (some_left ps) as (λ _. (left_count ps ≡ 0) ⊎ ((x : Base) × IsAmong (left x) (right y ∷ ps))) [
  | inl none ↦ inl none
  | inr found ↦ inr (found.0, inr found.1)
]
some_left (both x y ∷ ps) = elim (some_left ps) as (λ _. (left_count ps ≡ 0) ⊎ ((z : Base) × IsAmong (left z) (both x y ∷ ps))) [
  | inl none ↦ inl none
  | inr found ↦ inr (found.0, inr found.1)
]

-- what is apart stands in the right list where none stands in the left one alone
apart_right : (ps : List (Pair Base)) → left_count ps ≡ 0 → (z : Base) → IsAmong z (alone ps) → IsAmong (right z) ps
unfolding left_count
apart_right [] none z k = absurd k
apart_right (left x ∷ ps) none z k = absurd (omega (arith, none))
apart_right (right y ∷ ps) none z k = elim k as (λ _. IsAmong (right z) (right y ∷ ps)) [
  | inl e ↦ inl (ap right e)
  | inr later ↦ inr (apart_right ps none z later)
]
apart_right (both x y ∷ ps) none z k = inr (apart_right ps none z k)

-- ---- a set within another one, or with a bit of its own

left_counted : (a b : List Base) → length (apart a b) + length a ≡ (left_count (aligned base_cmp a b) + left_count (aligned base_cmp a b)) + length b
left_counted a b =
    let ps = aligned base_cmp a b in
    let l : length (lefts ps) ≡ length a = ap length (lefts-aligned base_cmp a b) in
    let r : length (rights ps) ≡ length b = ap length (rights-aligned base_cmp a b) in
    omega (arith, l, r, counted_left ps)

pub within_right : (a b : List Base) → AreRising a → AreRising b → length (apart a b) + length a ≡ length b → AreApart a (apart a b)
within_right a b up top e =
    let ps = aligned base_cmp a b in
    let none : left_count ps ≡ 0 = omega (arith, left_counted a b, e) in
    record { each = λ z k m. right_lacks a b up top z (apart_right ps none z m) k }

lefts_hold : (a b : List Base) (x : Base) → IsAmong (left x) (aligned base_cmp a b) → IsAmong x a
lefts_hold a b x k = subst (IsAmong x) (lefts-aligned base_cmp a b) (held (aligned base_cmp a b) k)
  where
    held : (ps : List (Pair Base)) → IsAmong (left x) ps → IsAmong x (lefts ps)
    held [] k = absurd k
    held (left z ∷ ps) k = elim k as (λ _. IsAmong x (z ∷ lefts ps)) [ inl e ↦ inl (ap key_of e) | inr later ↦ inr (held ps later) ]
    held (right z ∷ ps) k = elim k as (λ _. IsAmong x (lefts ps)) [ inl e ↦ cc | inr later ↦ held ps later ]
    held (both z w ∷ ps) k = elim k as (λ _. IsAmong x (z ∷ lefts ps)) [ inl e ↦ cc | inr later ↦ inr (held ps later) ]

pub own_left : (a b : List Base) → AreRising a → AreRising b → length (apart a b) + length a ≢ length b → HasOwn a b
own_left a b up top ne = elim (some_left (aligned base_cmp a b)) as (λ _. HasOwn a b) [
  | inl none ↦ absurd (ne (omega (arith, left_counted a b, none)))
  | inr found ↦ record { base = found.0; here = lefts_hold a b found.0 found.1; not_there = left_lacks a b up top found.0 found.1 }
]

pub own_apart : (a b : List Base) → length a ≢ 0 → AreApart a b → HasOwn a b
own_apart [] b ne d = absurd (ne refl)
own_apart (x ∷ xs) b ne d = record { base = x; here = inl refl; not_there = d.each x (inl refl) }

pub apart_turned : (a b : List Base) → AreApart a b → AreApart b a
apart_turned a b d = record { each = λ x k m. d.each x m k }
