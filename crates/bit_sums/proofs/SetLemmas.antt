-- Sets as rising lists: going through two of them side by side.
use mir.Val.{bool_byte}
use Rattle.std.proofs.Common.{◌≡◌, ◌⊎◌, ℕ, suc, ◌+◌, ◌<◌, ◌≤◌, Bool, true, false, List, [], ◌∷◌, ◌++◌, length, drop, map, get_or, refl, sym, ap, ◌∙◌}
use Rattle.std.proofs.Common.{subst, inl, inr, arith}
use Rattle.std.specs.Bool.{xor}
use Rattle.std.specs.Cmp.{IsTotalOrder}
use Rattle.std.specs.List.{AllByRecursion}
use Rattle.std.specs.Ordering.{nat_cmp, MatchOrdering, is_ge, is_le, ordering_reverse}
use Rattle.std.specs.declared.cmp.Ordering.{Ordering}
use Rattle.std.specs.declared.cmp.Ordering.TheVariants.{Less, Equal, Greater}
use Rattle.std.proofs.lemmas.Cmp.{nat_cmp_total, ranked}
use Rattle.std.proofs.lemmas.List.{append_assoc, append-nil, length-append}
use Rattle.std.proofs.Math.ListN.{drop_of_length-le}
use Rattle.std.proofs.Math.Seq.{drop-cons}
use Rattle.list_facts.proofs.AllLemmas.{AllByRecursion-left, AllByRecursion-right}
use Rattle.list_facts.proofs.BitLemmas.{xor_none, xor_left, xor_right, xor_both}
use Rattle.list_facts.proofs.CutLemmas.{advanced}
use Rattle.revs_tape.specs.Polynomials.{IsInOrder}
use Rattle.revs_tape.specs.inside.Aligned.{Pair, left, right, both, aligned, alone, key_of}
use Rattle.revs_tape.proofs.AlignmentLemmas.{by_steps, lefts, rights, lefts-aligned, rights-aligned, IsTied, tied-aligned, by_key, in_order-aligned}
use Rattle.dependency_graph.specs.declared.node.Base.{Base}
use Rattle.dependency_graph.specs.declared.node.Base.TheVariants.{Input, Node}
use Rattle.bit_sums.specs.Bits.{AreRising, apart, base_cmp}
use Rattle.bit_sums.specs.Sums.{AreAll, xor_by}
use Rattle.bit_sums.specs.inside.Steps.{IsRisingOf, lesser}

-- ---- the order of bits

base_antisymm : (x y : Base) → base_cmp x y ≡ ordering_reverse (base_cmp y x)
base_antisymm (Input i) (Input j) = nat_cmp_total.antisymm i j
base_antisymm (Input i) (Node k) = refl
base_antisymm (Node k) (Input i) = refl
base_antisymm (Node j) (Node k) = nat_cmp_total.antisymm j k

base_trans : (x y z : Base) → base_cmp x y ≡ Less → base_cmp y z ≡ Less → base_cmp x z ≡ Less
base_trans (Input i) (Input j) (Input k) a b = nat_cmp_total.trans i j k a b
base_trans (Input i) (Input j) (Node k) a b = refl
base_trans (Input i) (Node j) (Input k) a b = cc
base_trans (Input i) (Node j) (Node k) a b = refl
base_trans (Node i) (Input j) z a b = cc
base_trans (Node i) (Node j) (Input k) a b = cc
base_trans (Node i) (Node j) (Node k) a b = nat_cmp_total.trans i j k a b

eq_from_equal : (x y : ℕ) → nat_cmp x y ≡ Equal → x ≡ y
eq_from_equal x y e = subst (λ (o : Ordering). MatchOrdering o (x < y) (x ≡ y) (y < x)) e (ranked x y (nat_cmp x y) refl)

pub same_base : (x y : Base) → base_cmp x y ≡ Equal → x ≡ y
same_base (Input i) (Input j) e = ap Input (eq_from_equal i j e)
same_base (Input i) (Node k) e = cc
same_base (Node k) (Input i) e = cc
same_base (Node j) (Node k) e = ap Node (eq_from_equal j k e)

pub base_total : IsTotalOrder base_cmp
base_total = record {
  antisymm = base_antisymm;
  trans = base_trans;
  congr = λ x y z e. ap (λ b. base_cmp b z) (same_base x y e);
}

-- ---- a step through two sets

lesser_first : (x y : Base) (xs ys : List Base) (o : Ordering) → base_cmp x y ≡ o
    → apart (x ∷ xs) (y ∷ ys) ≡ lesser x y o ++ apart (drop (bool_byte (is_le o)) (x ∷ xs)) (drop (bool_byte (is_ge o)) (y ∷ ys))
lesser_first x y xs ys Less e = rw e refl
lesser_first x y xs ys Equal e = rw e refl
lesser_first x y xs ys Greater e = rw e refl

pub apart_step : (d : Base) (a b so_far now whole : List Base) (i j m n : ℕ) (o : Ordering) → i < length a → j < length b
    → o ≡ base_cmp (get_or a i d) (get_or b j d) → m ≡ bool_byte (is_le o) → n ≡ bool_byte (is_ge o)
    → now ≡ so_far ++ lesser (get_or a i d) (get_or b j d) o → so_far ++ apart (drop i a) (drop j b) ≡ whole
    → now ++ apart (drop (i + m) a) (drop (j + n) b) ≡ whole
apart_step d a b so_far now whole i j m n o low high is by_a by_b put was =
    let x = get_or a i d in
    let y = get_or b j d in
    let begun = rw (drop-cons a i d low, drop-cons b j d high) at was in
    let first = rw (lesser_first x y (drop (suc i) a) (drop (suc j) b) o (sym is)) at begun in
    rw (put, by_a, by_b, advanced a i d (is_le o) low, advanced b j d (is_ge o) high, append_assoc) first

alone-rights : (b : List Base) → alone (map right b) ≡ b
alone-rights [] = refl
alone-rights (y ∷ ys) = ap (λ ks. y ∷ ks) (alone-rights ys)

alone-lefts : (a : List Base) → apart a [] ≡ a
alone-lefts [] = refl
alone-lefts (x ∷ xs) = ap (λ ks. x ∷ ks) (alone-lefts xs)

turned : (x y : Base) (o : Ordering) → base_cmp x y ≡ o → base_cmp y x ≡ ordering_reverse o
turned x y o e = base_total.antisymm y x ∙ ap ordering_reverse e

-- what is apart does not depend on which set is the first
pub apart_swapped : (a b : List Base) → apart a b ≡ apart b a
apart_swapped = by_steps base_cmp (λ a b ps. alone ps ≡ apart b a) (record {
  ends = λ ys. alone-rights ys ∙ sym (alone-lefts ys);
  last = λ x xs h. ap (λ zs. x ∷ zs) h;
  less = λ x xs y ys o h. rw (turned x y Less o) (ap (λ zs. x ∷ zs) h);
  tie = λ x xs y ys o h. rw (turned x y Equal o) h;
  more = λ x xs y ys o h. rw (turned x y Greater o) (ap (λ zs. y ∷ zs) h);
})

pub left_over : (a b : List Base) (i j : ℕ) → (length a ≤ i) ⊎ (length b ≤ j) → apart (drop i a) (drop j b) ≡ drop i a ++ drop j b
left_over a b i j (inl h) = rw (drop_of_length-le a h) (alone-rights (drop j b))
left_over a b i j (inr h) = rw (drop_of_length-le b h) (alone-lefts (drop i a) ∙ sym (append-nil (drop i a)))

pub some_way : (o : Ordering) (m n : ℕ) → m ≡ bool_byte (is_le o) → n ≡ bool_byte (is_ge o) → 1 ≤ m + n
some_way Less m n a b = omega (arith, a, b)
some_way Equal m n a b = omega (arith, a, b)
some_way Greater m n a b = omega (arith, a, b)

-- ---- what stands in one of two sets

value-alone : (bit : Base → Bool) (ps : List (Pair Base)) → AllByRecursion (IsTied base_cmp) ps
    → xor_by bit (alone ps) ≡ xor (xor_by bit (lefts ps)) (xor_by bit (rights ps))
value-alone bit [] t = sym (xor_none false)
value-alone bit (left x ∷ ps) t = rw (value-alone bit ps t.1) (xor_left (bit x) (xor_by bit (lefts ps)) (xor_by bit (rights ps)))
value-alone bit (right y ∷ ps) t = rw (value-alone bit ps t.1) (xor_right (bit y) (xor_by bit (lefts ps)) (xor_by bit (rights ps)))
value-alone bit (both x y ∷ ps) t =
    let same : x ≡ y = same_base x y t.0 in
    rw (value-alone bit ps t.1, same) (xor_both (bit y) (xor_by bit (lefts ps)) (xor_by bit (rights ps)))

pub value-apart : (bit : Base → Bool) (a b : List Base) → xor_by bit (apart a b) ≡ xor (xor_by bit a) (xor_by bit b)
value-apart bit a b =
    value-alone bit (aligned base_cmp a b) (tied-aligned base_cmp a b) ∙ rw (lefts-aligned base_cmp a b, rights-aligned base_cmp a b) refl

above-alone : (x : Base) (ps : List (Pair Base)) → AllByRecursion (λ (p : Pair Base). base_cmp x (key_of p) ≡ Less) ps
    → AllByRecursion (λ y. base_cmp x y ≡ Less) (alone ps)
above-alone x [] h = tt
above-alone x (left y ∷ ps) h = (h.0, above-alone x ps h.1)
above-alone x (right y ∷ ps) h = (h.0, above-alone x ps h.1)
above-alone x (both y z ∷ ps) h = above-alone x ps h.1

in_order-alone : (ps : List (Pair Base)) → IsInOrder (by_key base_cmp) ps → IsInOrder base_cmp (alone ps)
in_order-alone [] h = tt
in_order-alone (left x ∷ ps) h = (above-alone x ps h.0, in_order-alone ps h.1)
in_order-alone (right y ∷ ps) h = (above-alone y ps h.0, in_order-alone ps h.1)
in_order-alone (both x y ∷ ps) h = in_order-alone ps h.1

pub rising-apart : (a b : List Base) → AreRising a → AreRising b → AreRising (apart a b)
rising-apart a b up top = in_order-alone (aligned base_cmp a b) (in_order-aligned base_cmp base_total a b up top)

all-alone : (P : Base → Type 0) (ps : List (Pair Base)) → AllByRecursion P (lefts ps) → AllByRecursion P (rights ps) → AllByRecursion P (alone ps)
all-alone P [] a b = tt
all-alone P (left m ∷ ps) a b = (a.0, all-alone P ps a.1 b)
all-alone P (right n ∷ ps) a b = (b.0, all-alone P ps a b.1)
all-alone P (both m n ∷ ps) a b = all-alone P ps a.1 b.1

pub all-apart : (P : Base → Type 0) (a b : List Base) → AllByRecursion P a → AllByRecursion P b → AllByRecursion P (apart a b)
all-apart P a b all rest =
    all-alone P (aligned base_cmp a b) (subst (AllByRecursion P) (sym (lefts-aligned base_cmp a b)) all)
    (subst (AllByRecursion P) (sym (rights-aligned base_cmp a b)) rest)

length-alone : (ps : List (Pair Base)) → length (alone ps) ≤ length (lefts ps) + length (rights ps)
length-alone [] = omega arith
length-alone (left x ∷ ps) = omega (arith, length-alone ps)
length-alone (right y ∷ ps) = omega (arith, length-alone ps)
length-alone (both x y ∷ ps) = omega (arith, length-alone ps)

pub length-apart : (a b : List Base) → length (apart a b) ≤ length a + length b
length-apart a b =
    let l : length (lefts (aligned base_cmp a b)) ≡ length a = ap length (lefts-aligned base_cmp a b) in
    let r : length (rights (aligned base_cmp a b)) ≡ length b = ap length (rights-aligned base_cmp a b) in
    omega (arith, l, r, length-alone (aligned base_cmp a b))

-- ---- a set of a list's bits

pub value-append : {A : Type 0} (test : A → Bool) (xs ys : List A) → xor_by test (xs ++ ys) ≡ xor (xor_by test xs) (xor_by test ys)
value-append test [] ys = sym (xor_none (xor_by test ys))
value-append test (x ∷ xs) ys = rw (value-append test xs ys) (xor_left (test x) (xor_by test xs) (xor_by test ys))

pub rising_of_few : (bits copy : List Base) → copy ≡ bits → length bits < 2 → IsRisingOf bits copy
rising_of_few bits copy e h = subst (IsRisingOf bits) (sym e) (few bits h)
  where
    few : (bits : List Base) → length bits < 2 → IsRisingOf bits bits
    few [] h = record { rises = tt; values = λ bit. refl; over = λ test all. all; few = omega arith }
    few (x ∷ []) h = record { rises = (tt, tt); values = λ bit. refl; over = λ test all. all; few = omega arith }
    few (x ∷ y ∷ ys) h = absurd (omega (arith, h))

-- the sum of a list's two halves
pub rising_halves : (bits front back first second : List Base) → first ++ second ≡ bits → IsRisingOf first front → IsRisingOf second back
    → (whole : List Base) → whole ≡ apart front back → IsRisingOf bits whole
rising_halves bits front back first second cut f s whole e = subst (IsRisingOf bits) (sym e) (record {
  rises = rising-apart front back f.rises s.rises;
  values = λ bit. value-apart bit front back ∙ rw (f.values bit, s.values bit) (sym (value-append bit first second)) ∙ ap (xor_by bit) cut;
  over = λ test all.
      let both = subst (AreAll test) (sym cut) all in
      all-apart (λ b. test b ≡ true) front back
      (f.over test (AllByRecursion-left (λ (b : Base). test b ≡ true) first second both))
      (s.over test (AllByRecursion-right (λ (b : Base). test b ≡ true) first second both));
  few = let l : length first + length second ≡ length bits = sym (length-append first second) ∙ ap length cut in
      omega (arith, l, f.few, s.few, length-apart front back);
})
