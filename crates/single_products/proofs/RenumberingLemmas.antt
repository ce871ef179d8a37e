-- Bits, factors and products over the places of nodes.
use Rattle.std.proofs.Common.{◌≡◌, ℕ, ◌+◌, ◌≤◌, Bool, true, false, ◌&&◌, List, [], ◌∷◌, ◌++◌, length, take, slice_get, Some}
use Rattle.std.proofs.Common.{refl, sym, ap, ap₂, ◌∙◌, subst, arith}
use Rattle.std.specs.Bool.{xor}
use Rattle.std.proofs.lemmas.List.{length-append, take_all}
use Rattle.list_facts.proofs.AllLemmas.{AllByRecursion-left, AllByRecursion-right, AllByRecursion-weaker}
use Rattle.list_facts.proofs.BitLemmas.{xor_none, xor_nothing}
use Rattle.list_facts.proofs.TableLemmas.{of_four_bits}
use Rattle.dependency_graph.specs.declared.node.Base.{Base}
use Rattle.dependency_graph.specs.declared.node.Base.TheVariants as bases
use Rattle.bit_sums.specs.Bits.{apart}
use Rattle.bit_sums.specs.Growing.{FactorView, IsFinished, IsSumOf, IsTimes}
use Rattle.bit_sums.specs.Sums.{ProductView, SumView, AreAll, IsProductOver, IsSumOver, product_value, sum_value, xor_by}
use Rattle.bit_sums.proofs.SetLemmas.{all-apart, length-apart, rising-apart, value-append, value-apart}
use Rattle.sum_graph.specs.Graphs.{IsKnownSum, bit_sum, is_known}
use Rattle.sum_graph.proofs.WalkLemmas.{take_next}
use Rattle.single_products.specs.inside.Renumbering.{IsRenumbered, IsRenumberedFactor, IsRenumberedSet, at_places, has_place, product_sum, renumbered, with_first}

-- ---- sets of bits

pub set_begun : (places : List ℕ) → IsRenumberedSet places [] []
set_begun places = record { rises = tt; values = λ bit. refl; over = λ test all. tt; few = omega arith }

pub set_more : (places : List ℕ) (bits set : List Base) (b : Base) → IsRenumberedSet places bits set
    → IsRenumberedSet places (bits ++ b ∷ []) (apart set (renumbered places b ∷ []))
set_more places bits set b s =
    let one : List Base = renumbered places b ∷ [] in
    record {
      rises = rising-apart set one s.rises (tt, tt);
      values = λ bit.
          value-apart bit set one
          ∙ ap (λ v. xor v (xor_by bit one)) (s.values bit)
          ∙ sym (value-append (at_places places bit) bits (b ∷ []));
      over = λ test all.
          let P = λ (c : Base). at_places places test c ≡ true in
          all-apart (λ c. test c ≡ true) set one (s.over test (AllByRecursion-left P bits (b ∷ []) all))
          ((AllByRecursion-right P bits (b ∷ []) all).0, tt);
      few = omega (arith, length-apart set one, length-append bits (b ∷ []), s.few);
    }

pub set_factor : (places : List ℕ) (bits set : List Base) → IsRenumberedSet places bits set
    → IsRenumberedFactor places bits (record { bits = set; one = false })
set_factor places bits set s = record { values = λ bit. xor_none (xor_by bit set) ∙ s.values bit; over = s.over }

-- one more bit of a list, as the code comes to it
pub set_step : (places : List ℕ) (bits set old new : List Base) (i : ℕ) (b x : Base) → slice_get bits i ≡ Some b → x ≡ renumbered places b → old ≡ set
    → new ≡ apart old (x ∷ []) → IsRenumberedSet places (take i bits) set → IsRenumberedSet places (take (i + 1) bits) new
set_step places bits set old new i b x e at same made s =
    let more = set_more places (take i bits) set b s in
    rw (made, same, at) (subst (λ l. IsRenumberedSet places l (apart set (renumbered places b ∷ []))) (sym (take_next bits i b e)) more)

pub set_done : (places : List ℕ) (bits set : List Base) (i : ℕ) → length bits ≤ i → IsRenumberedSet places (take i bits) set → IsRenumberedSet places bits set
set_done places bits set i end s = subst (λ l. IsRenumberedSet places l set) (take_all i bits end) s

-- ---- products

product_alone : (v : Bool) → xor false (xor false (xor v false)) ≡ v
product_alone v = xor_none (xor false (xor v false)) ∙ xor_none (xor v false) ∙ xor_nothing v

pub product_renumbered : (places : List ℕ) (p : ProductView) (a b : FactorView) (sum : SumView) → IsRenumberedFactor places p.first a
    → IsRenumberedFactor places p.second b → IsTimes a b sum → IsRenumbered places (product_sum p) sum
product_renumbered places p a b sum first second t = record {
  values = λ bit. t.values bit ∙ ap₂ ◌&&◌ (first.values bit) (second.values bit) ∙ sym (product_alone (product_value (at_places places bit) p));
  over = λ test all. t.over test (first.over test all.products.0.first) (second.over test all.products.0.second);
  few = omega (arith, t.few);
}

-- ---- sums of two

-- the bits and products of two sums
abbrev pub joined : SumView → SumView → SumView
joined s t = record { bits = s.bits ++ t.bits; products = s.products ++ t.products; one = xor s.one t.one }

interchange : (a b c d : Bool) → xor (xor a b) (xor c d) ≡ xor (xor a c) (xor b d)
unfolding mathlib.Core.Bool.xor
interchange = of_four_bits (λ a b c d. xor (xor a b) (xor c d)) (λ a b c d. xor (xor a c) (xor b d)) refl

pub value_joined : (bit : Base → Bool) (s t : SumView) → sum_value bit (joined s t) ≡ xor (sum_value bit s) (sum_value bit t)
value_joined bit s t =
    let both = value-append bit s.bits t.bits in
    let products = value-append (product_value bit) s.products t.products in
    ap (xor (xor s.one t.one)) (ap₂ xor both products
    ∙ interchange (xor_by bit s.bits) (xor_by bit t.bits) (xor_by (product_value bit) s.products) (xor_by (product_value bit) t.products))
    ∙ interchange s.one t.one (xor (xor_by bit s.bits) (xor_by (product_value bit) s.products))
    (xor (xor_by bit t.bits) (xor_by (product_value bit) t.products))

pub over_left : (test : Base → Bool) (s t : SumView) → IsSumOver test (joined s t) → IsSumOver test s
over_left test s t all = record {
  bits = AllByRecursion-left (λ c. test c ≡ true) s.bits t.bits all.bits;
  products = AllByRecursion-left (IsProductOver test) s.products t.products all.products;
}

pub over_right : (test : Base → Bool) (s t : SumView) → IsSumOver test (joined s t) → IsSumOver test t
over_right test s t all = record {
  bits = AllByRecursion-right (λ c. test c ≡ true) s.bits t.bits all.bits;
  products = AllByRecursion-right (IsProductOver test) s.products t.products all.products;
}

added : (places : List ℕ) (s t a b sum : SumView) → IsRenumbered places s a → IsRenumbered places t b → IsSumOf a b sum
    → IsRenumbered places (joined s t) sum
added places s t a b sum first second is = record {
  values = λ bit. is.values bit ∙ ap₂ xor (first.values bit) (second.values bit) ∙ sym (value_joined (at_places places bit) s t);
  over = λ test all.
      is.over test (first.over test (over_left (at_places places test) s t all)) (second.over test (over_right (at_places places test) s t all));
  few = omega (arith, is.few, first.few, second.few, length-append s.products t.products);
}

-- ---- the bits of a sum

abbrev pub only_bits : List Base → Bool → SumView
only_bits bits one = record { bits = bits; products = []; one = one }

pub bits_begun : (places : List ℕ) (one : Bool) → IsRenumbered places (only_bits [] one) (only_bits [] one)
bits_begun places one = record { values = λ bit. refl; over = λ test all. record { bits = tt; products = tt }; few = omega arith }

bit_renumbered : (places : List ℕ) (b : Base) → IsRenumbered places (bit_sum b) (bit_sum (renumbered places b))
bit_renumbered places b = record {
  values = λ bit. refl;
  over = λ test all. record { bits = (all.bits.0, tt); products = tt };
  few = omega arith;
}

pub bits_more : (places : List ℕ) (bits : List Base) (one : Bool) (b : Base) (so_far sum : SumView) → IsRenumbered places (only_bits bits one) so_far
    → IsSumOf so_far (bit_sum (renumbered places b)) sum → IsRenumbered places (only_bits (bits ++ b ∷ []) one) sum
bits_more places bits one b so_far sum before is =
    subst (λ (v : Bool). IsRenumbered places (only_bits (bits ++ b ∷ []) v) sum) (xor_nothing one)
    (added places (only_bits bits one) (bit_sum b) so_far (bit_sum (renumbered places b)) sum before (bit_renumbered places b) is)

pub bits_step : (places : List ℕ) (bits : List Base) (one : Bool) (i : ℕ) (b x : Base) (so_far bit sum : SumView) → slice_get bits i ≡ Some b
    → x ≡ renumbered places b → bit ≡ bit_sum x → IsSumOf so_far bit sum → IsRenumbered places (only_bits (take i bits) one) so_far
    → IsRenumbered places (only_bits (take (i + 1) bits) one) sum
bits_step places bits one i b x so_far bit sum e at is both before =
    let same : bit ≡ bit_sum (renumbered places b) = is ∙ ap bit_sum at in
    subst (λ l. IsRenumbered places (only_bits l one) sum) (sym (take_next bits i b e))
    (bits_more places (take i bits) one b so_far sum before (subst (λ (t : SumView). IsSumOf so_far t sum) same both))

pub bits_done : (places : List ℕ) (s : SumView) (items : List Base) (i : ℕ) (sum : SumView) → items ≡ s.bits → length items ≤ i
    → IsRenumbered places (only_bits (take i s.bits) s.one) sum → IsRenumbered places (with_first 0 s) sum
bits_done places s items i sum same end r =
    subst (λ l. IsRenumbered places (only_bits l s.one) sum) (take_all i s.bits (omega (arith, ap length same, end))) r

-- ---- finished sums

pub finished_renumbered : (places : List ℕ) (s sum whole : SumView) → IsRenumbered places s sum → IsFinished sum whole → IsRenumbered places s whole
finished_renumbered places s sum whole r f = record {
  values = λ bit. f.values bit ∙ r.values bit;
  over = λ test all. f.over test (r.over test all);
  few = omega (arith, f.few, r.few);
}

-- ---- known bases have places

-- a fact of a sum's bases that another fact follows from
pub sum_weaker : (test other : Base → Bool) → ((b : Base) → test b ≡ true → other b ≡ true) → (s : SumView) → IsSumOver test s → IsSumOver other s
sum_weaker test other weaker s over = record {
  bits = bits_weaker s.bits over.bits;
  products = AllByRecursion-weaker (IsProductOver test) (IsProductOver other)
      (λ p is. record { first = bits_weaker p.first is.first; second = bits_weaker p.second is.second }) s.products over.products;
}
  where
    bits_weaker : (bits : List Base) → AreAll test bits → AreAll other bits
    bits_weaker bits all = AllByRecursion-weaker (λ b. test b ≡ true) (λ b. other b ≡ true) weaker bits all

base_placed : (n : ℕ) (places : List ℕ) (b : Base) → is_known n (length places) b ≡ true → has_place places b ≡ true
base_placed n places (bases.Input i) known = refl
base_placed n places (bases.Node k) known = known

-- what is known among as many nodes as there are places has places
pub known_placed : (n k : ℕ) (places : List ℕ) (s : SumView) → length places ≡ k → IsKnownSum n k s → IsSumOver (has_place places) s
known_placed n k places s long known =
    sum_weaker (is_known n (length places)) (has_place places) (base_placed n places) s (subst (λ (j : ℕ). IsKnownSum n j s) (sym long) known)
