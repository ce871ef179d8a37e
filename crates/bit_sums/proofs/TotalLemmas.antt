-- Sums of two sums, products of two factors, and finished sums.
use Rattle.std.proofs.Common.{◌≡◌, ◌⊎◌, ◌+◌, ◌≤◌, Bool, true, false, ◌&&◌, cond, List, [], ◌∷◌, ◌++◌, length, Option}
use Rattle.std.proofs.Common.{refl, sym, ap, ◌∙◌, subst, inl, inr, arith}
use Rattle.std.specs.Bool.{xor}
use Rattle.std.specs.List.{AllByRecursion}
use Rattle.std.specs.List.Sorted.{IsPermutation}
use Rattle.std.specs.Option.{option_to_list}
use Rattle.std.proofs.lemmas.List.{length-append}
use Rattle.std.proofs.lemmas.List.Sorted.{length_permutation}
use Rattle.list_facts.proofs.AllLemmas.{AllByRecursion-append, AllByRecursion-left, AllByRecursion-right}
use Rattle.list_facts.proofs.BitLemmas.{xor_left, xor_nothing, xor_right, xor_swap}
use Rattle.list_facts.proofs.TableLemmas.{of_four_bits}
use Rattle.dependency_graph.specs.declared.node.Base.{Base}
use Rattle.bit_sums.specs.Bits.{apart}
use Rattle.bit_sums.specs.Growing.{FactorView, IsFinished, IsPut, IsShort, IsSumOf, IsTimes}
use Rattle.bit_sums.specs.Products.{HasFewBits, IsFactor, IsProduct, IsProductOf}
use Rattle.bit_sums.specs.Sums.{ProductView, SumView, AreAll, IsProductOver, product_value, sum_value, xor_by}
use Rattle.bit_sums.specs.inside.Putting.{ArePut, WithBits}
use Rattle.bit_sums.specs.inside.Steps.{IsRisingOf}
use Rattle.list_facts.proofs.AllLemmas.{AllByRecursion-permutation}
use Rattle.bit_sums.proofs.GrowingLemmas.{all_of_some, one_at_most, value-permutation}
use Rattle.bit_sums.proofs.SetLemmas.{all-apart, length-apart, value-append, value-apart}

-- ---- products, one after another

pub none_put : (s : SumView) → ArePut s [] s
none_put s = record {
  values = λ bit. sym (xor_nothing (sum_value bit s));
  over = λ test o all. o;
  few = omega arith;
  light = omega arith;
}

pub one_more_put : (old mid new : SumView) (products : List ProductView) (p : ProductView) → ArePut old products mid → IsPut mid p new
    → ArePut old (products ++ p ∷ []) new
one_more_put old mid new products p a s =
    let long : length (products ++ p ∷ []) ≡ length products + 1 = length-append products (p ∷ []) in
    record {
      values = λ bit.
          s.values bit
          ∙ ap (λ v. xor v (product_value bit p)) (a.values bit)
          ∙ sym (xor_left (sum_value bit old) (xor_by (product_value bit) products) (product_value bit p))
          ∙ ap (xor (sum_value bit old)) (ap (xor (xor_by (product_value bit) products)) (sym (xor_nothing (product_value bit p)))
          ∙ sym (value-append (product_value bit) products (p ∷ [])));
      over = λ test o all.
          s.over test (a.over test o (AllByRecursion-left (IsProductOver test) products (p ∷ []) all))
          (AllByRecursion-right (IsProductOver test) products (p ∷ []) all).0;
      few = omega (arith, long, a.few, s.few);
      light = omega (arith, long, a.light, s.light);
    }

-- ---- two sums

exchange : (o n m t : Bool) → xor (xor o n) (xor m t) ≡ xor (xor o t) (xor n m)
unfolding mathlib.Core.Bool.xor
exchange = of_four_bits (λ o n m t. xor (xor o n) (xor m t)) (λ o n m t. xor (xor o t) (xor n m)) refl

-- a sum with the constant `n` and the bits `m` besides
more_value : (o b s n m : Bool) → xor (xor o n) (xor (xor b m) s) ≡ xor (xor o (xor b s)) (xor n m)
more_value o b s n m = ap (xor (xor o n)) (sym (xor_left b m s) ∙ xor_right b m s) ∙ exchange o n m (xor b s)

bits_of_both : (bit : Base → Bool) (old more new : List Base) → (new ≡ old ++ more) ⊎ (new ≡ more ++ old)
    → xor_by bit new ≡ xor (xor_by bit old) (xor_by bit more)
bits_of_both bit old more new (inl e) = ap (xor_by bit) e ∙ value-append bit old more
bits_of_both bit old more new (inr e) = ap (xor_by bit) e ∙ value-append bit more old ∙ xor_swap (xor_by bit more) (xor_by bit old)

all_of_both : (test : Base → Bool) (old more new : List Base) → (new ≡ old ++ more) ⊎ (new ≡ more ++ old) → AreAll test old → AreAll test more → AreAll test new
all_of_both test old more new (inl e) a b = subst (AreAll test) (sym e) (AllByRecursion-append (λ z. test z ≡ true) old more a b)
all_of_both test old more new (inr e) a b = subst (AreAll test) (sym e) (AllByRecursion-append (λ z. test z ≡ true) more old b a)

length_of_both : (old more new : List Base) → (new ≡ old ++ more) ⊎ (new ≡ more ++ old) → length new ≡ length old + length more
length_of_both old more new (inl e) = ap length e ∙ length-append old more
length_of_both old more new (inr e) = ap length e ∙ length-append more old ∙ omega arith

-- the sum of a sum with more bits, into which the other one's products were put
pub both : (a b mid new : SumView) (products : List ProductView) → WithBits a b.bits b.one mid → IsPermutation b.products products → ArePut mid products new
    → IsSumOf a b new
both a b mid new products w h p =
    let long : length products ≡ length b.products = length_permutation b.products products h in
    let bits_long : length mid.bits ≡ length a.bits + length b.bits = length_of_both a.bits b.bits mid.bits w.bits in
    let same : length mid.products ≡ length a.products = ap length w.products in
    record {
      values = λ bit.
          p.values bit
          ∙ ap (xor (sum_value bit mid)) (sym (value-permutation (product_value bit) b.products products h))
          ∙ ap (λ v. xor v (xor_by (product_value bit) b.products))
          (rw (w.constant, w.products, bits_of_both bit a.bits b.bits mid.bits w.bits)
          (more_value a.one (xor_by bit a.bits) (xor_by (product_value bit) a.products) b.one (xor_by bit b.bits)))
          ∙ sym (xor_left (sum_value bit a) (xor b.one (xor_by bit b.bits)) (xor_by (product_value bit) b.products))
          ∙ ap (xor (sum_value bit a)) (sym (xor_left b.one (xor_by bit b.bits) (xor_by (product_value bit) b.products)));
      over = λ test o q.
          p.over test
          (record {
            bits = all_of_both test a.bits b.bits mid.bits w.bits o.bits q.bits;
            products = subst (AllByRecursion (IsProductOver test)) (sym w.products) o.products;
          })
          (AllByRecursion-permutation (IsProductOver test) b.products products h q.products);
      few = omega (arith, long, same, p.few);
      light = omega (arith, long, bits_long, same, p.light);
    }

pub turned : (a b sum : SumView) → IsSumOf b a sum → IsSumOf a b sum
turned a b sum s = record {
  values = λ bit. s.values bit ∙ xor_swap (sum_value bit b) (sum_value bit a);
  over = λ test o q. s.over test q o;
  few = omega (arith, s.few);
  light = omega (arith, s.light);
}

-- ---- two factors

abbrev when : Bool → List Base → List Base
when taken bits = cond taken bits []

value-when : (bit : Base → Bool) (taken : Bool) (bits : List Base) → xor_by bit (when taken bits) ≡ (taken && xor_by bit bits)
value-when bit true bits = refl
value-when bit false bits = refl

all-when : (test : Base → Bool) (taken : Bool) (bits : List Base) → AreAll test bits → AreAll test (when taken bits)
all-when test true bits a = a
all-when test false bits a = tt

-- (c + A) (d + B) = c d + d A + c B + A B
times_value : (c d a b : Bool) → xor (c && d) (xor (xor (d && a) (c && b)) (a && b)) ≡ (xor c a && xor d b)
unfolding mathlib.Core.Bool.xor
times_value = of_four_bits (λ c d a b. xor (c && d) (xor (xor (d && a) (c && b)) (a && b))) (λ c d a b. xor c a && xor d b) refl

few_scaled : (c d : Bool) (a b bits : List Base) → IsFactor a → IsFactor b → length (apart a b) + length bits ≤ length a + length b → length bits ≤ 4
    → length (apart (apart (when d a) (when c b)) bits) ≤ 8
few_scaled true true a b bits f g light few = omega (arith, length-apart (apart a b) bits, light, f.few, g.few)
few_scaled true false a b bits f g light few = omega (arith, length-apart (apart [] b) bits, length-apart [] b, g.few, few)
few_scaled false true a b bits f g light few = omega (arith, length-apart (apart a []) bits, length-apart a [], f.few, few)
few_scaled false false a b bits f g light few = omega (arith, length-apart (apart [] []) bits, few)

pub factor_bits : (f : FactorView) → IsShort f → IsFactor f.bits
factor_bits f s = record { rises = s.rises; few = s.few }

pub times : (a b : FactorView) (scaled bits all : List Base) (product : Option ProductView) (products : List ProductView) (one : Bool) → IsShort a → IsShort b
    → IsProductOf a.bits b.bits bits product → scaled ≡ apart (when b.one a.bits) (when a.one b.bits) → all ≡ apart scaled bits
    → products ≡ option_to_list product → one ≡ (a.one && b.one) → IsTimes a b (record { bits = all; products = products; one = one })
times a b scaled bits all product products one f g p is_scaled is_all are is_one = rw (is_one, are, is_all, is_scaled) (record {
  values = λ bit.
      ap (xor (a.one && b.one))
      (ap (λ v. xor v (xor_by (product_value bit) (option_to_list product)))
      (value-apart bit (apart (when b.one a.bits) (when a.one b.bits)) bits
      ∙ ap (λ v. xor v (xor_by bit bits))
      (value-apart bit (when b.one a.bits) (when a.one b.bits)
      ∙ rw (value-when bit b.one a.bits, value-when bit a.one b.bits) refl))
      ∙ sym (xor_left (xor (b.one && xor_by bit a.bits) (a.one && xor_by bit b.bits)) (xor_by bit bits)
      (xor_by (product_value bit) (option_to_list product)))
      ∙ ap (xor (xor (b.one && xor_by bit a.bits) (a.one && xor_by bit b.bits))) (p.values bit))
      ∙ times_value a.one b.one (xor_by bit a.bits) (xor_by bit b.bits);
  over = λ test x y. record {
    bits = all-apart (λ z. test z ≡ true) (apart (when b.one a.bits) (when a.one b.bits)) bits
        (all-apart (λ z. test z ≡ true) (when b.one a.bits) (when a.one b.bits) (all-when test b.one a.bits x) (all-when test a.one b.bits y))
        (p.bits_over test x y);
    products = all_of_some (IsProductOver test) product (p.product_over test x y);
  };
  few = one_at_most product;
  light = omega (
    arith,
    one_at_most product,
    few_scaled a.one b.one a.bits b.bits bits (factor_bits a f) (factor_bits b g) p.light p.few,
  );
})

-- ---- a finished sum

pub finished : (s : SumView) (bits : List Base) (products : List ProductView) → HasFewBits s → IsRisingOf s.bits bits → IsPermutation s.products products
    → IsFinished s (record { bits = bits; products = products; one = s.one })
finished s bits products few r h =
    let long : length products ≡ length s.products = length_permutation s.products products h in
    record {
      values = λ bit. rw (r.values bit, value-permutation (product_value bit) s.products products h) refl;
      over = λ test o. record { bits = r.over test o.bits; products = AllByRecursion-permutation (IsProductOver test) s.products products h o.products };
      rises = r.rises;
      few = long;
      light = omega (arith, long, r.few);
      one = refl;
      few_bits = AllByRecursion-permutation IsProduct s.products products h few;
    }
