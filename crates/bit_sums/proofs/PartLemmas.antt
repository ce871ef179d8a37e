-- Bits with at most one product, as products of sums of bits.
use Rattle.std.proofs.Common.{◌≡◌, ◌≢◌, ◌⊎◌, ℕ, ◌+◌, ◌≤◌, Bool, true, false, ◌&&◌, List, [], ◌∷◌, ◌++◌, length, Option, Some, None, refl, sym, ap, ◌∙◌}
use Rattle.std.proofs.Common.{subst, inl, inr, arith}
use Rattle.std.specs.Bool.{◌==◌, xor}
use Rattle.std.specs.Option.{option_to_list}
use Rattle.std.proofs.lemmas.Bool.{eq-eqb, true≢false}
use Rattle.std.proofs.lemmas.List.{length-append}
use Rattle.list_facts.proofs.AllLemmas.{AllByRecursion-append}
use Rattle.list_facts.proofs.BitLemmas.{xor_none, xor_nothing, xor_swap, xor-and_left, and_nothing}
use Rattle.list_facts.proofs.TableLemmas.{of_three_bits}
use Rattle.dependency_graph.specs.declared.node.Base.{Base}
use Rattle.bit_sums.specs.declared.limits.TheConstants.{MOST_FACTOR_BITS}
use Rattle.bit_sums.specs.Bits.{AreRising, apart}
use Rattle.bit_sums.specs.Products.{IsFactor, IsJoinOf, IsProduct, IsProductOf}
use Rattle.bit_sums.specs.Sums.{ProductView, AreAll, IsProductOver, product_value, xor_by}
use Rattle.bit_sums.specs.inside.Joins.{HasFactors, IsCrossing, IsJoined, IsShared}
use Rattle.bit_sums.specs.inside.Steps.{AreApart, IsCrossed, IsFactored, IsWithin, JoinsFactors}
use Rattle.bit_sums.proofs.SetLemmas.{all-apart, apart_swapped, length-apart, rising-apart, value-append, value-apart}
use Rattle.bit_sums.proofs.OwnLemmas.{apart_turned, own_apart, own_left, within_right}

-- ---- bits

and_swap : (a b : Bool) → (a && b) ≡ (b && a)
and_swap true true = refl
and_swap true false = refl
and_swap false true = refl
and_swap false false = refl

-- a b = a + a (a + b)
within_first : (a b : Bool) → xor a (a && xor a b) ≡ (a && b)
unfolding mathlib.Core.Bool.xor
within_first true true = refl
within_first true false = refl
within_first false true = refl
within_first false false = refl

-- ---- products of two factors

value-factors : (bit : Base → Bool) (a b : List Base) (p : ProductView) → HasFactors a b p → product_value bit p ≡ (xor_by bit a && xor_by bit b)
value-factors bit a b p (inl e) = ap (product_value bit) e
value-factors bit a b p (inr e) = ap (product_value bit) e ∙ and_swap (xor_by bit b) (xor_by bit a)

over-factors : (test : Base → Bool) (a b : List Base) (p : ProductView) → HasFactors a b p → AreAll test a → AreAll test b → IsProductOver test p
over-factors test a b p (inl e) x y = subst (IsProductOver test) (sym e) (record { first = x; second = y })
over-factors test a b p (inr e) x y = subst (IsProductOver test) (sym e) (record { first = y; second = x })

both_over : (test : Base → Bool) (a b : List Base) (p : ProductView) → HasFactors a b p → IsProductOver test p → AreAll test a × AreAll test b
both_over test a b p (inl e) o = let is = subst (IsProductOver test) e o in (is.first, is.second)
both_over test a b p (inr e) o = let is = subst (IsProductOver test) e o in (is.second, is.first)

pub product_turned : (a b : List Base) → IsProduct (record { first = a; second = b }) → IsProduct (record { first = b; second = a })
product_turned a b p = record { first = p.second; second = p.first; own = p.other; other = p.own }

-- ---- a set within another one

pub no_product : (lesser rest bits : List Base) → bits ≡ lesser → (length lesser ≡ 0) ⊎ (length rest ≡ 0) → IsWithin lesser rest bits None
no_product lesser rest bits e none = record { bits = e; values = λ bit. sym (nothing bit lesser rest none); over = λ test a b. tt }
  where
    nothing : (bit : Base → Bool) (a b : List Base) → (length a ≡ 0) ⊎ (length b ≡ 0) → (xor_by bit a && xor_by bit b) ≡ false
    nothing bit [] b h = refl
    nothing bit (x ∷ xs) [] h = and_nothing (xor_by bit (x ∷ xs))
    nothing bit (x ∷ xs) (y ∷ ys) (inl h) = absurd (omega (arith, h))
    nothing bit (x ∷ xs) (y ∷ ys) (inr h) = absurd (omega (arith, h))

pub one_product : (lesser rest bits : List Base) (p : ProductView) → bits ≡ lesser → HasFactors lesser rest p → IsWithin lesser rest bits (Some p)
one_product lesser rest bits p e h = record {
  bits = e;
  values = λ bit. xor_nothing (product_value bit p) ∙ value-factors bit lesser rest p h;
  over = λ test a b. over-factors test lesser rest p h a b;
}

pub product_apart : (lesser rest : List Base) → IsFactor lesser → IsFactor rest → AreApart lesser rest → length lesser ≢ 0 → length rest ≢ 0
    → IsProduct (record { first = lesser; second = rest })
product_apart lesser rest l r d some more = record {
  first = l;
  second = r;
  own = own_apart lesser rest some d;
  other = own_apart rest lesser more (apart_turned lesser rest d);
}

-- ---- products of two sums

pub rest_of : (a b rest : List Base) → rest ≡ apart a b → IsFactor a → IsFactor b → length rest ≤ MOST_FACTOR_BITS → IsFactor rest
rest_of a b rest e f g few = record { rises = subst AreRising (sym e) (rising-apart a b f.rises g.rises); few = few }

pub first_within : (a b rest bits : List Base) (product : Option ProductView) → rest ≡ apart a b → IsFactor a → IsFactor b
    → length rest + length a ≡ length b → IsWithin a rest bits product → IsProductOf a b bits product
first_within a b rest bits product e f g same w =
    let long : length rest ≡ length (apart a b) = ap length e in
    let bits_long : length bits ≡ length a = ap length w.bits in
    record {
      values = λ bit. rw (w.values bit, w.bits, e, value-apart bit a b) (within_first (xor_by bit a) (xor_by bit b));
      few = omega (arith, bits_long, f.few);
      light = omega (arith, long, bits_long, same);
      bits_over = λ test x y. subst (AreAll test) (sym w.bits) x;
      product_over = λ test x y. w.over test x (subst (AreAll test) (sym e) (all-apart (λ z. test z ≡ true) a b x y));
    }

pub product_of_turned : (a b bits : List Base) (product : Option ProductView) → IsProductOf b a bits product → IsProductOf a b bits product
product_of_turned a b bits product p =
    let long : length (apart a b) ≡ length (apart b a) = ap length (apart_swapped a b) in
    record {
      values = λ bit. p.values bit ∙ and_swap (xor_by bit b) (xor_by bit a);
      few = p.few;
      light = omega (arith, long, p.light);
      bits_over = λ test x y. p.bits_over test y x;
      product_over = λ test x y. p.product_over test y x;
    }

pub neither_within : (a b bits : List Base) (p : ProductView) → bits ≡ [] → HasFactors a b p → IsProductOf a b bits (Some p)
neither_within a b bits p e h = rw e (record {
  values = λ bit. xor_none (xor (product_value bit p) false) ∙ xor_nothing (product_value bit p) ∙ value-factors bit a b p h;
  few = omega arith;
  light = omega (arith, length-apart a b);
  bits_over = λ test x y. tt;
  product_over = λ test x y. over-factors test a b p h x y;
})

pub own_factors : (a b rest : List Base) → rest ≡ apart a b → IsFactor a → IsFactor b → length rest + length a ≢ length b → length rest + length b ≢ length a
    → IsProduct (record { first = a; second = b })
own_factors a b rest e f g not_first not_second = record {
  first = f;
  second = g;
  own = own_left a b f.rises g.rises (subst (λ (l : List Base). length l + length a ≢ length b) e not_first);
  other = own_left b a g.rises f.rises (subst (λ (l : List Base). length l + length b ≢ length a) (e ∙ apart_swapped a b) not_second);
}

pub apart_first : (a b rest : List Base) → rest ≡ apart a b → IsFactor a → IsFactor b → length rest + length a ≡ length b → AreApart a rest
apart_first a b rest e f g same =
    subst (AreApart a) (sym e) (within_right a b f.rises g.rises (subst (λ (l : List Base). length l + length a ≡ length b) e same))

-- ---- two products that share a factor

shared_value : (a b c : Bool) → ((xor a b) && c) ≡ xor (a && c) (b && c)
shared_value a b c = sym (xor-and_left a b c)

pub factored_by : (a b c sum bits : List Base) (product : Option ProductView) → sum ≡ apart a b → length sum ≤ MOST_FACTOR_BITS
    → IsProductOf sum c bits product → IsFactored a b c bits product
factored_by a b c sum bits product e few p = record {
  values = λ bit. p.values bit ∙ rw (e, value-apart bit a b) (shared_value (xor_by bit a) (xor_by bit b) (xor_by bit c));
  few = p.few;
  bits_over = λ test x y z. p.bits_over test (subst (AreAll test) (sym e) (all-apart (λ w. test w ≡ true) a b x y)) z;
  product_over = λ test x y z. p.product_over test (subst (AreAll test) (sym e) (all-apart (λ w. test w ≡ true) a b x y)) z;
  short = subst (λ (l : List Base). length l ≤ MOST_FACTOR_BITS) e few;
  made = subst (λ (l : List Base). IsProductOf l c bits product) e p;
}

-- the factors of p are `a` and `c`, those of q `b` and `c`, in any order
join_factored : (p q : ProductView) (a b c bits : List Base) (product : Option ProductView) → HasFactors a c p → HasFactors b c q
    → IsFactored a b c bits product → IsJoinOf p q bits product
join_factored p q a b c bits product hp hq f = record {
  values = λ bit. f.values bit ∙ rw (value-factors bit a c p hp, value-factors bit b c q hq) refl;
  few = omega (arith, f.few);
  bits_over = λ test x y. let l = both_over test a c p hp x in let r = both_over test b c q hq y in f.bits_over test l.0 r.0 l.1;
  product_over = λ test x y. let l = both_over test a c p hp x in let r = both_over test b c q hq y in f.product_over test l.0 r.0 l.1;
}

shared_so : (p q : ProductView) (a b c bits : List Base) (product : Option ProductView) → HasFactors a c p → HasFactors b c q
    → IsFactored a b c bits product → IsShared p q bits product
shared_so p q a b c bits product hp hq f = record {
  join = join_factored p q a b c bits product hp hq f;
  rule = record { a = a; b = b; c = c; first = hp; second = hq; few = f.short };
  made = f.made;
}

-- ---- two products that cross

crossed_value : (a b c : Bool) → xor ((xor a c) && (xor b c)) c ≡ xor (a && b) (c && xor a b)
unfolding mathlib.Core.Bool.xor
crossed_value = of_three_bits (λ a b c. xor (xor a c && xor b c) c) (λ a b c. xor (a && b) (c && xor a b)) refl

more_bits : (a b c : Bool) → xor (xor a c) b ≡ xor (xor a b) c
unfolding mathlib.Core.Bool.xor
more_bits = of_three_bits (λ a b c. xor (xor a c) b) (λ a b c. xor (xor a b) c) refl

pub crossed_made : (a b c left right made bits : List Base) (product : Option ProductView) → IsFactor c → left ≡ apart a c → right ≡ apart b c
    → length left ≤ MOST_FACTOR_BITS → length right ≤ MOST_FACTOR_BITS → IsProductOf left right made product → bits ≡ made ++ c
    → IsCrossed a b c bits product
crossed_made a b c left right made bits product f l r few more p e = rw e (record {
  values = λ bit.
      ap (λ v. xor v (xor_by (product_value bit) (option_to_list product))) (value-append bit made c)
      ∙ more_bits (xor_by bit made) (xor_by (product_value bit) (option_to_list product)) (xor_by bit c)
      ∙ ap (λ v. xor v (xor_by bit c)) (p.values bit)
      ∙ rw (l, r, value-apart bit a c, value-apart bit b c) (crossed_value (xor_by bit a) (xor_by bit b) (xor_by bit c));
  few = omega (arith, length-append made c, p.few, f.few);
  bits_over = λ test x y z.
      AllByRecursion-append (λ w. test w ≡ true) made c
      (p.bits_over test (subst (AreAll test) (sym l) (all-apart (λ w. test w ≡ true) a c x z))
      (subst (AreAll test) (sym r) (all-apart (λ w. test w ≡ true) b c y z)))
      z;
  product_over = λ test x y z.
      p.product_over test (subst (AreAll test) (sym l) (all-apart (λ w. test w ≡ true) a c x z))
      (subst (AreAll test) (sym r) (all-apart (λ w. test w ≡ true) b c y z));
  left = subst (λ (s : List Base). length s ≤ MOST_FACTOR_BITS) l few;
  right = subst (λ (s : List Base). length s ≤ MOST_FACTOR_BITS) r more;
  rest = made;
  parts = refl;
  made = subst (λ (s : List Base). IsProductOf s (apart b c) made product) l
      (subst (λ (s : List Base). IsProductOf left s made product) r p);
})

-- a factor of q is the sum of both of p, and the other one is `c`
join_crossed : (p q : ProductView) (c sum bits : List Base) (product : Option ProductView) → sum ≡ apart p.first p.second → HasFactors c sum q
    → IsCrossed p.first p.second c bits product → IsJoinOf p q bits product
join_crossed p q c sum bits product e hq f = record {
  values = λ bit. f.values bit ∙ ap (xor (product_value bit p))
      (sym (value-factors bit c sum q hq ∙ rw (e, value-apart bit p.first p.second) refl));
  few = f.few;
  bits_over = λ test x y. let r = both_over test c sum q hq y in f.bits_over test x.first x.second r.0;
  product_over = λ test x y. let r = both_over test c sum q hq y in f.product_over test x.first x.second r.0;
}

crossing_so : (p q : ProductView) (c sum bits : List Base) (product : Option ProductView) → sum ≡ apart p.first p.second → HasFactors c sum q
    → IsCrossed p.first p.second c bits product → IsCrossing p q bits product
crossing_so p q c sum bits product e hq f = record {
  join = join_crossed p q c sum bits product e hq f;
  rule = record { c = c; factors = subst (λ (s : List Base). HasFactors c s q) e hq; left = f.left; right = f.right };
  rest = f.rest;
  parts = f.parts;
  made = f.made;
}

join_turned : (p q : ProductView) (bits : List Base) (product : Option ProductView) → IsJoinOf q p bits product → IsJoinOf p q bits product
join_turned p q bits product j = record {
  values = λ bit. j.values bit ∙ xor_swap (product_value bit q) (product_value bit p);
  few = j.few;
  bits_over = λ test x y. j.bits_over test y x;
  product_over = λ test x y. j.product_over test y x;
}

pub joined_shared : (p q : ProductView) (bits : List Base) (product : Option ProductView) → IsShared p q bits product → IsJoined p q bits product
joined_shared p q bits product s = record { join = s.join; rule = inl s }

pub joined_crossing : (p q : ProductView) (bits : List Base) (product : Option ProductView) → IsCrossing p q bits product → IsJoined p q bits product
joined_crossing p q bits product x = record { join = x.join; rule = inr (inl x) }

pub joined_turned : (p q : ProductView) (bits : List Base) (product : Option ProductView) → IsCrossing q p bits product → IsJoined p q bits product
joined_turned p q bits product x = record { join = join_turned p q bits product x.join; rule = inr (inr x) }

-- ---- as the code comes to them

pub factor_of_sum : (a b sum : List Base) → sum ≡ apart a b → AreRising a → AreRising b → length sum ≤ MOST_FACTOR_BITS → IsFactor sum
factor_of_sum a b sum e up top few = record { rises = subst AreRising (sym e) (rising-apart a b up top); few = few }

pub some_items : (n m : ℕ) → n ≡ m → false ≡ (n == 0) → m ≢ 0
some_items n m same none e = true≢false (sym (eq-eqb n 0 (same ∙ e)) ∙ sym none)

-- a product is that of its factors
pub own_factors_of : (p : ProductView) → HasFactors p.first p.second p
own_factors_of p = inl refl

pub turned_factors_of : (p : ProductView) → HasFactors p.second p.first p
turned_factors_of p = inr refl

pub factored_joins : (a b c : List Base) (q : ProductView) → HasFactors b c q → (bits : List Base) (product : Option ProductView)
    → IsFactored a b c bits product → JoinsFactors a c q bits product
factored_joins a b c q hq bits product f = λ p hp. shared_so p q a b c bits product hp hq f

pub crossing_by_first : (p q : ProductView) (sum bits : List Base) (product : Option ProductView) → sum ≡ apart p.first p.second → q.second ≡ sum
    → IsCrossed p.first p.second q.first bits product → IsCrossing p q bits product
crossing_by_first p q sum bits product e same f =
    crossing_so p q q.first sum bits product e (subst (λ (l : List Base). HasFactors q.first l q) same (own_factors_of q)) f

pub crossing_by_second : (p q : ProductView) (sum bits : List Base) (product : Option ProductView) → sum ≡ apart p.first p.second → q.first ≡ sum
    → IsCrossed p.first p.second q.second bits product → IsCrossing p q bits product
crossing_by_second p q sum bits product e same f =
    crossing_so p q q.second sum bits product e (subst (λ (l : List Base). HasFactors q.second l q) same (turned_factors_of q)) f
