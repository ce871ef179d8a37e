-- Sums that grow: a product comes, goes, or is joined with another one.
use Rattle.std.proofs.Common.{◌≡◌, ℕ, ◌≤◌, ◌<◌, Bool, true, false, ◌&&◌, cond, List, [], ◌∷◌, ◌++◌, length, get_or}
use Rattle.std.proofs.Common.{Option, Some, None, slice_get, refl, sym, ap, ap₂, ◌∙◌, subst, arith, rules}
use Rattle.std.specs.Bool.{xor}
use Rattle.std.specs.List.{AllByRecursion, list_any, position_or_len, sum_by, swap_remove}
use Rattle.std.specs.List.Sorted.{IsPermutation}
use Rattle.std.specs.Cmp.Lexicographic.{pointwise, pointwise_decides}
use Rattle.std.specs.Option.{option_map_or, option_to_list, IfSome}
use Rattle.std.proofs.lemmas.Bool.{and_parts, lt-ltb, true≢false}
use Rattle.std.proofs.lemmas.List.{length-append}
use Rattle.std.proofs.lemmas.Option.{get_or_from_slice_get, slice_get_within}
use Rattle.std.proofs.lemmas.List.Sorted.{IsPermutation-swap_remove, IsPermutation-sym, IsPermutation-to_front, length_permutation}
use Rattle.std.proofs.lemmas.List.Sorted.{sum_by-IsPermutation}
use Rattle.std.proofs.lemmas.List.Sums.{passes_at_first, sum_by-cons}
use Rattle.indexmap.specs.IndexMap.{swap_remove_by}
use Rattle.indexmap.specs.IndexSet.{insert_key}
use Rattle.indexmap.proofs.MapLemmas.{swap_remove-default}
use Rattle.list_facts.proofs.AllLemmas.{AllByRecursion-append, AllByRecursion-permutation}
use Rattle.list_facts.proofs.AmongLemmas.{position_among}
use Rattle.list_facts.proofs.BitLemmas.{odd, odd-plus, xor_left, xor_nothing, xor_right, xor_swap, xor_twice}
use Rattle.dependency_graph.specs.contracts.node.BasePartialEq.TheImpl.{eq-value}
use Rattle.dependency_graph.specs.declared.node.Base.{Base}
use Rattle.bit_sums.specs.Growing.{IsPut}
use Rattle.bit_sums.specs.Products.{IsJoinOf, IsProduct}
use Rattle.bit_sums.specs.Sums.{ProductView, SumView, IsProductOver, product_value, sum_value, xor_by}
use Rattle.bit_sums.specs.declared.growing.Join.{Join}
use Rattle.bit_sums.specs.inside.Firsts.{IsFirstJoin}
use Rattle.bit_sums.specs.inside.Putting.{IsPutOnce}
use Rattle.bit_sums.proofs.SetLemmas.{value-append}

-- ---- the same elements in another order

value_is_parity : {A : Type 0} (test : A → Bool) (xs : List A) → xor_by test xs ≡ odd (sum_by (λ x. cond (test x) 1 0) xs)
value_is_parity test [] = refl
value_is_parity test (x ∷ xs) =
    ap (xor (test x)) (value_is_parity test xs) ∙ sym (odd-plus (test x) (sum_by (λ y. cond (test y) 1 0) xs))
    ∙ ap odd (sym (sum_by-cons (λ y. cond (test y) 1 0) x xs))

pub value-permutation : {A : Type 0} (test : A → Bool) (xs ys : List A) → IsPermutation xs ys → xor_by test xs ≡ xor_by test ys
value-permutation test xs ys h =
    value_is_parity test xs ∙ sym (ap odd (sum_by-IsPermutation (λ x. cond (test x) 1 0) xs ys h)) ∙ sym (value_is_parity test ys)

-- an element that a test finds goes out of the list
pub went : {X : Type 0} {eq : X → Bool} (m : X) (xs : List X) → true ≡ list_any eq xs → ((y : X) → eq y ≡ true → m ≡ y)
    → IsPermutation xs (m ∷ swap_remove_by eq xs)
went {X} {eq} m [] h is = absurd (true≢false h)
went {X} {eq} m (x ∷ xs) h is =
    let i = position_or_len eq (x ∷ xs) in
    let within : i < length (x ∷ xs) = position_among eq (x ∷ xs) (sym h) in
    let same : m ≡ get_or (x ∷ xs) i m = is (get_or (x ∷ xs) i m) (passes_at_first eq (x ∷ xs) m within) in
    let form : swap_remove_by eq (x ∷ xs) ≡ swap_remove (x ∷ xs) i m =
    ap (λ b. option_map_or (λ n. swap_remove (x ∷ xs) n x) (cond b (Some i) None) (x ∷ xs)) (lt-ltb i (length (x ∷ xs)) within)
    ∙ swap_remove-default (x ∷ xs) i x m (omega arith) in
    subst (λ l. IsPermutation (x ∷ xs) (m ∷ l)) (sym form) (IsPermutation-swap_remove (x ∷ xs) i m within same)

-- the element at a place goes out of the list
pub taken : {X : Type 0} (xs : List X) (i : ℕ) (x : X) → slice_get xs i ≡ Some x → IsPermutation xs (x ∷ swap_remove xs i x)
taken xs i x e = IsPermutation-swap_remove xs i x (slice_get_within xs i x e) (sym (get_or_from_slice_get xs i x x e))

-- products of equal factors are one
abbrev pub product_eq : ProductView → ProductView → Bool
product_eq p q = pointwise eq-value.it p.first q.first && pointwise eq-value.it p.second q.second

same_list : (a b : List Base) → pointwise eq-value.it a b ≡ true → a ≡ b
same_list a b e = search (rules, pointwise_decides, e)

pub same_product : (p q : ProductView) → product_eq p q ≡ true → p ≡ q
same_product p q e =
    let parts = and_parts (pointwise eq-value.it p.first q.first) (pointwise eq-value.it p.second q.second) e in
    ap₂ (λ (a : List Base) (b : List Base). record { first = a; second = b }) (same_list p.first q.first parts.0) (same_list p.second q.second parts.1)

-- a product that is not there comes in behind the others
pub came : (p : ProductView) (products : List ProductView) → false ≡ list_any (product_eq p) products
    → IsPermutation (p ∷ products) (insert_key product_eq products p)
came p products h = rw (sym h) (IsPermutation-sym (products ++ p ∷ []) (p ∷ products) (IsPermutation-to_front products p))

-- ---- the factors of each product have few bits

pub all_but : (p : ProductView) (old new : List ProductView) → IsPermutation old (p ∷ new) → AllByRecursion IsProduct old → AllByRecursion IsProduct new
all_but p old new h all = (AllByRecursion-permutation IsProduct old (p ∷ new) h all).1

pub all_and : (p : ProductView) (old new : List ProductView) → IsPermutation (p ∷ old) new → IsProduct p → AllByRecursion IsProduct old
    → AllByRecursion IsProduct new
all_and p old new h is all = AllByRecursion-permutation IsProduct (p ∷ old) new h (is, all)

-- ---- values

abbrev sum : List Base → List ProductView → Bool → SumView
sum bits products one = record { bits = bits; products = products; one = one }

deep : (o b v s : Bool) → xor o (xor b (xor v s)) ≡ xor v (xor o (xor b s))
deep o b v s = ap (xor o) (xor_right b v s) ∙ xor_right o v (xor b s)

regroup : (a t c : Bool) → xor (xor a t) c ≡ xor t (xor a c)
regroup a t c = sym (xor_left a t c) ∙ xor_right a t c

-- a product that cancels
pub put_away : (bits : List Base) (old new : List ProductView) (one : Bool) (p : ProductView) → IsPermutation old (p ∷ new)
    → IsPutOnce (sum bits old one) p (sum bits new one) None
put_away bits old new one p h =
    let long : length (p ∷ new) ≡ length old = length_permutation old (p ∷ new) h in
    record {
      values = λ bit.
          xor_nothing (sum_value bit (sum bits new one))
          ∙ xor_twice (xor one (xor (xor_by bit bits) (xor_by (product_value bit) new))) (product_value bit p)
          ∙ ap (λ v. xor v (product_value bit p))
          (sym (deep one (xor_by bit bits) (product_value bit p) (xor_by (product_value bit) new))
          ∙ ap (λ v. xor one (xor (xor_by bit bits) v)) (sym (value-permutation (product_value bit) old (p ∷ new) h)));
      over = λ test o q. record { bits = o.bits; products = (AllByRecursion-permutation (IsProductOver test) old (p ∷ new) h o.products).1 };
      next_over = λ test o q. tt;
      few = omega (arith, long);
      fewer = omega (arith, long);
      light = omega (arith, long);
    }

-- a product that is new
pub put_in : (bits : List Base) (old new : List ProductView) (one : Bool) (p : ProductView) → IsPermutation (p ∷ old) new
    → IsPutOnce (sum bits old one) p (sum bits new one) None
put_in bits old new one p h =
    let long : length new ≡ length (p ∷ old) = length_permutation (p ∷ old) new h in
    record {
      values = λ bit.
          xor_nothing (sum_value bit (sum bits new one))
          ∙ ap (λ v. xor one (xor (xor_by bit bits) v)) (sym (value-permutation (product_value bit) (p ∷ old) new h))
          ∙ deep one (xor_by bit bits) (product_value bit p) (xor_by (product_value bit) old)
          ∙ xor_swap (product_value bit p) (sum_value bit (sum bits old one));
      over = λ test o q. record { bits = o.bits; products = AllByRecursion-permutation (IsProductOver test) (p ∷ old) new h (q, o.products) };
      next_over = λ test o q. tt;
      few = omega (arith, long);
      fewer = omega (arith, long);
      light = omega (arith, long);
    }

pub all_of_some : {X : Type 0} (P : X → Type 0) (o : Option X) → IfSome o P → AllByRecursion P (option_to_list o)
all_of_some P None h = tt
all_of_some P (Some x) h = (h, tt)

pub one_at_most : {X : Type 0} (o : Option X) → length (option_to_list o) ≤ 1
one_at_most None = omega arith
one_at_most (Some x) = omega arith

join_value : (o b j s w v q : Bool) → xor j w ≡ xor v q → xor (xor o (xor (xor b j) s)) w ≡ xor (xor o (xor b (xor q s))) v
join_value o b j s w v q e =
    let t = xor o (xor b s) in
    ap (λ z. xor z w) (ap (xor o) (sym (xor_left b j s)) ∙ deep o b j s)
    ∙ regroup j t w
    ∙ ap (xor t) (e ∙ xor_swap v q)
    ∙ sym (regroup q t v)
    ∙ ap (λ z. xor z v) (sym (deep o b q s))

-- a product that is joined with another one
pub put_joined : (bits more : List Base) (old new : List ProductView) (one : Bool) (p q : ProductView) (joined : List Base) (next : Option ProductView)
    → IsPermutation old (q ∷ new) → IsJoinOf p q joined next → more ≡ bits ++ joined → IsPutOnce (sum bits old one) p (sum more new one) next
put_joined bits more old new one p q joined next h j e = rw e (
    let long : length (q ∷ new) ≡ length old = length_permutation old (q ∷ new) h in
    record {
      values = λ bit.
          ap (λ v. xor (xor one (xor v (xor_by (product_value bit) new))) (xor_by (product_value bit) (option_to_list next))) (value-append bit bits joined)
          ∙ join_value one (xor_by bit bits) (xor_by bit joined) (xor_by (product_value bit) new) (xor_by (product_value bit) (option_to_list next))
          (product_value bit p) (product_value bit q) (j.values bit)
          ∙ ap (λ v. xor (xor one (xor (xor_by bit bits) v)) (product_value bit p)) (sym (value-permutation (product_value bit) old (q ∷ new) h));
      over = λ test o w.
          let all = AllByRecursion-permutation (IsProductOver test) old (q ∷ new) h o.products in
          record { bits = AllByRecursion-append (λ b. test b ≡ true) bits joined o.bits (j.bits_over test w all.0); products = all.1 };
      next_over = λ test o w.
          let all = AllByRecursion-permutation (IsProductOver test) old (q ∷ new) h o.products in
          all_of_some (IsProductOver test) next (j.product_over test w all.0);
      few = omega (arith, long, one_at_most next);
      fewer = omega (arith, long, one_at_most next);
      light = omega (arith, long, one_at_most next, length-append bits joined, j.few);
    })

-- the product at a place is taken out of a sum and joined with another one
pub put_at : (bits more : List Base) (old new : List ProductView) (one : Bool) (p : ProductView) (join : Join) → IsFirstJoin old p join
    → ((q : ProductView) → slice_get old join.place ≡ Some q → new ≡ swap_remove old join.place q) → more ≡ bits ++ join.part.bits.items
    → IsPutOnce (sum bits old one) p (sum more new one) join.part.product
put_at bits more old new one p join at out e =
    put_joined bits more old new one p at.other join.part.bits.items join.part.product
    (subst (λ (l : List ProductView). IsPermutation old (at.other ∷ l)) (sym (out at.other at.found)) (taken old join.place at.other at.found)) at.joined.join e

-- what was taken out by its place
pub out_at : (old new : List ProductView) (i : ℕ) (result : Option ProductView) → result ≡ slice_get old i
    → IfSome result (λ k. new ≡ swap_remove old i k) → (q : ProductView) → slice_get old i ≡ Some q → new ≡ swap_remove old i q
out_at old new i result e h q is = let some : result ≡ Some q = e ∙ is in subst (λ (r : Option ProductView). IfSome r (λ k. new ≡ swap_remove old i k)) some h

-- ---- all steps

pub put_done : (old : SumView) (p : ProductView) (new : SumView) → IsPutOnce old p new None → IsPut old p new
put_done old p new s = record {
  values = λ bit. sym (xor_nothing (sum_value bit new)) ∙ s.values bit;
  over = s.over;
  few = omega (arith, s.few);
  light = omega (arith, s.light);
}

pub put_more : (old : SumView) (p : ProductView) (mid : SumView) (next : ProductView) (new : SumView) → IsPutOnce old p mid (Some next) → IsPut mid next new
    → IsPut old p new
put_more old p mid next new s t = record {
  values = λ bit. t.values bit ∙ ap (xor (sum_value bit mid)) (sym (xor_nothing (product_value bit next))) ∙ s.values bit;
  over = λ test o q. t.over test (s.over test o q) (s.next_over test o q).0;
  few = omega (arith, s.few, t.few);
  light = omega (arith, s.light, t.light);
}
