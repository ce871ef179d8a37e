-- Sums that the derived test finds equal are one.
use Rattle.std.proofs.Common.{◌≡◌, Bool, true, false, ◌&&◌, List, [], ◌∷◌, refl, ap₂, rules}
use mathlib.Core.Bool.{beq}
use Rattle.std.specs.Cmp.Lexicographic.{pointwise, pointwise_decides}
use Rattle.std.proofs.lemmas.Bool.{and_parts}
use Rattle.dependency_graph.specs.contracts.node.BasePartialEq.TheImpl as of_bases
use Rattle.dependency_graph.specs.declared.node.Base.{Base}
use Rattle.bit_sums.specs.contracts.sum.SumPartialEq.TheImpl as of_sums
use Rattle.bit_sums.specs.Sums.{ProductView, SumView}
use Rattle.bit_sums.proofs.GrowingLemmas.{product_eq, same_product}

abbrev pub sum_eq : SumView → SumView → Bool
sum_eq = of_sums.eq-value.it

same_list : {A : Type 0} (eq : A → A → Bool) → ((x y : A) → eq x y ≡ true → x ≡ y) → (xs ys : List A) → pointwise eq xs ys ≡ true → xs ≡ ys
same_list eq same [] [] e = refl
same_list eq same [] (y ∷ ys) e = cc
same_list eq same (x ∷ xs) [] e = cc
same_list eq same (x ∷ xs) (y ∷ ys) e =
    let parts = and_parts (eq x y) (pointwise eq xs ys) e in
    ap₂ (λ z zs. z ∷ zs) (same x y parts.0) (same_list eq same xs ys parts.1)

same_bits : (a b : List Base) → pointwise of_bases.eq-value.it a b ≡ true → a ≡ b
same_bits a b e = search (rules, pointwise_decides, e)

same_one : (a b : Bool) → beq a b ≡ true → a ≡ b
same_one true true e = refl
same_one true false e = cc
same_one false true e = cc
same_one false false e = refl

abbrev sum : List Base → List ProductView → Bool → SumView
sum bits products one = record { bits = bits; products = products; one = one }

sums_equal : (a b : List Base) → a ≡ b → (p q : List ProductView) → p ≡ q → (m n : Bool) → m ≡ n → sum a p m ≡ sum b q n
sums_equal a b e p q f m n g = rw (e, f, g) refl

pub same_sum : (a b : SumView) → sum_eq a b ≡ true → a ≡ b
same_sum a b e =
    let outer = and_parts (pointwise of_bases.eq-value.it a.bits b.bits) (pointwise product_eq a.products b.products && beq a.one b.one) e in
    let inner = and_parts (pointwise product_eq a.products b.products) (beq a.one b.one) outer.1 in
    let bits : a.bits ≡ b.bits = same_bits a.bits b.bits outer.0 in
    let products : a.products ≡ b.products = same_list product_eq same_product a.products b.products inner.0 in
    let one : a.one ≡ b.one = same_one a.one b.one inner.1 in
    sums_equal a.bits b.bits bits a.products b.products products a.one b.one one
