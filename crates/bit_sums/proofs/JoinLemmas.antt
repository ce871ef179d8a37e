-- Where two products cannot be joined, and which one of a list is.
use Rattle.std.proofs.Common.{◌≡◌, ◌⊎◌, inl, inr, ℕ, ◌+◌, ◌<◌, ◌≤◌, Bool, true, false, List, [], ◌∷◌, length, Option, Some, None, slice_get, get_or}
use Rattle.std.proofs.Common.{refl, sym, ap, ◌∙◌, subst, arith, rules}
use borrow.Author.Count.{below_more}
use Rattle.std.specs.Cmp.{IsTotalOrder}
use Rattle.std.specs.Cmp.Lexicographic.{pointwise, pointwise_decides}
use Rattle.std.specs.Ordering.{is_gt, is_lt, ordering_reverse}
use Rattle.std.specs.Option.{IfNone}
use Rattle.std.specs.declared.cmp.Ordering.{Ordering}
use Rattle.std.specs.declared.cmp.Ordering.TheVariants.{Less, Equal, Greater}
use Rattle.std.specs.List.{AllByRecursion, list_any}
use Rattle.std.proofs.lemmas.Bool.{or_parts, true≢false}
use Rattle.std.proofs.lemmas.Cmp.{lists_total, on_total, then_total, tied_itself, upto}
use Rattle.std.proofs.lemmas.Option.{slice_get_within}
use Rattle.list_facts.specs.Lists.{IsAmong}
use Rattle.dependency_graph.specs.contracts.node.BasePartialEq.TheImpl.{eq-value}
use Rattle.dependency_graph.specs.declared.node.Base.{Base}
use Rattle.dependency_graph.specs.Folds.{is_same}
use Rattle.dependency_graph.proofs.FoldLemmas.{same_itself}
use Rattle.bit_sums.specs.declared.limits.TheConstants.{MOST_FACTOR_BITS}
use Rattle.bit_sums.specs.declared.growing.Join.{Join}
use Rattle.bit_sums.specs.Bits.{apart}
use Rattle.bit_sums.specs.Products.{IsProduct}
use Rattle.bit_sums.specs.Sums.{ProductView}
use Rattle.bit_sums.specs.inside.Firsts.{IsFirst, found_before}
use Rattle.bit_sums.specs.inside.Joins.{AreLong, CanJoin, Cross, HasFactors, IsJoined, CannotShare, ShareFactor, product_cmp}
use Rattle.bit_sums.proofs.SetLemmas.{all-apart, base_total}

-- ---- factors

-- the factors of a product differ
apart_factors : (q : ProductView) → IsProduct q → q.first ≡ q.second → ⊥
apart_factors q is e = is.own.not_there (subst (IsAmong is.own.base) e is.own.here)

-- beside the second factor stands the first one
beside_second : (b c : List Base) (q : ProductView) → IsProduct q → HasFactors b c q → c ≡ q.second → q.first ≡ b
beside_second b c q is (inl e) same = ap (λ (p : ProductView). p.first) e
beside_second b c q is (inr e) same = absurd (apart_factors q is (ap (λ (p : ProductView). p.first) e ∙ same))

beside_first : (b c : List Base) (q : ProductView) → IsProduct q → HasFactors b c q → c ≡ q.first → q.second ≡ b
beside_first b c q is (inl e) same = absurd (apart_factors q is (sym same ∙ sym (ap (λ (p : ProductView). p.second) e)))
beside_first b c q is (inr e) same = ap (λ (p : ProductView). p.second) e

-- a factor is the first or the second one
one_of_both : (b c : List Base) (q : ProductView) → HasFactors b c q → (q.second ≡ c) ⊎ (q.first ≡ c)
one_of_both b c q (inl e) = inl (ap (λ (p : ProductView). p.second) e)
one_of_both b c q (inr e) = inr (ap (λ (p : ProductView). p.first) e)

pub lists_differ : (a b : List Base) → false ≡ pointwise eq-value.it a b → a ≡ b → ⊥
lists_differ a b e same =
    let is : pointwise eq-value.it a b ≡ true = search (rules, pointwise_decides, same) in
    true≢false (sym is ∙ sym e)

pub none_so : {X P Q : Type 0} (o : Option X) → (P → Q) → IfNone o P → IfNone o Q
none_so None f h = f h
none_so (Some x) f h = tt

-- ---- the first rule

pub lacks_second : (a c : List Base) (q : ProductView) → IsProduct q → c ≡ q.second → MOST_FACTOR_BITS < length (apart a q.first) → CannotShare a c q
lacks_second a c q is same long = record {
  long = λ b h. subst (λ (l : List Base). MOST_FACTOR_BITS < length (apart a l)) (beside_second b c q is h same) long;
}

pub lacks_first : (a c : List Base) (q : ProductView) → IsProduct q → c ≡ q.first → MOST_FACTOR_BITS < length (apart a q.second) → CannotShare a c q
lacks_first a c q is same long = record {
  long = λ b h. subst (λ (l : List Base). MOST_FACTOR_BITS < length (apart a l)) (beside_first b c q is h same) long;
}

pub lacks_both : (a c : List Base) (q : ProductView) → (c ≡ q.second → ⊥) → (c ≡ q.first → ⊥) → CannotShare a c q
lacks_both a c q not_second not_first = record {
  long = λ b h. elim (one_of_both b c q h) [ inl e ↦ absurd (not_second (sym e)) | inr e ↦ absurd (not_first (sym e)) ];
}

no_few : (n : ℕ) → MOST_FACTOR_BITS < n → n ≤ MOST_FACTOR_BITS → ⊥
no_few n long few = omega arith

-- neither factor is shared so
pub none_shared : (p q : ProductView) → CannotShare p.first p.second q → CannotShare p.second p.first q → ¬ ShareFactor p q
none_shared p q second first s = shared s.a s.b s.c s.first s.second s.few where
  shared : (a b c : List Base) → HasFactors a c p → HasFactors b c q → length (apart a b) ≤ MOST_FACTOR_BITS → ⊥
  shared a b c (inl e) hq few =
      let x : p.first ≡ a = ap (λ (r : ProductView). r.first) e in
      let y : p.second ≡ c = ap (λ (r : ProductView). r.second) e in
      no_few (length (apart a b)) (subst (λ (l : List Base). MOST_FACTOR_BITS < length (apart l b)) x
      (second.long b (subst (λ (l : List Base). HasFactors b l q) (sym y) hq))) few
  shared a b c (inr e) hq few =
      let x : p.second ≡ a = ap (λ (r : ProductView). r.second) e in
      let y : p.first ≡ c = ap (λ (r : ProductView). r.first) e in
      no_few (length (apart a b)) (subst (λ (l : List Base). MOST_FACTOR_BITS < length (apart l b)) x
      (first.long b (subst (λ (l : List Base). HasFactors b l q) (sym y) hq))) few

-- ---- the second rule

pub long_sums : (a b c left right : List Base) → left ≡ apart a c → right ≡ apart b c → (MOST_FACTOR_BITS < length left) ⊎ (MOST_FACTOR_BITS < length right)
    → AreLong a b c
long_sums a b c left right l r (inl long) = inl (subst (λ (s : List Base). MOST_FACTOR_BITS < length s) l long)
long_sums a b c left right l r (inr long) = inr (subst (λ (s : List Base). MOST_FACTOR_BITS < length s) r long)

never_cross : (a b c : List Base) → AreLong a b c → length (apart a c) ≤ MOST_FACTOR_BITS → length (apart b c) ≤ MOST_FACTOR_BITS → ⊥
never_cross a b c (inl long) left right = no_few (length (apart a c)) long left
never_cross a b c (inr long) left right = no_few (length (apart b c)) long right

pub none_by_second : (p q : ProductView) (sum : List Base) → IsProduct q → sum ≡ apart p.first p.second → q.second ≡ sum → AreLong p.first p.second q.first
    → ¬ Cross p q
none_by_second p q sum is e same long x =
    let other : q.first ≡ x.c = beside_second x.c (apart p.first p.second) q is x.factors (sym e ∙ sym same) in
    never_cross p.first p.second x.c (subst (AreLong p.first p.second) other long) x.left x.right

pub none_by_first : (p q : ProductView) (sum : List Base) → IsProduct q → sum ≡ apart p.first p.second → q.first ≡ sum → AreLong p.first p.second q.second
    → ¬ Cross p q
none_by_first p q sum is e same long x =
    let other : q.second ≡ x.c = beside_first x.c (apart p.first p.second) q is x.factors (sym e ∙ sym same) in
    never_cross p.first p.second x.c (subst (AreLong p.first p.second) other long) x.left x.right

pub none_crossing : (p q : ProductView) (sum : List Base) → sum ≡ apart p.first p.second → (q.second ≡ sum → ⊥) → (q.first ≡ sum → ⊥) → ¬ Cross p q
none_crossing p q sum e not_second not_first x = elim (one_of_both x.c (apart p.first p.second) q x.factors)
    [ inl same ↦ not_second (same ∙ sym e) | inr same ↦ not_first (same ∙ sym e) ]

pub none_joined : (p q : ProductView) → ¬ ShareFactor p q → ¬ Cross p q → ¬ Cross q p → ¬ CanJoin p q
none_joined p q shared crossed turned (inl s) = shared s
none_joined p q shared crossed turned (inr (inl x)) = crossed x
none_joined p q shared crossed turned (inr (inr x)) = turned x

lacked : (x : Base) (bits : List Base) → list_any (is_same x) bits ≡ false → AllByRecursion (λ y. is_same x y ≡ false) bits
lacked x [] none = tt
lacked x (y ∷ ys) none =
    let parts = or_parts (is_same x y) (list_any (is_same x) ys) none in
    (parts.0, lacked x ys parts.1)

-- no sum of two sets begins with a bit that both lack
pub never_sum : (d : Base) (bits a b : List Base) → 0 < length bits → list_any (is_same (get_or bits 0 d)) a ≡ false
    → list_any (is_same (get_or bits 0 d)) b ≡ false → bits ≡ apart a b → ⊥
never_sum d [] a b some first second e = absurd (omega (arith, some))
never_sum d (x ∷ xs) a b some first second e =
    let all : AllByRecursion (λ y. is_same x y ≡ false) (x ∷ xs) =
    subst (AllByRecursion (λ y. is_same x y ≡ false)) (sym e)
    (all-apart (λ y. is_same x y ≡ false) a b (lacked x a first) (lacked x b second)) in
    true≢false (sym (same_itself x) ∙ all.0)

-- ---- the order of products

pub product_total : IsTotalOrder product_cmp
product_total = then_total (on_total (λ (p : ProductView). p.first) (lists_total base_total))
    (on_total (λ (p : ProductView). p.second) (lists_total base_total))

-- ---- the first of a list

-- no product before this place can be joined
pub record NoneBelow (n : ℕ) (products : List ProductView) (product : ProductView) : Type 0 where
  pub none : (k : ℕ) (q : ProductView) → k < n → slice_get products k ≡ Some q → ¬ CanJoin product q

-- the least of the products before this place that can be joined
pub record LeastBelow (n : ℕ) (products : List ProductView) (product : ProductView) (join : Join) : Type 0 where
  pub other : ProductView
  pub found : slice_get products join.place ≡ Some other
  pub joined : IsJoined product other join.part.bits.items join.part.product
  pub least : (k : ℕ) (q : ProductView) → k < n → slice_get products k ≡ Some q → CanJoin product q → is_gt (product_cmp other q) ≡ false

abbrev pub IsFirstBelow : ℕ → List ProductView → ProductView → Option Join → Type 0
IsFirstBelow n products product None = NoneBelow n products product
IsFirstBelow n products product (Some join) = LeastBelow n products product join

pub none_below : (products : List ProductView) (product : ProductView) → IsFirstBelow 0 products product None
none_below products product = record { none = λ k q low e can. absurd (omega (arith, low)) }

pub whole_list : (n : ℕ) (products : List ProductView) (product : ProductView) (found : Option Join) → length products ≤ n
    → IsFirstBelow n products product found → IsFirst products product found
whole_list n products product None all h = record { none = λ k q e. h.none k q (omega (arith, slice_get_within products k q e, all)) e }
whole_list n products product (Some join) all h = record {
  other = h.other;
  found = h.found;
  joined = h.joined;
  least = λ k q e. h.least k q (omega (arith, slice_get_within products k q e, all)) e;
}

same_at : (products : List ProductView) (n : ℕ) (q r : ProductView) → slice_get products n ≡ Some q → slice_get products n ≡ Some r → q ≡ r
same_at products n q r e f = cc

not_joined_yet : (n : ℕ) (products : List ProductView) (product other : ProductView) → slice_get products n ≡ Some other → ¬ CanJoin product other
    → NoneBelow n products product → NoneBelow (n + 1) products product
not_joined_yet n products product other e never h = record {
  none = λ k q low.
      below_more (λ (j : ℕ). (r : ProductView) → slice_get products j ≡ Some r → ¬ CanJoin product r) n (λ j l r. h.none j r l)
      (λ r f can. never (subst (CanJoin product) (same_at products n r other f e) can)) k low q;
}

least_still : (n : ℕ) (products : List ProductView) (product other : ProductView) (join : Join) → slice_get products n ≡ Some other
    → (h : LeastBelow n products product join) → (CanJoin product other → is_gt (product_cmp h.other other) ≡ false)
    → LeastBelow (n + 1) products product join
least_still n products product other join e h here = record {
  other = h.other;
  found = h.found;
  joined = h.joined;
  least = λ k q low.
      below_more (λ (j : ℕ). (r : ProductView) → slice_get products j ≡ Some r → CanJoin product r → is_gt (product_cmp h.other r) ≡ false) n
      (λ j l r. h.least j r l)
      (λ r f can. let same = same_at products n other r e f in
      subst (λ (s : ProductView). is_gt (product_cmp h.other s) ≡ false) same (here (subst (CanJoin product) (sym same) can))) k low q;
}

-- the product at a place cannot be joined
pub none_here : (n : ℕ) (products : List ProductView) (product other : ProductView) (first : Option Join) → slice_get products n ≡ Some other
    → ¬ CanJoin product other → IsFirstBelow n products product first → IsFirstBelow (n + 1) products product first
none_here n products product other None e never h = not_joined_yet n products product other e never h
none_here n products product other (Some join) e never h =
    least_still n products product other join e h (λ can. absurd (never can))

not_greater : (o : Ordering) → is_lt o ≡ true → is_gt o ≡ false
not_greater Less e = refl
not_greater Equal e = refl
not_greater Greater e = absurd (true≢false (sym e))

before_found : (products : List ProductView) (other least : ProductView) (o : Option ProductView) → o ≡ Some least
    → elim o as (λ x. Bool) [ None ↦ false | Some l ↦ is_lt (product_cmp l other) ] ≡ is_lt (product_cmp least other)
before_found products other least None e = absurd cc
before_found products other least (Some l) e = let same : l ≡ least = cc in ap (λ (p : ProductView). is_lt (product_cmp p other)) same

-- the product at a place comes behind the one that was found
pub behind_here : (n : ℕ) (products : List ProductView) (product other : ProductView) (first : Option Join) → slice_get products n ≡ Some other
    → found_before products first other ≡ true → IsFirstBelow n products product first → IsFirstBelow (n + 1) products product first
behind_here n products product other None e before h = absurd (true≢false (sym before))
behind_here n products product other (Some join) e before h =
    least_still n products product other join e h
    (λ can. not_greater (product_cmp h.other other) (sym (before_found products other h.other (slice_get products join.place) h.found) ∙ before))

turned_order : (o : Ordering) → is_lt o ≡ false → is_gt (ordering_reverse o) ≡ false
turned_order Less e = absurd (true≢false e)
turned_order Equal e = refl
turned_order Greater e = refl

-- what comes up to a product comes up to all that it comes before
least_of : (n : ℕ) (products : List ProductView) (product other : ProductView) (first : Option Join) → found_before products first other ≡ false
    → IsFirstBelow n products product first → (k : ℕ) (q : ProductView) → k < n → slice_get products k ≡ Some q → CanJoin product q
    → is_gt (product_cmp other q) ≡ false
least_of n products product other None before h k q low e can = absurd (h.none k q low e can)
least_of n products product other (Some join) before h k q low e can =
    let later : is_lt (product_cmp h.other other) ≡ false =
    sym (before_found products other h.other (slice_get products join.place) h.found) ∙ before in
    let up : is_gt (product_cmp other h.other) ≡ false =
    ap is_gt (product_total.antisymm other h.other) ∙ turned_order (product_cmp h.other other) later in
    upto product_total other h.other q up (h.least k q low e can)

-- the product at a place is joined, and comes before the one that was found
pub first_here : (n : ℕ) (products : List ProductView) (product other : ProductView) (first : Option Join) (join : Join) → join.place ≡ n
    → slice_get products n ≡ Some other → found_before products first other ≡ false → IsJoined product other join.part.bits.items join.part.product
    → IsFirstBelow n products product first → IsFirstBelow (n + 1) products product (Some join)
first_here n products product other first join place e before joined h = record {
  other = other;
  found = ap (slice_get products) place ∙ e;
  joined = joined;
  least = λ k q low.
      below_more (λ (j : ℕ). (r : ProductView) → slice_get products j ≡ Some r → CanJoin product r → is_gt (product_cmp other r) ≡ false) n
      (λ j l r. least_of n products product other first before h j r l)
      (λ r f can. subst (λ (s : ProductView). is_gt (product_cmp other s) ≡ false) (same_at products n other r e f)
      (ap is_gt (tied_itself product_total other))) k low q;
}
