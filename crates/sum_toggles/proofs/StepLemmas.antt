-- One gate or one product more.
use Rattle.std.proofs.Common.{◌≡◌, ◌≢◌, ℕ, ◌+◌, ◌<◌, List, [], ◌∷◌, ◌++◌, length, drop, get_or, Option, sum_by, sym, ap, ◌∙◌, subst}
use Rattle.std.specs.List.{AllByRecursion, flat_map}
use Rattle.std.proofs.lemmas.List.{append_assoc, drop_more}
use Rattle.std.proofs.lemmas.List.Sums.{sum_by-drop_more}
use Rattle.list_facts.specs.Lists.{AreDifferent, IsAmong}
use Rattle.list_facts.proofs.AllLemmas.{AllByRecursion-at, AllByRecursion-left, AllByRecursion-right}
use Rattle.list_facts.proofs.AmongLemmas.{all_among, all_from_among, among_left, among_right}
use Rattle.dependency_graph.specs.declared.node.Base.{Base}
use Rattle.bit_sums.specs.Products.{IsProduct}
use Rattle.bit_sums.specs.Sums.{ProductView, SumView, bases_of, product_bases}
use Rattle.mct_circuit.specs.Gates.{GateView}
use Rattle.sum_toggles.specs.Toggles.{AreApart, IsPlacedBase, base_line, own_base, product_weight}
use Rattle.sum_toggles.specs.inside.Steps.{CanAdd, CanFlip, HaveOwnLines, IsGathered}
use Rattle.sum_toggles.proofs.OwnLemmas.{first_own, second_own}

-- ---- lists of gates, one element of what they are made of after another

pub one_more : {A : Type 0} (gates : A → List GateView) (before after whole : List GateView) (xs : List A) (i : ℕ) (x : A) → i < length xs
    → x ≡ get_or xs i x → after ≡ before ++ gates x → before ++ flat_map gates (drop i xs) ≡ whole
    → after ++ flat_map gates (drop (i + 1) xs) ≡ whole
one_more gates before after whole xs i x low is e done =
    let rest = flat_map gates (drop (i + 1) xs) in
    ap (λ z. z ++ rest) e
    ∙ append_assoc before (gates x) rest
    ∙ ap (λ y. before ++ (gates y ++ rest)) is
    ∙ sym (ap (λ ys. before ++ flat_map gates ys) (drop_more xs i x low))
    ∙ done

-- the element at a place is as all are
pub at_place : {A : Type 0} (P : A → Type 0) (xs : List A) (i : ℕ) (x : A) → AllByRecursion P xs → i < length xs → x ≡ get_or xs i x → P x
at_place P xs i x all low is = subst P (sym is) (AllByRecursion-at P xs i x all low)

-- ---- a product

module _ (first : ℕ) (lines : List (Option ℕ)) (p : ProductView) (is : IsProduct p) (have : HaveOwnLines first lines p) where
  abbrev a : Base
  a = own_base p.first p.second

  abbrev b : Base
  b = own_base p.second p.first

  among_a : IsAmong a (product_bases p)
  among_a = among_left a p.first p.second (first_own p is).here

  among_b : IsAmong b (product_bases p)
  among_b = among_right b p.first p.second (second_own p is).here

  pub placed_a : IsPlacedBase first lines a
  placed_a = all_among (IsPlacedBase first lines) (product_bases p) have.placed a among_a

  pub placed_b : IsPlacedBase first lines b
  placed_b = all_among (IsPlacedBase first lines) (product_bases p) have.placed b among_b

  -- bases of the product, gathered onto the line of one of them
  gathered : (own : Base) (xs : List Base) → AllByRecursion (IsPlacedBase first lines) xs → IsPlacedBase first lines own → IsAmong own (product_bases p)
      → ((c : Base) → IsAmong c xs → IsAmong c (product_bases p)) → IsGathered first lines own xs
  gathered own xs placed own_placed among inside = record {
    placed = placed;
    own_placed = own_placed;
    apart = all_from_among (λ (c : Base). c ≢ own → base_line first lines c ≢ base_line first lines own) xs
        (λ c k ne same. ne (have.own c own (inside c k) among same));
  }

  pub first_gathered : IsGathered first lines a p.first
  first_gathered =
      gathered a p.first (AllByRecursion-left (IsPlacedBase first lines) p.first p.second have.placed) placed_a among_a
      (λ c k. among_left c p.first p.second k)

  pub second_gathered : IsGathered first lines b p.second
  second_gathered =
      gathered b p.second (AllByRecursion-right (IsPlacedBase first lines) p.first p.second have.placed) placed_b among_b
      (λ c k. among_right c p.first p.second k)

  pub flip_different : (target : ℕ) → ((c : Base) → IsAmong c (product_bases p) → base_line first lines c ≢ target)
      → AreDifferent (base_line first lines a ∷ base_line first lines b ∷ target ∷ [])
  flip_different target apart =
      let ne : base_line first lines a ≢ base_line first lines b =
      λ same. (first_own p is).not_there (subst (λ c. IsAmong c p.second) (sym (have.own a b among_a among_b same)) (second_own p is).here) in
      ((ne, (apart a among_a, tt)), ((apart b among_b, tt), (tt, tt)))

-- ---- a sum

bits_can : (first : ℕ) (lines : List (Option ℕ)) (target : ℕ) (all bits : List Base) → AreApart (base_line first lines) target all
    → AllByRecursion (IsPlacedBase first lines) bits → ((b : Base) → IsAmong b bits → IsAmong b all) → AllByRecursion (CanAdd first lines target) bits
bits_can first lines target all bits apart placed among =
    all_from_among (CanAdd first lines target) bits
    (λ b k. record { placed = all_among (IsPlacedBase first lines) bits placed b k; apart = apart.apart b (among b k) })

products_can : (first : ℕ) (lines : List (Option ℕ)) (target : ℕ) (all : List Base) (ps : List ProductView) → AreApart (base_line first lines) target all
    → AllByRecursion (IsPlacedBase first lines) (flat_map product_bases ps) → ((b : Base) → IsAmong b (flat_map product_bases ps) → IsAmong b all)
    → AllByRecursion (CanFlip first lines target) ps
products_can first lines target all [] apart placed among = tt
products_can first lines target all (p ∷ ps) apart placed among =
    let rest = flat_map product_bases ps in
    let here : (b : Base) → IsAmong b (product_bases p) → IsAmong b all = λ b k. among b (among_left b (product_bases p) rest k) in (
      record {
        lines_own = record {
          placed = AllByRecursion-left (IsPlacedBase first lines) (product_bases p) rest placed;
          own = λ a b k m same. apart.own a b (here a k) (here b m) same;
        };
        apart = λ b k. apart.apart b (here b k);
      },
      products_can first lines target all ps apart (AllByRecursion-right (IsPlacedBase first lines) (product_bases p) rest placed)
          (λ b k. among b (among_right b (product_bases p) rest k)),
    )

module _ (first : ℕ) (lines : List (Option ℕ)) (target : ℕ) (s : SumView) (apart : AreApart (base_line first lines) target (bases_of s))
    (placed : AllByRecursion (IsPlacedBase first lines) (bases_of s)) where
  pub all_bits_can : AllByRecursion (CanAdd first lines target) s.bits
  all_bits_can =
      bits_can first lines target (bases_of s) s.bits apart
      (AllByRecursion-left (IsPlacedBase first lines) s.bits (flat_map product_bases s.products) placed)
      (λ b k. among_left b s.bits (flat_map product_bases s.products) k)

  pub all_products_can : AllByRecursion (CanFlip first lines target) s.products
  all_products_can =
      products_can first lines target (bases_of s) s.products apart
      (AllByRecursion-right (IsPlacedBase first lines) s.bits (flat_map product_bases s.products) placed)
      (λ b k. among_right b s.bits (flat_map product_bases s.products) k)

-- ---- weights

pub weight_step : (ps : List ProductView) (i : ℕ) (p : ProductView) → i < length ps → p ≡ get_or ps i p
    → sum_by product_weight (drop i ps) ≡ product_weight p + sum_by product_weight (drop (i + 1) ps)
weight_step ps i p low is =
    sum_by-drop_more product_weight ps i p low ∙ ap (λ q. product_weight q + sum_by product_weight (drop (i + 1) ps)) (sym is)
