-- How many elements differ, by any equivalence.
use Rattle.std.proofs.Common.{◌≡◌, ℕ, zero, suc, ◌≤◌, ◌⊎◌, inl, inr, List, [], ◌∷◌, length, take, refl, sym, ap, subst, arith}
use Rattle.std.specs.List.{AllByRecursion}
use Rattle.list_facts.specs.Lists.{IsAmong, AnyByRecursion, AreApart}
use Rattle.list_facts.proofs.AllLemmas.{AllByRecursion-take}

module _ {A : Type 0} (R : A → A → Type 0) (turned : (x y : A) → R x y → R y x) (joined : (x y z : A) → R x y → R y z → R x z) where
  record Without (x : A) (ys : List A) : Type 0 where
    pub left : List A
    pub count : length ys ≡ suc (length left)
    pub others : (z : A) → ¬ R x z → AnyByRecursion (R z) ys → AnyByRecursion (R z) left

  without : (x : A) (ys : List A) → AnyByRecursion (R x) ys → Without x ys
  without x [] k = absurd k
  without x (y ∷ ys) k = elim k as (λ _. Without x (y ∷ ys)) [
    | inl alike ↦ record {
      left = ys;
      count = refl;
      others = λ z differs among. elim among as (λ _. AnyByRecursion (R z) ys) [
        | inl same ↦ absurd (differs (joined x y z alike (turned z y same)))
        | inr later ↦ later
      ];
    }
    | inr later ↦ let rest = without x ys later in record {
      left = y ∷ rest.left;
      count = ap suc rest.count;
      others = λ z differs among. elim among as (λ _. AnyByRecursion (R z) (y ∷ rest.left)) [
        | inl same ↦ inl same
        | inr there ↦ inr (rest.others z differs there)
      ];
    }
  ]

  kept_apart : (x : A) (ys zs us : List A) → AllByRecursion (λ y. ¬ R x y) ys → AllByRecursion (λ y. AnyByRecursion (R y) zs) ys
      → ((z : A) → ¬ R x z → AnyByRecursion (R z) zs → AnyByRecursion (R z) us) → AllByRecursion (λ y. AnyByRecursion (R y) us) ys
  kept_apart x [] zs us differ among others = tt
  kept_apart x (y ∷ ys) zs us differ among others = (others y differ.0 among.0, kept_apart x ys zs us differ.1 among.1 others)

  -- those that differ are no more than those that they are like
  pub no_more : (xs ys : List A) → AreApart R xs → AllByRecursion (λ x. AnyByRecursion (R x) ys) xs → length xs ≤ length ys
  no_more [] ys apart among = omega arith
  no_more (x ∷ xs) ys apart among =
      let rest = without x ys among.0 in
      let fewer = no_more xs rest.left apart.1 (kept_apart x xs ys rest.left apart.0 among.1 rest.others) in
      omega (arith, fewer, rest.count)

  -- one of each sort
  pub record Sorts (P : A → Type 0) (xs : List A) : Type 0 where
    pub kept : List A
    pub are : AllByRecursion P kept
    pub apart : AreApart R kept
    pub all : (x : A) → IsAmong x xs → AnyByRecursion (R x) kept

  any_or_none : ((x y : A) → R x y ⊎ (¬ R x y)) → (x : A) (ys : List A) → AnyByRecursion (R x) ys ⊎ AllByRecursion (λ y. ¬ R x y) ys
  any_or_none decide x [] = inr tt
  any_or_none decide x (y ∷ ys) = elim (decide x y) as (λ _. AnyByRecursion (R x) (y ∷ ys) ⊎ AllByRecursion (λ z. ¬ R x z) (y ∷ ys)) [
    | inl alike ↦ inl (inl alike)
    | inr differs ↦ elim (any_or_none decide x ys) as (λ _. AnyByRecursion (R x) (y ∷ ys) ⊎ AllByRecursion (λ z. ¬ R x z) (y ∷ ys)) [
      | inl later ↦ inl (inr later)
      | inr none ↦ inr (differs, none)
    ]
  ]

  pub sorts : ((x : A) → R x x) → ((x y : A) → R x y ⊎ (¬ R x y)) → (P : A → Type 0) (xs : List A) → AllByRecursion P xs → Sorts P xs
  sorts self decide P [] are = record { kept = []; are = tt; apart = tt; all = λ x k. k }
  sorts self decide P (y ∷ ys) are =
      let rest = sorts self decide P ys are.1 in
      elim (any_or_none decide y rest.kept) as (λ _. Sorts P (y ∷ ys)) [
        | inl known ↦ record {
          kept = rest.kept;
          are = rest.are;
          apart = rest.apart;
          all = λ x k. elim k as (λ _. AnyByRecursion (R x) rest.kept) [
            | inl e ↦ subst (λ z. AnyByRecursion (R z) rest.kept) (sym e) known
            | inr later ↦ rest.all x later
          ];
        }
        | inr new ↦ record {
          kept = y ∷ rest.kept;
          are = (are.0, rest.are);
          apart = (new, rest.apart);
          all = λ x k. elim k as (λ _. AnyByRecursion (R x) (y ∷ rest.kept)) [
            | inl e ↦ inl (subst (λ z. R x z) e (self x))
            | inr later ↦ inr (rest.all x later)
          ];
        }
      ]

  pub AreApart-take : (n : ℕ) (xs : List A) → AreApart R xs → AreApart R (take n xs)
  AreApart-take zero xs apart = tt
  AreApart-take (suc n) [] apart = tt
  AreApart-take (suc n) (x ∷ xs) apart = (AllByRecursion-take (λ y. ¬ R x y) n xs apart.0, AreApart-take n xs apart.1)
