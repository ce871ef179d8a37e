-- What going through two lists side by side keeps.
use Rattle.std.proofs.Common.{◌≡◌, List, [], ◌∷◌, map, refl, ap, ◌∙◌}
use Rattle.std.specs.List.{AllByRecursion}
use Rattle.std.specs.Cmp.{IsTotalOrder}
use Rattle.std.specs.declared.cmp.Ordering.{Ordering}
use Rattle.std.specs.declared.cmp.Ordering.TheVariants.{Less, Equal, Greater}
use Rattle.revs_tape.specs.inside.Aligned.{Pair, left, right, both, by_order, aligned, key_of}
use Rattle.revs_tape.specs.Polynomials.{IsInOrder}
use Rattle.list_facts.proofs.AllLemmas.{AllByRecursion-weaker}

-- ---- induction over two lists

pub record Steps {A : Type 0} (cmp : A → A → Ordering) (P : List A → List A → List (Pair A) → Type 0) : Type 0 where
  pub ends : (ys : List A) → P [] ys (map right ys)
  pub last : (x : A) (xs : List A) → P xs [] (aligned cmp xs []) → P (x ∷ xs) [] (left x ∷ aligned cmp xs [])
  pub less : (x : A) (xs : List A) (y : A) (ys : List A) → cmp x y ≡ Less → P xs (y ∷ ys) (aligned cmp xs (y ∷ ys))
      → P (x ∷ xs) (y ∷ ys) (left x ∷ aligned cmp xs (y ∷ ys))
  pub tie : (x : A) (xs : List A) (y : A) (ys : List A) → cmp x y ≡ Equal → P xs ys (aligned cmp xs ys) → P (x ∷ xs) (y ∷ ys) (both x y ∷ aligned cmp xs ys)
  pub more : (x : A) (xs : List A) (y : A) (ys : List A) → cmp x y ≡ Greater → P (x ∷ xs) ys (aligned cmp (x ∷ xs) ys)
      → P (x ∷ xs) (y ∷ ys) (right y ∷ aligned cmp (x ∷ xs) ys)

chosen : {A : Type 0} (cmp : A → A → Ordering) (P : List A → List A → List (Pair A) → Type 0) → Steps cmp P → (x : A) (xs : List A) (y : A) (ys : List A)
    → P xs (y ∷ ys) (aligned cmp xs (y ∷ ys)) → P xs ys (aligned cmp xs ys) → P (x ∷ xs) ys (aligned cmp (x ∷ xs) ys)
    → (o : Ordering) → cmp x y ≡ o
    → P (x ∷ xs) (y ∷ ys) (by_order o (left x ∷ aligned cmp xs (y ∷ ys)) (both x y ∷ aligned cmp xs ys) (right y ∷ aligned cmp (x ∷ xs) ys))
chosen cmp P s x xs y ys p q r Less e = s.less x xs y ys e p
chosen cmp P s x xs y ys p q r Equal e = s.tie x xs y ys e q
chosen cmp P s x xs y ys p q r Greater e = s.more x xs y ys e r

behind : {A : Type 0} (cmp : A → A → Ordering) (P : List A → List A → List (Pair A) → Type 0) → Steps cmp P → (x : A) (xs : List A)
    → ((ys : List A) → P xs ys (aligned cmp xs ys)) → (ys : List A) → P (x ∷ xs) ys (aligned cmp (x ∷ xs) ys)
behind cmp P s x xs h [] = s.last x xs (h [])
behind cmp P s x xs h (y ∷ ys) = chosen cmp P s x xs y ys (h (y ∷ ys)) (h ys) (behind cmp P s x xs h ys) (cmp x y) refl

pub by_steps : {A : Type 0} (cmp : A → A → Ordering) (P : List A → List A → List (Pair A) → Type 0) → Steps cmp P → (xs ys : List A)
    → P xs ys (aligned cmp xs ys)
by_steps cmp P s [] ys = s.ends ys
by_steps cmp P s (x ∷ xs) ys = behind cmp P s x xs (by_steps cmp P s xs) ys

-- ---- the two lists

-- the elements of the left list, and of the right one
abbrev pub lefts : {A : Type 0} → List (Pair A) → List A
lefts [] = []
lefts (left x ∷ ps) = x ∷ lefts ps
lefts (right y ∷ ps) = lefts ps
lefts (both x y ∷ ps) = x ∷ lefts ps

abbrev pub rights : {A : Type 0} → List (Pair A) → List A
rights [] = []
rights (left x ∷ ps) = rights ps
rights (right y ∷ ps) = y ∷ rights ps
rights (both x y ∷ ps) = y ∷ rights ps

lefts-map_right : {A : Type 0} (ys : List A) → lefts (map right ys) ≡ []
lefts-map_right [] = refl
lefts-map_right (y ∷ ys) = lefts-map_right ys

rights-map_right : {A : Type 0} (ys : List A) → rights (map right ys) ≡ ys
rights-map_right [] = refl
rights-map_right (y ∷ ys) = ap (λ zs. y ∷ zs) (rights-map_right ys)

pub lefts-aligned : {A : Type 0} (cmp : A → A → Ordering) (xs ys : List A) → lefts (aligned cmp xs ys) ≡ xs
lefts-aligned {A} cmp = by_steps cmp (λ xs ys ps. lefts ps ≡ xs) (record {
  ends = lefts-map_right;
  last = λ x xs h. ap (λ zs. x ∷ zs) h;
  less = λ x xs y ys o h. ap (λ zs. x ∷ zs) h;
  tie = λ x xs y ys o h. ap (λ zs. x ∷ zs) h;
  more = λ x xs y ys o h. h;
})

pub rights-aligned : {A : Type 0} (cmp : A → A → Ordering) (xs ys : List A) → rights (aligned cmp xs ys) ≡ ys
rights-aligned {A} cmp = by_steps cmp (λ xs ys ps. rights ps ≡ ys) (record {
  ends = rights-map_right;
  last = λ x xs h. h;
  less = λ x xs y ys o h. h;
  tie = λ x xs y ys o h. ap (λ zs. y ∷ zs) h;
  more = λ x xs y ys o h. ap (λ zs. y ∷ zs) h;
})

-- ---- ties

abbrev pub IsTied : {A : Type 0} → (A → A → Ordering) → Pair A → Type 0
IsTied cmp (left x) = Unit {0}
IsTied cmp (right y) = Unit {0}
IsTied cmp (both x y) = cmp x y ≡ Equal

tied_rights : {A : Type 0} (cmp : A → A → Ordering) (ys : List A) → AllByRecursion (IsTied cmp) (map right ys)
tied_rights cmp [] = tt
tied_rights cmp (y ∷ ys) = (tt, tied_rights cmp ys)

pub tied-aligned : {A : Type 0} (cmp : A → A → Ordering) (xs ys : List A) → AllByRecursion (IsTied cmp) (aligned cmp xs ys)
tied-aligned {A} cmp = by_steps cmp (λ xs ys ps. AllByRecursion (IsTied cmp) ps) (record {
  ends = tied_rights cmp;
  last = λ x xs h. (tt, h);
  less = λ x xs y ys o h. (tt, h);
  tie = λ x xs y ys o h. (o, h);
  more = λ x xs y ys o h. (tt, h);
})

-- ---- order

abbrev pub by_key : {A : Type 0} → (A → A → Ordering) → Pair A → Pair A → Ordering
by_key cmp p q = cmp (key_of p) (key_of q)

above_rights : {A : Type 0} (cmp : A → A → Ordering) (z : A) (ys : List A) → AllByRecursion (λ y. cmp z y ≡ Less) ys
    → AllByRecursion (λ p. cmp z (key_of p) ≡ Less) (map right ys)
above_rights cmp z [] h = tt
above_rights cmp z (y ∷ ys) h = (h.0, above_rights cmp z ys h.1)

pub above-aligned : {A : Type 0} (cmp : A → A → Ordering) (z : A) (xs ys : List A) → AllByRecursion (λ y. cmp z y ≡ Less) xs
    → AllByRecursion (λ y. cmp z y ≡ Less) ys
    → AllByRecursion (λ p. cmp z (key_of p) ≡ Less) (aligned cmp xs ys)
above-aligned {A} cmp z = by_steps cmp
    (λ xs ys ps. AllByRecursion (λ y. cmp z y ≡ Less) xs → AllByRecursion (λ y. cmp z y ≡ Less) ys → AllByRecursion (λ p. cmp z (key_of p) ≡ Less) ps) (record {
      ends = λ ys a b. above_rights cmp z ys b;
      last = λ x xs h a b. (a.0, h a.1 b);
      less = λ x xs y ys o h a b. (a.0, h a.1 b);
      tie = λ x xs y ys o h a b. (a.0, h a.1 b.1);
      more = λ x xs y ys o h a b. (b.0, h a b.1);
    })

in_order_rights : {A : Type 0} (cmp : A → A → Ordering) (ys : List A) → IsInOrder cmp ys → IsInOrder (by_key cmp) (map right ys)
in_order_rights cmp [] h = tt
in_order_rights cmp (y ∷ ys) h = (above_rights cmp y ys h.0, in_order_rights cmp ys h.1)

pub in_order-aligned : {A : Type 0} (cmp : A → A → Ordering) → IsTotalOrder cmp → (xs ys : List A) → IsInOrder cmp xs → IsInOrder cmp ys
    → IsInOrder (by_key cmp) (aligned cmp xs ys)
in_order-aligned {A} cmp t = by_steps cmp (λ xs ys ps. IsInOrder cmp xs → IsInOrder cmp ys → IsInOrder (by_key cmp) ps) (record {
  ends = λ ys a b. in_order_rights cmp ys b;
  last = λ x xs h a b. (above-aligned cmp x xs [] a.0 tt, h a.1 b);
  less = λ x xs y ys o h a b. (
    above-aligned cmp x xs (y ∷ ys) a.0
        (o, AllByRecursion-weaker (λ z. cmp y z ≡ Less) (λ z. cmp x z ≡ Less) (λ z l. t.trans x y z o l) ys b.0),
    h a.1 b,
  );
  tie = λ x xs y ys o h a b. (
    above-aligned cmp x xs ys a.0
        (AllByRecursion-weaker (λ z. cmp y z ≡ Less) (λ z. cmp x z ≡ Less) (λ z l. t.congr x y z o ∙ l) ys b.0),
    h a.1 b.1,
  );
  more = λ x xs y ys o h a b.
      let down : cmp y x ≡ Less = t.antisymm y x ∙ rw o refl in (
        above-aligned cmp y (x ∷ xs) ys
            (down, AllByRecursion-weaker (λ z. cmp x z ≡ Less) (λ z. cmp y z ≡ Less) (λ z l. t.trans y x z down l) xs a.0) b.0,
        h a b.1,
      );
})
