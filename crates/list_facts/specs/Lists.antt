-- Elements of lists: which they are, how they are ordered, and which differ.
use Rattle.std.specs.Prelude.{◌≡◌, ◌≢◌, ℕ, zero, suc, ◌+◌, ◌<◌, ◌⊎◌, List, [], ◌∷◌, ◌++◌, length, ⊤}
use Rattle.std.specs.List.{AllByRecursion}

-- ---- elements

-- x is an element of the list
abbrev pub IsAmong : {A : Type 0} → A → List A → Type 0
IsAmong x [] = ⊥
IsAmong x (y ∷ ys) = (x ≡ y) ⊎ IsAmong x ys

-- the fact holds of some element
abbrev pub AnyByRecursion : {A : Type 0} → (A → Type 0) → List A → Type 0
AnyByRecursion P [] = ⊥
AnyByRecursion P (x ∷ xs) = P x ⊎ AnyByRecursion P xs

-- the fact holds of each element and its place, which is k for the first
abbrev pub AllFrom : {A : Type 0} → (ℕ → A → Type 0) → ℕ → List A → Type 0
AllFrom P k [] = ⊤
AllFrom P k (x ∷ xs) = P k x × AllFrom P (k + 1) xs

-- the element at this place, counted from 0, is the first of which the fact does not hold
pub record IsFirstWithout {A : Type 0} (P : A → Type 0) (xs : List A) (at : ℕ) : Type 0 where
  pub before : List A
  pub named : A
  pub behind : List A
  pub cut : xs ≡ before ++ named ∷ behind
  pub count : length before ≡ at
  pub met : AllByRecursion P before
  pub fails : ¬ P named

-- ---- order

-- the numbers below n, in their order
abbrev pub below : ℕ → List ℕ
below zero = []
below (suc n) = below n ++ n ∷ []

-- each is less than all behind it
abbrev pub IsRising : List ℕ → Type 0
IsRising [] = ⊤
IsRising (x ∷ xs) = AllByRecursion (λ y. x < y) xs × IsRising xs

-- ---- difference

-- no two elements are in the relation
abbrev pub AreApart : {A : Type 0} → (A → A → Type 0) → List A → Type 0
AreApart R [] = ⊤
AreApart R (x ∷ xs) = AllByRecursion (λ y. ¬ R x y) xs × AreApart R xs

-- no two numbers are equal
abbrev pub AreDifferent : List ℕ → Type 0
AreDifferent [] = ⊤
AreDifferent (x ∷ xs) = AllByRecursion (λ y. x ≢ y) xs × AreDifferent xs

-- the law of rising numbers
abbrev pub RisingAreDifferent : Type 0
RisingAreDifferent = (xs : List ℕ) → IsRising xs → AreDifferent xs
