-- Two lists in order, gone through side by side.
use Rattle.std.specs.Prelude.{List, [], ◌∷◌, map}
use Rattle.std.specs.declared.cmp.Ordering.{Ordering}
use Rattle.std.specs.declared.cmp.Ordering.TheVariants.{Less, Equal, Greater}

-- an element of the left list alone, of the right list alone, or two that tie
pub data Pair (A : Type 0) : Type 0 where
  left : A → Pair A
  right : A → Pair A
  both : A → A → Pair A

abbrev pub by_order : {A : Type 0} → Ordering → A → A → A → A
by_order Less x y z = x
by_order Equal x y z = y
by_order Greater x y z = z

abbrev pub aligned_behind : {A : Type 0} → (A → A → Ordering) → A → (List A → List (Pair A))
    → List A → List (Pair A)
aligned_behind cmp x rest [] = left x ∷ rest []
aligned_behind cmp x rest (y ∷ ys) =
    by_order (cmp x y)
    (left x ∷ rest (y ∷ ys))
    (both x y ∷ rest ys)
    (right y ∷ aligned_behind cmp x rest ys)

-- each step takes the lesser of the two first elements, or both where they tie
abbrev pub aligned : {A : Type 0} → (A → A → Ordering) → List A → List A → List (Pair A)
aligned cmp [] ys = map right ys
aligned cmp (x ∷ xs) ys = aligned_behind cmp x (aligned cmp xs) ys

-- one of the pair
abbrev pub key_of : {A : Type 0} → Pair A → A
key_of (left x) = x
key_of (right y) = y
key_of (both x y) = x

-- those that stand in one list only
abbrev pub alone : {A : Type 0} → List (Pair A) → List A
alone [] = []
alone (left x ∷ ps) = x ∷ alone ps
alone (right y ∷ ps) = y ∷ alone ps
alone (both x y ∷ ps) = alone ps
