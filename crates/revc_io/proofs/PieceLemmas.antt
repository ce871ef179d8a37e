-- Pieces that are made of the items of a list.
use Rattle.std.proofs.Common.{◌≡◌, ℕ, ◌<◌, List, [], ◌∷◌, length, get_or, map, slice_get, option_map, Some, refl, ap, ◌∙◌, subst}
use Rattle.std.specs.List.{concat, flat_map}
use Rattle.std.proofs.lemmas.List.{length-map}
use Rattle.std.proofs.lemmas.List.Concat.{concat_is}
use Rattle.std.proofs.lemmas.List.Folds.{flat_map-map}
use Rattle.std.proofs.lemmas.Option.{slice_get-get_or, slice_get-map}

-- the item at a place gives what stands there
pub mapped_at : {A B : Type 0} (f : A → B) (xs : List A) (i : ℕ) (x : A) → slice_get xs i ≡ Some x → slice_get (map f xs) i ≡ Some (f x)
mapped_at f xs i x e = slice_get-map f xs i ∙ ap (option_map f) e

-- a place among the pieces is one among the items
pub item_within : {A B : Type 0} (f : A → B) (xs : List A) (i : ℕ) → i < length (map f xs) → i < length xs
item_within f xs i low = subst (λ n. i < n) (length-map xs f) low

pub mapped_item : {A B : Type 0} (f : A → B) (xs : List A) (i : ℕ) (d : A) → i < length (map f xs) → slice_get (map f xs) i ≡ Some (f (get_or xs i d))
mapped_item f xs i d low = mapped_at f xs i (get_or xs i d) (slice_get-get_or xs i d (item_within f xs i low))

-- the pieces of all items, one behind the other
pub joined_is : {A : Type 0} (f : A → List ℕ) (xs : List A) → concat (map f xs) ≡ flat_map f xs
joined_is f xs = concat_is (map f xs) ∙ flat_map-map (λ t. t) f xs

-- bytes one behind the other
pub bytes_are : (bs : List ℕ) → concat (map (λ b. b ∷ []) bs) ≡ bs
bytes_are [] = refl
bytes_are (b ∷ bs) = ap (λ (t : List ℕ). b ∷ t) (bytes_are bs)
