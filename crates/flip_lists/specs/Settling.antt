-- Lists of flips whose latest comes first, as one more is put in: it goes out with the latest flip
-- like it that only free ones are behind, or stays.
use Rattle.std.specs.Prelude.{◌≡◌, if◌then◌else◌, Option, Some, None, List, [], ◌∷◌, ⊤}
use Rattle.flip_lists.specs.declared.flip.Flip.{Flip}
use Rattle.flip_lists.specs.Flips.{are_alike, are_free}

abbrev pub onto : Flip → Option (List Flip) → Option (List Flip)
onto flip None = None
onto flip (Some flips) = Some (flip ∷ flips)

-- the earlier flips without the one that goes out
abbrev pub without : Flip → List Flip → Option (List Flip)
without flip [] = None
without flip (last ∷ earlier) =
    if are_alike flip last then Some earlier
    else (if are_free flip last then onto last (without flip earlier) else None)

abbrev pub or_with : Flip → List Flip → Option (List Flip) → List Flip
or_with flip earlier None = flip ∷ earlier
or_with flip earlier (Some left) = left

abbrev pub with_flip : Flip → List Flip → List Flip
with_flip flip earlier = or_with flip earlier (without flip earlier)

abbrev pub with_flips : List Flip → List Flip → List Flip
with_flips [] earlier = earlier
with_flips (flip ∷ flips) earlier = with_flips flips (with_flip flip earlier)

-- no flip goes out with an earlier one
abbrev pub IsSettled : List Flip → Type 0
IsSettled [] = ⊤
IsSettled (last ∷ earlier) = (without last earlier ≡ None) × IsSettled earlier
