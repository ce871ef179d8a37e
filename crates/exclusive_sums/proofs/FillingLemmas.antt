-- A list that a loop fills, place by place.
use Rattle.std.proofs.Common.{◌≡◌, ℕ, ◌+◌, ◌<◌, List, [], ◌∷◌, ◌++◌, length, map, take, get_or, sym, ap, ◌∙◌}
use Rattle.std.proofs.lemmas.List.{append_assoc, map-append, take_more}

-- one more element behind others
pub appended_more : {X : Type 0} (xs : List X) (k : ℕ) (x : X) (start so_far now : List X) → k < length xs → x ≡ get_or xs k x
    → now ≡ so_far ++ x ∷ [] → so_far ≡ start ++ take k xs → now ≡ start ++ take (k + 1) xs
appended_more xs k x start so_far now inside at pushed i =
    pushed ∙ ap (λ z. z ++ x ∷ []) i ∙ append_assoc start (take k xs) (x ∷ [])
    ∙ ap (λ z. start ++ z) (ap (λ w. take k xs ++ w ∷ []) at ∙ sym (take_more xs k x inside))

-- what is made of one more element
pub filled_more : {X Y : Type 0} (f : X → Y) (xs : List X) (k : ℕ) (d : X) (y : Y) (start so_far now : List Y) → k < length xs → y ≡ f (get_or xs k d)
    → now ≡ so_far ++ y ∷ [] → so_far ≡ start ++ map f (take k xs) → now ≡ start ++ map f (take (k + 1) xs)
filled_more f xs k d y start so_far now inside is pushed i =
    pushed ∙ ap (λ z. z ++ y ∷ []) i ∙ append_assoc start (map f (take k xs)) (y ∷ [])
    ∙ ap (λ z. start ++ z) (ap (λ w. map f (take k xs) ++ w ∷ []) is ∙ sym (map-append f (take k xs) (get_or xs k d ∷ []))
    ∙ ap (map f) (sym (take_more xs k d inside)))
