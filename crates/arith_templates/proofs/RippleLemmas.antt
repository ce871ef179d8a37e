-- A text that goes from place to place.
use Rattle.std.proofs.Common.{◌≡◌, ℕ, suc, zero, ◌+◌, List, [], ◌∷◌, ◌++◌, ap, ◌∙◌, arith, flat_map}
use Rattle.std.proofs.lemmas.List.{flat_map_more}
use Rattle.std.specs.List.{range_with_len}

-- one number more at the end
range_more : (a n j : ℕ) → a + n ≡ j → range_with_len a n ++ j ∷ [] ≡ range_with_len a (suc n)
range_more a zero j e = let is : j ≡ a = omega arith in ap (λ k. k ∷ []) is
range_more a (suc n) j e = ap (λ xs. a ∷ xs) (range_more (a + 1) n j (omega arith))

-- one place more, j, behind n places from a on
pub one_more : (f : ℕ → List ℕ) (before : List ℕ) (a n m j : ℕ) → a + n ≡ j → n + 1 ≡ m
    → (before ++ flat_map f (range_with_len a n)) ++ f j ≡ before ++ flat_map f (range_with_len a m)
one_more f before a n m j e s =
    let is : suc n ≡ m = omega arith in
    flat_map_more f before (range_with_len a n) j
    ∙ ap (λ xs. before ++ flat_map f xs) (range_more a n j e ∙ ap (range_with_len a) is)
