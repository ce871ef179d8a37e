-- Texts that go from place to place.
use Rattle.std.specs.Prelude.{◌≡◌, ℕ, ◌-◌, Result, List, [], ◌∷◌, ◌++◌, OnOk, codes, decimal}
use Rattle.std.specs.List.{flat_map, range_with_len}

-- these pieces, and a line feed
abbrev pub line : List (List ℕ) → List ℕ
line [] = 10 ∷ []
line (piece ∷ pieces) = piece ++ line pieces

-- What puts a place, as it is called: each call that ends well adds the piece of the place to the
-- text.
abbrev pub Puts : {T R E : Type 0} → (T → List ℕ) → (T → ℕ → Result R E → T → Type 0)
    → (ℕ → List ℕ) → Type 0
Puts {T} text calls piece = (before : T) (i : ℕ) (result : _) (after : T)
    → calls before i result after → OnOk result (text after ≡ text before ++ piece i)

-- the bit of a place among the outputs, before a further one
unfoldable pub output : List ℕ → ℕ → List ℕ
output name i = name ++ (decimal i ++ codes "; ")

-- the outputs: the bits of all places, and what goes out of the last
unfoldable pub outputs : List ℕ → ℕ → List ℕ
outputs name n = line (codes "reg [" ∷ flat_map (output name) (range_with_len 0 n) ∷ codes "c"
    ∷ decimal n ∷ codes "]" ∷ [])

-- a program that goes from place to place: what opens it, place 0 with it, the places above 0, and
-- what it puts out
abbrev pub ripple_text : (ℕ → List ℕ) → (ℕ → List ℕ) → (ℕ → List ℕ) → ℕ → List ℕ
ripple_text opening place last n =
    opening n ++ flat_map place (range_with_len 1 (n - 1)) ++ last n ++ line (codes "}" ∷ [])
