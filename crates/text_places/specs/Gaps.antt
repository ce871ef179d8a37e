-- What separates tokens: blanks and comments.
use Rattle.std.specs.Prelude.{◌≡◌, ℕ, not, List, [], ◌∷◌, ◌++◌, IsTrue, codes}
use Rattle.std.specs.List.{list_all}
use Rattle.text_places.specs.Bytes.{is_blank, is_line_feed}

-- nothing, or a line feed first
abbrev pub IsLineEnd : List ℕ → Type 0
IsLineEnd [] = Unit {0}
IsLineEnd (b ∷ _) = IsTrue (is_line_feed b)

-- What separates tokens and is dropped, with what may follow it.
pub data IsGap : List ℕ → List ℕ → Type 0 where
  blank : {b : ℕ} {rest : List ℕ} → IsTrue (is_blank b) → IsGap (b ∷ []) rest
  -- `//` and everything before the next line feed or the end of the text
  comment : {body rest : List ℕ} → IsTrue (list_all (λ b. not (is_line_feed b)) body)
      → IsLineEnd rest → IsGap (codes "//" ++ body) rest

-- Neither a blank nor a comment stands at the front of the text.
abbrev pub HasNoGap : List ℕ → Type 0
HasNoGap text = (gap rest : List ℕ) → text ≡ gap ++ rest → ¬ IsGap gap rest
