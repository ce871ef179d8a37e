-- The lines of a text, the words of a line, and comments.
use Rattle.std.specs.Prelude.{◌==◌, ℕ, Bool, false, not, ◌||◌, if◌then◌else◌, List, [], ◌∷◌, map}

-- a byte before the first of some pieces
abbrev pub onto_first : ℕ → List (List ℕ) → List (List ℕ)
onto_first b [] = (b ∷ []) ∷ []
onto_first b (piece ∷ pieces) = (b ∷ piece) ∷ pieces

-- a line feed ends a line; what stands behind the last one is a line where it is not empty
abbrev pub lines_of_text : List ℕ → List (List ℕ)
lines_of_text [] = []
lines_of_text (b ∷ bs) = if b == 10 then [] ∷ lines_of_text bs else onto_first b (lines_of_text bs)

-- space, tab and carriage return are blanks
abbrev pub is_blank : ℕ → Bool
is_blank b = b == 32 || (b == 9 || b == 13)

-- a byte of a word: no blank and no line feed
abbrev pub is_word_byte : ℕ → Bool
is_word_byte b = not (is_blank b || b == 10)

abbrev pub begins_word : List ℕ → Bool
begins_word [] = false
begins_word (b ∷ bs) = not (is_blank b)

-- the words of a line are its longest runs of bytes that are no blanks
abbrev pub words_of_line : List ℕ → List (List ℕ)
words_of_line [] = []
words_of_line (b ∷ bs) =
    if is_blank b then words_of_line bs
    else (if begins_word bs then onto_first b (words_of_line bs)
    else (b ∷ []) ∷ words_of_line bs)

-- a word that begins with `#` begins a comment
abbrev pub is_comment : List ℕ → Bool
is_comment [] = false
is_comment (b ∷ bs) = b == 35

-- the words before the comment of their line
abbrev pub before_comment : List (List ℕ) → List (List ℕ)
before_comment [] = []
before_comment (word ∷ words) = if is_comment word then [] else word ∷ before_comment words

abbrev pub said_words : List ℕ → List (List ℕ)
said_words line = before_comment (words_of_line line)

-- the lines of a text, each as its words before its comment
abbrev pub said_lines : List ℕ → List (List (List ℕ))
said_lines text = map said_words (lines_of_text text)
