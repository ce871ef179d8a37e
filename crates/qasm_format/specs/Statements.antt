-- The statements that are written, and the tokens of each.
use Rattle.std.specs.Prelude.{ℕ, List, [], ◌∷◌, ◌++◌, codes}

-- an argument: a place of a register, by its digits
pub data Argument : Type 0 where
  one_of : (name digits : List ℕ) → Argument

-- A statement: the include, the declaration of a register with the digits of its size, or a gate by
-- its word.
pub data Statement : Type 0 where
  includes : Statement
  declares : (name digits : List ℕ) → Statement
  applies : (word : List ℕ) (arguments : List Argument) → Statement

-- a name and a number in square brackets
abbrev pub bracketed : List ℕ → List ℕ → List (List ℕ)
bracketed name digits = name ∷ codes "[" ∷ digits ∷ codes "]" ∷ []

abbrev pub argument_words : Argument → List (List ℕ)
argument_words (one_of name digits) = bracketed name digits

-- arguments, parted by commas
abbrev pub parted : List Argument → List (List ℕ)
parted [] = []
parted (argument ∷ []) = argument_words argument
parted (argument ∷ other ∷ others) = argument_words argument ++ codes "," ∷ parted (other ∷ others)

-- the tokens of a statement
abbrev pub words_of : Statement → List (List ℕ)
words_of includes = codes "include" ∷ codes "\"qelib1.inc\"" ∷ codes ";" ∷ []
words_of (declares name digits) = codes "qreg" ∷ (bracketed name digits ++ codes ";" ∷ [])
words_of (applies word arguments) = word ∷ (parted arguments ++ codes ";" ∷ [])

-- the tokens before the first statement
abbrev pub head_words : List (List ℕ)
head_words = codes "OPENQASM" ∷ codes "2.0" ∷ codes ";" ∷ []
