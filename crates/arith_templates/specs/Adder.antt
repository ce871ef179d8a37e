-- The program of a ripple-carry adder of two numbers a and b of n bits, whose places are counted
-- from the least bit.
use Rattle.std.specs.Prelude.{ℕ, ◌+◌, List, [], ◌∷◌, ◌++◌, codes, decimal}
use Rattle.arith_templates.specs.Ripples.{line, outputs, ripple_text}

-- ---- two numbers of any names

-- the bit of a place above 0: where the two numbers' bits differ, and what comes into the place
abbrev pub bit_line : List ℕ → List ℕ → List ℕ → ℕ → List ℕ
bit_line letter first second i = line (codes "let " ∷ letter ∷ decimal i ∷ codes " = "
    ∷ first ∷ codes ".[" ∷ decimal i ∷ codes "] <> "
    ∷ second ∷ codes ".[" ∷ decimal i ∷ codes "] <> c" ∷ decimal i ∷ codes ";" ∷ [])

-- what goes out of a place above 0, by a function of the two bits and of what comes in
abbrev pub next_line : List ℕ → List ℕ → List ℕ → ℕ → List ℕ
next_line function first second i = line (codes "let c" ∷ decimal (i + 1) ∷ codes " = "
    ∷ function ∷ codes " " ∷ first ∷ codes ".[" ∷ decimal i ∷ codes "] "
    ∷ second ∷ codes ".[" ∷ decimal i ∷ codes "] c" ∷ decimal i ∷ codes ";" ∷ [])

-- ---- the adder

-- the parameters: the two numbers
unfoldable pub parameters : ℕ → List ℕ
parameters n = line (codes "main (a : bool[" ∷ decimal n ∷ codes "]) (b : bool[" ∷ decimal n
    ∷ codes "]) = {" ∷ [])

-- the carry out of a place: both bits are set, or they differ and a carry comes in
unfoldable pub carry_function : List ℕ
carry_function = line (codes "let carry x y c = (x && y) <> (c && (x <> y));" ∷ [])

-- the sum and the carry out of place 0 of two numbers of these names: no carry comes into it
unfoldable pub first_place : List ℕ → List ℕ → List ℕ
first_place first second =
    line (codes "let s0 = " ∷ first ∷ codes ".[0] <> " ∷ second ∷ codes ".[0];" ∷ [])
    ++ line (codes "let c1 = " ∷ first ∷ codes ".[0] && " ∷ second ∷ codes ".[0];" ∷ [])

-- the sum of a place above 0
unfoldable pub sum_line : List ℕ → List ℕ → ℕ → List ℕ
sum_line first second i = bit_line (codes "s") first second i

-- the carry out of a place above 0
unfoldable pub carry_line : List ℕ → List ℕ → ℕ → List ℕ
carry_line first second i = next_line (codes "carry") first second i

-- a place above 0
abbrev pub place : List ℕ → List ℕ → ℕ → List ℕ
place first second i = sum_line first second i ++ carry_line first second i

-- the parameters, the carry as a function, and place 0
abbrev pub adder_opening : ℕ → List ℕ
adder_opening n = parameters n ++ (carry_function ++ first_place (codes "a") (codes "b"))

-- the program that adds two numbers of n bits
abbrev pub adder_text : ℕ → List ℕ
adder_text n = ripple_text adder_opening (place (codes "a") (codes "b")) (outputs (codes "s")) n
