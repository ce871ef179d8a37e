-- The texts of all kinds, line by line. Numbers have n bits, whose places are counted from the
-- least bit.
use Rattle.std.specs.Prelude.{ℕ, zero, suc, ◌+◌, ◌-◌, Bool, true, false, List, [], ◌∷◌, ◌++◌, length, codes, decimal}
use Rattle.std.specs.List.{flat_map, range_with_len}
use Rattle.arith_templates.specs.Adder.{bit_line, next_line, parameters, carry_function, first_place, place, adder_text}
use Rattle.arith_templates.specs.Ripples.{line, outputs, ripple_text}
use Rattle.arith_templates.specs.Numbers.{digits_of}
use Rattle.arith_templates.specs.declared.kind.Kind.{Kind}
use Rattle.arith_templates.specs.declared.kind.Kind.TheVariants.{Add, Sub, Less, Inc, Mul}

-- ---- lines of several kinds

-- the parameter: one number
unfoldable pub parameter : ℕ → List ℕ
parameter n = line (codes "main (a : bool[" ∷ decimal n ∷ codes "]) = {" ∷ [])

-- ---- differences

-- the borrow out of a place: only the second bit is set, or a borrow comes in and the bits are the
-- same
unfoldable pub borrow_function : List ℕ
borrow_function =
    line (codes "let lend x y c = ((true <> x) && y) <> (c && (true <> x <> y));" ∷ [])

-- the difference of place 0
unfoldable pub first_difference : List ℕ
first_difference = line (codes "let d0 = a.[0] <> b.[0];" ∷ [])

-- the borrow out of place 0, from which nothing is borrowed
unfoldable pub first_borrow : List ℕ
first_borrow = line (codes "let c1 = (true <> a.[0]) && b.[0];" ∷ [])

-- the difference of a place above 0
unfoldable pub difference_line : ℕ → List ℕ
difference_line i = bit_line (codes "d") (codes "a") (codes "b") i

-- the borrow out of a place above 0
unfoldable pub borrow_line : ℕ → List ℕ
borrow_line i = next_line (codes "lend") (codes "a") (codes "b") i

-- a place above 0
abbrev pub difference_place : ℕ → List ℕ
difference_place i = difference_line i ++ borrow_line i

-- the borrow out of the last place, as the output
unfoldable pub last_borrow_line : ℕ → List ℕ
last_borrow_line n = line (codes "c" ∷ decimal n ∷ [])

-- the parameters, the borrow as a function, and what is put of place 0
abbrev pub subtractor_opening : ℕ → List ℕ
subtractor_opening n = parameters n ++ (borrow_function ++ (first_difference ++ first_borrow))

abbrev pub comparator_opening : ℕ → List ℕ
comparator_opening n = parameters n ++ (borrow_function ++ first_borrow)

-- the program that subtracts a number from another
abbrev pub subtractor_text : ℕ → List ℕ
subtractor_text n = ripple_text subtractor_opening difference_place (outputs (codes "d")) n

-- the program that says whether a number is less than another
abbrev pub comparator_text : ℕ → List ℕ
comparator_text n = ripple_text comparator_opening borrow_line last_borrow_line n

-- ---- increments

-- the sum and the carry of place 0, into which 1 comes
unfoldable pub first_increment : List ℕ
first_increment =
    line (codes "let s0 = true <> a.[0];" ∷ []) ++ line (codes "let c1 = a.[0];" ∷ [])

-- the sum of a place above 0
unfoldable pub increment_line : ℕ → List ℕ
increment_line i = line (codes "let s" ∷ decimal i ∷ codes " = a.[" ∷ decimal i ∷ codes "] <> c"
    ∷ decimal i ∷ codes ";" ∷ [])

-- the carry out of a place above 0
unfoldable pub increment_carry_line : ℕ → List ℕ
increment_carry_line i = line (codes "let c" ∷ decimal (i + 1) ∷ codes " = a.[" ∷ decimal i
    ∷ codes "] && c" ∷ decimal i ∷ codes ";" ∷ [])

-- a place above 0
abbrev pub increment_place : ℕ → List ℕ
increment_place i = increment_line i ++ increment_carry_line i

-- the parameter, and place 0
abbrev pub incrementer_opening : ℕ → List ℕ
incrementer_opening n = parameter n ++ first_increment

-- the program that adds 1
abbrev pub incrementer_text : ℕ → List ℕ
incrementer_text n = ripple_text incrementer_opening increment_place (outputs (codes "s")) n

-- ---- products

-- the first line of the function that adds two numbers, and its last
unfoldable pub plus_opening : List ℕ
plus_opening = line (codes "let plus p q = {" ∷ [])

unfoldable pub plus_closing : List ℕ
plus_closing = line (codes "};" ∷ [])

-- the function that adds two numbers
abbrev pub plus_function : ℕ → List ℕ
plus_function n = plus_opening ++ first_place (codes "p") (codes "q")
    ++ flat_map (place (codes "p") (codes "q")) (range_with_len 1 (n - 1))
    ++ outputs (codes "s") n ++ plus_closing

-- a bit of the number 0 behind another
unfoldable pub further_zero : ℕ → List ℕ
further_zero i = codes "; false"

-- the number 0
unfoldable pub zero_line : ℕ → List ℕ
zero_line n = line (codes "let r0 = reg [false" ∷ flat_map further_zero (range_with_len 1 (n - 1))
    ∷ codes "];" ∷ [])

-- the digit 0 at place k: nothing is added
unfoldable pub shift_line : ℕ → List ℕ
shift_line k = line (codes "let r" ∷ decimal (k + 1) ∷ codes " = append r" ∷ decimal k
    ∷ codes " reg [false];" ∷ [])

-- the digit 1 at place 0: the number is added
unfoldable pub first_add_line : List ℕ
first_add_line = line (codes "let r1 = plus r0 a;" ∷ [])

-- the digit 1 at place k + 1: the number is added to the bits from this place on
unfoldable pub add_line : ℕ → ℕ → List ℕ
add_line n k = line (codes "let r" ∷ decimal (k + 2) ∷ codes " = append r" ∷ decimal (k + 1)
    ∷ codes ".[0.." ∷ decimal k ∷ codes "] (plus r" ∷ decimal (k + 1) ∷ codes ".["
    ∷ decimal (k + 1) ∷ codes ".." ∷ decimal (n + k) ∷ codes "] a);" ∷ [])

-- what stands for a digit: for 0 at place k, for 1 at place 0, and for 1 at place k + 1
abbrev pub by_digit : {A : Type 0} → (ℕ → A) → A → (ℕ → A) → ℕ → Bool → A
by_digit none first further k false = none k
by_digit none first further zero true = first
by_digit none first further (suc k) true = further k

-- what stands for the digits from place k on, one behind the other
abbrev pub from_place : {A : Type 0} → (ℕ → Bool → List A) → ℕ → List Bool → List A
from_place each k [] = []
from_place each k (digit ∷ digits) = each k digit ++ from_place each (k + 1) digits

-- the line of a digit
abbrev pub digit_line : ℕ → ℕ → Bool → List ℕ
digit_line n = by_digit shift_line first_add_line (add_line n)

-- the lines of the digits from place k on
abbrev pub digit_lines : ℕ → ℕ → List Bool → List ℕ
digit_lines n = from_place (digit_line n)

-- the product, behind so many digits
unfoldable pub product_line : ℕ → List ℕ
product_line count = line (codes "r" ∷ decimal count ∷ [])

-- the program that multiplies by the number of these digits
abbrev pub multiplier_text : ℕ → List Bool → List ℕ
multiplier_text n digits = parameter n ++ carry_function ++ plus_function n ++ zero_line n
    ++ digit_lines n 0 digits ++ product_line (length digits) ++ line (codes "}" ∷ [])

-- ---- all kinds

-- the text of a kind for numbers of n bits, and for products the factor
abbrev pub text_of : Kind → ℕ → ℕ → List ℕ
text_of Add n by = adder_text n
text_of Sub n by = subtractor_text n
text_of Less n by = comparator_text n
text_of Inc n by = incrementer_text n
text_of Mul n by = multiplier_text n (digits_of by)
