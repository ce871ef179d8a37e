-- Elimination of a list of additions of bits: Gauss and Jordan's, on the rows of its lines.
use Rattle.std.specs.Prelude.{ℕ, Bool, not, ◌==◌, ◌&&◌, if◌then◌else◌, List, [], ◌∷◌, ◌++◌, map, filter, reverse}
use Rattle.std.specs.Bool.{xor}

-- one line's bit is added onto that of another: the gate CX
pub record Addition : Type 0 where
  pub from : ℕ
  pub onto : ℕ

-- for each line the first bits whose exclusive or its last bit is: whether a line's row has a line
abbrev pub Rows : Type 0
Rows = ℕ → ℕ → Bool

-- each line has its own bit
abbrev pub own_rows : Rows
own_rows line column = line == column

abbrev pub with_addition : Rows → Addition → Rows
with_addition rows addition line column =
    if line == addition.onto then xor (rows line column) (rows addition.from column)
    else rows line column

abbrev pub with_additions : Rows → List Addition → Rows
with_additions rows [] = rows
with_additions rows (addition ∷ additions) =
    with_additions (with_addition rows addition) additions

-- of the lines the first whose row has the column, onto its line
abbrev pub first_with : Rows → ℕ → List ℕ → List Addition
first_with rows column [] = []
first_with rows column (line ∷ lines) =
    if rows line column then record { from = line; onto = column } ∷ []
    else first_with rows column lines

-- the row of a line gets the line's own bit
abbrev pub first_step : Rows → ℕ → List ℕ → List Addition
first_step rows column later = if rows column column then [] else first_with rows column later

-- no other row keeps it
abbrev pub second_step : Rows → ℕ → List ℕ → List Addition
second_step rows column lines =
    map (λ line. record { from = column; onto = line })
    (filter (λ line. not (line == column) && rows line column) lines)

abbrev pub steps_at : Rows → List ℕ → ℕ → List ℕ → List Addition
steps_at rows lines column later =
    let first = first_step rows column later in
    first ++ second_step (with_additions rows first) column lines

-- the additions that make each row its line's own, column by column
abbrev pub noted : Rows → List ℕ → List ℕ → List Addition
noted rows lines [] = []
noted rows lines (column ∷ later) =
    let steps = steps_at rows lines column later in
    steps ++ noted (with_additions rows steps) lines later

-- they undo the additions, so in reversed order they do what these do
abbrev pub eliminated : List ℕ → List Addition → List Addition
eliminated lines additions =
    reverse (noted (with_additions own_rows additions) lines lines)
