-- Rows of bits: each is one content of the lines.
use Rattle.std.specs.Prelude.{◌≡◌, ℕ, Bool, List, length, map}
use Rattle.std.specs.Global.{Vec}
use Rattle.std.specs.List.{AllByRecursion}

-- the bits of the rows
abbrev pub contents : List (Vec Bool) → List (List Bool)
contents rows = map (λ row. row.items) rows

-- each row has a bit for each line
abbrev pub AreRows : ℕ → List (Vec Bool) → Type 0
AreRows lines rows = AllByRecursion (λ row. length row.items ≡ lines) rows
