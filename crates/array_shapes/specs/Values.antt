-- The values of a run, with lists in place of vectors.
use Rattle.std.specs.Prelude.{ℕ, ℤ, List, Option, Some, None}
use Rattle.revs_terms.specs.declared.term.Lambda.{Lambda}
use Rattle.array_shapes.specs.declared.value.Value.{Value}
use Rattle.array_shapes.specs.declared.value.Value.TheVariants as variants

-- Nothing, the location of a bit, the locations of a register, a number, or a function: the number
-- of its environment, how many of its names are taken, and the function itself. That is the
-- program's own `Lambda`, since a run goes on with its names and its body; definitions over trees
-- take the tree of its body.
pub data ValueView : Type 0 where
  unit : ValueView
  bit : ℕ → ValueView
  register : List ℕ → ValueView
  number : ℤ → ValueView
  function : ℕ → ℕ → Lambda → ValueView

abbrev pub seen : Value → ValueView
seen variants.Unit = unit
seen (variants.Bit location) = bit location
seen (variants.Reg locations) = register locations.value.items
seen (variants.Num k) = number k
seen (variants.Fun env taken of) = function env taken of.now

-- the location of a bit
abbrev pub bit_of : ValueView → Option ℕ
bit_of (bit location) = Some location
bit_of _ = None

-- the locations of a register
abbrev pub register_of : ValueView → Option (List ℕ)
register_of (register locations) = Some locations
register_of _ = None

-- the number that a value is
abbrev pub number_of : ValueView → Option ℤ
number_of (number k) = Some k
number_of _ = None
