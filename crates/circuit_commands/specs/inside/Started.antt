-- The bits with which lines start, a line at a time.
use Rattle.std.specs.Prelude.{Bool, true, false, List, [], ◌∷◌}
use Rattle.real_format.specs.declared.file.Mark.{Mark}
use Rattle.real_format.specs.declared.file.Mark.TheVariants.{Free, Zero, One}

-- the bit with which a line of this mark starts, where the bits are those of a word that are left
abbrev pub first_bit : Mark → List Bool → Bool
first_bit Zero bits = false
first_bit One bits = true
first_bit Free [] = false
first_bit Free (bit ∷ bits) = bit

-- the bits that are left behind it
abbrev pub rest_bits : Mark → List Bool → List Bool
rest_bits Zero bits = bits
rest_bits One bits = bits
rest_bits Free [] = []
rest_bits Free (bit ∷ bits) = bits
