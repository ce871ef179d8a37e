-- The number of lines of registers.
use Rattle.std.proofs.Common.{◌≡◌, ◌+◌, List, [], ◌∷◌, ◌++◌, arith}
use Rattle.qasm_format.specs.declared.file.Register.{Register}
use Rattle.qasm_format.specs.Registers.{lines_of_all}

pub lines_of_all-append : (xs ys : List Register) → lines_of_all (xs ++ ys) ≡ lines_of_all xs + lines_of_all ys
lines_of_all-append [] ys = omega arith
lines_of_all-append (x ∷ xs) ys = let rest = lines_of_all-append xs ys in omega arith
