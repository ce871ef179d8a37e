-- What the programs of each kind compute.
use Rattle.std.specs.Prelude.{◌≡◌, ℕ, ◌+◌, ◌-◌, ◌*◌, ◌^◌, ◌<◌, ◌≤◌, ◌↔◌, Bool, List, length, take, drop, IsTrue}
use Rattle.list_facts.specs.Bits.{bit_of}
use Rattle.arith_templates.specs.Numbers.{number, digits_of}
use Rattle.arith_templates.specs.declared.kind.Kind.{Kind}
use Rattle.arith_templates.specs.declared.kind.Kind.TheVariants.{Add, Sub, Less, Inc, Mul}

-- how many inputs a program has: one or two numbers of n bits
abbrev pub inputs_of : Kind → ℕ → ℕ
inputs_of Add n = 2 * n
inputs_of Sub n = 2 * n
inputs_of Less n = 2 * n
inputs_of Inc n = n
inputs_of Mul n = n

-- how many outputs it has
abbrev pub outputs_of : Kind → ℕ → ℕ → ℕ
outputs_of Add n by = n + 1
outputs_of Sub n by = n + 1
outputs_of Less n by = 1
outputs_of Inc n by = n + 1
outputs_of Mul n by = n + length (digits_of by)

-- The n + 1 bits are the difference of the numbers: the last says whether the first is less, and
-- 2^n is added in that case.
pub record IsDifference (n first second : ℕ) (bits : List Bool) : Type 0 where
  pub less : IsTrue (bit_of bits n) ↔ (first < second)
  pub value : second ≤ first → number (take n bits) ≡ first - second
  pub below : first < second → number (take n bits) ≡ 2 ^ n + first - second

-- The output is what the kind computes of the input: of one number, or of two of n bits.
abbrev pub Meets : Kind → ℕ → ℕ → List Bool → List Bool → Type 0
Meets Add n by input output = number output ≡ number (take n input) + number (drop n input)
Meets Sub n by input output =
    IsDifference n (number (take n input)) (number (drop n input)) output
Meets Less n by input output =
    IsTrue (bit_of output 0) ↔ (number (take n input) < number (drop n input))
Meets Inc n by input output = number output ≡ number input + 1
Meets Mul n by input output = number output ≡ by * number input
