-- Functions of Boolean variables, and the functions that come from one by fixing its first
-- variables.
use Rattle.std.specs.Prelude.{◌≡◌, ℕ, ◌<◌, ◌&&◌, Bool, true, false, nat_lt, List, if◌then◌else◌}
use Rattle.std.specs.Bool.{xor}
use Rattle.list_facts.specs.Bits.{bit_of}

-- a value for each variable, by the variable's place in the order
abbrev pub Assignment : Type 0
Assignment = ℕ → Bool

abbrev pub Function : Type 0
Function = Assignment → Bool

-- the bits as an assignment; variables past them are false
abbrev pub assignment_of : List Bool → Assignment
assignment_of bits = bit_of bits

-- two functions are the same
abbrev pub AreSame : Function → Function → Type 0
AreSame f g = (a : Assignment) → f a ≡ g a

-- the function of one variable
abbrev pub variable_at : ℕ → Function
variable_at i a = a i

-- the exclusive or of two functions
abbrev pub exclusive_or : Function → Function → Function
exclusive_or f g a = xor (f a) (g a)

-- the conjunction of two functions
abbrev pub conjunction : Function → Function → Function
conjunction f g a = f a && g a

-- t, flipped where f and g both hold
abbrev pub flipped : Function → Function → Function → Function
flipped t f g a = xor (t a) (f a && g a)

-- every assignment gives the bit
abbrev pub GivesOnly : Function → Bool → Type 0
GivesOnly f bit = (a : Assignment) → f a ≡ bit

-- some assignment gives the bit
abbrev pub Takes : Function → Bool → Type 0
Takes f bit = (a : Assignment) × (f a ≡ bit)

-- the function is not constant: it takes both bits
abbrev pub Varies : Function → Type 0
Varies f = Takes f false × Takes f true

-- the assignment with its first `count` variables fixed to these bits
abbrev pub fixed : ℕ → Assignment → Assignment → Assignment
fixed count bits a = λ i. if nat_lt i count then bits i else a i

-- g comes from f by fixing the first variables to some bits, all of them or none included
pub record ComesFrom (f g : Function) : Type 0 where
  pub count : ℕ
  pub bits : Assignment
  pub same : AreSame g (λ a. f (fixed count bits a))

-- Of the assignments that give the bit, a is the least in the order of the variables, false before
-- true: where another one first parts from it, the other has true.
pub record IsLeast (f : Function) (bit : Bool) (a : Assignment) : Type 0 where
  pub gives : f a ≡ bit
  pub least : (b : Assignment) → f b ≡ bit
      → (i : ℕ) → ((k : ℕ) → k < i → a k ≡ b k) → b i ≡ false → a i ≡ false
