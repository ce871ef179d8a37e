-- Monomials of functions of some inputs, and of the bits of a tape.
use Rattle.std.specs.Prelude.{◌≡◌, ℕ, ◌<◌, Bool, List, length}
use Rattle.std.specs.List.{AllByRecursion}
use Rattle.revs_tape.specs.declared.tape.Ref.{Ref}
use Rattle.revs_tape.specs.Measures.{inputs_of, writes_of}
use Rattle.revs_tape.specs.Polynomials.{IsPolynomial, value_of_polynomial}
use Rattle.revs_tape.specs.Tapes.{TapeView, IsTape, IsKnown, bit_of, bit_on}

-- ---- of a function

-- every input in every monomial is one of n
abbrev pub AreOverInputs : ℕ → List (List ℕ) → Type 0
AreOverInputs n monomials = AllByRecursion (AllByRecursion (λ input. input < n)) monomials

-- The monomials of a function of n inputs: the one polynomial over these inputs with its values.
pub record AreMonomialsOf (n : ℕ) (f : List Bool → Bool) (monomials : List (List ℕ)) : Type 0 where
  pub is_polynomial : IsPolynomial monomials
  pub over_inputs : AreOverInputs n monomials
  pub values : (input : List Bool) → length input ≡ n
      → value_of_polynomial (bit_of input) monomials ≡ f input

-- A function has one set of monomials, and no other.
pub record HasOneSetOfMonomials (n : ℕ) (function : List Bool → Bool) : Type 0 where
  pub monomials : List (List ℕ)
  pub are : AreMonomialsOf n function monomials
  pub only : (other : List (List ℕ)) → AreMonomialsOf n function other → other ≡ monomials

-- The law: each function of n inputs has one set of monomials.
abbrev pub MonomialsAreDetermined : Type 0
MonomialsAreDetermined = (n : ℕ) (function : List Bool → Bool) → HasOneSetOfMonomials n function

-- ---- of a tape

-- a reference of a tape as a function of the inputs; the function of write j is that of the
-- reference to it
abbrev pub function_of : TapeView → Ref → List Bool → Bool
function_of t ref input = bit_on t input ref

-- The law: each reference of a tape to an input or a write of it has one set of monomials.
abbrev pub TapeMonomialsAreDetermined : Type 0
TapeMonomialsAreDetermined = (t : TapeView) → IsTape t
    → (ref : Ref) → IsKnown (inputs_of t) (writes_of t) ref
    → HasOneSetOfMonomials (inputs_of t) (function_of t ref)
