-- What a diagram's numbers stand for while the claims of a tape are settled.
use Rattle.std.specs.Prelude.{◌≡◌, ℕ, ◌≤◌, Bool, List}
use Rattle.revs_tape.specs.declared.tape.Ref.{Ref}
use Rattle.revs_tape.specs.ClaimFunctions.{IsBase, IsMember, Restriction, value_on}
use Rattle.revs_tape.specs.Measures.{inputs_of}
use Rattle.revs_tape.specs.Tapes.{TapeView, bit_on}
use Rattle.revs_tape.specs.VariableOrders.{variable_order}
use Rattle.decision_diagram.specs.Diagrams.{DiagramView, IsCanonical, IsNumber, Triple, function_of}
use Rattle.decision_diagram.specs.Functions.{AreSame, Assignment, Function}
use Rattle.decision_diagram.specs.Growth.{StandsFor}
use Rattle.claim_check.specs.Variables.{bits_at}

-- ---- functions over the variables

-- the input that an assignment of the variables gives
abbrev pub input_at : TapeView → Assignment → List Bool
input_at t a = bits_at (inputs_of t) (variable_order t.params) a

-- the function of a reference over the variables
abbrev pub function_at : TapeView → Ref → Function
function_at t ref a = bit_on t (input_at t a) ref

-- the function of a restriction over the variables
abbrev pub restricted_at : TapeView → Restriction → Function
restricted_at t r a = value_on t r (input_at t a)

-- ---- numbers and nodes

-- some number stands for the function of the reference
pub record IsNumbered (t : TapeView) (nodes : List Triple) (ref : Ref) : Type 0 where
  pub number : ℕ
  pub stands : StandsFor nodes number (function_at t ref)

-- the number stands for a function on which the first claims rest
pub record IsMemberNode (t : TapeView) (claims : ℕ) (nodes : List Triple) (n : ℕ) : Type 0 where
  pub restriction : Restriction
  pub member : IsMember t claims restriction
  pub same : AreSame (function_of nodes n) (restricted_at t restriction)

-- Each inner node stands for a function on which the first claims rest.
pub record HoldsOnlyMembers (t : TapeView) (claims : ℕ) (d : DiagramView) : Type 0 where
  pub canonical : IsCanonical d
  pub vars : d.vars ≡ inputs_of t
  pub members : (n : ℕ) → 2 ≤ n → IsNumber d.nodes n → IsMemberNode t claims d.nodes n

-- Each input and write on which the first claims rest has a number.
pub record HoldsAllBases (t : TapeView) (claims : ℕ) (nodes : List Triple) : Type 0 where
  pub numbered : (ref : Ref) → IsBase t claims ref → IsNumbered t nodes ref
