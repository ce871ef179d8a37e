-- What terms compute: bits, in place of the locations that a run puts them in.
use Rattle.std.specs.Prelude.{◌≡◌, ℕ, ◌+◌, ◌≤◌, Bool, Option, Some, None, List, [], ◌∷◌, length, slice_get, bytes_eq, cond}
use Rattle.revs_terms.specs.declared.limits.TheConstants.{MOST_RUN_WRITES, MOST_WORK}
use Rattle.revs_terms.specs.declared.term.Name.{Name}
use Rattle.revs_terms.specs.Trees.{Tree, ItemTree, bind}
use Rattle.revs_terms.specs.Running.{Value, bit, register, closure, Environment, nothing, bound, Stamped, State, Outcome, went, run_of}
use Rattle.revs_terms.specs.Runs.{real_bits}
use Rattle.revs_terms.specs.Scopes.{scoped, nearer, scoped_tree}

-- What a term means: a bit, the bits of a register, or a function of the names that are not taken
-- yet, with its body as it was parsed and what its names mean.
mutual
  pub data Meaning : Type 0 where
    of_bit : Bool → Meaning
    of_bits : List Bool → Meaning
    of_function : List Name → Tree → Scope → Meaning

  -- what the names in scope mean, the nearest first
  pub data Scope : Type 0 where
    no_names : Scope
    named : List ℕ → Meaning → Scope → Scope

abbrev pub names_in : Scope → List (List ℕ)
names_in no_names = []
names_in (named name m sc) = name ∷ names_in sc

-- what the nearest name of this spelling means
abbrev pub meaning_of : List ℕ → Scope → Option Meaning
meaning_of text no_names = None
meaning_of text (named name m sc) = cond (bytes_eq text name) (Some m) (meaning_of text sc)

-- the length that a meaning counts where it is bound
abbrev pub length_of : Meaning → ℕ
length_of (of_bit b) = 0
length_of (of_bits bs) = length bs
length_of (of_function names body sc) = 0

-- The location holds this bit.
pub record Holds (store : List (Option (Stamped Bool))) (b : Bool) (location : ℕ) : Type 0 where
  pub stamped : Stamped Bool
  pub there : slice_get store location ≡ Some (Some stamped)
  pub is : stamped.bit ≡ b

-- The locations hold these bits, one by one.
abbrev pub AreHeld : List (Option (Stamped Bool)) → List Bool → List ℕ → Type 0
AreHeld store [] [] = Unit {0}
AreHeld store [] (l ∷ ls) = ⊥
AreHeld store (b ∷ bs) [] = ⊥
AreHeld store (b ∷ bs) (l ∷ ls) = Holds store b l × AreHeld store bs ls

-- The value has this meaning, and the values of the names in scope have theirs.
abbrev mutual
  pub Agrees : List (Option (Stamped Bool)) → Meaning → Value → Type 0
  Agrees store (of_bit b) (bit location) = Holds store b location
  Agrees store (of_bits bs) (register locations) = AreHeld store bs locations
  Agrees store (of_function names body sc) (closure others inner env) =
      (names ≡ others) × (scoped_tree (nearer names (names_in sc)) body ≡ scoped inner)
      × AgreesIn store sc env
  Agrees store _ _ = ⊥

  pub AgreesIn : List (Option (Stamped Bool)) → Scope → Environment → Type 0
  AgreesIn store no_names nothing = Unit {0}
  AgreesIn store (named name m sc) (bound value env) = Agrees store m value × AgreesIn store sc env
  AgreesIn store _ _ = ⊥

-- The run may do so much more: units of work, and writes.
pub record HasRoom (s : State Bool) (k : ℕ) : Type 0 where
  pub work : s.work + k ≤ MOST_WORK
  pub writes : length s.log + k ≤ MOST_RUN_WRITES

-- The run went on from one state to another: what locations held they hold, work and writes rose by
-- no more than this, and no claim was made.
pub record Grew (s u : State Bool) (k : ℕ) : Type 0 where
  pub kept : (location : ℕ) (held : Option (Stamped Bool)) → slice_get s.store location ≡ Some held
      → slice_get u.store location ≡ Some held
  pub work : u.work ≤ s.work + k
  pub writes : length u.log ≤ length s.log + k
  pub claims : u.claims ≡ s.claims

-- The run goes on, with an answer and a state of which this holds.
pub record Goes {A : Type 0} (P : A → State Bool → Type 0) (o : Outcome Bool A) : Type 0 where
  pub answer : A
  pub state : State Bool
  pub is : o ≡ went answer state
  pub holds : P answer state

-- The value has this meaning, and the run went on by no more than this.
pub record Means (s : State Bool) (m : Meaning) (k : ℕ) (value : Value)
    (u : State Bool) : Type 0 where
  pub agrees : Agrees u.store m value
  pub grew : Grew s u k

-- A term as it was parsed, whose names are not bound yet, is bound in this scope, and its run at
-- this depth ends with this meaning within so many units of work and writes, wherever the names
-- have their meanings.
pub record IsRun (depth : ℕ) (sc : Scope) (term : Tree) (m : Meaning) (k : ℕ) : Type 0 where
  pub tree : Tree
  pub scoped_as : scoped_tree (names_in sc) term ≡ scoped tree
  pub goes : (env : Environment) (s : State Bool) → AgreesIn s.store sc env → HasRoom s k
      → Goes (Means s m k) (run_of real_bits depth env tree s)

-- Operands, one by one, with their bits.
pub data AreRuns (depth : ℕ) (sc : Scope) : List Tree → List Bool → ℕ → Type 0 where
  no_operands : AreRuns depth sc [] [] 0
  operand : {t : Tree} {ts : List Tree} {b : Bool} {bs : List Bool} {j k : ℕ}
      → IsRun depth sc t (of_bit b) j → AreRuns depth sc ts bs k
      → AreRuns depth sc (t ∷ ts) (b ∷ bs) (j + k)

-- the bit of a chain: the first, with each next one
abbrev pub chained : (Bool → Bool → Bool) → Bool → List Bool → Bool
chained op b [] = b
chained op b (c ∷ cs) = chained op (op b c) cs

-- What a function gives that takes these arguments, one by one: with its last name its body is run
-- in its own scope.
pub data Applies (depth : ℕ) (sc : Scope) : Meaning → List Tree → Meaning → ℕ → Type 0 where
  all_taken : {m : Meaning} → Applies depth sc m [] m 0
  takes : {t body : Tree} {ts : List Tree} {n next : Name} {ns : List Name} {own : Scope}
      {a r : Meaning} {j k : ℕ}
      → IsRun depth sc t a j → Applies depth sc
      (of_function (next ∷ ns) body (named n.text a own)) ts r k
      → Applies depth sc (of_function (n ∷ next ∷ ns) body own) (t ∷ ts) r (j + length_of a + k)
  takes_last : {t body : Tree} {ts : List Tree} {n : Name} {own : Scope} {a m r : Meaning}
      {j k l : ℕ}
      → IsRun depth sc t a j → IsRun depth (named n.text a own) body m l → Applies depth sc m ts r k
      → Applies depth sc (of_function (n ∷ []) body own) (t ∷ ts) r (j + length_of a + l + k)

-- Items and a last expression behind them: each `let` binds its name behind it.
pub data RunsBody (depth : ℕ) : Scope → List ItemTree → Tree → Meaning → ℕ → Type 0 where
  last_is : {sc : Scope} {t : Tree} {m : Meaning} {k : ℕ} → IsRun depth sc t m k
      → RunsBody depth sc [] t m k
  let_is : {sc : Scope} {v last : Tree} {name : Name} {items : List ItemTree} {a m : Meaning}
      {j k : ℕ}
      → IsRun depth sc v a j → RunsBody depth (named name.text a sc) items last m k
      → RunsBody depth sc (bind name v ∷ items) last m (j + length_of a + k)
