-- What the top call promises of a command, and that a command has one outcome.
use Rattle.std.specs.Prelude.{◌≡◌, ◌⊎◌, ℕ, ◌<◌, List, Option, IfSome, Contains, length}
use Rattle.command_answers.specs.Faults.{status_of}
use Rattle.command_answers.specs.declared.fault.Fault.{Fault}
use Rattle.command_answers.specs.declared.fault.Fault.TheVariants.{Usage, Lines, Gates, NoCircuit, Read, Write, Memory}
use Rattle.command_answers.specs.declared.limit.TextLimit.{TextLimit}
use Rattle.revc_words.specs.Words.{OrderView}

-- what the top call promises of a command
pub record Promise : Type 1 where
  -- the limit of the text that it reads, if it reads one
  pub reads : Option TextLimit
  -- the statuses of its causes
  pub statuses : List ℕ
  -- these bytes are what the order asks for, with this text on the source
  pub Gives : OrderView → List ℕ → List ℕ → Type 0
  -- the text lets the order end with this fault
  pub IsCause : OrderView → List ℕ → Fault → Type 0
  -- the order ends well with this text, unless memory or a device is wanting
  pub Serves : OrderView → List ℕ → Type 0
  -- the fault comes wherever it has its cause
  pub IsExact : Fault → Type 0
  -- but for one that has its cause and may come in its place
  pub MayPrecede : Fault → Type 0

abbrev pub IsAnyFault : Fault → Type 0
IsAnyFault fault = Unit {0}

abbrev pub IsNoFault : Fault → Type 0
IsNoFault fault = ⊥

-- budgets of plans are not exact: one may be kept where it could be passed, and a circuit in place
-- be found where none need be
abbrev pub IsNoBudget : Fault → Type 0
IsNoBudget (Lines need limit) = ⊥
IsNoBudget (Gates limit) = ⊥
IsNoBudget NoCircuit = ⊥
IsNoBudget fault = Unit {0}

-- the promise of a command that reads such a text, whose causes have these statuses and are all
-- exact
abbrev pub exact_promise : (reads : Option TextLimit) → (statuses : List ℕ)
    → (Gives : OrderView → List ℕ → List ℕ → Type 0)
    → (IsCause : OrderView → List ℕ → Fault → Type 0)
    → (Serves : OrderView → List ℕ → Type 0) → Promise
exact_promise reads statuses Gives IsCause Serves = record {
  reads = reads;
  statuses = statuses;
  Gives = Gives;
  IsCause = IsCause;
  Serves = Serves;
  IsExact = IsAnyFault;
  MayPrecede = IsNoFault;
}

-- the same where budgets of plans are not
abbrev pub budget_promise : (reads : Option TextLimit) → (statuses : List ℕ)
    → (Gives : OrderView → List ℕ → List ℕ → Type 0)
    → (IsCause : OrderView → List ℕ → Fault → Type 0)
    → (Serves : OrderView → List ℕ → Type 0) → Promise
budget_promise reads statuses Gives IsCause Serves =
    record (exact_promise reads statuses Gives IsCause Serves) { IsExact = IsNoBudget }

-- a fault that rests on the text, and not on the words, a device or memory
abbrev pub IsOfText : Fault → Type 0
IsOfText Usage = ⊥
IsOfText Read = ⊥
IsOfText Write = ⊥
IsOfText (Memory _) = ⊥
IsOfText fault = Unit {0}

-- a fault that rests on the text, with one of these statuses
pub record IsFaultOfText (statuses : List ℕ) (fault : Fault) : Type 0 where
  pub of_text : IsOfText fault
  pub status : Contains statuses (status_of fault)

-- The law of each command: what it gives, its exact causes and where it serves exclude one another.
pub record HasOneOutcome (promise : Promise) : Type 0 where
  pub never_both : (order : OrderView) (text written : List ℕ) (fault : Fault)
      → promise.Gives order text written → promise.IsCause order text fault
      → promise.IsExact fault → ⊥
  -- an exact cause is the only one, but for those that may come in its place
  pub one_cause : (order : OrderView) (text : List ℕ) (fault exact : Fault)
      → promise.IsCause order text fault → promise.IsCause order text exact
      → promise.IsExact exact → (exact ≡ fault) ⊎ promise.MayPrecede fault
  pub free : (order : OrderView) (text : List ℕ) (fault : Fault)
      → promise.Serves order text → promise.IsCause order text fault → ⊥
  -- a text over the limit is refused for that
  pub long : IfSome promise.reads (λ limit. (order : OrderView) (text : List ℕ)
      → limit.bytes < length text → promise.IsCause order text limit.fault)
  -- each cause is a text's, and has one of the statuses
  pub among : (order : OrderView) (text : List ℕ) (fault : Fault)
      → promise.IsCause order text fault → IsFaultOfText promise.statuses fault
