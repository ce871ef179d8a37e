-- The run of a program, from left to right: a case for each form of term, as the table of
-- docs/LANGUAGE.md has it.
--
-- It is written once for every type of bits that has constants, an XOR and an AND: no case asks for
-- a bit.
use Rattle.std.specs.Prelude.{ℕ, zero, suc, ◌+◌, ◌-◌, leb, Bool, true, false, ◌&&◌, Option, Some, None, List, [], ◌∷◌, ◌++◌, length, take, drop, slice_get}
use Rattle.std.specs.Prelude.{slice_set, ℤ, pos, negsuc, ◌+ℤ◌, ◌-ℤ◌, neg_ℤ, int_le, unsigned_abs, if◌then◌else◌}
use Rattle.revs_tape.specs.declared.limits.TheConstants.{MOST_CLAIMS}
use Rattle.revc_base.specs.declared.place.Place.{Place}
use Rattle.revs_tape.specs.declared.tape.Ref.{Ref}
use Rattle.revs_tape.specs.declared.tape.Ref.TheVariants as refs
use Rattle.revs_tape.specs.declared.tape.Entry.{Entry}
use Rattle.revs_tape.specs.declared.tape.Entry.TheVariants as entries
use Rattle.revs_tape.specs.declared.tape.Kind.{Kind}
use Rattle.revs_tape.specs.declared.tape.Kind.TheVariants as kinds
use Rattle.revs_tape.specs.declared.tape.Claim.{Claim}
use Rattle.revs_terms.specs.declared.cause.Cause.{Cause}
use Rattle.revs_terms.specs.declared.cause.Cause.TheVariants as causes
use Rattle.revs_terms.specs.declared.limits.TheConstants.{MOST_PLACES, MOST_RUN_WRITES, MOST_WORK, MOST_NUMBER}
use Rattle.revs_terms.specs.declared.term.Name.{Name}
use Rattle.revs_terms.specs.declared.term.Unit as u
use Rattle.revs_terms.specs.declared.term.Unit.TheVariants as units
use Rattle.revs_terms.specs.declared.term.Step.{Step}
use Rattle.revs_terms.specs.declared.term.Part.{Part}
use Rattle.revs_terms.specs.declared.term.Part.TheVariants as part
use Rattle.revs_terms.specs.Terms.{place_of, unit_place}
use Rattle.revs_terms.specs.Trees.{Tree, ItemTree, list_of, items_of, used, bool, reg, block, function, parts, apply, append, rotate, clean, assert, ands, xors}
use Rattle.revs_terms.specs.Trees.{assign, loop, bind, run}

-- ---- values

-- What a term or a name has for its value: nothing, the location of a bit, the locations of a
-- register, a number, or a function of the names that are not taken yet, with its body and the
-- values that it was made with.
mutual
  pub data Value : Type 0 where
    unit : Value
    bit : ℕ → Value
    register : List ℕ → Value
    number : ℤ → Value
    closure : List Name → Tree → Environment → Value

  -- the values of the names in scope, the nearest first
  pub data Environment : Type 0 where
    nothing : Environment
    bound : Value → Environment → Environment

abbrev pub value_at : Environment → ℕ → Value
value_at nothing back = unit
value_at (bound value far) zero = value
value_at (bound value far) (suc back) = value_at far back

-- the length that a register counts where it is bound
abbrev pub bound_length : Value → ℕ
bound_length (register locations) = length locations
bound_length _ = 0

-- ---- numbers

-- a number so far, with a unit of this value added or taken away
abbrev pub moved : Bool → ℤ → ℤ → ℤ
moved false sum k = sum +ℤ k
moved true sum k = sum -ℤ k

-- whether a number is within the limits
abbrev pub is_number : ℤ → Bool
is_number k = int_le (neg_ℤ (pos MOST_NUMBER)) k && int_le k (pos MOST_NUMBER)

-- how many numbers there are from the first to the last
abbrev pub turns : ℤ → ℤ → ℕ
turns first last = if int_le first last then unsigned_abs (last -ℤ first) + 1 else 0

-- the location in one place of a register
abbrev pub element : List ℕ → ℤ → Option ℕ
element r (pos i) = slice_get r i
element r (negsuc i) = None

-- the locations in the places from one to another of a register
abbrev pub places : List ℕ → ℤ → ℤ → Option (List ℕ)
places r (pos i) (pos j) = if leb i j && leb (j + 1) (length r)
    then Some (take (j + 1 - i) (drop i r)) else None
places r (pos i) (negsuc j) = None
places r (negsuc i) (pos j) = None
places r (negsuc i) (negsuc j) = None

-- the locations of a register from one place on, and then those before it
abbrev pub turned : List ℕ → ℤ → Option (List ℕ)
turned r (pos i) = if leb (i + 1) (length r) then Some (drop i r ++ take i r) else None
turned r (negsuc i) = None

-- ---- the state of a run

-- a type of bits: its constants, and its XOR and AND
pub record Bits (B : Type 0) : Type 0 where
  pub constant : Bool → B
  pub xor : B → B → B
  pub and : B → B → B

-- a bit in a location, and what made it
pub record Stamped (B : Type 0) : Type 0 where
  pub bit : B
  pub stamp : Ref

-- a claim, with the bit that it met
pub record Met (B : Type 0) : Type 0 where
  pub claim : Claim
  pub bit : B

-- what a run has made so far: what its locations hold, the writes, the claims and the work
pub record State (B : Type 0) : Type 0 where
  pub store : List (Option (Stamped B))
  pub log : List Entry
  pub claims : List (Met B)
  pub work : ℕ

-- The run is stuck at a place, or goes on with an answer.
pub data Outcome (B A : Type 0) : Type 0 where
  stuck : Cause → Place → Outcome B A
  went : A → State B → Outcome B A

-- what comes next, where the run is not stuck
abbrev pub after : {B A C : Type 0} → Outcome B A → (A → State B → Outcome B C) → Outcome B C
after (stuck why at) next = stuck why at
after (went answer s) next = next answer s

-- the run goes on where this holds, and is stuck otherwise
abbrev pub provided : {B A : Type 0} → Bool → Cause → Place → Outcome B A → Outcome B A
provided true why at next = next
provided false why at next = stuck why at

-- ---- steps, which hide the state

-- a step of the run, to its answer
abbrev pub RunStep : Type 0 → Type 0 → Type 0
RunStep B A = State B → Outcome B A

-- nothing is done: this is the answer
abbrev pub done : {B A : Type 0} → A → RunStep B A
done answer s = went answer s

-- the run is stuck here
abbrev pub stops : {B A : Type 0} → Cause → Place → RunStep B A
stops why at s = stuck why at

-- what an option holds, or the run is stuck
abbrev pub given : {B A : Type 0} → Option A → Cause → Place → RunStep B A
given None why at = stops why at
given (Some answer) why at = done answer

-- a step, and the next with its answer
infixl 10 ◌>>=◌
abbrev pub ◌>>=◌ : {B A C : Type 0} → RunStep B A → (A → RunStep B C) → RunStep B C
step >>= next = λ s. after (step s) next

-- what has to hold, and how the run is stuck otherwise
pub record Need : Type 0 where
  pub holds : Bool
  pub why : Cause
  pub at : Place

abbrev pub need : Bool → Cause → Place → Need
need holds why at = record { holds = holds; why = why; at = at }

-- the next step, where this holds
infixl 10 ◌>>◌
abbrev pub ◌>>◌ : {B A : Type 0} → Need → RunStep B A → RunStep B A
what >> next = λ s. provided what.holds what.why what.at (next s)

module _ {B : Type 0} (bits : Bits B) where
  -- ---- what touches the state

  -- the work rises by so much
  abbrev pub worked : ℕ → Place → RunStep B (Unit {0})
  worked count at s = provided (leb (s.work + count) MOST_WORK) causes.Work at
      (went tt (record s { work = s.work + count }))

  -- a new entry of the log, and a new location with its bit
  abbrev pub written : Entry → B → Place → RunStep B ℕ
  written entry b at s =
      provided (leb (length s.log + 1) MOST_RUN_WRITES) causes.Writes at
      (went (length s.store) (record s {
        store = s.store ++ Some (record { bit = b; stamp = refs.Write (length s.log) }) ∷ [];
        log = s.log ++ entry ∷ [];
      }))

  -- what a location holds
  abbrev pub read : ℕ → Place → RunStep B (Stamped B)
  read location at s = elim (slice_get s.store location) [
    | None ↦ stuck causes.Gone at
    | Some held ↦ elim held [ None ↦ stuck causes.Gone at | Some b ↦ went b s ]
  ]

  -- the location takes this bit
  abbrev pub put : ℕ → Stamped B → RunStep B Value
  put location b s = went unit (record s { store = slice_set s.store location (Some b) })

  -- `clean` takes the bit out of its location
  abbrev pub left_by : Kind → ℕ → List (Option (Stamped B)) → List (Option (Stamped B))
  left_by kinds.Clean location store = slice_set store location None
  left_by kinds.Assert location store = store

  -- a claim on what a location holds is noted
  abbrev pub noted : Kind → ℕ → Stamped B → Place → RunStep B Value
  noted kind location held at s =
      provided (leb (length s.claims + 1) MOST_CLAIMS) causes.Claims at
      (went unit (record s {
        store = left_by kind location s.store;
        claims = s.claims ++ record {
          claim = record { kind = kind; of = held.stamp; at = at };
          bit = held.bit;
        } ∷ [];
      }))

  -- ---- what is done with values

  abbrev pub as_bit : Place → Value → RunStep B ℕ
  as_bit at (bit location) = done location
  as_bit at _ = stops causes.NotBit at

  abbrev pub as_register : Place → Value → RunStep B (List ℕ)
  as_register at (register locations) = done locations
  as_register at _ = stops causes.NotRegister at

  abbrev pub as_number : Place → Value → RunStep B ℤ
  as_number at (number k) = done k
  as_number at _ = stops causes.NotNumber at

  -- the value of a unit of a number
  abbrev pub unit_of : Environment → u.Unit → RunStep B ℤ
  unit_of env (units.Digits value at) = done (pos value)
  unit_of env (units.Name name) = as_number name.at (value_at env name.back)

  -- a number so far, with one step more
  abbrev pub summed : Environment → ℤ → Step → RunStep B ℤ
  summed env sum s = do
    k ← unit_of env s.unit
    need (is_number (moved s.minus sum k)) causes.Range (unit_place s.unit)
    done (moved s.minus sum k)

  -- the steps behind the first, each of which counts one unit of work
  abbrev pub more_of : Environment → ℤ → List Step → RunStep B ℤ
  more_of env sum [] = done sum
  more_of env sum (s ∷ ss) = do
    _ ← worked 1 (unit_place s.unit)
    next ← summed env sum s
    more_of env next ss

  -- a number, its steps from left to right
  abbrev pub number_of : Environment → List Step → RunStep B ℤ
  number_of env [] = done (pos 0)
  number_of env (s ∷ ss) = do
    first ← summed env (pos 0) s
    more_of env first ss

  -- a register of these locations, which counts its length
  abbrev pub registered : List ℕ → Place → RunStep B Value
  registered locations at = do
    _ ← worked (length locations) at
    done (register locations)

  -- the same, where they are not too many
  abbrev pub short_register : List ℕ → Place → RunStep B Value
  short_register locations at = do
    need (leb (length locations) MOST_PLACES) causes.Length at
    registered locations at

  -- a constant
  abbrev pub constant_bit : Bool → Place → RunStep B Value
  constant_bit b at = do
    made ← written (entries.Const b) (bits.constant b) at
    done (bit made)

  -- the parts of a register, one after another; a slice counts its length at the whole term
  abbrev pub part_of : Environment → Place → Part → Value → RunStep B Value
  part_of env whole (part.Index i at) value = do
    r ← as_register at value
    k ← number_of env i
    location ← given (element r k) causes.Index at
    done (bit location)
  part_of env whole (part.Slice i j at) value = do
    r ← as_register at value
    first ← number_of env i
    last ← number_of env j
    some ← given (places r first last) causes.Slice at
    registered some whole

  abbrev pub parts_of : Environment → Place → List Part → Value → RunStep B Value
  parts_of env whole [] value = done value
  parts_of env whole (p ∷ ps) value = do
    next ← part_of env whole p value
    parts_of env whole ps next

  -- the registers of two operands, which stand at these places, one behind the other
  abbrev pub appended : Place → Place → Place → Value → Value → RunStep B Value
  appended first second at x y = do
    r ← as_register first x
    q ← as_register second y
    need (leb (length r + length q) MOST_PLACES) causes.Length at
    registered (r ++ q) at

  -- the register of an operand, turned by a number
  abbrev pub rotated : ℤ → Place → Place → Value → RunStep B Value
  rotated k operand at x = do
    r ← as_register operand x
    all ← given (turned r k) causes.Rotate at
    registered all at

  -- a claim on the bit of an operand
  abbrev pub claim_on : Kind → ℕ → Place → Place → RunStep B Value
  claim_on kind location operand at = do
    held ← read location operand
    noted kind location held at

  -- the location to the left takes the bit of that to the right
  abbrev pub assigned : ℕ → ℕ → Place → Place → RunStep B Value
  assigned to from left right = do
    _ ← read to left
    b ← read from right
    put to b

  -- ---- the forms of terms, with the run of a term one deeper

  module _ (deeper : Environment → Tree → RunStep B Value) where
    -- a term whose value must be a bit
    abbrev pub bit_of : Environment → Tree → RunStep B ℕ
    bit_of env t = do
      value ← deeper env t
      as_bit (place_of t) value

    -- terms whose values must be bits, one after another
    abbrev pub bits_of : Environment → List Tree → RunStep B (List ℕ)
    bits_of env [] = done []
    bits_of env (t ∷ ts) = do
      first ← bit_of env t
      more ← bits_of env ts
      done (first ∷ more)

    -- items in order, to the values that are in scope behind them
    abbrev pub items_run : Environment → List ItemTree → RunStep B Environment
    items_run env [] = done env
    items_run env (bind name t ∷ items) = do
      value ← deeper env t
      _ ← worked (bound_length value) (place_of t)
      items_run (bound value env) items
    items_run env (run t ∷ items) = do
      _ ← deeper env t
      items_run env items

    -- the items of a block, and its last expression
    abbrev pub block_of : Environment → List ItemTree → Tree → RunStep B Value
    block_of env items last = do
      inner ← items_run env items
      deeper inner last

    -- one turn of a `for` at this place: its name is bound to the number, and its items are run
    abbrev pub turn_of : Environment → List ItemTree → Place → ℤ → RunStep B Environment
    turn_of env items at k = do
      _ ← worked 1 at
      items_run (bound (number k) env) items

    -- so many turns, for the number k and those behind it
    abbrev pub turns_of : Environment → List ItemTree → Place → ℤ → ℕ → RunStep B Value
    turns_of env items at k zero = done unit
    turns_of env items at k (suc more) = do
      _ ← turn_of env items at k
      turns_of env items at (k +ℤ pos 1) more

    -- a function takes an argument; with its last name the body is run
    abbrev pub apply_to : Place → Value → Value → RunStep B Value
    apply_to at (closure (name ∷ []) body env) argument = do
      _ ← worked (bound_length argument) at
      deeper (bound argument env) body
    apply_to at (closure (name ∷ next ∷ names) body env) argument = do
      _ ← worked (bound_length argument) at
      done (closure (next ∷ names) body (bound argument env))
    apply_to at _ argument = stops causes.NotFunction at

    abbrev pub apply_all : Environment → List Tree → Value → RunStep B Value
    apply_all env [] value = done value
    apply_all env (t ∷ ts) value = do
      argument ← deeper env t
      next ← apply_to (place_of t) value argument
      apply_all env ts next

    abbrev pub claimed : Kind → Environment → Tree → Place → RunStep B Value
    claimed kind env t at = do
      location ← bit_of env t
      claim_on kind location (place_of t) at

    -- a chain: the bit so far, whose location is read at the first operand's place, with each next
    -- operand
    abbrev pub chain_of : (Ref → Ref → Entry) → (B → B → B) → Environment → Place → ℕ → List Tree
        → RunStep B Value
    chain_of entry op env first so_far [] = done (bit so_far)
    chain_of entry op env first so_far (t ∷ ts) = do
      next ← bit_of env t
      a ← read so_far first
      b ← read next (place_of t)
      made ← written (entry a.stamp b.stamp) (op a.bit b.bit) (place_of t)
      chain_of entry op env first made ts

    abbrev pub chain : (Ref → Ref → Entry) → (B → B → B) → Environment → List Tree → RunStep B Value
    chain entry op env [] = done unit
    chain entry op env (t ∷ ts) = do
      first ← bit_of env t
      chain_of entry op env (place_of t) first ts

    -- one term, by its form
    abbrev pub term_of : Environment → Tree → RunStep B Value
    term_of env (used name) = done (value_at env name.back)
    term_of env (bool b at) = constant_bit b at
    term_of env (ands ts) = chain entries.And bits.and env (list_of ts)
    term_of env (xors ts) = chain entries.Xor bits.xor env (list_of ts)
    term_of env (assign left right) = do
      to ← bit_of env left
      from ← bit_of env right
      assigned to from (place_of left) (place_of right)
    term_of env (reg ts at) = do
      locations ← bits_of env (list_of ts)
      short_register locations at
    term_of env (parts base ps) = do
      value ← deeper env base
      parts_of env (place_of base) ps value
    term_of env (append a b at) = do
      x ← deeper env a
      y ← deeper env b
      appended (place_of a) (place_of b) at x y
    term_of env (rotate i t at) = do
      k ← number_of env i
      x ← deeper env t
      rotated k (place_of t) at x
    term_of env (function names body at) = done (closure names body env)
    term_of env (apply head ts) = do
      value ← deeper env head
      apply_all env (list_of ts) value
    term_of env (clean t at) = claimed kinds.Clean env t at
    term_of env (assert t at) = claimed kinds.Assert env t at
    term_of env (block items last at) = block_of env (items_of items) last
    term_of env (loop name a b items at) = do
      first ← number_of env a
      last ← number_of env b
      turns_of env (items_of items) at first (turns first last)

  -- A term or a `for` with so many levels of depth left: it is entered, which counts one unit of
  -- work, and its parts are run one deeper.
  abbrev pub run_of : ℕ → Environment → Tree → RunStep B Value
  run_of zero env t = stops causes.Depth (place_of t)
  run_of (suc left) env t = do
    _ ← worked 1 (place_of t)
    term_of (run_of left) env t
