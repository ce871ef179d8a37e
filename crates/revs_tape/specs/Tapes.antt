-- Tapes: the writes of a run with its claims and outputs, and the bits that they have on an input.
use Rattle.std.specs.Prelude.{◌≡◌, ℕ, ◌+◌, ◌<◌, ◌≤◌, Bool, true, false, ◌&&◌, List, [], ◌∷◌, ◌++◌, length, map, sum, ⊤}
use Rattle.std.specs.Bool.{xor}
use Rattle.std.specs.List.{AllByRecursion}
pub use Rattle.list_facts.specs.Bits.{bit_of}
use Rattle.list_facts.specs.Lists.{IsFirstWithout}
use Rattle.revs_tape.specs.declared.limits.TheConstants.{MOST_INPUTS, MOST_WRITES, MOST_CLAIMS, MOST_OUTPUTS}
use Rattle.revs_tape.specs.declared.tape.Ref.{Ref}
use Rattle.revs_tape.specs.declared.tape.Ref.TheVariants as refs
use Rattle.revs_tape.specs.declared.tape.Entry.{Entry}
use Rattle.revs_tape.specs.declared.tape.Entry.TheVariants as entries
use Rattle.revs_tape.specs.declared.tape.Kind.{Kind}
use Rattle.revs_tape.specs.declared.tape.Kind.TheVariants as kinds
use Rattle.revs_tape.specs.declared.tape.Claim.{Claim}
use Rattle.revs_tape.specs.declared.running.TapeEnd.{TapeEnd}
use Rattle.revs_tape.specs.declared.running.TapeEnd.TheVariants as ends

-- a tape: the width of each parameter, the writes, the claims and the outputs, each in order
pub record TapeView : Type 0 where
  pub params : List ℕ
  pub entries : List Entry
  pub claims : List Claim
  pub outputs : List Ref

-- the operands of a write
abbrev pub operands : Entry → List Ref
operands (entries.Const bit) = []
operands (entries.Xor a b) = a ∷ b ∷ []
operands (entries.And a b) = a ∷ b ∷ []

-- ---- what a tape keeps

-- widths of at least 1 that add up to at most the greatest number of inputs
pub record AreWidths (params : List ℕ) : Type 0 where
  pub bits : AllByRecursion (λ width. 1 ≤ width) params
  pub inputs : sum params ≤ MOST_INPUTS

-- one of n inputs, or of the writes before the k-th
abbrev pub IsKnown : ℕ → ℕ → Ref → Type 0
IsKnown n k (refs.Input i) = i < n
IsKnown n k (refs.Write j) = j < k

abbrev pub IsKnownEntry : ℕ → ℕ → Entry → Type 0
IsKnownEntry n k (entries.Const bit) = ⊤
IsKnownEntry n k (entries.Xor a b) = IsKnown n k a × IsKnown n k b
IsKnownEntry n k (entries.And a b) = IsKnown n k a × IsKnown n k b

-- the writes from the k-th on: each is made of inputs and of earlier writes
abbrev pub AreKnown : ℕ → ℕ → List Entry → Type 0
AreKnown n k [] = ⊤
AreKnown n k (entry ∷ rest) = IsKnownEntry n k entry × AreKnown n (k + 1) rest

-- What a tape keeps: references are earlier, and the limits hold.
pub record IsTape (t : TapeView) : Type 0 where
  pub widths : AreWidths t.params
  pub known : AreKnown (sum t.params) 0 t.entries
  pub few_entries : length t.entries ≤ MOST_WRITES
  pub claims : AllByRecursion (λ claim. IsKnown (sum t.params) (length t.entries) claim.of) t.claims
  pub few_claims : length t.claims ≤ MOST_CLAIMS
  pub outputs : AllByRecursion (IsKnown (sum t.params) (length t.entries)) t.outputs
  pub few_outputs : length t.outputs ≤ MOST_OUTPUTS

-- ---- bits on an input

-- the bit of a reference, with the bits of the inputs and those of the writes
abbrev pub bit_at : List Bool → List Bool → Ref → Bool
bit_at input written (refs.Input i) = bit_of input i
bit_at input written (refs.Write j) = bit_of written j

abbrev pub entry_bit : List Bool → List Bool → Entry → Bool
entry_bit input written (entries.Const bit) = bit
entry_bit input written (entries.Xor a b) = xor (bit_at input written a) (bit_at input written b)
entry_bit input written (entries.And a b) = bit_at input written a && bit_at input written b

-- the bits written so far, and then those of these writes, one after another
abbrev pub written_by : List Bool → List Bool → List Entry → List Bool
written_by input written [] = written
written_by input written (entry ∷ rest) =
    written_by input (written ++ entry_bit input written entry ∷ []) rest

-- the bit of a reference of a tape on an input
abbrev pub bit_on : TapeView → List Bool → Ref → Bool
bit_on t input ref = bit_at input (written_by input [] t.entries) ref

-- the output bits of a tape on an input
abbrev pub outputs_on : TapeView → List Bool → List Bool
outputs_on t input = map (bit_on t input) t.outputs

-- ---- claims

-- `clean` claims that a bit is false, `assert` that it is true
abbrev pub claimed : Kind → Bool
claimed kinds.Clean = false
claimed kinds.Assert = true

-- A claim is met where the bit is the claimed one, with the bits of the inputs and of the writes.
abbrev pub IsMet : List Bool → List Bool → Claim → Type 0
IsMet input written claim = bit_at input written claim.of ≡ claimed claim.kind

-- The claim with this number, counted from 0, is the first that is not met.
abbrev pub IsFirstFailing : List Bool → List Bool → List Claim → ℕ → Type 0
IsFirstFailing input written claims number = IsFirstWithout (IsMet input written) claims number

-- A claim of a tape holds on an input where it is met there.
abbrev pub Holds : TapeView → List Bool → Claim → Type 0
Holds t input claim = IsMet input (written_by input [] t.entries) claim

-- The claim with this number, counted from 0, is the first that fails on an input.
abbrev pub IsFirstBroken : TapeView → List Bool → ℕ → Type 0
IsFirstBroken t input number = IsFirstFailing input (written_by input [] t.entries) t.claims number

-- How the run of a tape ends on an input: with its outputs where every claim holds, else at the
-- first claim that fails.
abbrev pub IsEndOf : TapeView → List Bool → TapeEnd → Type 0
IsEndOf t input (ends.Out bits) =
    AllByRecursion (Holds t input) t.claims × (bits ≡ outputs_on t input)
IsEndOf t input (ends.Broken number) = IsFirstBroken t input number
