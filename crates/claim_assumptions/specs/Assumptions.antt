-- The first claims of a tape taken for granted: the inputs on which they hold, as the bit of a
-- tape, and what the other claims say on these, as the claims of a tape.
use Rattle.std.specs.Prelude.{ℕ, ◌+◌, ◌*◌, Bool, true, false, cond, not, List, [], ◌∷◌, ◌++◌, length, take, drop}
use Rattle.std.specs.List.{AllByRecursion}
use Rattle.revs_tape.specs.declared.tape.Claim.{Claim}
use Rattle.revs_tape.specs.declared.tape.Entry.{Entry}
use Rattle.revs_tape.specs.declared.tape.Entry.TheVariants as entries
use Rattle.revs_tape.specs.declared.tape.Kind.TheVariants as kinds
use Rattle.revs_tape.specs.declared.tape.Ref.{Ref}
use Rattle.revs_tape.specs.declared.tape.Ref.TheVariants as refs
use Rattle.revs_tape.specs.Tapes.{TapeView, Holds, claimed}

-- a tape with its writes, and without its claims and outputs
abbrev pub bare : TapeView → TapeView
bare t = record t { claims = []; outputs = [] }

-- ---- which inputs are looked at

-- the claims that are taken for granted: so many of the first, or all
abbrev pub assumed_of : TapeView → ℕ → List Claim
assumed_of t number = take number t.claims

-- each of them holds on this input
abbrev pub AreMetOn : TapeView → ℕ → List Bool → Type 0
AreMetOn t number input = AllByRecursion (Holds t input) (assumed_of t number)

-- ---- the same by writes

-- Behind a tape of so many writes stand the two constants, and then two writes for each claim:
-- whether it is met or fails, and the AND of this with the bit that those before are met.
abbrev pub constants : List Entry
constants = entries.Const false ∷ entries.Const true ∷ []

abbrev pub constant_at : ℕ → Bool → Ref
constant_at writes bit = refs.Write (writes + cond bit 1 0)

-- the bit that the first so many claims are met
abbrev pub met_at : ℕ → ℕ → Ref
met_at writes count = refs.Write (writes + 1 + 2 * count)

-- the first of the two writes of the claim with this number, counted from 0
abbrev pub claim_at : ℕ → ℕ → Ref
claim_at writes number = refs.Write (writes + 2 + 2 * number)

-- claims from this number on, each met where its bit is the claimed one
abbrev pub met_links : ℕ → ℕ → List Claim → List Entry
met_links writes number [] = []
met_links writes number (c ∷ cs) =
    entries.Xor c.of (constant_at writes (not (claimed c.kind)))
    ∷ entries.And (met_at writes number) (claim_at writes number)
    ∷ met_links writes (number + 1) cs

-- claims from this number on, each failing where its bit is not the claimed one and the first so
-- many claims are met
abbrev pub failing_links : (writes met number : ℕ) → List Claim → List Entry
failing_links writes met number [] = []
failing_links writes met number (c ∷ cs) =
    entries.Xor c.of (constant_at writes (claimed c.kind))
    ∷ entries.And (met_at writes met) (claim_at writes number)
    ∷ failing_links writes met (number + 1) cs

-- ---- the two tapes

-- the tape whose one output is the bit that the assumed claims are met, and which claims that it is
-- false
abbrev pub premise : ℕ → TapeView → TapeView
premise number t = record t {
  entries = t.entries ++ (constants ++ met_links (length t.entries) 0 (assumed_of t number));
  claims =
      record {
        kind = kinds.Clean;
        of = met_at (length t.entries) (length (assumed_of t number));
        at = record { line = 1; column = 1 };
      }
      ∷ [];
  outputs = met_at (length t.entries) (length (assumed_of t number)) ∷ [];
}

-- the assumed claims as claims that hold
abbrev pub granted : ℕ → List Claim → List Claim
granted writes [] = []
granted writes (c ∷ cs) =
    record { kind = kinds.Clean; of = constant_at writes false; at = c.at } ∷ granted writes cs

-- the other claims, from this number on: none fails where the assumed ones are met
abbrev pub restricted : ℕ → ℕ → List Claim → List Claim
restricted writes number [] = []
restricted writes number (c ∷ cs) =
    record { kind = kinds.Clean; of = refs.Write (writes + 3 + 2 * number); at = c.at }
    ∷ restricted writes (number + 1) cs

-- a tape with its claims parted in those that are assumed and the others
abbrev pub behind : List Claim → List Claim → TapeView → TapeView
behind [] others t = t
behind (c ∷ cs) others t = record t {
  entries =
      t.entries
      ++ (constants
      ++ (met_links (length t.entries) 0 (c ∷ cs)
      ++ failing_links (length t.entries) (length (c ∷ cs)) (length (c ∷ cs)) others));
  claims =
      granted (length t.entries) (c ∷ cs)
      ++ restricted (length t.entries) (length (c ∷ cs)) others;
}

-- the tape whose claims say what the claims of this one say on the inputs on which the assumed ones
-- hold: they have the same numbers and places; where none is assumed, it is the tape itself
abbrev pub assuming : ℕ → TapeView → TapeView
assuming number t = behind (assumed_of t number) (drop number t.claims) t
