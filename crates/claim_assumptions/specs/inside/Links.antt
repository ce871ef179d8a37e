-- What is put behind a tape, and what a claim's fault becomes.
use Rattle.std.specs.Prelude.{◌≡◌, ℕ, ◌+◌, ◌*◌, List, [], ◌∷◌, ◌++◌, length, sum, take, drop}
use Rattle.std.specs.List.{AllByRecursion}
use Rattle.revs_tape.specs.declared.tape.Claim.{Claim}
use Rattle.revs_tape.specs.declared.tape.Entry.{Entry}
use Rattle.revs_tape.specs.declared.tape.Entry.TheVariants as entries
use Rattle.revs_tape.specs.declared.tape.Ref.{Ref}
use Rattle.revs_tape.specs.declared.tape.Ref.TheVariants as refs
use Rattle.revs_tape.specs.Tapes.{TapeView, IsKnown}
use Rattle.claim_assumptions.specs.Assumptions.{met_links, failing_links, granted, restricted}
use Rattle.claim_assumptions.specs.Assumptions.{bare, constants}

-- the two writes of a claim, of which the first stands at this place
abbrev pub linked : ℕ → Ref → Ref → Ref → List Entry
linked place of constant met = entries.Xor of constant ∷ entries.And met (refs.Write place) ∷ []

-- the bits of these claims are inputs or among so many writes
abbrev pub AreClaimsOn : List ℕ → ℕ → List Claim → Type 0
AreClaimsOn params writes claims =
    AllByRecursion (λ claim. IsKnown (sum params) writes claim.of) claims

-- the first i writes of a tape are copied
pub record IsCopiedSoFar (t : TapeView) (i : ℕ) (made : TapeView) : Type 0 where
  pub is : made ≡ record (bare t) { entries = take i t.entries }
  pub size : length made.entries ≡ i

-- a tape with the constants and the links of these claims behind its writes
abbrev pub with_links : TapeView → List Claim → TapeView
with_links t claims = record t {
  entries = t.entries ++ (constants ++ met_links (length t.entries) 0 claims);
  claims = [];
  outputs = [];
}

-- the links of the claims before the i-th are put
pub record AreMetSoFar (writes : ℕ) (start : TapeView) (claims : List Claim) (i : ℕ) (t : TapeView)
    : Type 0 where
  pub is : t ≡ record start { entries = t.entries }
  pub left : t.entries ++ met_links writes i (drop i claims)
      ≡ start.entries ++ met_links writes 0 claims
  pub size : length t.entries ≡ writes + 2 + 2 * i

-- the claims before the i-th are put, as claims that hold
pub record AreGrantedSoFar (writes : ℕ) (start : TapeView) (claims : List Claim) (i : ℕ)
    (t : TapeView) : Type 0 where
  pub is : t ≡ record start { claims = t.claims }
  pub left : t.claims ++ granted writes (drop i claims) ≡ start.claims ++ granted writes claims
  pub size : length t.claims ≡ length start.claims + i

-- the links and the claims of those before the i-th are put
pub record AreFailingSoFar (writes met : ℕ) (start : TapeView) (claims : List Claim) (i : ℕ)
    (t : TapeView) : Type 0 where
  pub is : t ≡ record start { entries = t.entries; claims = t.claims }
  pub left : t.entries ++ failing_links writes met (met + i) (drop i claims)
      ≡ start.entries ++ failing_links writes met met claims
  pub others : t.claims ++ restricted writes (met + i) (drop i claims)
      ≡ start.claims ++ restricted writes met claims
  pub size : length t.entries ≡ writes + 2 + 2 * (met + i)
  pub few : length t.claims ≡ length start.claims + i
