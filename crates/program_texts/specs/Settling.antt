-- The claims of a program, of which the first so many are taken for granted: where all hold on the
-- inputs that meet these, and which one stops a command.
use Rattle.std.specs.Prelude.{◌≡◌, ℕ, ◌+◌, Bool, List, slice_get, Some}
use Rattle.claim_assumptions.specs.Settling.{HoldAssuming, BreaksAssuming, PassesAssuming, IsVacuous}
use Rattle.claim_check.specs.Measures.{IsNoLarger}
use Rattle.claim_check.specs.Settled.{SettledView, IsSettledOf}
use Rattle.revc_base.specs.declared.place.Place.{Place}
use Rattle.revs_tape.specs.declared.tape.Claim.{Claim as TapeClaim}
use Rattle.revs_tape.specs.Tapes.{TapeView}
use Rattle.revs_parser.specs.WellFormed.{IsWellFormed}
use Rattle.revs_terms.specs.Runs.{IsTapeOf}
use Rattle.revs_terms.specs.Views.{ProgramView}
use Rattle.command_answers.specs.declared.fault.Fault.{Fault}
use Rattle.command_answers.specs.declared.fault.Fault.TheVariants.{Refused, Claim, Diagram, NoInput}
use Rattle.program_texts.specs.Refusals.{IsRefusal}

-- the text is well formed, and its program leaves this tape
pub record LeavesTape (text : List ℕ) (tape : TapeView) : Type 0 where
  pub program : ProgramView
  pub formed : IsWellFormed text program
  pub tape_of : IsTapeOf program.params program.body tape

-- the text leaves this tape; some input meets the claims that are taken for granted, and all others
-- hold on each that does, within so many nodes of diagrams
pub record LeavesSettled (text : List ℕ) (assumed nodes : ℕ) (tape : TapeView) : Type 0 where
  pub left : LeavesTape text tape
  pub hold : HoldAssuming tape assumed nodes

-- the term of the claim with this number, counted from 0, is at this place
pub record StandsAt (tape : TapeView) (number : ℕ) (at : Place) : Type 0 where
  pub claim : TapeClaim
  pub is_claim : slice_get tape.claims number ≡ Some claim
  pub place : at ≡ claim.at

-- No input meets the claims that are taken for granted.
pub record MeetsNoInput (text : List ℕ) (assumed nodes : ℕ) : Type 0 where
  pub tape : TapeView
  pub left : LeavesTape text tape
  pub vacuous : IsVacuous tape assumed nodes

-- The claim with this number, counted from 1, is the first that fails on some input that meets the
-- assumed ones, and these bits are the least such input. Its term is at this place.
pub record BreaksClaim (text : List ℕ) (assumed nodes number : ℕ) (at : Place) (bits : List Bool)
    : Type 0 where
  pub tape : TapeView
  pub left : LeavesTape text tape
  pub before : ℕ
  pub breaks : BreaksAssuming tape assumed nodes before bits
  pub count : number ≡ before + 1
  pub stands : StandsAt tape before at

-- The claims before this one, counted from 1, hold where the assumed ones do, and with this one the
-- functions on which they rest are the first time more than the nodes. Its term is at this place.
pub record PassesNodes (text : List ℕ) (assumed nodes number : ℕ) (at : Place) : Type 0 where
  pub tape : TapeView
  pub left : LeavesTape text tape
  pub before : ℕ
  pub passes : PassesAssuming tape assumed nodes before
  pub count : number ≡ before + 1
  pub stands : StandsAt tape before at

-- why the claims of a text are not settled within so many nodes: the text is refused, no input
-- meets the assumed claims, or a claim stops
abbrev pub StopsSettling : List ℕ → ℕ → ℕ → Fault → Type 0
StopsSettling text assumed nodes (Refused refusal) = IsRefusal text refusal
StopsSettling text assumed nodes NoInput = MeetsNoInput text assumed nodes
StopsSettling text assumed nodes (Claim number at bits) =
    BreaksClaim text assumed nodes number at bits
StopsSettling text assumed nodes (Diagram number at limit) =
    PassesNodes text assumed nodes number at × (limit ≡ nodes)
StopsSettling text assumed nodes _ = ⊥

-- this holds of each text that leaves the tape
pub record ForTexts (tape : TapeView) (OfText : List ℕ → Type 0) : Type 0 where
  pub of_text : (text : List ℕ) → LeavesTape text tape → OfText text

-- the claims of the tape hold where the assumed ones do, within the nodes, and this is its settled
-- graph
pub record IsSettledWithin (tape : TapeView) (assumed nodes : ℕ) (graph : SettledView)
    : Type 0 where
  pub hold : HoldAssuming tape assumed nodes
  pub of_tape : IsSettledOf tape graph
  pub no_larger : IsNoLarger tape graph
