-- What a clean circuit of a program is: what it computes, and what its lines hold before and
-- behind.
use Rattle.std.specs.Prelude.{◌≡◌, ℕ, ◌+◌, Bool, List, length, sum}
use Rattle.claim_assumptions.specs.Assumptions.{AreMetOn}
use Rattle.circuit_plans.specs.Plans.{AddsOutput, MayHold, ReplacesInput, lines_in}
use Rattle.circuit_plans.specs.declared.roles.Placing.{Placing}
use Rattle.circuit_plans.specs.declared.roles.Placing.TheVariants.{Added, InPlace}
use Rattle.circuit_plans.specs.declared.roles.Roles.{Roles}
use Rattle.circuit_plans.specs.declared.roles.Start.{Start}
use Rattle.mct_circuit.specs.Gates.{GateView, AreGatesOn, AreNarrow}
use Rattle.revs_terms.specs.Programs.{widths_of}
use Rattle.revs_tape.specs.Tapes.{TapeView}
use Rattle.revs_terms.specs.Runs.{IsInput, IsTapeOf, HasOutput}
use Rattle.revs_terms.specs.Views.{ProgramView}

-- on this input, whatever the borrowed lines hold, the gates add the program's output to whatever
-- the output lines may hold
pub record AddsOn (p : ProgramView) (start : Start) (roles : Roles) (gates : List GateView)
    (input borrowed : List Bool) : Type 0 where
  pub output : List Bool
  pub is : HasOutput p.params p.body input output
  pub size : length output ≡ roles.outputs
  pub adds : (held : List Bool) → length held ≡ roles.outputs → MayHold start held
      → AddsOutput roles gates input held output borrowed

-- on this input, whatever the borrowed lines hold, the gates put the program's output on the input
-- lines and the output lines, which held zeros
pub record ReplacesOn (p : ProgramView) (roles : Roles) (gates : List GateView)
    (input borrowed : List Bool) : Type 0 where
  pub output : List Bool
  pub is : HasOutput p.params p.body input output
  pub size : length output ≡ roles.inputs + roles.outputs
  pub replaces : ReplacesInput roles gates input output borrowed

-- on this input the gates put the program's output there
abbrev pub ComputesOn : ProgramView → Placing → Roles → List GateView → (input borrowed : List Bool)
    → Type 0
ComputesOn p (Added start) roles gates input borrowed = AddsOn p start roles gates input borrowed
ComputesOn p InPlace roles gates input borrowed = ReplacesOn p roles gates input borrowed

-- this input meets the first so many claims of the program's run
abbrev pub MeetsFirst : ProgramView → ℕ → List Bool → Type 0
MeetsFirst p assumed input = (t : TapeView) → IsTapeOf p.params p.body t → AreMetOn t assumed input

-- A clean circuit for a program, with so many borrowed lines: its gates are on lines of these
-- roles, each a flip with at most two controls, all positive, on different lines; and they compute
-- the program on every input that meets its first so many claims, and put its outputs there.
pub record IsCleanCircuit (p : ProgramView) (assumed : ℕ) (placing : Placing) (borrowed : ℕ)
    (roles : Roles) (gates : List GateView) : Type 0 where
  pub inputs : roles.inputs ≡ sum (widths_of p.params)
  pub borrows : roles.borrowed ≡ borrowed
  pub placed : AreGatesOn (lines_in roles) gates
  pub narrow : AreNarrow gates
  pub computes : (input bits : List Bool) → IsInput p.params input → MeetsFirst p assumed input
      → length bits ≡ borrowed → ComputesOn p placing roles gates input bits
