-- What a program computes whose body has a meaning on every input, and the texts of such programs.
use Rattle.std.specs.Prelude.{◌≡◌, ℕ, ◌≤◌, Bool, false, Option, Some, None, IsTrue, List, [], ◌∷◌, length, take, drop, get_or}
use Rattle.revs_tape.specs.declared.limits.TheConstants.{MOST_OUTPUTS}
use Rattle.revs_tape.specs.Tapes.{TapeView}
use Rattle.text_places.specs.Places.{start}
use Rattle.revs_terms.specs.declared.limits.TheConstants.{MOST_DEPTH, MOST_RUN_WRITES}
use Rattle.revs_terms.specs.declared.program.Param.{Param}
use Rattle.revs_terms.specs.Programs.{width_of, AreParams}
use Rattle.revs_terms.specs.Runs.{IsInput, HasOutput, IsTapeOf}
use Rattle.revs_terms.specs.Scopes.{second_of, scope_verdict, bound_as}
use Rattle.revs_terms.specs.Trees.{Tree}
use Rattle.revs_grammar.specs.Sentences.{few_levels, IsSentenceOf}
use Rattle.revs_parser.specs.declared.limits.TheConstants.{MOST_BYTES}
use Rattle.revs_parser.specs.WellFormed.{IsWellFormed}
use Rattle.built_texts.specs.Meanings.{Meaning, of_bit, of_bits, of_function, Scope, no_names, named, IsRun}
use Rattle.built_texts.specs.Pieces.{Piece, text_of, toks_of, tokens_at, fits, AreGood}

-- what a parameter means whose bits stand first in the input
abbrev pub param_meaning : Option ℕ → List Bool → Meaning
param_meaning None input = of_bit (get_or input 0 false)
param_meaning (Some width) input = of_bits (take width input)

-- what the parameters mean on an input, the last one nearest
abbrev pub inputs_of : List Param → List Bool → Scope → Scope
inputs_of [] input sc = sc
inputs_of (p ∷ ps) input sc = inputs_of ps (drop (width_of p.width) input)
    (named p.name.text (param_meaning p.width input) sc)

-- the output bits of a program whose body means this
abbrev pub output_of : Meaning → List Bool
output_of (of_bit b) = b ∷ []
output_of (of_bits bs) = bs
output_of (of_function names body sc) = []

-- A body may mean this: a bit, or a register of no more bits than outputs.
abbrev pub IsOutput : Meaning → Type 0
IsOutput (of_bit b) = Unit {0}
IsOutput (of_bits bs) = length bs ≤ MOST_OUTPUTS
IsOutput (of_function names body sc) = ⊥

-- On every input the body, whose names are not bound yet, means this, within the limits of runs.
pub record IsBodyRun (params : List Param) (unbound : Tree)
    (means : List Bool → Meaning) : Type 0 where
  pub units : ℕ
  pub few : units ≤ MOST_RUN_WRITES
  pub runs : (input : List Bool) → IsInput params input
      → IsRun MOST_DEPTH (inputs_of params input no_names) unbound (means input) units
  pub outputs : (input : List Bool) → IsInput params input → IsOutput (means input)

-- The program ends on every input, with these output bits, and makes no claim.
pub record Puts (params : List Param) (body : Tree) (means : List Bool → Meaning) : Type 0 where
  pub gives : (input : List Bool) → IsInput params input
      → HasOutput params body input (output_of (means input))
  pub no_claims : (t : TapeView) → IsTapeOf params body t → t.claims ≡ []

-- A body that means something on every input is that of a program that puts it out.
abbrev pub ProgramGives : Type 0
ProgramGives =
    (params : List Param) (unbound : Tree) (means : List Bool → Meaning)
    → second_of [] params ≡ None → IsBodyRun params unbound means
    → (body : Tree) × (scope_verdict params unbound ≡ bound_as body) × Puts params body means

-- The text that is built of these pieces is the sentence of a program with these parameters and
-- this body, within the limits.
pub record IsBuilt (ps : List Piece) (params : List Param) (unbound : Tree) : Type 0 where
  pub good : AreGood (toks_of ps)
  pub fit : IsTrue (fits ps)
  pub short : length (text_of ps) ≤ MOST_BYTES
  pub sentence : IsSentenceOf few_levels (tokens_at start ps) params unbound
  pub inputs : AreParams params
  pub different : second_of [] params ≡ None

-- A text that is built so is well formed, for a program that puts out what the body means.
abbrev pub TextGives : Type 0
TextGives =
    (ps : List Piece) (params : List Param) (unbound : Tree) (means : List Bool → Meaning)
    → IsBuilt ps params unbound → IsBodyRun params unbound means
    → (body : Tree) × IsWellFormed (text_of ps) (record { params = params; body = body })
    × Puts params body means
