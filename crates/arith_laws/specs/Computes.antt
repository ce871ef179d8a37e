-- What it is for a text to compute what its kind says.
use Rattle.std.specs.Prelude.{◌≡◌, ℕ, ◌≤◌, Bool, List, [], length, sum}
use Rattle.revs_tape.specs.Tapes.{TapeView}
use Rattle.revs_terms.specs.Programs.{widths_of}
use Rattle.revs_terms.specs.Runs.{IsInput, HasOutput, IsTapeOf}
use Rattle.revs_terms.specs.Views.{ProgramView}
use Rattle.revs_parser.specs.WellFormed.{IsWellFormed}
use Rattle.arith_templates.specs.declared.kind.Kind.{Kind}
use Rattle.arith_templates.specs.declared.kind.Kind.TheVariants.{Add, Sub, Less, Inc, Mul}
use Rattle.arith_templates.specs.Meets.{inputs_of, outputs_of, Meets}
use Rattle.arith_templates.specs.Texts.{text_of}

-- The text is well formed for a program without claims, with the inputs and outputs of its kind,
-- which computes what the kind does.
pub record Computes (kind : Kind) (n by : ℕ) (text : List ℕ) : Type 0 where
  pub program : ProgramView
  pub formed : IsWellFormed text program
  pub no_claims : (t : TapeView) → IsTapeOf program.params program.body t → t.claims ≡ []
  pub inputs : sum (widths_of program.params) ≡ inputs_of kind n
  pub outputs : (input output : List Bool) → IsInput program.params input
      → HasOutput program.params program.body input output → length output ≡ outputs_of kind n by
  pub meets : (input output : List Bool) → IsInput program.params input
      → HasOutput program.params program.body input output → Meets kind n by input output

-- The text of every adder computes sums.
abbrev pub AddersAdd : Type 0
AddersAdd = (n by : ℕ) → 1 ≤ n → n ≤ 200 → Computes Add n by (text_of Add n by)

-- The text of every subtractor computes differences.
abbrev pub SubtractorsSubtract : Type 0
SubtractorsSubtract = (n by : ℕ) → 1 ≤ n → n ≤ 200 → Computes Sub n by (text_of Sub n by)

-- The text of every comparator says whether the first number is less.
abbrev pub ComparatorsCompare : Type 0
ComparatorsCompare = (n by : ℕ) → 1 ≤ n → n ≤ 200 → Computes Less n by (text_of Less n by)

-- The text of every incrementer adds 1.
abbrev pub IncrementersAddOne : Type 0
IncrementersAddOne = (n by : ℕ) → 1 ≤ n → n ≤ 200 → Computes Inc n by (text_of Inc n by)

-- The text of every multiplier multiplies by its constant.
abbrev pub MultipliersMultiply : Type 0
MultipliersMultiply =
    (n by : ℕ) → 1 ≤ n → n ≤ 200 → 1 ≤ by → by ≤ 9999 → Computes Mul n by (text_of Mul n by)
