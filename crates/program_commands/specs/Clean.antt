-- What a clean file is, in each format.
use Rattle.std.specs.Prelude.{ℕ, List}
use Rattle.circuit_plans.specs.declared.roles.Placing.TheVariants.{Added}
use Rattle.circuit_plans.specs.declared.roles.Roles.{Roles}
use Rattle.circuit_plans.specs.declared.roles.Start.{Start}
use Rattle.mct_circuit.specs.Gates.{GateView}
use Rattle.program_texts.specs.Clean.{IsCleanCircuit}
use Rattle.qasm_format.specs.Compiled as qasm
use Rattle.real_format.specs.Compiled as real
use Rattle.revc_words.specs.declared.order.Format.{Format}
use Rattle.revc_words.specs.declared.order.Format.TheVariants.{Real, Qasm}
use Rattle.revs_terms.specs.Views.{ProgramView}

-- by the meaning of a format the text has these gates, and its lines have these roles
abbrev pub MeansCompiledIn : Format → List ℕ → Roles → List GateView → Type 0
MeansCompiledIn Real text roles gates = real.MeansCompiled text roles gates
MeansCompiledIn Qasm text roles gates = qasm.MeansCompiled text roles gates

-- the text of the file of such gates in a format: header, comments and all
abbrev pub file_text : Format → Roles → List GateView → List ℕ
file_text Real roles gates = real.compiled_text roles gates
file_text Qasm roles gates = qasm.compiled_text roles gates

-- a clean file for a program: by the meaning of its format it is a clean circuit for it
pub record IsClean (format : Format) (text : List ℕ) (p : ProgramView) (start : Start)
    (borrowed : ℕ) : Type 0 where
  pub roles : Roles
  pub gates : List GateView
  pub meaning : MeansCompiledIn format text roles gates
  pub circuit : IsCleanCircuit p 0 (Added start) borrowed roles gates
