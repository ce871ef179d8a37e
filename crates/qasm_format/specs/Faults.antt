-- Why an OpenQASM text means no file: the first token that breaks a rule or passes a limit.
use Rattle.std.specs.Prelude.{◌≡◌, ℕ, List, []}
use Rattle.revc_base.specs.declared.place.Place.{Place}
use Rattle.qasm_format.specs.declared.file.QasmFault.{QasmFault}
use Rattle.qasm_format.specs.declared.file.QasmFault.TheVariants.{Token, Limit, Memory}
use Rattle.qasm_lexer.specs.Tokens.{Left, BeginsWith, whole}
use Rattle.qasm_format.specs.Stages.{Stage, head, Leads, PassesLimit, MayEnd}
use Rattle.qasm_format.specs.Qasm.{Reads}

-- Tokens lead to a stage, and the one behind them, at this place, leads nowhere from there; no text
-- may end there.
pub record StopsAt (old : Left) (from : Stage) (at : Place) (word : List ℕ)
    (stage : Stage) : Type 0 where
  pub mid : Left
  pub reads : Reads old mid from stage
  pub place : at ≡ mid.at
  pub begins : BeginsWith mid.bytes word
  pub nowhere : (to : Stage) → ¬ Leads word stage to
  pub open_stage : word ≡ [] → ¬ MayEnd stage

pub record BreaksRule (old : Left) (from : Stage) (at : Place) : Type 0 where
  pub word : List ℕ
  pub stage : Stage
  pub stops : StopsAt old from at word stage
  pub form : ¬ PassesLimit word stage

pub record BreaksLimit (old : Left) (from : Stage) (at : Place) : Type 0 where
  pub word : List ℕ
  pub stage : Stage
  pub stops : StopsAt old from at word stage
  pub limit : PassesLimit word stage

-- what a reading may end with: the first bad token, or want of memory
abbrev pub IsStop : Left → Stage → QasmFault → Type 0
IsStop old from (Token at) = BreaksRule old from at
IsStop old from (Limit at) = BreaksLimit old from at
IsStop old from (Memory _) = Unit {0}

-- what `read` may end with: the text's fault, or want of memory
abbrev pub IsQasmFault : List ℕ → QasmFault → Type 0
IsQasmFault text fault = IsStop (whole text) head fault

-- why the text means no file
abbrev pub IsTextFault : List ℕ → QasmFault → Type 0
IsTextFault text (Token at) = BreaksRule (whole text) head at
IsTextFault text (Limit at) = BreaksLimit (whole text) head at
IsTextFault text (Memory _) = ⊥
