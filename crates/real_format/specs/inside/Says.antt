-- What the parts of the reader say of the text.
use Rattle.std.specs.Prelude.{◌≡◌, ℕ, ◌+◌, ◌≤◌, Bool, true, false, List, [], length, Some, IfSome, Result, Ok, Err}
use Rattle.std.specs.List.{AllByRecursion}
use Rattle.list_facts.specs.Lists.{AreApart}
use Rattle.circuit_plans.specs.declared.plan.TheConstants.{MOST_LINES}
use Rattle.real_format.specs.declared.file.RealFault.{RealFault}
use Rattle.real_format.specs.declared.refusal.LineRefusal.{LineRefusal}
use Rattle.real_format.specs.Header.{HeaderView, IsName}
use Rattle.real_format.specs.Real.{RealView, Place, in_header, in_gates, at_end}
use Rattle.real_format.specs.inside.Lines.{LinesView}
use Rattle.real_format.specs.inside.Reading.{file_of, verdict}

-- what comes of the lines that are left to a reader
abbrev pub verdict_on : Place → LinesView → Result RealView RealFault
verdict_on place lines = verdict place (lines.number + 1) lines.left

-- a line ended the header, which has names
pub record EndsHeader (said : Result Place LineRefusal) (old new : HeaderView) : Type 0 where
  pub same : new ≡ old
  pub names : List (List ℕ)
  pub named : new.names ≡ Some names
  pub begins : said ≡ Ok (in_gates (file_of new names))

-- a line of the header was read; whether it ends the header
abbrev pub HeaderSays : Bool → Result Place LineRefusal → HeaderView → HeaderView → Type 0
HeaderSays true said old new = EndsHeader said old new
HeaderSays false said old new = said ≡ Ok (in_header new)

-- What a header says fits its number of lines: as many names, all different, and as many marks.
pub record IsSound (said : HeaderView) : Type 0 where
  pub some : IfSome said.lines (λ n. 1 ≤ n)
  pub few : IfSome said.lines (λ n. n ≤ MOST_LINES)
  pub counted : IfSome said.names (λ names. said.lines ≡ Some (length names))
  pub named : IfSome said.names (AllByRecursion IsName)
  pub different : IfSome said.names (AreApart (λ one other. one ≡ other))
  pub constants : IfSome said.constants (λ marks. said.lines ≡ Some (length marks))
  pub garbage : IfSome said.garbage (λ marks. said.lines ≡ Some (length marks))

-- the file of a header with its names
pub record BeginsAs (said : HeaderView) (file : RealView) : Type 0 where
  pub names : List (List ℕ)
  pub named : said.names ≡ Some names
  pub begins : file ≡ file_of said names

-- a header was read, and what came of its lines comes of those that are left
pub record BeginsGates (said : Result RealView RealFault) (header : HeaderView)
    (left : LinesView) : Type 0 where
  pub sound : IsSound header
  pub names : List (List ℕ)
  pub named : header.names ≡ Some names
  pub begins : said ≡ verdict_on (in_gates (file_of header names)) left

-- a file that a header begins: its names are names, there are as many marks, and no gate
pub record IsWhole (file : RealView) : Type 0 where
  pub none : file.gates ≡ []
  pub named : AllByRecursion IsName file.names
  pub few : length file.names ≤ MOST_LINES
  pub constants : length file.constants ≡ length file.names
  pub garbage : length file.garbage ≡ length file.names

-- a line of gates was read; whether it ends them
abbrev pub GatesSay : Bool → Result Place LineRefusal → RealView → Type 0
GatesSay true said file = said ≡ Ok (at_end file)
GatesSay false said file = said ≡ Ok (in_gates file)

-- lines behind the gates end any file
pub record EndsWell (number : ℕ) (lines : List (List (List ℕ))) : Type 0 where
  pub says : (file : RealView) → verdict (at_end file) number lines ≡ Ok file

-- lines behind the gates end no file
pub record EndsIn (number : ℕ) (lines : List (List (List ℕ))) (fault : RealFault) : Type 0 where
  pub says : (file : RealView) → verdict (at_end file) number lines ≡ Err fault

-- lines behind the gates end a file where the others do
pub record EndsAs (number : ℕ) (lines : List (List (List ℕ)))
    (other : ℕ) (others : List (List (List ℕ))) : Type 0 where
  pub says : (file : RealView)
      → verdict (at_end file) number lines ≡ verdict (at_end file) other others
