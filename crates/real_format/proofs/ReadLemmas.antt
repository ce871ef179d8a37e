-- The parts of the reader, joined.
use Rattle.std.proofs.Common.{◌≡◌, ℕ, List, Result, Ok, Err, IfOk, IfErr, sym, ap, ◌∙◌}
use Rattle.real_format.specs.declared.file.RealFault.{RealFault}
use Rattle.real_format.specs.Words.{said_lines}
use Rattle.real_format.specs.Header.{nothing_said}
use Rattle.real_format.specs.Real.{RealView, MeansFile, in_header, in_gates}
use Rattle.real_format.specs.Faults.{IsRealFault}
use Rattle.real_format.specs.inside.Lines.{LinesView}
use Rattle.real_format.specs.inside.Reading.{verdict, IsFaultOf}
use Rattle.real_format.specs.inside.Says.{verdict_on}
use Rattle.real_format.proofs.TextLineLemmas.{fault_same}
use Rattle.real_format.proofs.VerdictLemmas.{means_so, faults_so}

abbrev first_lines : List ℕ → LinesView
first_lines text = record { number = 0; left = said_lines text }

first_verdict : (text : List ℕ) (lines : LinesView) → lines ≡ first_lines text
    → verdict (in_header nothing_said) 1 (said_lines text) ≡ verdict_on (in_header nothing_said) lines
first_verdict text lines e = ap (verdict_on (in_header nothing_said)) (sym e)

-- the header was refused
pub header_refused : (fault : RealFault) (text : List ℕ) (lines : LinesView) → lines ≡ first_lines text
    → IsFaultOf (verdict_on (in_header nothing_said) lines) fault → IsRealFault text fault
header_refused fault text lines first is = faults_so text fault (fault_same _ _ fault (first_verdict text lines first) is)

-- the lines behind the header were refused
pub file_refused : (text : List ℕ) (lines next : LinesView) (begun : RealView) (r : Result RealView RealFault) → lines ≡ first_lines text
    → verdict_on (in_header nothing_said) lines ≡ verdict_on (in_gates begun) next → IfErr r (IsFaultOf (verdict_on (in_gates begun) next))
    → IfErr r (IsRealFault text)
file_refused text lines next begun (Ok file) first header is = tt
file_refused text lines next begun (Err fault) first header is =
    faults_so text fault (fault_same _ _ fault (first_verdict text lines first ∙ header) is)

-- all was read
pub file_read : (text : List ℕ) (lines next : LinesView) (begun : RealView) (r : Result RealView RealFault) → lines ≡ first_lines text
    → verdict_on (in_header nothing_said) lines ≡ verdict_on (in_gates begun) next → IfOk r (λ file. verdict_on (in_gates begun) next ≡ Ok file)
    → IfOk r (MeansFile text)
file_read text lines next begun (Ok file) first header is = means_so text file (first_verdict text lines first ∙ header ∙ is)
file_read text lines next begun (Err e) first header is = tt
