-- Lines that a reader takes, one after another.
use Rattle.std.proofs.Common.{◌≡◌, ℕ, ◌+◌, List, [], Result, Ok, Err, sym, ap, ◌∙◌}
use Rattle.real_format.specs.declared.file.RealFault.{RealFault}
use Rattle.real_format.specs.declared.file.RealFault.TheVariants as faults
use Rattle.real_format.specs.Real.{RealView, Place, in_header}
use Rattle.real_format.specs.Header.{HeaderView}
use Rattle.real_format.specs.inside.Lines.{LinesView, TakesLine}
use Rattle.real_format.specs.inside.Reading.{after_line, verdict, verdict_after, verdict_at_last, IsFaultOf}
use Rattle.real_format.specs.inside.Says.{verdict_on, IsSound}
use Rattle.real_format.proofs.LineLemmas.{leads_so, fit_next}

pub taken : (place : Place) (old new : LinesView) (words : List (List ℕ)) → TakesLine old new words
    → verdict_on place old ≡ verdict_after (after_line place words) new.number (λ p. verdict p (new.number + 1) new.left)
taken place old new words t =
    ap (verdict place (old.number + 1)) t.left
    ∙ ap (λ k. verdict_after (after_line place words) k (λ p. verdict p (k + 1) new.left)) (sym t.number)

-- a line that leads on
pub goes_on : (place next : Place) (old new : LinesView) (words : List (List ℕ)) → TakesLine old new words → after_line place words ≡ Ok next
    → verdict_on place old ≡ verdict_on next new
goes_on place next old new words t e =
    taken place old new words t ∙ ap (λ r. verdict_after r new.number (λ p. verdict p (new.number + 1) new.left)) e

-- no line is left
pub none_left : (place : Place) (lines : LinesView) → lines.left ≡ [] → verdict_on place lines ≡ verdict_at_last place (lines.number + 1)
none_left place lines e = ap (verdict place (lines.number + 1)) e

pub fault_is : (said : Result RealView RealFault) (fault : RealFault) → said ≡ Err fault → IsFaultOf said fault
fault_is said (faults.Line n) e = e
fault_is said (faults.Limit n) e = e
fault_is said (faults.Memory _) e = tt

pub fault_same : (said other : Result RealView RealFault) (fault : RealFault) → said ≡ other → IsFaultOf other fault → IsFaultOf said fault
fault_same said other (faults.Line n) same e = same ∙ e
fault_same said other (faults.Limit n) same e = same ∙ e
fault_same said other (faults.Memory _) same e = tt

-- a line of the header keeps what fits
pub keeps_sound : (said after : HeaderView) (words : List (List ℕ)) → IsSound said → after_line (in_header said) words ≡ Ok (in_header after) → IsSound after
keeps_sound said after words sound e = fit_next (in_header said) (in_header after) words sound (leads_so (in_header said) (in_header after) words sound e)
