-- A circuit beside the inputs is compiled for a text, or there is one exact cause why it is not.
use Rattle.std.proofs.Common.{◌≡◌, ℕ, List, [], ◌∷◌, refl, sym, subst, arith}
use Rattle.claim_check.specs.Measures.{AreMeasuresOf}
use Rattle.revs_tape.specs.Tapes.{TapeView}
use Rattle.command_answers.specs.declared.fault.Fault.{Fault}
use Rattle.command_answers.specs.declared.fault.Fault.TheVariants as faults
use Rattle.revc_words.specs.Words.{OrderView}
use Rattle.command_answers.specs.Outcomes.{IsFaultOfText, IsNoBudget}
use Rattle.program_commands.specs.Compile.{HasFittingRow, IsCause, KeepsBudget, PassesBudget, PassesGates, PassesLines}
use Rattle.program_commands.specs.Outcomes.{IsBudgetFault, IsCompileFault}
use Rattle.program_texts.specs.Settling.{LeavesSettled}
use Rattle.program_texts.proofs.SettlingLemmas.{never_stopped, one_left, one_stop, settled_or_stopped}
use Rattle.revs_parser.specs.WellFormed.{IsWellFormed}
use Rattle.revs_terms.specs.Runs.{IsTapeOf}
use Rattle.revs_terms.specs.Views.{ProgramView}

-- ---- a row fits, or a budget is passed

-- the measures of one tape of a text are those of the other
measures_of : (order : OrderView) (text : List ℕ) (k : HasFittingRow order text) (tape : TapeView) → tape ≡ k.tape → AreMeasuresOf tape k.measures
measures_of order text k tape same = subst (λ (t : TapeView). AreMeasuresOf t k.measures) (sym same) k.are

fits_or_passes_lines : (order : OrderView) (text : List ℕ) (need limit : ℕ) → HasFittingRow order text → PassesLines order text need limit → ⊥
fits_or_passes_lines order text need limit k h =
    h.no_row k.measures (measures_of order text k h.tape (one_left text k.tape h.tape k.left h.settled.left)) k.fits

fits_or_passes_gates : (order : OrderView) (text : List ℕ) (limit : ℕ) → HasFittingRow order text → PassesGates order text limit → ⊥
fits_or_passes_gates order text limit k h =
    h.no_row k.measures (measures_of order text k h.tape (one_left text k.tape h.tape k.left h.settled.left)) k.fits

pub fits_free : (order : OrderView) (text : List ℕ) (fault : Fault) → HasFittingRow order text → PassesBudget order text fault → ⊥
fits_free order text (faults.Lines need limit) served cause = fits_or_passes_lines order text need limit served cause
fits_free order text (faults.Gates limit) served cause = fits_or_passes_gates order text limit served cause
fits_free order text fault served cause = cause

pub no_exact_budget : (order : OrderView) (text : List ℕ) (fault : Fault) → PassesBudget order text fault → IsNoBudget fault → ⊥
no_exact_budget order text (faults.Lines need limit) cause exact = exact
no_exact_budget order text (faults.Gates limit) cause exact = exact
no_exact_budget order text fault cause exact = cause

pub among_budgets : (order : OrderView) (text : List ℕ) (fault : Fault) → PassesBudget order text fault → IsFaultOfText (6 ∷ 7 ∷ []) fault
among_budgets order text (faults.Lines need limit) cause = record { of_text = tt; status = (0, omega arith, refl) }
among_budgets order text (faults.Gates limit) cause = record { of_text = tt; status = (1, omega arith, refl) }
among_budgets order text fault cause = absurd cause

-- nothing but a budget or memory stops a well-formed text whose program makes no claim
pub budgets_alone : (order : OrderView) (text : List ℕ) (p : ProgramView) (fault : Fault) → IsWellFormed text p
    → ((t : TapeView) → IsTapeOf p.params p.body t → t.claims ≡ []) → IsCompileFault order text fault → IsBudgetFault order text fault
budgets_alone order text p (faults.Memory _) formed none h = tt
budgets_alone order text p (faults.Lines need limit) formed none h = h
budgets_alone order text p (faults.Gates limit) formed none h = h
budgets_alone order text p fault formed none h = absurd (never_stopped text order.assume order.nodes p fault formed none h)

-- ---- `compile`

-- claims that hold, and a row that fits
has_row : (order : OrderView) (text : List ℕ) → KeepsBudget order text → HasFittingRow order text
has_row order text k = record { tape = k.tape; left = k.settled.left; measures = k.measures; are = k.are; fits = k.fits }

-- where the claims hold, no exact fault has its cause
pub planned_or_caused : (order : OrderView) (text : List ℕ) (tape : TapeView) (fault : Fault) → LeavesSettled text order.assume order.nodes tape
    → IsCause order text fault → IsNoBudget fault → ⊥
planned_or_caused order text tape (faults.Lines need limit) settled cause exact = exact
planned_or_caused order text tape (faults.Gates limit) settled cause exact = exact
planned_or_caused order text tape fault settled cause exact = settled_or_stopped text order.assume order.nodes tape fault settled cause

pub keeps_free : (order : OrderView) (text : List ℕ) (fault : Fault) → KeepsBudget order text → IsCause order text fault → ⊥
keeps_free order text (faults.Lines need limit) served cause = fits_or_passes_lines order text need limit (has_row order text served) cause
keeps_free order text (faults.Gates limit) served cause = fits_or_passes_gates order text limit (has_row order text served) cause
keeps_free order text fault served cause = settled_or_stopped text order.assume order.nodes served.tape fault served.settled cause

pub one_cause : (order : OrderView) (text : List ℕ) (fault exact : Fault) → IsCause order text fault → IsCause order text exact → IsNoBudget exact
    → exact ≡ fault
one_cause order text fault (faults.Lines need limit) a b is = absurd is
one_cause order text fault (faults.Gates limit) a b is = absurd is
one_cause order text (faults.Lines need limit) exact a b is = absurd (settled_or_stopped text order.assume order.nodes a.tape exact a.settled b)
one_cause order text (faults.Gates limit) exact a b is = absurd (settled_or_stopped text order.assume order.nodes a.tape exact a.settled b)
one_cause order text fault exact a b is = one_stop text order.assume order.nodes exact fault b a
