-- `check` gives the number of claims, or has one exact cause, and serves each program whose claims hold.
use Rattle.std.proofs.Common.{ℕ, List, [], ◌∷◌, inl, refl, arith}
use Rattle.command_answers.specs.Outcomes.{HasOneOutcome, IsFaultOfText}
use Rattle.command_answers.specs.declared.fault.Fault.{Fault}
use Rattle.command_answers.specs.declared.fault.Fault.TheVariants as faults
use Rattle.program_texts.specs.Check.{IsCause, promise}
use Rattle.revc_words.specs.Words.{OrderView}
use Rattle.program_texts.proofs.SettlingLemmas.{one_stop, settled_or_stopped}

among : (order : OrderView) (text : List ℕ) (fault : Fault) → IsCause order text fault → IsFaultOfText (3 ∷ 4 ∷ 5 ∷ 20 ∷ []) fault
among order text (faults.Refused refusal) cause = record { of_text = tt; status = (0, omega arith, refl) }
among order text faults.NoInput cause = record { of_text = tt; status = (3, omega arith, refl) }
among order text (faults.Claim number at digits) cause = record { of_text = tt; status = (1, omega arith, refl) }
among order text (faults.Diagram number at limit) cause = record { of_text = tt; status = (2, omega arith, refl) }
among order text fault cause = absurd cause

pub one_outcome : HasOneOutcome promise
one_outcome = record {
  never_both = λ order text written fault given cause exact. settled_or_stopped text order.assume order.nodes given.tape fault given.settled cause;
  one_cause = λ order text fault exact cause other is. inl (one_stop text order.assume order.nodes exact fault other cause);
  free = λ order text fault served cause. settled_or_stopped text order.assume order.nodes served.0 fault served.1 cause;
  long = λ order text over. over;
  among = λ order text fault cause. among order text fault cause;
}
