-- What `arith` gives, its causes and where it serves exclude one another.
use Rattle.std.proofs.Common.{[], ◌∷◌}
use Rattle.program_commands.specs.Arith.{ServesAs, StopsAs, compile_order, program_text, promise}
use Rattle.command_answers.specs.Outcomes.{HasOneOutcome, IsFaultOfText, IsNoBudget}
use Rattle.command_answers.specs.declared.fault.Fault.{Fault}
use Rattle.program_commands.proofs.CompileLemmas.{among_budgets, fits_free, no_exact_budget}
use Rattle.revc_words.specs.Words.{OrderView}
use Rattle.revc_words.specs.declared.order.Format.TheVariants as formats
use Rattle.revc_words.specs.declared.order.Write.{Write}
use Rattle.revc_words.specs.declared.order.Write.TheVariants.{Program, Real, Qasm}

no_exact : (write : Write) (order : OrderView) (fault : Fault) → StopsAs write order fault → IsNoBudget fault → ⊥
no_exact Program order fault cause exact = cause
no_exact Real order fault cause exact = no_exact_budget (compile_order formats.Real) (program_text order) fault cause exact
no_exact Qasm order fault cause exact = no_exact_budget (compile_order formats.Qasm) (program_text order) fault cause exact

serves_free : (write : Write) (order : OrderView) (fault : Fault) → ServesAs write order → StopsAs write order fault → ⊥
serves_free Program order fault served cause = cause
serves_free Real order fault served cause = fits_free (compile_order formats.Real) (program_text order) fault served cause
serves_free Qasm order fault served cause = fits_free (compile_order formats.Qasm) (program_text order) fault served cause

among : (write : Write) (order : OrderView) (fault : Fault) → StopsAs write order fault → IsFaultOfText (6 ∷ 7 ∷ []) fault
among Program order fault cause = absurd cause
among Real order fault cause = among_budgets (compile_order formats.Real) (program_text order) fault cause
among Qasm order fault cause = among_budgets (compile_order formats.Qasm) (program_text order) fault cause

pub one_outcome : HasOneOutcome promise
one_outcome = record {
  never_both = λ order text written fault given cause exact. no_exact order.write order fault cause exact;
  one_cause = λ order text fault exact cause other is. absurd (no_exact order.write order exact other is);
  free = λ order text fault served cause. serves_free order.write order fault served cause;
  long = tt;
  among = λ order text fault cause. among order.write order fault cause;
}
