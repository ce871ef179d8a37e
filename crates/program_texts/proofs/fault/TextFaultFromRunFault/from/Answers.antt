use Rattle.program_texts.proofs.TextLemmas.{stuck}
use Rattle.program_texts.proofs.fault.TextFaultFromRunFault.from.Goals as goal

pub returns-in-Stuck : goal.returns-in-Stuck
returns-in-Stuck c = rw c.in-Stuck.is (λ p bound names run. stuck p bound c.in-Stuck.cause c.in-Stuck.at names run)

pub returns-in-Memory : goal.returns-in-Memory
returns-in-Memory c = rw c.in-Memory.is (λ p bound names run. record { of_text = λ text is. tt })
