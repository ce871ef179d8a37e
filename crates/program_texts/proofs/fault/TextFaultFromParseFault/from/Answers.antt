use Rattle.program_texts.proofs.fault.TextFaultFromParseFault.from.Goals as goal

pub returns-in-Syntax : goal.returns-in-Syntax
returns-in-Syntax c = rw c.in-Syntax.is (λ text tokens short cut is. (short, (tokens, cut, (_, is))))

pub returns-in-Nesting : goal.returns-in-Nesting
returns-in-Nesting c = rw c.in-Nesting.is (λ text tokens short cut is. (short, (tokens, cut, is)))

pub returns-in-Inputs : goal.returns-in-Inputs
returns-in-Inputs c = rw c.in-Inputs.is (λ text tokens short cut is. (short, (tokens, cut, is)))

pub returns-in-Memory : goal.returns-in-Memory
returns-in-Memory c = rw c.in-Memory.is (λ text tokens short cut is. tt)
