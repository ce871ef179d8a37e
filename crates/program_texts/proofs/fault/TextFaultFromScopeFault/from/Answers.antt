use Rattle.program_texts.proofs.fault.TextFaultFromScopeFault.from.Goals as goal

pub returns-in-Unbound : goal.returns-in-Unbound
returns-in-Unbound c = rw c.in-Unbound.is (λ p verdict. record { of_text = λ text is. (is.short, (p, is, verdict)) })

pub returns-in-TwoParams : goal.returns-in-TwoParams
returns-in-TwoParams c = rw c.in-TwoParams.is (λ p verdict. record { of_text = λ text is. (is.short, (p, is, verdict)) })

pub returns-in-Memory : goal.returns-in-Memory
returns-in-Memory c = rw c.in-Memory.is (λ p verdict. record { of_text = λ text is. tt })
