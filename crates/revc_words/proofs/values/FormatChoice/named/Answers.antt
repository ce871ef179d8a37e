use Rattle.revc_words.proofs.values.FormatChoice.named.Goals as goal

pub returns-in-qasm : goal.returns-in-qasm
returns-in-qasm c = rw c.in-qasm.is
