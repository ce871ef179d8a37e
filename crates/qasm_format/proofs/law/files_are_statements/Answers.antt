use Rattle.qasm_format.proofs.SayingLemmas.{files_are_statements}
use Rattle.qasm_format.proofs.law.files_are_statements.Goals as goal

pub returns : goal.returns
returns c = files_are_statements
