use Rattle.program_commands.proofs.ArithTextLemmas.{texts_compute}
use Rattle.program_commands.proofs.arith.texts_compute.Goals as goal

pub returns : goal.returns
returns c = texts_compute
