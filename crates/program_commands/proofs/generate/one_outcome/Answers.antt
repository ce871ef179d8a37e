use Rattle.program_commands.proofs.BenchLemmas.{gen_outcome}
use Rattle.program_commands.proofs.generate.one_outcome.Goals as goal

pub returns : goal.returns
returns c = gen_outcome
