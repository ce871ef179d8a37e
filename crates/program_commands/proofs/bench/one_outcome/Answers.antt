use Rattle.program_commands.proofs.BenchLemmas.{bench_outcome}
use Rattle.program_commands.proofs.bench.one_outcome.Goals as goal

pub returns : goal.returns
returns c = bench_outcome
