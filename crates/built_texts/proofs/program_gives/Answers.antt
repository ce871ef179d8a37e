use Rattle.built_texts.proofs.ProgramLemmas.{program_gives}
use Rattle.built_texts.proofs.program_gives.Goals as goal

pub returns : goal.returns
returns c = program_gives
