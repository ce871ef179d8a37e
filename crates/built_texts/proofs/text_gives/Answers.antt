use Rattle.built_texts.proofs.ProgramLemmas.{text_gives}
use Rattle.built_texts.proofs.text_gives.Goals as goal

pub returns : goal.returns
returns c = text_gives
