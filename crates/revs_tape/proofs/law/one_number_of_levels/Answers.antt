use Rattle.revs_tape.proofs.LevelLemmas.{levels_are_determined}
use Rattle.revs_tape.proofs.law.one_number_of_levels.Goals as goal

pub returns : goal.returns
returns c = levels_are_determined
