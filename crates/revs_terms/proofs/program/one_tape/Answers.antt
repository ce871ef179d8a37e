use Rattle.revs_terms.proofs.TapeLemmas.{one_tape, tape_gives_output}
use Rattle.revs_terms.proofs.program.one_tape.Goals as goal

pub returns-clause-one : goal.returns-clause-one
returns-clause-one c = one_tape

pub returns-clause-output : goal.returns-clause-output
returns-clause-output c = tape_gives_output
