use Rattle.revs_terms.proofs.BitlessTapeLemmas.{leaves_tape, writes_few}
use Rattle.revs_terms.proofs.program.leaves_tape.Goals as goal

pub returns-clause-tape : goal.returns-clause-tape
returns-clause-tape c = leaves_tape

pub returns-clause-few : goal.returns-clause-few
returns-clause-few c = writes_few
