use Rattle.revs_tape.proofs.MonomialLemmas.{monomials_are_determined, tape_monomials_are_determined}
use Rattle.revs_tape.proofs.law.one_set_of_monomials.Goals as goal

pub returns-clause-functions : goal.returns-clause-functions
returns-clause-functions c = monomials_are_determined

pub returns-clause-tapes : goal.returns-clause-tapes
returns-clause-tapes c = tape_monomials_are_determined
