use Rattle.revs_tape.proofs.PolynomialLemmas.{polynomials_are_unique}
use Rattle.revs_tape.proofs.law.one_polynomial.Goals as goal

pub returns : goal.returns
returns c = polynomials_are_unique
