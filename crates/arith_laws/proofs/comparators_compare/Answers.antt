use Rattle.arith_laws.proofs.ComparatorLemmas.{comparators_compare}
use Rattle.arith_laws.proofs.comparators_compare.Goals as goal

pub returns : goal.returns
returns c = comparators_compare
