use Rattle.sum_cuts.proofs.TableLemmas.{none_bit}
use Rattle.sum_cuts.proofs.table.Table.none.Goals as goal

pub returns : goal.returns
returns c = none_bit
