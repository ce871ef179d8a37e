use Rattle.sum_cuts.proofs.TableLemmas.{one_bit}
use Rattle.sum_cuts.proofs.table.Table.one.Goals as goal

pub returns : goal.returns
returns c = one_bit
