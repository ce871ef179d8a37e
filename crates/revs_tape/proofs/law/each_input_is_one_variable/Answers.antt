use Rattle.revs_tape.proofs.VariableOrderLemmas.{is_order}
use Rattle.revs_tape.proofs.law.each_input_is_one_variable.Goals as goal

pub returns : goal.returns
returns c = is_order
