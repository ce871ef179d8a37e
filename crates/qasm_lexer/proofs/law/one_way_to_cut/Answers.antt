use Rattle.qasm_lexer.proofs.CutLemmas.{one_way}
use Rattle.qasm_lexer.proofs.law.one_way_to_cut.Goals as goal

pub returns : goal.returns
returns c = one_way
