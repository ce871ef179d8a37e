use Rattle.mct_circuit.proofs.MoreLinesLemmas.{more_lines}
use Rattle.mct_circuit.proofs.law.more_lines_stay.Goals as goal

pub returns : goal.returns
returns c = more_lines
