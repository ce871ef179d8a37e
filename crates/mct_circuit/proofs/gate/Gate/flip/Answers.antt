use Rattle.mct_circuit.proofs.ReversalLemmas.{lines_of-flip_of}
use Rattle.mct_circuit.proofs.gate.Gate.flip.Goals as goal

pub new-requires : goal.new-requires
new-requires c = rw (c.in_ok-controls.ensures, lines_of-flip_of c.args.controls.now c.args.target) c.requires
