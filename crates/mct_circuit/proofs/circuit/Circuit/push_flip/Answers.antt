use Rattle.mct_circuit.proofs.ReversalLemmas.{lines_of-flip_of}
use Rattle.mct_circuit.proofs.circuit.Circuit.push_flip.Goals as goal

pub push-requires : goal.push-requires
push-requires c = rw (c.in_ok-gate.ensures, lines_of-flip_of c.args.controls.now c.args.target) c.requires.in_range
