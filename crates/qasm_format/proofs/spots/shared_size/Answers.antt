use Rattle.std.proofs.lemmas.Bool.{eq-eqb}
use Rattle.qasm_format.proofs.spots.shared_size.Goals as goal

pub returns : goal.returns
returns c = rw (c.in-Some.is, eq-eqb c.args.size c.in-Some.other c.if-size-other.false)
