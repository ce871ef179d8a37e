use Rattle.revs_parser.proofs.program.bits_of.Goals as goal

pub returns-in-None : goal.returns-in-None
returns-in-None c = rw c.in-None.is
