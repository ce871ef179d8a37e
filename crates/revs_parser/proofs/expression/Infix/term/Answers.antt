use Rattle.revs_terms.proofs.ShapeLemmas.{tree_of-And, tree_of-Xor}
use Rattle.revs_parser.proofs.expression.Infix.term.Goals as goal

pub returns-in-Xor : goal.returns-in-Xor
returns-in-Xor c = rw c.in-Xor.is (tree_of-Xor c.args.operands)

pub returns-in-And : goal.returns-in-And
returns-in-And c = rw c.in-And.is (tree_of-And c.args.operands)
