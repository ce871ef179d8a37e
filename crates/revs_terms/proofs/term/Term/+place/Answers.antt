use Rattle.std.proofs.Common.{ap, sym, arith}
use Rattle.std.proofs.lemmas.Grind.{common_steps}
use Rattle.revs_terms.specs.Terms.{place_of}
use Rattle.revs_terms.proofs.ShapeLemmas.{tree_of-Name, tree_of-And, tree_of-Xor}
use Rattle.revs_terms.proofs.term.Term.+place.Goals as goal

pub returns-in-Name : goal.returns-in-Name
returns-in-Name t c = rw c.in-Name.is (ap place_of (sym (tree_of-Name c.in-Name.name)))

pub returns-in-Some : goal.returns-in-Some
returns-in-Some t c = grind (arith, common_steps, tree_of-And, tree_of-Xor)

pub returns-in-None : goal.returns-in-None
returns-in-None t c = grind (arith, common_steps, tree_of-And, tree_of-Xor)
