use Rattle.revs_lexer.proofs.RestLemmas.{none_left, begins}
use Rattle.revs_lexer.proofs.packed.Rest.split_first.Goals as goal

pub returns-in_err-first-clause-none : goal.returns-in_err-first-clause-none
returns-in_err-first-clause-none c =
    let found = rw c.deref.ensures.value at c.in_err-first.ensures.lookup in
    rw c.from_residual.ensures (none_left c.args.self c.list.inside.text.now c.list.inside.packed.items c.list.view_is found.3)

pub returns-clause-found : goal.returns-clause-found
returns-clause-found c =
    let found = rw c.deref.ensures.value at c.in_ok-first.ensures.lookup in
    begins c.args.self c.list.inside.text.now c.list.inside.packed.items c.in_ok-first.first.now c.list.view_is found.3.0 found.1
