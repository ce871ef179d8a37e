use Rattle.revs_lexer.proofs.RestLemmas.{none_left, none_is_no_name, within_at, begins_name, begins_no_name}
use Rattle.revs_lexer.proofs.packed.Rest.split_name.Goals as goal

pub returns-in_err-first-clause-none : goal.returns-in_err-first-clause-none
returns-in_err-first-clause-none c =
    let found = rw c.deref.ensures.value at c.in_err-first.ensures.lookup in
    rw c.from_residual.ensures (none_is_no_name _ (none_left c.args.self c.list.inside.text.now c.list.inside.packed.items c.list.view_is found.3))

pub part-requires : goal.part-requires
part-requires c =
    let found = rw c.deref.ensures.value at c.in_ok-first.ensures.lookup in
    let within = rw c.in-Name.is at (within_at c.list.inside.text.now c.list.inside.packed.items c.args.self.from c.in_ok-first.first.now c.list.invariant
    found.3.0 found.1) in
    within.2

pub returns-clause-found : goal.returns-clause-found
returns-clause-found c =
    let found = rw c.deref.ensures.value at c.in_ok-first.ensures.lookup in
    let within = rw c.in-Name.is at (within_at c.list.inside.text.now c.list.inside.packed.items c.args.self.from c.in_ok-first.first.now c.list.invariant
    found.3.0 found.1) in
    begins_name c.args.self c.list.inside.text.now c.list.inside.packed.items c.in_ok-first.first.now c.in-Name.length c.in-Name.start _ c.list.view_is
    found.3.0 found.1 c.in-Name.is within c.part.ensures

pub returns-in_default-clause-none : goal.returns-in_default-clause-none
returns-in_default-clause-none c =
    let found = rw c.deref.ensures.value at c.in_ok-first.ensures.lookup in
    begins_no_name c.args.self c.list.inside.text.now c.list.inside.packed.items c.in_ok-first.first.now c.list.view_is found.3.0 found.1 c.in_default.not-Name
