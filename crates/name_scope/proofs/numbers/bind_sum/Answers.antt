use Rattle.std.proofs.Common.{rules}
use Rattle.std.proofs.lemmas.List.{with_items_is, places}
use Rattle.name_scope.proofs.VerdictLemmas.{passed_on, first_is_unbound, steps_bind}
use Rattle.name_scope.proofs.numbers.bind_sum.Goals as goal

pub returns-in_err-bind_unit : goal.returns-in_err-bind_unit
returns-in_err-bind_unit c = passed_on c.from_residual.result _ _ _ c.from_residual.ensures.1 (first_is_unbound _ _ _ (c.in_err-bind_unit.ensures {u = tt}))

pub returns : goal.returns
returns c =
    rw (with_items_is c.args.sum.now.more c.bind_steps.new.steps (search (rules, places)))
    (steps_bind c.bind_steps.result c.args.names.now c.args.sum.now.first c.bind_unit.new.unit c.args.sum.now.more.items c.bind_steps.new.steps
    (c.in_ok-bind_unit.ensures {u = tt}) (rw c.deref_mut.ensures.value at c.bind_steps.ensures))
