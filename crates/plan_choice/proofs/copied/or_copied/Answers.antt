use Rattle.plan_choice.proofs.CopiedLemmas.{no_row_is_shallow, small_is_shallow}
use Rattle.plan_choice.proofs.copied.or_copied.Goals as goal

pub returns-then-small-clause-chosen : goal.returns-then-small-clause-chosen
returns-then-small-clause-chosen c =
    small_is_shallow c.args.graph.now c.args.budget.now c.in_ok-laid.laid (rw c.in_ok-laid.was at c.requires.ok)
    (c.in_ok-small.ensures c.if-small.true)

pub returns-in-Some-clause-ok : goal.returns-in-Some-clause-ok
returns-in-Some-clause-ok c = let copied = rw c.in-Some.is at c.in_ok-copied.ensures.ok in copied.is.laid_for

pub returns-in-Some-clause-chosen : goal.returns-in-Some-clause-chosen
returns-in-Some-clause-chosen c =
    let copied = rw c.in-Some.is at c.in_ok-copied.ensures.ok in
    small_is_shallow c.args.graph.now c.args.budget.now c.in-Some.copied copied.is copied.depth

pub returns-in-None-clause-chosen : goal.returns-in-None-clause-chosen
returns-in-None-clause-chosen c =
    no_row_is_shallow c.args.graph.now c.args.budget.now c.in_ok-laid.laid (rw c.in_ok-laid.was at c.requires.ok)
    (rw c.in-None.is at c.in_ok-copied.ensures.ok)
