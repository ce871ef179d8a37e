use Rattle.revc_base.proofs.ResultLemmas.{passes_on}
use Rattle.plan_choice.proofs.LeanLemmas.{better_fits, better_refused, lean_ports, within_most}
use Rattle.plan_choice.proofs.lean.or_better.Goals as goal

pub returns-then-is_within-clause-ok : goal.returns-then-is_within-clause-ok
returns-then-is_within-clause-ok c =
    let found = rw c.in-Some.is at c.requires.found in
    better_fits c.args.start c.args.lean.now c.args.budget.now c.args.tried c.better_of.result c.in_ok-laid.laid c.requires.ok
    (within_most c.args.start c.args.lean.now c.args.budget.now c.args.most c.in-Some.planned c.in_ok-laid.laid c.requires.most found
    c.in_ok-laid.ensures.ok (c.is_within.ensures c.if-is_within.true)) c.better_of.ensures

pub returns-then-is_within-clause-refused : goal.returns-then-is_within-clause-refused
returns-then-is_within-clause-refused c =
    better_refused c.args.lean.now c.args.budget.now c.args.tried c.better_of.result c.in_ok-laid.laid c.requires.refused c.better_of.ensures

pub returns-in_err-laid-clause-refused : goal.returns-in_err-laid-clause-refused
returns-in_err-laid-clause-refused c =
    let found = rw c.in-Some.is at c.requires.found in
    passes_on _ c.from_residual.result c.from_residual.ensures.1 (rw c.in_err-laid.ensures.memory (lean_ports found))
