use Rattle.std.proofs.Common.{[], ◌+◌}
use Rattle.std.proofs.lemmas.Result.{IfErr-weaker, IfOk-weaker}
use Rattle.eager_cleanup.specs.Eager.{IsEagerFault}
use Rattle.eager_cleanup.specs.inside.Sweeps.{IsSwept, IsUsed, IsUseFault}
use Rattle.eager_cleanup.proofs.BoundLemmas.{used_fault}
use Rattle.eager_cleanup.proofs.SweepLemmas.{can_turned, swept_used}
use Rattle.eager_cleanup.proofs.cleaning.clean_both.Goals as goal
use Rattle.revc_base.proofs.ResultLemmas.{passes_on}

pub returns-in_err-forward-clause-refused : goal.returns-in_err-forward-clause-refused
returns-in_err-forward-clause-refused c =
    let can = can_turned _ _ _ _ _ _ _ _ _ c.later_first-first.ensures.first c.later_first-first.ensures.second c.requires.can in
    passes_on _ c.from_residual.result c.from_residual.ensures.1
    (used_fault _ _ _ _ _ _ _ _ c.requires.values can.swept can.inside can.bases.0 c.in_err-forward.ensures.refused)

pub clean_used-requires-2-clause-graph : goal.clean_used-requires-2-clause-graph
clean_used-requires-2-clause-graph c =
    let can = can_turned _ _ _ _ _ _ _ _ _ c.later_first-first.ensures.first c.later_first-first.ensures.second c.requires.can in
    (swept_used _ _ _ _ _ _ _ _ c.requires.values can.swept can.inside can.bases.0 c.in_ok-forward.ensures.ok).graph

pub returns-clause-swept : goal.returns-clause-swept
returns-clause-swept c =
    let s = c.args.by.graph.now in
    let b = c.args.forward.budget in
    let user = c.args.by.user in
    let can = can_turned _ _ _ _ _ _ _ _ _ c.later_first-first.ensures.first c.later_first-first.ensures.second c.requires.can in
    let once = swept_used _ _ _ _ _ _ _ _ c.requires.values can.swept can.inside can.bases.0 c.in_ok-forward.ensures.ok in
    IfOk-weaker c.clean_used-2.result (IsUsed s c.args.by.known.now user c.later_first-first.result.1 c.in_ok-forward.forward) (IsSwept s b (user + 1) [])
    (λ next used. swept_used _ _ _ _ _ _ _ _ c.requires.values once can.inside can.bases.1.0 used) c.clean_used-2.ensures.ok

pub returns-clause-refused : goal.returns-clause-refused
returns-clause-refused c =
    let s = c.args.by.graph.now in
    let user = c.args.by.user in
    let can = can_turned _ _ _ _ _ _ _ _ _ c.later_first-first.ensures.first c.later_first-first.ensures.second c.requires.can in
    let once = swept_used _ _ _ _ _ _ _ _ c.requires.values can.swept can.inside can.bases.0 c.in_ok-forward.ensures.ok in
    IfErr-weaker c.clean_used-2.result (IsUseFault s c.args.by.known.now user c.later_first-first.result.1 c.in_ok-forward.forward)
    (IsEagerFault s c.args.forward.budget)
    (λ fault is. used_fault _ _ _ _ _ _ _ fault c.requires.values once can.inside can.bases.1.0 is) c.clean_used-2.ensures.refused

pub clean_used-requires-clause-values : goal.clean_used-requires-clause-values
clean_used-requires-clause-values c = c.requires.values

pub clean_used-requires-clause-graph : goal.clean_used-requires-clause-graph
clean_used-requires-clause-graph c = c.requires.can.swept.graph

pub clean_used-requires-clause-inside : goal.clean_used-requires-clause-inside
clean_used-requires-clause-inside c = c.requires.can.inside

pub clean_used-requires-clause-base : goal.clean_used-requires-clause-base
clean_used-requires-clause-base c =
    let can = can_turned _ _ _ _ _ _ _ _ _ c.later_first-first.ensures.first c.later_first-first.ensures.second c.requires.can in
    can.bases.0

pub clean_used-requires-2-clause-values : goal.clean_used-requires-2-clause-values
clean_used-requires-2-clause-values c = c.requires.values

pub clean_used-requires-2-clause-inside : goal.clean_used-requires-2-clause-inside
clean_used-requires-2-clause-inside c = c.requires.can.inside

pub clean_used-requires-2-clause-base : goal.clean_used-requires-2-clause-base
clean_used-requires-2-clause-base c =
    let can = can_turned _ _ _ _ _ _ _ _ _ c.later_first-first.ensures.first c.later_first-first.ensures.second c.requires.can in
    can.bases.1.0
