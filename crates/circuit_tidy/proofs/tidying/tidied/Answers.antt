use Rattle.std.proofs.Common.{◌∙◌, [], ap, reverse, subst}
use Rattle.flip_lists.specs.Settling.{with_flips}
use Rattle.circuit_tidy.specs.inside.Walking.{AreShort, IsLongerIn}
use Rattle.circuit_tidy.proofs.TidyLemmas.{at_none, settled_on, turn_goes_on, turn_less, work_done}
use Rattle.circuit_tidy.proofs.tidying.tidied.Goals as goal

pub returns-in-None : goal.returns-in-None
returns-in-None c =
    work_done c.args.lines c.args.flips.items c.work.flips.items c.in_ok-settled.settled.items c.work.invariant
    (c.in_ok-settled.ensures ∙ ap (λ fs. reverse (with_flips fs [])) c.deref.ensures.value)
    (subst AreShort c.deref-in-work.ensures.value
    (at_none c.in_ok-found.found (AreShort c.deref-in-work.result.now) (IsLongerIn c.deref-in-work.result.now) c.in-None.is c.in_ok-found.ensures))

pub work-smaller : goal.work-smaller
work-smaller c =
    let settled = c.in_ok-settled.settled.items in
    let is = c.in_ok-settled.ensures ∙ ap (λ fs. reverse (with_flips fs [])) c.deref.ensures.value in
    let swept = c.in_ok-flips-in-Some.ensures in
    turn_less c.args.lines c.work.flips.items settled c.in_ok-flips-in-Some.flips.items c.work.invariant.on is
    (swept.goes_on c.args.lines (settled_on c.args.lines c.work.flips.items settled c.work.invariant.on is))

pub work-preserved : goal.work-preserved
work-preserved c =
    let settled = c.in_ok-settled.settled.items in
    let is = c.in_ok-settled.ensures ∙ ap (λ fs. reverse (with_flips fs [])) c.deref.ensures.value in
    let swept = c.in_ok-flips-in-Some.ensures in
    turn_goes_on c.args.lines c.args.flips.items c.work.flips.items settled c.in_ok-flips-in-Some.flips.items c.work.invariant is
    (swept.goes_on c.args.lines (settled_on c.args.lines c.work.flips.items settled c.work.invariant.on is))
