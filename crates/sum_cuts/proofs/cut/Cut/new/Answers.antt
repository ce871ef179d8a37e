use Rattle.std.proofs.Common.{List, subst}
use Rattle.linear_forms.specs.Forms.{FormView}
use Rattle.sum_cuts.specs.inside.Functions.{IsFunction}
use Rattle.sum_cuts.proofs.CutLemmas.{first_in, taken_in}
use Rattle.sum_cuts.proofs.cut.Cut.new.Goals as goal

pub loop-place-init : goal.loop-place-init
loop-place-init c =
    first_in c.args.sums.items c.new-functions.result.items _ c.one.result c.new-functions.ensures.items c.in_ok-push.ensures.items
    (c.one.ensures c.args.sums.items c.requires.few)

pub loop-place-preserved : goal.loop-place-preserved
loop-place-preserved c =
    let own = subst (λ (sums : List FormView). IsFunction sums c.in_ok-variable.field-0) c.deref.ensures.value c.in_ok-variable.ensures in
    taken_in c.args.sums.items c.loop-place.functions.items _ c.in_ok-variable.field-0 c.in_ok-push-2.ensures.items own c.loop-place.invariant

pub returns : goal.returns
returns c t = record { few = c.requires.few; each = c.loop-place.invariant t }
