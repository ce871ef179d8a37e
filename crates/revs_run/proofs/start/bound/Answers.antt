use Rattle.std.proofs.Common.{arith, List, sym, subst, ap, length, [], refl}
use Rattle.revs_run.specs.declared.machine.Binding.{Binding}
use Rattle.revs_run.specs.inside.Machines.{AreBindings, AreLeaps}
use Rattle.revs_run.specs.inside.Starts.{IsParamBinding}
use Rattle.revs_run.proofs.StartLemmas.{bound_begun, bound_more, bound_done, next_within}
use Rattle.list_facts.proofs.CutLemmas.{drop_read}
use Rattle.revs_run.proofs.EndLemmas.{at_last}
use Rattle.revs_run.proofs.ProgressLemmas.{stops}
use Rattle.revs_run.proofs.start.bound.Goals as goal

pub loop-param-init : goal.loop-param-init
loop-param-init c = bound_begun c.new-bindings.result.items c.args.params.now c.new-bindings.ensures.items c.requires

pub param_binding-requires-clause-made : goal.param_binding-requires-clause-made
param_binding-requires-clause-made c = subst (AreBindings 0) (sym c.deref.ensures.value) c.loop-param.invariant.are

pub param_binding-requires-clause-leaps : goal.param_binding-requires-clause-leaps
param_binding-requires-clause-leaps c = subst (AreLeaps []) (sym c.deref.ensures.value) c.loop-param.invariant.leaps

pub param_binding-requires-clause-few : goal.param_binding-requires-clause-few
param_binding-requires-clause-few c =
    let w = next_within c.loop-param.bindings.items c.loop-param.first c.param-item.result _ _ c.args.params.now
    (drop_read c.args.params.now c.loop-param.param-index c.param-item.result (omega arith) c.param-item.is) c.loop-param.invariant in
    omega (arith, w.0, ap length c.deref.ensures.value)

pub param_binding-requires-clause-inputs : goal.param_binding-requires-clause-inputs
param_binding-requires-clause-inputs c =
    let w = next_within c.loop-param.bindings.items c.loop-param.first c.param-item.result _ _ c.args.params.now
    (drop_read c.args.params.now c.loop-param.param-index c.param-item.result (omega arith) c.param-item.is) c.loop-param.invariant in
    w.1

pub loop-param-preserved : goal.loop-param-preserved
loop-param-preserved c =
    bound_more c.loop-param.bindings.items c.push.new.self.items c.loop-param.first _ c.in_ok-binding.binding c.param-item.result _ _ c.args.params.now
    (drop_read c.args.params.now c.loop-param.param-index c.param-item.result (omega arith) c.param-item.is)
    (subst (λ (bs : List Binding). IsParamBinding bs c.loop-param.first c.param-item.result.width c.in_ok-binding.binding) c.deref.ensures.value
    c.in_ok-binding.ensures)
    (omega (arith, c.width-first.ensures)) c.in_ok-push.ensures.items c.loop-param.invariant

pub returns : goal.returns
returns c = bound_done c.loop-param.bindings.items c.loop-param.first _ c.args.params.now
    (at_last c.args.params.now c.loop-param.param-index (omega arith)) c.loop-param.invariant

pub returns-in_err-binding : goal.returns-in_err-binding
returns-in_err-binding c = stops _ _ c.from_residual.result c.from_residual.ensures.1 c.in_err-binding.ensures

pub returns-in_err-push : goal.returns-in_err-push
returns-in_err-push c = stops _ _ c.from_residual-in_err-push.result c.from_residual-in_err-push.ensures.1 refl
