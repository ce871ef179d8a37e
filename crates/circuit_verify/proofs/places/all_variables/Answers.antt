use Rattle.std.proofs.Common.{ap, sum, subst, sym, arith, ◌∙◌}
use Rattle.revs_tape.specs.VariableOrders.{variable_order}
use Rattle.claim_check.specs.Variables.{AreVariables}
use Rattle.circuit_verify.specs.Comparisons.{variables_behind}
use Rattle.circuit_verify.specs.Compared.{ComparedView, comparison}
use Rattle.circuit_verify.proofs.OrderLemmas.{variable_more, variables_are, variables_none}
use Rattle.circuit_verify.proofs.places.all_variables.Goals as goal

pub loop-variable-init : goal.loop-variable-init
loop-variable-init c = variables_none c.in_ok-all.all.items c.inputs-variable.result

pub loop-variable-preserved : goal.loop-variable-preserved
loop-variable-preserved c =
    c.in_ok-push.ensures.items
    ∙ variable_more c.in_ok-all.all.items c.loop-variable.all.items c.inputs-variable.result c.loop-variable.variable
    c.loop-variable.auto.variable c.loop-variable.invariant

pub returns : goal.returns
returns c =
    let v = c.args.compared.now in
    let ready = c.variables-count.ensures.ready in
    let inputs = c.inputs-variable.ensures.inputs ∙ ap (λ (w : ComparedView). w.graph.inputs) c.compared.view_is ∙ sym ready.inputs in
    let own = subst (λ (w : ComparedView). AreVariables (sum w.params) (variable_order w.params) c.in_ok-all.all.items) c.compared.view_is
    c.in_ok-all.ensures in
    variables_are v.params c.inputs-variable.result (variables_behind (comparison v)) c.loop-variable.variable c.in_ok-all.all.items
    c.loop-variable.all.items inputs
    (omega (
      arith,
      inputs,
      c.variables-count.ensures.count,
      c.loop-variable-test.false,
      c.loop-variable.auto.variable,
      c.loop-variable.auto.variable-end,
    ))
    own c.loop-variable.invariant
