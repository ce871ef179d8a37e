use Rattle.std.proofs.Common.{sym, subst, arith}
use Rattle.claim_check.specs.Settled.{settled_outputs}
use Rattle.circuit_verify.specs.Comparisons.{input_bits}
use Rattle.circuit_verify.specs.Compared.{ComparedView, comparison}
use Rattle.circuit_verify.specs.inside.Numbers.{AreNumbersOf, HoldsNodesOf}
use Rattle.circuit_verify.proofs.LookedLemmas.{looked_stands}
use Rattle.circuit_verify.proofs.StepLemmas.{premise_graph, many_outputs}
use Rattle.circuit_verify.proofs.looking.number_looked.Goals as goal
use Rattle.circuit_verify.proofs.looking.number_looked.Goals.{In_ok-outputs}

outputs_are : (c : In_ok-outputs) → AreNumbersOf (comparison c.args.compared.now) c.number_outputs.new.diagram.nodes c.in_ok-outputs.outputs.items
    (λ b. settled_outputs c.args.compared.now.premise (input_bits (comparison c.args.compared.now) b))
outputs_are c =
    let q = comparison c.args.compared.now in
    subst (λ (w : ComparedView). AreNumbersOf q c.number_outputs.new.diagram.nodes c.in_ok-outputs.outputs.items
    (λ b. settled_outputs w.premise (input_bits q b))) c.compared.view_is c.in_ok-outputs.ensures.numbers

pub number_outputs-requires-clause-graph : goal.number_outputs-requires-clause-graph
number_outputs-requires-clause-graph c =
    subst (λ (w : ComparedView). HoldsNodesOf (comparison c.args.compared.now) w.premise) (sym c.compared.view_is)
    (premise_graph c.args.compared.now c.variables.ensures.ready)

pub index-requires : goal.index-requires
index-requires c =
    let v = c.args.compared.now in
    let are = outputs_are (goal.at.index-requires c).In_ok-outputs in
    omega (
      arith,
      many_outputs (comparison v) v.premise c.number_outputs.new.diagram.nodes c.in_ok-outputs.outputs.items are,
      c.variables.ensures.ready.one_output,
    )

pub returns-clause-number : goal.returns-clause-number
returns-clause-number c =
    let v = c.args.compared.now in
    looked_stands v c.variables.ensures.ready c.number_outputs.new.diagram.nodes c.in_ok-outputs.outputs.items c.index.result.now c.index.ensures
    (outputs_are (goal.at.returns-clause-number c).In_ok-outputs)
