use Rattle.std.proofs.Common.{◌+◌, ℕ, List, sym, subst, arith}
use Rattle.decision_diagram.proofs.GrowthLemmas.{StandsFor-same}
use Rattle.claim_check.specs.Measures.{node_function}
use Rattle.revc_base.proofs.ResultLemmas.{passes_on}
use Rattle.circuit_verify.specs.Comparisons.{input_bits}
use Rattle.circuit_verify.specs.Verdicts.{IsVerifyFault}
use Rattle.circuit_verify.specs.Compared.{comparison}
use Rattle.circuit_verify.specs.inside.Numbers.{AreNumbersOf, bits_in, first_values, node_function_of}
use Rattle.circuit_verify.proofs.AskLemmas.{IsAnswered}
use Rattle.circuit_verify.proofs.NumberLemmas.{numbers-grown}
use Rattle.circuit_verify.proofs.StepLemmas.{IsReached, node_answered, node_placed, node_value, nodes_more}
use Rattle.circuit_verify.proofs.nodes.number_nodes.Goals as goal
use Rattle.circuit_verify.proofs.nodes.number_nodes.Goals.{After-node, After-node_number}

reached : (c : After-node) → IsReached (comparison c.args.compared.now) c.args.graph.now c.loop-k.diagram.nodes c.args.bits.now c.deref.result.now c.loop-k.k
    c.node.result
reached c =
    let q = comparison c.args.compared.now in
    let s = c.args.graph.now in
    let k = c.loop-k.k in
    let old = c.loop-k.diagram in
    record {
      low = omega (arith, c.loop-k-test.true, c.nodes-k-end.ensures.nodes);
      at = c.node.ensures;
      bits_are = numbers-grown q c.args.diagram.now old (c.loop-k.invariant.0).kept c.args.bits.now (λ b. b) c.requires.bits;
      nodes_are = subst (λ (ns : List ℕ). AreNumbersOf q old.nodes ns (λ b. first_values s k (input_bits q b))) (sym c.deref.ensures.value)
          c.loop-k.invariant.1;
    }

made : (c : After-node_number) → IsReached (comparison c.args.compared.now) c.args.graph.now c.loop-k.diagram.nodes c.args.bits.now c.deref.result.now
    c.loop-k.k c.node.result
    → IsAnswered (comparison c.args.compared.now) (node_function_of c.loop-k.diagram.nodes c.args.bits.now c.deref.result.now c.node.result)
    c.args.diagram.now c.node_number.new.diagram
made c is =
    node_answered (comparison c.args.compared.now) c.args.graph.now c.variables.ensures.ready.comparable c.requires.graph c.args.bits.now
    c.deref.result.now c.loop-k.k c.node.result c.args.diagram.now c.loop-k.diagram c.node_number.new.diagram c.node_number.result is
    c.loop-k.invariant.0 c.node_number.ensures

pub node_number-requires-clause-known : goal.node_number-requires-clause-known
node_number-requires-clause-known c =
    node_placed (comparison c.args.compared.now) c.args.graph.now c.requires.graph c.loop-k.diagram.nodes c.args.bits.now c.deref.result.now c.loop-k.k
    c.node.result (reached (goal.at.node_number-requires-clause-known c).After-node)

pub returns-in_err-number-clause-grows : goal.returns-in_err-number-clause-grows
returns-in_err-number-clause-grows c =
    let at = goal.at.returns-in_err-number-clause-grows c in (made at.After-node_number (reached at.After-node)).grows

pub returns-in_err-number-clause-refused : goal.returns-in_err-number-clause-refused
returns-in_err-number-clause-refused c =
    let at = goal.at.returns-in_err-number-clause-refused c in
    passes_on (IsVerifyFault (comparison c.args.compared.now) c.node_number.new.diagram.limit) c.from_residual.result c.from_residual.ensures.1
    ((made at.After-node_number (reached at.After-node)).faults c.in_err-number.field-0.0 c.in_err-number.ensures.refused)

pub returns-in_err-push-clause-grows : goal.returns-in_err-push-clause-grows
returns-in_err-push-clause-grows c =
    let at = goal.at.returns-in_err-push-clause-grows c in (made at.After-node_number (reached at.After-node)).grows

pub loop-k-preserved : goal.loop-k-preserved
loop-k-preserved c =
    let is = reached (goal.at.loop-k-preserved c).After-node in
    let q = comparison c.args.compared.now in
    let s = c.args.graph.now in
    let k = c.loop-k.k in
    let old = c.loop-k.diagram in
    let new = c.node_number.new.diagram in
    let nodes = c.loop-k.nodes.items in
    let stands = StandsFor-same new.nodes c.in_ok-number.number (node_function_of old.nodes c.args.bits.now c.deref.result.now c.node.result)
    (λ a. node_function s k (input_bits q (bits_in q a)))
    (node_value q s c.requires.graph old.nodes c.args.bits.now c.deref.result.now k c.node.result is) c.in_ok-number.ensures.answer in (
      (made (goal.at.loop-k-preserved c).After-node_number is).grows,
      subst (λ (ns : List ℕ). AreNumbersOf q new.nodes ns (λ b. first_values s (k + 1) (input_bits q b))) (sym c.in_ok-push.ensures.items)
          (nodes_more q s new.nodes nodes c.in_ok-number.number k is.low
          (numbers-grown q old new c.node_number.ensures.kept nodes (λ b. first_values s k (input_bits q b)) c.loop-k.invariant.1) stands),
    )
