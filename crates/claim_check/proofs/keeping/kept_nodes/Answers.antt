use Rattle.std.proofs.Common.{rules, ◌≡◌, ◌+◌, ◌<◌, ◌∷◌, [], ◌++◌, ◌∙◌, List, drop, length, ap, arith}
use Rattle.list_facts.specs.Bits.{bit_of}
use Rattle.dependency_graph.specs.declared.node.Node.{Node}
use Rattle.claim_check.specs.Kept.{kept_nodes, renumbered}
use Rattle.claim_check.specs.inside.Marks.{number_in}
use Rattle.claim_check.proofs.MarkLemmas.{kept_node, other_node}
use Rattle.claim_check.proofs.keeping.kept_nodes.Goals as goal
use Rattle.claim_check.proofs.keeping.kept_nodes.Goals.{then-marks-k+in_ok-push, else-marks-k}

pub loop-k-preserved : goal.loop-k-preserved
loop-k-preserved c =
    let nodes = c.args.graph.now.nodes in
    let kept = bit_of c.args.marks.now in
    let numbers = number_in c.args.table.now in
    let k = c.loop-k.k in
    let all = kept_nodes kept numbers 0 nodes in
    let later = kept_nodes kept numbers (k + 1) (drop (k + 1) nodes) in
    elim c.if-marks-k.branch [
      | then-marks-k+in_ok-push w ↦
          let pushed : c.if-marks-k.nodes.items ≡ c.loop-k.nodes.items ++ renumbered numbers w.node.result ∷ [] = search rules in
          ap (λ (z : List Node). z ++ later) pushed
          ∙ kept_node kept numbers c.loop-k.nodes.items all nodes k w.node.result w.node.ensures w.if-marks-k.true c.loop-k.invariant
      | else-marks-k w ↦
          let same : c.if-marks-k.nodes.items ≡ c.loop-k.nodes.items = search rules in
          let inside : k < length nodes = omega (arith, c.loop-k-test.true, c.nodes-k-end.ensures.nodes) in
          ap (λ (z : List Node). z ++ later) same
          ∙ other_node kept numbers c.loop-k.nodes.items all nodes k inside w.if-marks-k.false c.loop-k.invariant
    ]
