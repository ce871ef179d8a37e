use Rattle.std.proofs.Common.{rules, ◌≡◌, ◌∙◌, None, length, replicate, ap}
use Rattle.std.proofs.Common.{ℕ}
use Rattle.held_nodes.proofs.EmptyLemmas.{empty_kept}
use Rattle.held_nodes.proofs.forward.Forward.new.Goals as goal

pub invariant_of-result : goal.invariant_of-result
invariant_of-result c =
    let room = rw (c.inputs.ensures.inputs, c.outputs.ensures.outputs, c.borrow.ensures.borrow, c.lines.ensures.lines) at c.if-need-lines.false in
    let items : c.in_ok-lines.lines.items ≡ replicate (length c.args.graph.now.nodes) None =
    c.in_ok-lines.ensures.items_if_clones_equal (search rules) ∙ ap (λ (n : ℕ). replicate n None) c.nodes.ensures.nodes in
    let heap = rw (c.lines-2.ensures.lines, c.inputs.ensures.inputs, c.outputs.ensures.outputs, c.borrow.ensures.borrow) at c.in_ok-heap.ensures in
    rw (c.new-2.ensures, c.lines-3.ensures.lines, c.gates.ensures.gates, c.borrow-2.ensures.borrow, c.new-3.ensures, c.gates-2.ensures.gates, items, heap)
    (empty_kept c.args.graph.now c.args.budget.now c.inputs.ensures.keeps c.lines.ensures.limit room)

pub returns-clause-keeps : goal.returns-clause-keeps
returns-clause-keeps c = (invariant_of-result c).forward
