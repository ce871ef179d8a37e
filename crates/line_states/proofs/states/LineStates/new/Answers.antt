use Rattle.line_states.proofs.EndLemmas.{begun_kept}
use Rattle.line_states.proofs.states.LineStates.new.Goals as goal

pub invariant_of-result : goal.invariant_of-result
invariant_of-result c =
    rw (c.new.ensures.items, c.in_ok-sets.ensures, c.given_lines-given.ensures.lines, c.inputs.ensures.inputs, c.outputs.ensures.outputs)
    (begun_kept c.args.graph.now c.args.budget.now c.args.start c.inputs.ensures.keeps c.lines.ensures.limit c.requires)
