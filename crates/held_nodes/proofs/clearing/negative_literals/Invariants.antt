use Rattle.std.proofs.Common.{◌≡◌, ◌≤◌, take, not, count_by}
use Rattle.exclusive_sums.specs.declared.cube.Literal.{Literal}
use Rattle.held_nodes.proofs.clearing.negative_literals.Given as goal

abbrev pub invariant-loop-literal : goal.invariant-loop-literal
invariant-loop-literal l = (l.count ≡ count_by (λ (literal : Literal). not literal.positive) (take l.literal-index l.literals))
    × (l.count ≤ l.literal-index)
