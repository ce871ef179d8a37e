use Rattle.std.proofs.Common.{◌≤◌, not, get_or, arith, false}
use mir.Val.{bool_byte}
use Rattle.exclusive_sums.specs.declared.cube.Literal.{Literal}
use Rattle.mct_circuit.proofs.WeightLemmas.{counted, at_most_one}
use Rattle.held_nodes.proofs.clearing.negative_literals.Goals as goal

pub loop-literal-preserved : goal.loop-literal-preserved
loop-literal-preserved c =
    let here : Literal = get_or c.args.literals.now c.loop-literal.literal-index (record { input = 0; positive = false }) in
    let one : bool_byte (not here.positive) ≤ 1 = at_most_one (not here.positive) in (
      rw c.from-count.ensures (counted (λ (literal : Literal). not literal.positive) c.args.literals.now c.loop-literal.literal-index
          (record { input = 0; positive = false }) _ c.loop-literal-test.true c.loop-literal.invariant.0),
      omega (arith, c.from-count.ensures),
    )
