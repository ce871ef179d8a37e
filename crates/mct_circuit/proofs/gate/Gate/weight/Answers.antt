use Rattle.std.proofs.Common.{◌≤◌, ◌^◌, length, arith}
use Rattle.mct_circuit.proofs.WeightLemmas.{few_controls}
use Rattle.mct_circuit.proofs.gate.Gate.weight.Goals as goal

pub flip_weight-flips-requires : goal.flip_weight-flips-requires
flip_weight-flips-requires c =
    let few : length c.args.self.now.controls ≤ 2 ^ 32 = few_controls c.args.self.now c.controls-controls.ensures.different
    (rw c.controls-controls.ensures.controls at c.negative_controls-negative.ensures.lines) in
    rw c.controls-controls.ensures.controls (omega arith)

pub flip_weight-requires : goal.flip_weight-requires
flip_weight-requires c =
    let few : length c.args.self.now.controls ≤ 2 ^ 32 = few_controls c.args.self.now c.controls-controls.ensures.different
    (rw c.controls-controls.ensures.controls at c.negative_controls-negative.ensures.lines) in
    rw c.controls-controls.ensures.controls (omega arith)
