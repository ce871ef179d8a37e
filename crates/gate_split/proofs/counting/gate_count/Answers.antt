use Rattle.std.proofs.Common.{ap, arith, length, sym, ◌∙◌}
use Rattle.mct_circuit.specs.Sizes.{negative_controls}
use Rattle.gate_split.proofs.CountLemmas.{flip_counted, flip_fits, swap_counted, swap_fits}
use Rattle.gate_split.proofs.counting.gate_count.Goals as goal

pub flip_count-requires-clause-fits : goal.flip_count-requires-clause-fits
flip_count-requires-clause-fits c =
    flip_fits c.args.lines c.args.gate.now c.in-Flip.field-0 (length c.controls-controls.result.now) (sym c.op.ensures.op ∙ c.in-Flip.is) c.requires
    (ap length c.controls-controls.ensures.controls)

pub flip_count-requires-clause-few : goal.flip_count-requires-clause-few
flip_count-requires-clause-few c = omega (arith, c.negative_count-negatives.ensures.few, flip_count-requires-clause-fits c)

pub flip_count-requires-in-Swap-clause-fits : goal.flip_count-requires-in-Swap-clause-fits
flip_count-requires-in-Swap-clause-fits c =
    swap_fits c.args.lines c.args.gate.now c.in-Swap.field-0 c.in-Swap.field-1 (length c.controls-controls.result.now)
    (sym c.op.ensures.op ∙ c.in-Swap.is) c.requires (ap length c.controls-controls.ensures.controls)

pub flip_count-requires-in-Swap-clause-few : goal.flip_count-requires-in-Swap-clause-few
flip_count-requires-in-Swap-clause-few c = omega (arith, c.negative_count-negatives.ensures.few, flip_count-requires-in-Swap-clause-fits c)

pub returns-in-Flip : goal.returns-in-Flip
returns-in-Flip c =
    flip_counted c.args.lines c.args.gate.now c.in-Flip.field-0 (length c.controls-controls.result.now) c.negative_count-negatives.result
    c.flip_count.result (sym c.op.ensures.op ∙ c.in-Flip.is) c.requires (ap length c.controls-controls.ensures.controls)
    (c.negative_count-negatives.ensures.count ∙ ap negative_controls c.controls-controls.ensures.controls) c.flip_count.ensures

pub returns-in-Swap : goal.returns-in-Swap
returns-in-Swap c =
    swap_counted c.args.lines c.args.gate.now c.in-Swap.field-0 c.in-Swap.field-1 (length c.controls-controls.result.now)
    c.negative_count-negatives.result c.flip_count-in-Swap.result (sym c.op.ensures.op ∙ c.in-Swap.is) c.requires
    (ap length c.controls-controls.ensures.controls)
    (c.negative_count-negatives.ensures.count ∙ ap negative_controls c.controls-controls.ensures.controls) c.flip_count-in-Swap.ensures
