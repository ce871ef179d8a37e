use Rattle.std.proofs.Common.{◌+◌, ◌<◌, length, take, drop, ap, ◌∙◌, arith}
use Rattle.std.specs.Prelude.{slice_index_or}
use Rattle.std.proofs.lemmas.List.{take_at}
use Rattle.mct_circuit.specs.Gates.{lines_of}
use Rattle.mct_circuit.specs.Sizes.{greatest_at}
use Rattle.flip_lists.specs.declared.flip.Controls.TheVariants.{Zero}
use Rattle.flip_lists.specs.declared.flip.Flip.{Flip}
use Rattle.flip_lists.specs.Flips.{gate_of, gates_of}
use Rattle.flip_orders.specs.inside.Depths.{weight_for}
use Rattle.flip_orders.proofs.DepthLemmas.{counted_few, counted_more, gates_so_far, more_gates}
use Rattle.flip_orders.proofs.depths.depth_in.Goals as goal

pub overflow_add-depth : goal.overflow_add-depth
overflow_add-depth c =
    let flips = c.args.flips.now in
    let at = c.loop-flip.flip-index in
    let flip : Flip = slice_index_or flips at (record { controls = Zero; target = 0 }) in
    let lines = lines_of (gate_of flip) in
    let low : at < length flips = omega (arith, c.loop-flip-test.true) in
    let long = gates_so_far flips at (omega (arith, low)) in
    let few = counted_few c.args.lines c.args.counting (gates_of (take at flips)) c.loop-flip.depths.items c.loop-flip.greatest lines c.loop-flip.invariant in
    let deep = c.greatest_on.ensures ∙ ap (λ ds. greatest_at ds lines) c.deref.ensures.value in
    let one = c.weight_for.ensures.one in
    omega (arith, low, long, few, deep, one)

pub loop-flip-preserved : goal.loop-flip-preserved
loop-flip-preserved c =
    let flips = c.args.flips.now in
    let at = c.loop-flip.flip-index in
    let none : Flip = record { controls = Zero; target = 0 } in
    let gate = gate_of (slice_index_or flips at none) in
    let weigh = weight_for c.args.counting in
    let whole = take_at c.set_all.new.depths (drop (length c.set_all.new.depths) c.loop-flip.depths.items) c.loop-flip.depths.len
    (c.set_all.auto.depths ∙ c.deref_mut.ensures.len) in
    let more = more_gates flips at none (omega (arith, c.loop-flip-test.true)) in
    let found = c.greatest_on.ensures ∙ ap (λ ds. greatest_at ds (lines_of gate)) c.deref.ensures.value in
    let depth = ap (λ w. w + c.greatest_on.result) c.weight_for.ensures.weight ∙ ap (λ d. weigh gate + d) found in
    rw (whole, more)
    (counted_more c.args.lines weigh (gates_of (take at flips)) gate c.loop-flip.depths.items c.set_all.new.depths c.loop-flip.greatest
    (c.weight_for.result + c.greatest_on.result) c.max-greatest.result c.loop-flip.invariant depth
    (λ line. rw c.deref_mut.ensures.value at (c.set_all.ensures line)) (c.set_all.auto.depths ∙ ap length c.deref_mut.ensures.value)
    c.max-greatest.ensures)
