use Rattle.std.proofs.Common.{◌≡◌, ◌+◌, length, max, take, drop, reverse, sym, ap, ◌∙◌, arith}
use Rattle.std.proofs.lemmas.List.{take_at, take_all, length-reverse, length-take-le}
use Rattle.mct_circuit.specs.Gates.{lines_of}
use Rattle.mct_circuit.specs.Sizes.{depth_by, gate_depth, greatest_at}
use Rattle.mct_circuit.specs.inside.Counting.{weight_for}
use Rattle.mct_circuit.proofs.GateListLemmas.{lines_below_in}
use Rattle.mct_circuit.proofs.DepthLemmas.{gate_depth_on, greatest_at-depths, depth_on-le, depths_more, latest_first, one_at_most}
use Rattle.mct_circuit.proofs.circuit.Circuit.depth_in.Goals as goal

pub greatest_on-requires : goal.greatest_on-requires
greatest_on-requires c =
    lines_below_in _ c.self.inside.gates.items _ c.loop-gate.gate-index c.gate-item.result _
    (ap length c.deref.ensures.value ∙ c.loop-gate.invariant.2 ∙ ap (λ v. v.lines) (sym c.self.view_is))
    c.deref-gate-items.ensures.value c.self.invariant.0 (omega (arith, ap length c.deref-gate-items.ensures.value)) c.gate-item.is

pub overflow_add-depth : goal.overflow_add-depth
overflow_add-depth c =
    let weigh = weight_for c.args.counting in
    let gates = reverse (take c.loop-gate.gate-index c.deref-gate-items.result.now) in
    let deep = c.greatest_on.ensures ∙ ap (λ ds. greatest_at ds (lines_of c.gate-item.result)) c.deref.ensures.value
    ∙ greatest_at-depths weigh c.loop-gate.depths.items gates (lines_of c.gate-item.result) c.loop-gate.invariant.0 in
    let few = depth_on-le weigh (one_at_most c.args.counting) (lines_of c.gate-item.result) gates in
    let one = c.weight_for.ensures.one in
    let long : length gates ≡ c.loop-gate.gate-index = length-reverse (take c.loop-gate.gate-index c.deref-gate-items.result.now)
    ∙ length-take-le c.loop-gate.gate-index c.deref-gate-items.result.now (omega arith) in
    omega arith

pub set_all-requires : goal.set_all-requires
set_all-requires c =
    lines_below_in _ c.self.inside.gates.items _ c.loop-gate.gate-index c.gate-item.result _
    (ap length c.deref_mut.ensures.value ∙ c.loop-gate.invariant.2 ∙ ap (λ v. v.lines) (sym c.self.view_is))
    c.deref-gate-items.ensures.value c.self.invariant.0 (omega (arith, ap length c.deref-gate-items.ensures.value)) c.gate-item.is

pub loop-gate-preserved : goal.loop-gate-preserved
loop-gate-preserved c =
    let weigh = weight_for c.args.counting in
    let gates = reverse (take c.loop-gate.gate-index c.deref-gate-items.result.now) in
    let whole = take_at c.set_all.new.depths (drop (length c.set_all.new.depths) c.loop-gate.depths.items) c.loop-gate.depths.len
    (c.set_all.auto.depths ∙ c.deref_mut.ensures.len) in
    let latest = latest_first c.deref-gate-items.result.now c.loop-gate.gate-index c.gate-item.result c.loop-gate-test.true c.gate-item.is in
    let found = c.greatest_on.ensures ∙ ap (λ ds. greatest_at ds (lines_of c.gate-item.result)) c.deref.ensures.value in
    let deep = found ∙ greatest_at-depths weigh c.loop-gate.depths.items gates (lines_of c.gate-item.result) c.loop-gate.invariant.0 in
    let weight = c.weight_for.ensures.weight in
    let of_gate = ap (λ w. w + c.greatest_on.result) weight in
    rw (whole, latest) (
      (λ line. rw c.deref_mut.ensures.value at (c.set_all.ensures line)
          ∙ depths_more weigh c.loop-gate.depths.items c.gate-item.result gates (c.weight_for.result + c.greatest_on.result) line
          c.loop-gate.invariant.0 (of_gate ∙ ap (λ d. weigh c.gate-item.result + d) found)),
      c.max-greatest.ensures ∙ ap (λ d. max d c.loop-gate.greatest)
          (of_gate ∙ ap (λ d. weigh c.gate-item.result + d) deep ∙ sym (gate_depth_on weigh c.gate-item.result gates))
          ∙ ap (λ g. max (gate_depth weigh c.gate-item.result gates) g) c.loop-gate.invariant.1,
      c.set_all.auto.depths ∙ ap length c.deref_mut.ensures.value ∙ c.loop-gate.invariant.2,
    )

pub returns : goal.returns
returns c =
    let all = take_all c.loop-gate.gate-index c.deref-gate-items.result.now (omega arith) in
    rw all at c.loop-gate.invariant.1
    ∙ ap (depth_by (weight_for c.args.counting)) (c.deref-gate-items.ensures.value ∙ ap (λ v. v.gates) c.self.view_is)
