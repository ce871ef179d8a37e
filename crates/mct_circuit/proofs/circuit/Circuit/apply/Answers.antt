use Rattle.std.proofs.Common.{◌<◌, length, sym, ap, ◌∙◌, arith}
use Rattle.std.proofs.lemmas.List.{drop_all}
use Rattle.mct_circuit.specs.Gates.{line_map}
use Rattle.mct_circuit.proofs.GateListLemmas.{lines_below, line_map_more}
use Rattle.mct_circuit.proofs.circuit.Circuit.apply.Goals as goal

pub apply-requires : goal.apply-requires
apply-requires c =
    let here : c.loop-gate.gate-index < length c.self.inside.gates.items = omega (arith, ap length c.deref-gate-items.ensures.value) in
    let long = c.loop-gate.auto.lines ∙ c.requires ∙ ap (λ v. v.lines) (sym c.self.view_is) in
    rw long (lines_below _ c.self.inside.gates.items c.loop-gate.gate-index c.gate-item.result c.self.invariant.0 here
    (rw c.deref-gate-items.ensures.value at c.gate-item.is))

pub loop-gate-preserved : goal.loop-gate-preserved
loop-gate-preserved c = rw c.apply.ensures (line_map_more _ _ _ _ _ c.loop-gate-test.true c.gate-item.is c.loop-gate.invariant)

pub returns : goal.returns
returns c =
    let all = drop_all c.loop-gate.gate-index c.deref-gate-items.result.now (omega arith) in
    rw all at c.loop-gate.invariant ∙ ap (λ gs. line_map gs c.args.lines.now) (c.deref-gate-items.ensures.value ∙ ap (λ v. v.gates) c.self.view_is)
