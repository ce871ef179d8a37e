use Rattle.std.proofs.Common.{◌+◌, ◌∙◌, Err, ap, refl, arith, subst, sym}
use Rattle.gate_split.proofs.CountLemmas.{counted_fits, counted_more, counting_begun, counting_stops}
use Rattle.gate_split.proofs.WalkLemmas.{gate_at, on_more}
use Rattle.gate_split.specs.Split.{IsSplit}
use Rattle.revc_base.proofs.ResultLemmas.{passes_on}
use Rattle.gate_split.proofs.counting.decide.Goals as goal

pub gate_count-requires : goal.gate_count-requires
gate_count-requires c =
    let placed = rw (← c.gates-gate-items.ensures.gates) at (on_more _ c.args.lines _ c.requires c.gates-gate-items.ensures.placed) in
    gate_at c.args.lines c.gates-gate-items.result.now c.loop-gate.gate-index c.gate-item.result placed c.loop-gate-test.true c.gate-item.is

pub loop-gate-init : goal.loop-gate-init
loop-gate-init c = (counting_begun c.args.lines c.gates-gate-items.result.now, refl, omega arith)

pub loop-gate-preserved : goal.loop-gate-preserved
loop-gate-preserved c = (
  counted_more c.args.lines c.args.limit c.loop-gate.place c.loop-gate.count c.in_ok-count.count c.gates-gate-items.result.now c.loop-gate.gate-index
      c.gate-item.result c.gate_count.result c.loop-gate-test.true c.gate-item.is c.gate_count.ensures (sym c.in_ok-count.was ∙ c.counted_on.ensures)
      c.loop-gate.invariant.0,
  ap (λ n. n + 1) c.loop-gate.invariant.1,
  counted_fits c.args.limit c.loop-gate.place c.loop-gate.count c.in_ok-count.count c.gate_count.result (sym c.in_ok-count.was ∙ c.counted_on.ensures),
)

pub returns-in_err-count-clause-none : goal.returns-in_err-count-clause-none
returns-in_err-count-clause-none c =
    passes_on (λ fault. IsSplit c.args.lines c.args.limit c.args.circuit.now.gates (Err fault)) c.from_residual.result c.from_residual.ensures.1
    (subst (λ gates. IsSplit c.args.lines c.args.limit gates (Err c.in_err-count.field-0.0)) c.gates-gate-items.ensures.gates
    (counting_stops c.args.lines c.args.limit c.loop-gate.place c.loop-gate.count c.in_err-count.field-0.0
    c.gates-gate-items.result.now c.loop-gate.gate-index c.gate-item.result c.gate_count.result c.loop-gate-test.true c.gate-item.is c.gate_count.ensures
    c.loop-gate.invariant.1 c.loop-gate.invariant.2 c.in_err-count.ensures c.loop-gate.invariant.0))
