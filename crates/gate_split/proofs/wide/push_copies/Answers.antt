use Rattle.std.proofs.Common.{◌++◌, sym, ap, ◌∙◌}
use Rattle.std.proofs.lemmas.List.{append-nil, take_all}
use Rattle.gate_split.proofs.BuildingLemmas.{copied_more}
use Rattle.gate_split.proofs.wide.push_copies.Goals as goal

pub loop-gate-init : goal.loop-gate-init
loop-gate-init c = sym (append-nil c.args.gates.now.items)

pub loop-gate-preserved : goal.loop-gate-preserved
loop-gate-preserved c = copied_more c.args.gates.now.items c.push_copy.new.gates.items c.loop-gate.gates.items c.gate-item.result
    c.args.copied.now c.loop-gate.gate-index c.loop-gate-test.true c.gate-item.is c.in_ok-push_copy.ensures c.loop-gate.invariant

pub returns : goal.returns
returns c = c.loop-gate.invariant ∙ ap (λ l. c.args.gates.now.items ++ l) (take_all c.loop-gate.gate-index c.args.copied.now c.loop-gate-test.false)
