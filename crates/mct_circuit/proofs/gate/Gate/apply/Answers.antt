use Rattle.std.proofs.Common.{◌<◌, length, refl, sym, ◌∙◌}
use Rattle.mct_circuit.specs.Gates.{targets_of}
use Rattle.list_facts.proofs.AllLemmas.{AllByRecursion-right}
use Rattle.mct_circuit.proofs.GateListLemmas.{controls_below}
use Rattle.mct_circuit.proofs.gate.Gate.apply.Goals as goal

pub are_met-requires : goal.are_met-requires
are_met-requires c = rw c.deref.ensures.value (controls_below _ _ _ (rw (← c.self.view_is) at c.requires))

pub bounds-lines-target : goal.bounds-lines-target
bounds-lines-target c = (rw c.in-Flip.is at (AllByRecursion-right (λ line. line < length c.args.lines.now) _ (targets_of c.self.inside.op)
    (rw (← c.self.view_is) at c.requires))).0

pub bounds-lines-target-in-Flip : goal.bounds-lines-target-in-Flip
bounds-lines-target-in-Flip c = (rw c.in-Flip.is at (AllByRecursion-right (λ line. line < length c.args.lines.now) _ (targets_of c.self.inside.op)
    (rw (← c.self.view_is) at c.requires))).0

pub swap-requires-clause-a_in_bounds : goal.swap-requires-clause-a_in_bounds
swap-requires-clause-a_in_bounds c = (rw c.in-Swap.is at (AllByRecursion-right (λ line. line < length c.args.lines.now) _ (targets_of c.self.inside.op)
    (rw (← c.self.view_is) at c.requires))).0

pub swap-requires-clause-b_in_bounds : goal.swap-requires-clause-b_in_bounds
swap-requires-clause-b_in_bounds c = (rw c.in-Swap.is at (AllByRecursion-right (λ line. line < length c.args.lines.now) _ (targets_of c.self.inside.op)
    (rw (← c.self.view_is) at c.requires))).1.0

pub returns-in-Swap : goal.returns-in-Swap
returns-in-Swap c = c.swap.ensures.after ∙ rw (← c.self.view_is, ← c.deref.ensures.value, sym c.are_met.ensures ∙ c.if-not-are_met.false, c.in-Swap.is) refl
