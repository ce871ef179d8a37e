use Rattle.std.proofs.Common.{◌≡◌, ◌+◌, length, ap, ◌∙◌, arith}
use Rattle.std.proofs.lemmas.List.{length_push}
use Rattle.mct_circuit.proofs.ReversalLemmas.{AreGatesOn-push}
use Rattle.mct_circuit.proofs.circuit.Circuit.push.Goals as goal

pub invariant_of-self-2 : goal.invariant_of-self-2
invariant_of-self-2 c =
    let low = rw (← c.self.view_is) at c.requires in
    let room = rw (← c.self.view_is) at (c.is_full.ensures.room c.if-is_full.false) in
    let grown : length c.push.new.self.items ≡ length c.self.inside.gates.items + 1 = ap length c.in_ok-push.ensures.items
    ∙ length_push c.self.inside.gates.items _ in
    (rw c.in_ok-push.ensures.items (AreGatesOn-push _ _ _ c.self.invariant.0 c.op.ensures.different low), omega arith)
