use Rattle.std.proofs.Common.{◌≡◌, ◌≤◌, sym, subst}
use Rattle.std.specs.List.{AllByRecursion}
use Rattle.std.specs.Result.{IfOk}
use Rattle.held_nodes.specs.Held.{ForwardView}
use Rattle.held_nodes.specs.inside.Kept.{HasProducts}
use Rattle.held_nodes.specs.Moves.{finished_weight, planned_of}
use Rattle.held_nodes.proofs.FinishLemmas.{done_of, done_few, done_ports, done_in_budget, done_gates, done_copies, done_room, done_roomy, done_clean}
use Rattle.held_nodes.proofs.FinishLemmas.{memory_refuses, of_plan, whole_weight}
use Rattle.held_nodes.proofs.forward.Forward.finish.Goals as goal

pub plan_of-requires-clause-few : goal.plan_of-requires-clause-few
plan_of-requires-clause-few c =
    let done = done_of _ _ _ _ c.self.view_is c.self.invariant c.requires in
    rw c.peak-work.ensures.peak (done_few _ _ _ done)

pub plan_of-requires-clause-gates : goal.plan_of-requires-clause-gates
plan_of-requires-clause-gates c =
    let done = done_of _ _ _ _ c.self.view_is c.self.invariant c.requires in
    rw (c.peak-work.ensures.peak, c.into_gates.ensures) (done_gates _ _ _ done)

pub plan_of-requires-clause-copies : goal.plan_of-requires-clause-copies
plan_of-requires-clause-copies c =
    let done = done_of _ _ _ _ c.self.view_is c.self.invariant c.requires in
    let are = subst (λ (f : ForwardView). AllByRecursion HasProducts f.graph.outputs) (sym c.self.view_is) c.in_ok-copies.ensures.products in
    rw (c.peak-work.ensures.peak, c.in_ok-copies.ensures.ok, ← c.self.view_is) (done_copies _ _ _ done are)

pub plan_of-requires-clause-room : goal.plan_of-requires-clause-room
plan_of-requires-clause-room c =
    let done = done_of _ _ _ _ c.self.view_is c.self.invariant c.requires in
    let are = subst (λ (f : ForwardView). AllByRecursion HasProducts f.graph.outputs) (sym c.self.view_is) c.in_ok-copies.ensures.products in
    let light = subst (λ (f : ForwardView). finished_weight f ≤ f.budget.gates) (sym c.self.view_is) c.in_ok-copies.ensures.light in
    rw (c.into_gates.ensures, c.in_ok-copies.ensures.ok, c.gates.ensures.gates, ← c.self.view_is) (done_room _ _ _ done are light)

pub returns : goal.returns
returns c =
    let done = done_of _ _ _ _ c.self.view_is c.self.invariant c.requires in
    let are = subst (λ (f : ForwardView). AllByRecursion HasProducts f.graph.outputs) (sym c.self.view_is) c.in_ok-copies.ensures.products in
    let light = subst (λ (f : ForwardView). finished_weight f ≤ f.budget.gates) (sym c.self.view_is) c.in_ok-copies.ensures.light in
    let ok : IfOk c.plan_of.result (λ planned. planned ≡ planned_of c.args.self) =
    rw (← c.self.view_is) (rw (c.peak-work.ensures.peak, c.into_gates.ensures, c.in_ok-copies.ensures.ok, c.gates.ensures.gates, ← c.self.view_is)
    at c.plan_of.ensures.ok) in
    record {
      ok = ok;
      clean = of_plan _ _ _ ok (rw (← c.self.view_is) (done_clean _ _ _ done are));
      ports = of_plan _ _ _ ok (rw (← c.self.view_is) (done_ports _ _ _ done));
      within = of_plan _ _ _ ok (rw (← c.self.view_is) (done_in_budget _ _ _ done are light));
      weighs = of_plan _ _ _ ok (rw (← c.self.view_is) (whole_weight _ _ _ done are));
      roomy = of_plan _ _ _ ok (rw (← c.self.view_is) (done_roomy _ _ _ done are));
      refused = memory_refuses _ c.args.self c.in_ok-copies.ensures.light c.plan_of.ensures.refused;
    }
