use Rattle.std.proofs.Common.{ℕ, ◌+◌, ◌≤◌, Fits, ap, arith, w32}
use Rattle.circuit_plans.specs.declared.plan.TheConstants.{MOST_LINES}
use Rattle.held_nodes.proofs.PlaceLemmas.{toggle_placed, toggle_apart}
use Rattle.held_nodes.proofs.StepLemmas.{no_line, ready_node, ready_place}
use Rattle.held_nodes.proofs.StepLemmas.{toggles_of, toggles_on, toggle_target, toggle_fault, toggle_out, toggle_ends, toggle_place}
use Rattle.held_nodes.proofs.forward.Forward.toggle.Goals as goal
use Rattle.revc_base.proofs.ResultLemmas.{no_value, passes_on}

fits : (first line : ℕ) → first + line ≤ MOST_LINES → Fits w32 (first + line)
fits first line low = omega (arith, low)

pub index-own-requires : goal.index-own-requires
index-own-requires c = rw c.self.inside.lines.ok.0 (ready_place _ _ _ _ _ c.self.view_is c.self.invariant c.requires)

pub node-sum-requires : goal.node-sum-requires
node-sum-requires c = ready_node _ _ _ c.self.view_is c.requires

pub returns-in_default-clause-refused : goal.returns-in_default-clause-refused
returns-in_default-clause-refused c =
    let none = no_line _ _ _ _ _ _ c.self.view_is c.self.invariant c.requires c.index-own.ensures c.in_default.ensures.none in
    rw (← c.self.view_is) (none, ap (λ (n : ℕ). n + 1) c.lines.ensures.lines)

pub overflow_add-first : goal.overflow_add-first
overflow_add-first c =
    let toggles = toggles_of _ _ _ _ _ _ _ _ _ c.self.view_is c.self.invariant c.requires c.node-sum.ensures c.index-own.ensures c.in-Some.ensures.line in
    let low : c.first_work-first.result + c.in-Some.line ≤ MOST_LINES =
    rw c.first_work-first.ensures.first (toggle_target _ _ _ _ _ (toggles_on _ _ _ _ _ _ _ _ toggles)) in
    fits c.first_work-first.result c.in-Some.line low

pub with_sum-requires-clause-placed : goal.with_sum-requires-clause-placed
with_sum-requires-clause-placed c =
    let toggles = toggles_of _ _ _ _ _ _ _ _ _ c.self.view_is c.self.invariant c.requires c.node-sum.ensures c.index-own.ensures c.in-Some.ensures.line in
    let has = toggles_on _ _ _ _ _ _ _ _ toggles in
    rw (c.first_work-first.ensures.first, c.deref.ensures.value) (toggle_placed _ _ _ _ _ _ has.can has.few)

pub with_sum-requires-clause-apart : goal.with_sum-requires-clause-apart
with_sum-requires-clause-apart c =
    let toggles = toggles_of _ _ _ _ _ _ _ _ _ c.self.view_is c.self.invariant c.requires c.node-sum.ensures c.index-own.ensures c.in-Some.ensures.line in
    rw (c.first_work-first.ensures.first, c.deref.ensures.value) (toggle_apart _ _ _ _ _ _ (toggles_on _ _ _ _ _ _ _ _ toggles).can)

pub returns-in_err-gates : goal.returns-in_err-gates
returns-in_err-gates c =
    let toggles = toggles_of _ _ _ _ _ _ _ _ _ c.self.view_is c.self.invariant c.requires c.node-sum.ensures c.index-own.ensures c.in-Some.ensures.line in
    record {
      ok = no_value c.from_residual.result _ _ c.from_residual.ensures.1;
      keeps = no_value c.from_residual.result _ _ c.from_residual.ensures.1;
      refused = passes_on _ c.from_residual.result c.from_residual.ensures.1
          (rw (← c.self.view_is) (toggle_fault _ _ _ _ _ _ _ _ toggles _ c.in_err-gates.ensures.refused));
    }

pub line_after-requires : goal.line_after-requires
line_after-requires c =
    let toggles = toggles_of _ _ _ _ _ _ _ _ _ c.self.view_is c.self.invariant c.requires c.node-sum.ensures c.index-own.ensures c.in-Some.ensures.line in
    toggle_out _ _ _ _ _ _ _ _ toggles

pub index_mut-requires : goal.index_mut-requires
index_mut-requires c =
    let toggles = toggles_of _ _ _ _ _ _ _ _ _ c.self.view_is c.self.invariant c.requires c.node-sum.ensures c.index-own.ensures c.in-Some.ensures.line in
    rw c.self.inside.lines.ok.0 (toggle_place _ _ _ _ _ _ _ _ toggles)

pub invariant_of-result : goal.invariant_of-result
invariant_of-result c =
    let toggles = toggles_of _ _ _ _ _ _ _ _ _ c.self.view_is c.self.invariant c.requires c.node-sum.ensures c.index-own.ensures c.in-Some.ensures.line in
    let ok = rw (c.first_work-first.ensures.first, c.deref.ensures.value) at c.in_ok-gates.ensures.ok in
    let light = rw ok at c.in_ok-gates.ensures.light in
    rw ok (toggle_ends _ _ _ _ _ _ _ _ _ _ c.in_ok-gates.ensures.products toggles c.line_after.ensures.line c.line_after.ensures.heap light).kept

pub returns-clause-ok : goal.returns-clause-ok
returns-clause-ok c =
    let toggles = toggles_of _ _ _ _ _ _ _ _ _ c.self.view_is c.self.invariant c.requires c.node-sum.ensures c.index-own.ensures c.in-Some.ensures.line in
    let ok = rw (c.first_work-first.ensures.first, c.deref.ensures.value) at c.in_ok-gates.ensures.ok in
    let light = rw ok at c.in_ok-gates.ensures.light in
    rw (ok, ← c.self.view_is) (toggle_ends _ _ _ _ _ _ _ _ _ _ c.in_ok-gates.ensures.products toggles c.line_after.ensures.line c.line_after.ensures.heap
    light).toggled

pub returns-clause-keeps : goal.returns-clause-keeps
returns-clause-keeps c = (invariant_of-result c).forward
