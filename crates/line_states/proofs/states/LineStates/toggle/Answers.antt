use Rattle.std.proofs.Common.{◌∙◌, List, [], length, ap, ap₂, subst, arith}
use Rattle.std.proofs.lemmas.List.{get_or_read}
use Rattle.list_facts.proofs.AllLemmas.{AllByRecursion-weaker}
use Rattle.dependency_graph.specs.declared.node.Base.{Base}
use Rattle.bit_sums.specs.Sums.{SumView}
use Rattle.line_states.specs.Gathers.{toggle_gates}
use Rattle.line_states.specs.States.{StatesView, toggled_set}
use Rattle.line_states.specs.inside.Places.{ArePlaced, CanFlip, MovesSets}
use Rattle.line_states.proofs.GateLemmas.{can_flip}
use Rattle.line_states.proofs.ToggleLemmas.{CanToggle, tests_can, toggle_moves}
use Rattle.line_states.proofs.states.LineStates.toggle.Goals as goal
use Rattle.line_states.proofs.states.LineStates.toggle.Goals.{After-items}

abbrev states_of : After-items → StatesView
states_of c = record {
  graph = c.self.inside.graph.now;
  budget = c.self.inside.budget.now;
  start = c.self.inside.start;
  gates = c.self.inside.gates.items;
  sets = c.self.inside.sets.items;
}

can : (c : After-items) → CanToggle (states_of c) c.args.node c.args.onto c.args.pairs.now
can c =
    tests_can (states_of c) c.args.node c.args.onto c.args.pairs.now c.deref.result.now c.sum_at-sum.result.now c.products.result.now c.in_ok-all_fit.field-0
    c.deref.ensures.value c.sum_at-sum.ensures c.products.ensures c.in_ok-all_fit.ensures c.if-not-branch.false
    (rw (← c.nodes.ensures.nodes, ← c.outputs.ensures.outputs) (omega (arith, c.if-node-sums.false)))
    (omega (arith, c.if-onto-len.false, c.len.ensures))

pub toggle_gates-requires : goal.toggle_gates-requires
toggle_gates-requires c =
    let s = states_of (goal.at.toggle_gates-requires c).After-items in
    AllByRecursion-weaker (ArePlaced (length s.sets) c.args.onto) (CanFlip c.args.onto) (can_flip (length s.sets) c.args.onto) c.args.pairs.now
    (can (goal.at.toggle_gates-requires c).After-items).placed

pub change-requires : goal.change-requires
change-requires c =
    let s = states_of (goal.at.change-requires c).After-items in
    let old = c.items.ensures ∙ get_or_read s.sets c.args.onto _ (omega (arith, c.if-onto-len.false, c.len.ensures)) c.index.ensures [] in
    let set_is = c.in_ok-set.ensures ∙ ap₂ (λ (a : List Base) (t : SumView). toggled_set a c.args.node t) old c.sum_at-sum.ensures in
    let more_is = c.in_ok-more.ensures
    ∙ ap (toggle_gates c.args.onto c.args.pairs.now) (c.one.ensures ∙ ap (λ (t : SumView). t.one) c.sum_at-sum.ensures) in
    subst (λ (t : StatesView). MovesSets t c.args.onto c.in_ok-set.set.items c.in_ok-more.more.items) c.self.view_is
    (rw (set_is, more_is) (toggle_moves s c.args.node c.args.onto c.args.pairs.now c.self.invariant.graph (can (goal.at.change-requires c).After-items)))
