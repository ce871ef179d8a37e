use Rattle.std.proofs.Common.{◌≡◌, ℕ, ◌<◌, length, slice_set, nat_eq, ap, subst, sym, ◌∙◌, arith}
use Rattle.decision_diagram.specs.Functions.{Assignment}
use Rattle.decision_diagram.specs.Diagrams.{Triple, DiagramView, IsCanonical}
use Rattle.decision_diagram.specs.Functions.{assignment_of}
use Rattle.decision_diagram.proofs.ValueLemmas.{first_most, set_at}
use Rattle.decision_diagram.proofs.RestrictionLemmas.{small_from}
use Rattle.decision_diagram.proofs.WalkLemmas.{UnderwayTo, walk_steps, walk_ends, assignment-set}
use Rattle.decision_diagram.proofs.diagram.Diagram.least.Goals as goal

pub bounds-into-node-inside : goal.bounds-into-node-inside
bounds-into-node-inside c =
    let d = c.args.self.now in
    let canonical = subst (λ (e : DiagramView). IsCanonical e) c.self.view_is c.self.invariant in
    let below = first_most d.vars d.nodes canonical.ordered c.inner-node.result.low in
    let here : c.node.inside.variable ≡ c.inner-node.result.variable = ap (λ (n : Triple). n.variable) c.node.view_is in
    omega (arith, below, c.inner-node.ensures.branches.low.behind, here, c.fill.ensures.len, c.requires.places)

pub walk-preserved : goal.walk-preserved
walk-preserved c =
    let d = c.args.self.now in
    let canonical = subst (λ (e : DiagramView). IsCanonical e) c.self.view_is c.self.invariant in
    let below = first_most d.vars d.nodes canonical.ordered c.inner-node.result.low in
    let node = c.inner-node.result in
    let here : c.node.inside.variable ≡ node.variable = ap (λ (n : Triple). n.variable) c.node.view_is in
    let low : c.node.inside.low ≡ node.low = ap (λ (n : Triple). n.low) c.node.view_is in
    let within : c.node.inside.variable < length c.walk.into =
    omega (arith, below, c.inner-node.ensures.branches.low.behind, here, c.fill.ensures.len, c.requires.places) in
    let after : Assignment = assignment_of (slice_set c.walk.into c.node.inside.variable c.eq-bit.result) in
    subst (λ (n : ℕ). UnderwayTo d.vars d.nodes c.args.f c.args.want n after) (sym c.side-at.ensures)
    (walk_steps d.vars d.nodes c.args.f c.args.want c.walk.at (assignment_of c.walk.into) c.walk.invariant
    node c.inner-node.ensures c.truth-never.result (c.truth-never.ensures.number)
    c.eq-bit.result (c.eq-bit.ensures ∙ ap (λ k. nat_eq k c.truth-never.result) low) after
    (λ i. assignment-set c.walk.into c.node.inside.variable c.eq-bit.result i within
    ∙ ap (λ v. set_at v c.eq-bit.result (assignment_of c.walk.into) i) here))

pub returns-clause-found : goal.returns-clause-found
returns-clause-found c = λ _. walk_ends c.args.self.now.vars c.args.self.now.nodes c.args.f c.args.want c.walk.at (assignment_of c.walk.into)
    c.walk.invariant (small_from c.is_inner.result c.walk.at c.is_inner.ensures c.walk-test.false)
