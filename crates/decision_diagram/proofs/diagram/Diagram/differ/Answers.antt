use Rattle.std.proofs.Common.{◌≡◌, ◌<◌, length, slice_set, ap, subst, arith}
use Rattle.decision_diagram.specs.Functions.{Assignment, assignment_of}
use Rattle.decision_diagram.specs.Diagrams.{DiagramView, IsCanonical}
use Rattle.decision_diagram.proofs.WalkLemmas.{apart_steps, apart_ends, assignment-set}
use Rattle.decision_diagram.proofs.diagram.Diagram.differ.Goals as goal

pub walk-preserved : goal.walk-preserved
walk-preserved c =
    let d = c.args.self.now in
    let canonical = subst (λ (e : DiagramView). IsCanonical e) c.self.view_is c.self.invariant in
    let vars : c.self.inside.vars ≡ d.vars = ap (λ (e : DiagramView). e.vars) c.self.view_is in
    let within : c.walk.variable < length c.walk.into = omega (arith, vars, c.walk-test.true, c.fill.ensures.len, c.requires.places) in
    let after : Assignment = assignment_of (slice_set c.walk.into c.walk.variable c.eq-bit.result) in
    apart_steps d.vars d.nodes canonical.ordered c.args.f c.args.g c.walk.left c.walk.right c.walk.variable (assignment_of c.walk.into)
    c.walk.invariant c.branches-left_low.result.0 c.branches-left_low.result.1 c.branches-right_low.result.0 c.branches-right_low.result.1
    c.branches-left_low.ensures c.branches-right_low.ensures c.eq-bit.result c.eq-bit.ensures after
    (λ i. assignment-set c.walk.into c.walk.variable c.eq-bit.result i within)
    c.chosen-left.result c.chosen-right.result c.min-variable-in-walk.result c.chosen-left.ensures c.chosen-right.ensures
    (omega (arith, c.min-variable-in-walk.ensures, c.first-in-walk.ensures, c.first-in-walk-2.ensures))

pub returns-clause-found : goal.returns-clause-found
returns-clause-found c =
    let d = c.args.self.now in
    let canonical = subst (λ (e : DiagramView). IsCanonical e) c.self.view_is c.self.invariant in
    let vars : c.self.inside.vars ≡ d.vars = ap (λ (e : DiagramView). e.vars) c.self.view_is in
    λ found. apart_ends d.vars d.nodes canonical.ordered c.args.f c.args.g c.walk.left c.walk.right c.walk.variable (assignment_of c.walk.into)
    c.walk.invariant (omega (arith, vars, c.walk-test.false))
