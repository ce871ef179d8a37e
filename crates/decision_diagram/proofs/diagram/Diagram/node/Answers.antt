use Rattle.std.proofs.Common.{arith, eqb-true, subst, sym, ◌+◌, ◌∙◌}
use Rattle.std.proofs.lemmas.Bool.{eq-eqb, true≢false}
use Rattle.decision_diagram.specs.Diagrams.{Triple, DiagramView, IsCanonical}
use Rattle.decision_diagram.specs.inside.Flipping.{Grows, IsInner, node_function}
use Rattle.decision_diagram.proofs.GrowthLemmas.{Grows-refl, ok_from, one_side}
use Rattle.decision_diagram.proofs.PlaceLemmas.{found_inner, node_follows}
use Rattle.decision_diagram.proofs.diagram.Diagram.node.Goals as goal
use Rattle.decision_diagram.proofs.diagram.Diagram.node.Goals.{After-self, In-Some}

abbrev asked : goal.After-self → Triple
asked c = record { variable = c.args.variable; low = c.args.low; high = c.args.high }

stays : (c : goal.After-self) → Grows (node_function c.args.self.now.nodes (asked c)) c.args.self.now c.args.self.now
stays c =
    let d = c.args.self.now in
    Grows-refl (node_function d.nodes (asked c)) d (subst (λ (e : DiagramView). IsCanonical e) c.self.view_is c.self.invariant)

found : (c : goal.In-Some) → IsInner c.args.self.now.vars c.args.self.now.nodes (c.in-Some.place + 2)
    (record { variable = c.args.variable; low = c.args.low; high = c.args.high })
found c = found_inner c.args.self.now c.self.inside.vars c.self.inside.limit c.self.inside.nodes.keys c.in-Some.place
    (record { variable = c.args.variable; low = c.args.low; high = c.args.high }) c.self.view_is c.self.invariant c.in-Some.ensures

pub returns-in-Some-clause-answer : goal.returns-in-Some-clause-answer
returns-in-Some-clause-answer c =
    let at = found (goal.at.returns-in-Some-clause-answer c).In-Some in record { known = at.known; same = at.branches.same }

pub returns-in-Some-clause-first : goal.returns-in-Some-clause-first
returns-in-Some-clause-first c = let at = found (goal.at.returns-in-Some-clause-first c).In-Some in omega (arith, at.first)

pub returns-then-eq-clause-grows : goal.returns-then-eq-clause-grows
returns-then-eq-clause-grows c = stays (goal.at.returns-then-eq-clause-grows c).After-self

pub returns-then-eq-clause-answer : goal.returns-then-eq-clause-answer
returns-then-eq-clause-answer c =
    one_side c.args.self.now.nodes c.args.variable c.args.low c.args.high (eqb-true c.args.low c.args.high (sym c.if-eq.ensures)) c.requires.low.known

pub returns-then-eq-clause-first : goal.returns-then-eq-clause-first
returns-then-eq-clause-first c = omega (arith, c.requires.low.behind)

pub returns-in-Some-clause-grows : goal.returns-in-Some-clause-grows
returns-in-Some-clause-grows c = stays (goal.at.returns-in-Some-clause-grows c).After-self

pub returns-in-None-clause-grows : goal.returns-in-None-clause-grows
returns-in-None-clause-grows c = c.push.ensures.grows

pub returns-in-None-clause-answer : goal.returns-in-None-clause-answer
returns-in-None-clause-answer c = c.push.ensures.answer

pub returns-in-None-clause-refused : goal.returns-in-None-clause-refused
returns-in-None-clause-refused c = c.push.ensures.refused

pub returns-in-None-clause-first : goal.returns-in-None-clause-first
returns-in-None-clause-first c = ok_from c.push.result _ _ (λ h e. omega (arith, e)) c.push.ensures.first

pub push-requires : goal.push-requires
push-requires c =
    node_follows c.args.self.now c.self.inside.vars c.self.inside.limit c.self.inside.nodes.keys (asked (goal.at.push-requires c).After-self) c.self.view_is
    (λ same. true≢false (sym (eq-eqb c.args.low c.args.high same) ∙ sym c.if-eq.ensures)) c.requires.low c.requires.high c.in-None.ensures
