use Rattle.std.proofs.Common.{◌≡◌, ℕ, ◌+◌, ◌-◌, ◌<◌, List, get_or, length, reverse, arith, sym, subst}
use Rattle.std.proofs.lemmas.List.{length-reverse}
use Rattle.decision_diagram.specs.Diagrams.{Triple, DiagramView}
use Rattle.decision_diagram.specs.inside.Flipping.{IsInner}
use Rattle.decision_diagram.proofs.PlaceLemmas.{inner_at_place}
use Rattle.decision_diagram.proofs.diagram.Diagram.inner.Goals as goal

pub returns : goal.returns
returns c =
    let items = c.self.inside.nodes.keys in
    let node = c.index-as_slice-f.result in
    let place : ℕ = c.f.inside.number - 2 in
    let known = subst (λ (d : DiagramView). c.args.f < 2 + length d.nodes) (sym c.self.view_is) c.requires.number in
    let number : place + 2 ≡ c.args.f = omega (arith, c.f.view_is) in
    subst (λ (d : DiagramView). IsInner d.vars d.nodes c.args.f node) c.self.view_is
    (subst (λ (n : ℕ). IsInner c.self.inside.vars (reverse items) n node) number
    (inner_at_place c.self.inside.vars items place node c.self.invariant.ordered
    (omega (arith, known, number, length-reverse items))
    (subst (λ (xs : List Triple). get_or xs place node ≡ node) c.as_slice.ensures.keys (sym c.index-as_slice-f.is))))
