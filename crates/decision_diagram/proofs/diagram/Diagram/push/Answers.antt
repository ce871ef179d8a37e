use Rattle.std.proofs.Common.{◌≡◌, ◌∙◌, ◌+◌, ◌++◌, [], ◌∷◌, ap, length, reverse, Contains, subst, sym, arith}
use Rattle.std.proofs.lemmas.List.{length-reverse}
use Rattle.revc_base.proofs.ResultLemmas.{passes_on}
use Rattle.decision_diagram.specs.Diagrams.{DiagramView, IsCanonical, first_variable}
use Rattle.decision_diagram.specs.Growth.{StandsFor}
use Rattle.decision_diagram.specs.inside.Flipping.{node_function}
use Rattle.decision_diagram.proofs.GrowthLemmas.{Grows-refl}
use Rattle.decision_diagram.proofs.LookupLemmas.{new_goes_last}
use Rattle.decision_diagram.proofs.PlaceLemmas.{push_grows, push_fails, push_stands, push_full}
use Rattle.decision_diagram.proofs.diagram.Diagram.push.Goals as goal
use Rattle.decision_diagram.proofs.diagram.Diagram.push.Goals.{In_ok-insert}

goes_last : (c : goal.In_ok-insert) → c.insert.new.self.keys ≡ c.self.inside.nodes.keys ++ c.args.node ∷ []
goes_last c =
    let missing = subst (λ (d : DiagramView). Contains d.nodes c.args.node → ⊥) (sym c.self.view_is) c.requires.missing in
    c.in_ok-insert.ensures.keys ∙ new_goes_last c.self.inside.nodes.keys c.args.node missing

stands : (c : goal.In_ok-insert)
    → StandsFor (reverse c.insert.new.self.keys) (c.len-count.result + 2) (node_function c.args.self.now.nodes c.args.node)
    × (first_variable c.self.inside.vars (reverse c.insert.new.self.keys) (c.len-count.result + 2) ≡ c.args.node.variable)
stands c =
    push_stands c.args.self.now c.self.inside.vars c.self.inside.limit c.self.inside.nodes.keys c.insert.new.self.keys c.args.node
    (c.len-count.result + 2) c.self.view_is (goes_last c) (omega (arith, c.len-count.ensures.len))

pub returns-then-count-self-clause-refused : goal.returns-then-count-self-clause-refused
returns-then-count-self-clause-refused c =
    push_full c.args.self.now c.self.inside.vars c.self.inside.limit c.self.inside.nodes.keys c.args.node
    c.self.view_is c.self.invariant c.requires (omega (arith, c.len-count.ensures.len))

pub returns-then-count-self-clause-grows : goal.returns-then-count-self-clause-grows
returns-then-count-self-clause-grows c =
    let d = c.args.self.now in
    Grows-refl (node_function d.nodes c.args.node) d (subst (λ (e : DiagramView). IsCanonical e) c.self.view_is c.self.invariant)

pub returns-in_err-insert-clause-grows : goal.returns-in_err-insert-clause-grows
returns-in_err-insert-clause-grows c =
    push_fails c.args.self.now c.self.inside.vars c.self.inside.limit c.self.inside.nodes.keys
    (node_function c.args.self.now.nodes c.args.node) c.insert.new.self.keys c.self.view_is c.self.invariant c.in_err-insert.ensures.err

pub invariant_of-self : goal.invariant_of-self
invariant_of-self c = let g = returns-in_err-insert-clause-grows c in g.canonical

pub returns-in_err-insert-clause-refused : goal.returns-in_err-insert-clause-refused
returns-in_err-insert-clause-refused c = passes_on _ c.from_residual.result c.from_residual.ensures.1
    (omega (
      arith,
      ap length c.in_err-insert.ensures.err,
      length-reverse c.insert.new.self.keys,
      length-reverse c.self.inside.nodes.keys,
      c.self.invariant.within,
      c.len-count.ensures.len,
      c.if-count-self.false,
    ))

pub returns-clause-grows : goal.returns-clause-grows
returns-clause-grows c =
    push_grows c.args.self.now c.self.inside.vars c.self.inside.limit c.self.inside.nodes.keys c.insert.new.self.keys c.args.node
    c.self.view_is c.self.invariant c.requires (λ e. omega (arith, c.len-count.ensures.len)) (goes_last (goal.at.returns-clause-grows c).In_ok-insert)

pub returns-clause-answer : goal.returns-clause-answer
returns-clause-answer c = (stands (goal.at.returns-clause-answer c).In_ok-insert).0

pub returns-clause-first : goal.returns-clause-first
returns-clause-first c = (stands (goal.at.returns-clause-first c).In_ok-insert).1

pub invariant_of-self-2 : goal.invariant_of-self-2
invariant_of-self-2 c = let g = returns-clause-grows c in g.canonical
