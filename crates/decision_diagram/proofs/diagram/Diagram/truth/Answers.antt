use Rattle.std.proofs.Common.{ℕ, sym, ◌∙◌, subst}
use Rattle.decision_diagram.specs.Growth.{StandsFor}
use Rattle.decision_diagram.proofs.RestrictionLemmas.{constant_stands, constant-byte}
use Rattle.decision_diagram.proofs.diagram.Diagram.truth.Goals as goal

pub returns-clause-stands : goal.returns-clause-stands
returns-clause-stands c =
    subst (λ (n : ℕ). StandsFor c.args.self.now.nodes n (λ a. c.args.b))
    (sym (c.from.ensures ∙ constant-byte c.args.b)) (constant_stands c.args.self.now.nodes c.args.b)
