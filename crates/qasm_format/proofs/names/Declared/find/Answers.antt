use Rattle.std.proofs.Common.{ap, sym, ◌∙◌, subst, None, refl}
use Rattle.qasm_format.specs.inside.Names.{DeclaredView}
use Rattle.qasm_format.proofs.DeclaredLemmas.{FindSays, found_at, found_none}
use Rattle.qasm_format.proofs.names.Declared.find.Goals as goal

pub returns-in_err-place-clause-none : goal.returns-in_err-place-clause-none
returns-in_err-place-clause-none c = λ none.
    (subst (λ rs. FindSays rs c.args.name.now None) (ap (λ (v : DeclaredView). v.registers) c.self.view_is)
    (found_none c.self.inside.names c.self.inside.spans.items c.args.name.now (sym c.place.ensures ∙ c.in_err-place.was))).none refl

pub returns-clause-some : goal.returns-clause-some
returns-clause-some c =
    (subst (λ rs. FindSays rs c.args.name.now c.index.result.now) (ap (λ (v : DeclaredView). v.registers) c.self.view_is)
    (found_at c.self.inside.names c.self.inside.spans.items c.self.inside.lines c.in_ok-place.place c.args.name.now c.index.result.now c.self.invariant
    (sym c.place.ensures ∙ c.in_ok-place.was) c.index.ensures)).some

pub returns-clause-bound : goal.returns-clause-bound
returns-clause-bound c =
    (subst (λ rs. FindSays rs c.args.name.now c.index.result.now) (ap (λ (v : DeclaredView). v.registers) c.self.view_is)
    (found_at c.self.inside.names c.self.inside.spans.items c.self.inside.lines c.in_ok-place.place c.args.name.now c.index.result.now c.self.invariant
    (sym c.place.ensures ∙ c.in_ok-place.was) c.index.ensures)).bound

pub returns-clause-none : goal.returns-clause-none
returns-clause-none c =
    (subst (λ rs. FindSays rs c.args.name.now c.index.result.now) (ap (λ (v : DeclaredView). v.registers) c.self.view_is)
    (found_at c.self.inside.names c.self.inside.spans.items c.self.inside.lines c.in_ok-place.place c.args.name.now c.index.result.now c.self.invariant
    (sym c.place.ensures ∙ c.in_ok-place.was) c.index.ensures)).none
