use Rattle.std.proofs.Common.{ap, ◌∷◌, ◌∙◌}
use Rattle.revs_terms.specs.declared.term.Name.{Name}
use Rattle.name_scope.proofs.NearerLemmas.{nearer_more}
use Rattle.name_scope.proofs.names.Names.bind_all.Goals as goal

pub loop-name-preserved : goal.loop-name-preserved
loop-name-preserved c =
    let e = c.name-item.is in
    let f = c.in_ok-bind.ensures in
    nearer_more c.args.names.now c.loop-name.name-index c.name-item.result _ _ _ c.loop-name-test.true c.loop-name.invariant
    (f ∙ ap (λ (n : Name). n.text ∷ c.loop-name.self) e)
