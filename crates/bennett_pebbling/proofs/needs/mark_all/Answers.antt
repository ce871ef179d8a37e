use Rattle.std.proofs.Common.{[], ◌∷◌, get_or, ap, ◌∙◌, subst}
use Rattle.std.specs.List.{flat_map}
use Rattle.std.proofs.lemmas.List.{get_or_default, take_all}
use Rattle.dependency_graph.specs.declared.node.Base.{Base}
use Rattle.dependency_graph.specs.declared.node.Base.TheVariants as bases
use Rattle.dependency_graph.specs.Graphs.{nodes_among}
use Rattle.bennett_pebbling.specs.inside.Marks.{HasMarked}
use Rattle.bennett_pebbling.proofs.NeedLemmas.{marked_further, marked_one, singles}
use Rattle.bennett_pebbling.proofs.needs.mark_all.Goals as goal

pub loop-base-preserved : goal.loop-base-preserved
loop-base-preserved c =
    let all = c.args.bases.now in
    let i = c.loop-base.base-index in
    let x = get_or all i (bases.Input 0) in
    marked_further (λ (b : Base). b ∷ []) c.args.lo c.args.marks.now c.loop-base.marks c.mark.new.marks all i x c.loop-base-test.true
    (get_or_default all i (bases.Input 0) x c.loop-base-test.true) c.loop-base.invariant
    (marked_one c.args.lo x c.loop-base.marks c.mark.new.marks c.mark.ensures)

pub returns : goal.returns
returns c =
    let all = c.args.bases.now in
    let whole = ap (flat_map (λ (b : Base). b ∷ [])) (take_all c.loop-base.base-index all c.loop-base-test.false) ∙ singles all in
    subst (λ z. HasMarked c.args.lo (nodes_among z) c.args.marks.now c.loop-base.marks) whole c.loop-base.invariant
