use Rattle.std.proofs.Common.{◌≡◌, ◌∙◌, sym, true}
use Rattle.std.proofs.lemmas.Option.{slice_get-get_or}
use Rattle.dependency_graph.specs.declared.node.Base.{Base}
use Rattle.sum_graph.specs.Graphs.{is_known}
use Rattle.few_products.proofs.DefinitionLemmas.{all_done, all_next}
use Rattle.few_products.proofs.definitions.are_known.Goals as goal

pub loop-base-preserved : goal.loop-base-preserved
loop-base-preserved c =
    let test = is_known c.args.inputs c.args.nodes in
    all_next (λ (b : Base). test b ≡ true) c.args.bits.now c.loop-base.base-index _
    (slice_get-get_or c.args.bits.now c.loop-base.base-index _ c.loop-base-test.true) c.loop-base.invariant
    (sym c.is_known_base.ensures ∙ c.if-not-is_known_base.false)

pub returns : goal.returns
returns c = λ yes. all_done _ c.args.bits.now c.loop-base.base-index c.loop-base-test.false c.loop-base.invariant
