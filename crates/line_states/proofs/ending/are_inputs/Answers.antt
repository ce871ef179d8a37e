use Rattle.std.proofs.Common.{◌≡◌, ◌∙◌, ◌∷◌, [], List, sym, arith}
use Rattle.std.proofs.lemmas.Bool.{false≢true}
use Rattle.dependency_graph.specs.declared.node.Base.{Base}
use Rattle.dependency_graph.specs.declared.node.Base.TheVariants as bases
use Rattle.line_states.proofs.EndLemmas.{from_at, from_more}
use Rattle.line_states.proofs.ending.are_inputs.Goals as goal

pub loop-i-preserved : goal.loop-i-preserved
loop-i-preserved c =
    from_more (λ i (set : List Base). set ≡ bases.Input i ∷ []) 0 c.loop-i.i c.loop-i.i c.args.sets.now c.index-sets-i.result (omega arith)
    c.loop-i-test.true c.loop-i.invariant (sym c.index-sets-i.is ∙ sym c.items.ensures ∙ c.is_alone.ensures.0 c.if-not-is_alone.false)

pub returns-then-not-is_alone : goal.returns-then-not-is_alone
returns-then-not-is_alone c = (
  λ t. absurd (false≢true t),
  λ all.
      (let here = from_at (λ k (set : List Base). set ≡ bases.Input k ∷ []) 0 c.loop-i.i c.loop-i.i c.args.sets.now c.index-sets-i.result
      (omega arith) c.loop-i-test.true all in
      sym c.if-not-is_alone.true ∙ c.is_alone.ensures.1 (c.items.ensures ∙ c.index-sets-i.is ∙ here)),
)
