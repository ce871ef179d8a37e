use Rattle.std.proofs.Common.{◌≡◌, ◌∙◌, List, sym, arith}
use Rattle.std.proofs.lemmas.Bool.{false≢true}
use Rattle.dependency_graph.specs.declared.node.Base.{Base}
use Rattle.line_states.specs.States.{ended_set}
use Rattle.line_states.proofs.EndLemmas.{from_at, from_more}
use Rattle.line_states.proofs.ending.are_outputs.Goals as goal

pub loop-k-preserved : goal.loop-k-preserved
loop-k-preserved c =
    from_more (λ k (set : List Base). set ≡ ended_set c.args.ends.start c.args.ends.inputs c.args.ends.nodes k) 0
    c.loop-k.k c.loop-k.k c.args.sets.now
    c.index-sets-k.result (omega arith) c.loop-k-test.true c.loop-k.invariant
    (sym c.index-sets-k.is ∙ sym c.items.ensures ∙ c.is_output.ensures.0 c.if-not-is_output.false)

pub returns-then-not-is_output : goal.returns-then-not-is_output
returns-then-not-is_output c = (
  λ t. absurd (false≢true t),
  λ all.
      (let here = from_at (λ k (set : List Base). set ≡ ended_set c.args.ends.start c.args.ends.inputs c.args.ends.nodes k) 0
      c.loop-k.k c.loop-k.k c.args.sets.now
      c.index-sets-k.result (omega arith) c.loop-k-test.true all in
      sym c.if-not-is_output.true ∙ c.is_output.ensures.1 (c.items.ensures ∙ c.index-sets-k.is ∙ here)),
)
