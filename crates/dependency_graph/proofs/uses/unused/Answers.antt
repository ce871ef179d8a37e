use Rattle.std.proofs.Common.{ℕ, List, [], ◌∷◌, ◌++◌, sym, ap, ◌∙◌}
use Rattle.dependency_graph.proofs.TableLemmas.{below_next}
use Rattle.dependency_graph.proofs.uses.unused.Goals as goal

pub loop-n-preserved : goal.loop-n-preserved
loop-n-preserved c =
    c.in_ok-push.ensures.items ∙ ap (λ (front : List ℕ). front ++ c.loop-n.n ∷ []) c.loop-n.invariant ∙ sym (below_next c.loop-n.n)
