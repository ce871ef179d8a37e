use Rattle.std.proofs.Common.{◌∙◌, ap, arith, map}
use Rattle.std.proofs.lemmas.List.{take_all}
use Rattle.sum_graph.specs.inside.Marks.{is_shared_mark}
use Rattle.sum_graph.proofs.MarkLemmas.{shared_by}
use Rattle.sum_graph.proofs.shared.shared_nodes.Goals as goal

pub returns-clause-shared : goal.returns-clause-shared
returns-clause-shared c =
    shared_by c.args.graph.now c.mark_outputs.new.uses.items _ c.mark_outputs.ensures
    (c.loop-mark.invariant ∙ ap (map is_shared_mark) (take_all _ _ (omega arith) ∙ c.deref-mark-items.ensures.value))
