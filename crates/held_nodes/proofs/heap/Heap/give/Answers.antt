use Rattle.std.proofs.Common.{◌≡◌, ◌+◌, ◌∷◌, true, sym, subst, ap, ◌∙◌, arith}
use Rattle.std.specs.Result.{IsOk}
use Rattle.std.specs.List.Sorted.{IsPermutation}
use Rattle.std.specs.BinaryHeap.{heap_items, heap_len}
use Rattle.std.proofs.lemmas.List.Sorted.{length_permutation}
use Rattle.held_nodes.specs.inside.Lines.{HeapView, contains, without_line}
use Rattle.held_nodes.specs.inside.Heaps.{AreLines}
use Rattle.held_nodes.proofs.FreeLineLemmas.{lines_with_given, lines_moved, seen_given, room_for_one, at_ok}
use Rattle.held_nodes.proofs.heap.Heap.give.Goals as goal

lines : (c : goal.After-push) → AreLines c.self.inside.limit c.self.inside.next (record { 0 = c.args.line } ∷ heap_items c.self.inside.free)
lines c = lines_with_given _ _ _ _ c.self.invariant.lines (subst (λ (h : HeapView). contains h.out c.args.line ≡ true) (sym c.self.view_is) c.requires)

pushed : (c : goal.After-push) → IsOk c.push.result
pushed c = c.push.ensures.succeeds (omega (arith, c.self.invariant.len, c.self.invariant.room, room_for_one _ _ _ _ (lines c)))

moved : (c : goal.After-push) → IsPermutation (record { 0 = c.args.line } ∷ heap_items c.self.inside.free) (heap_items c.push.new.self)
moved c = at_ok c.push.result _ (pushed c) c.push.ensures.permutation

pub invariant_of-self : goal.invariant_of-self
invariant_of-self c =
    let longer : heap_len c.push.new.self ≡ heap_len c.self.inside.free + 1 = at_ok c.push.result _ (pushed c) c.push.ensures.len in
    record {
      lines = lines_moved _ _ _ _ (moved c) (lines c);
      room = omega (arith, c.self.invariant.room, c.push.ensures.capacity);
      len = omega (arith, c.self.invariant.len, longer, length_permutation _ _ (moved c));
      ordered = at_ok c.push.result _ (pushed c) c.push.ensures.heap_order c.self.invariant.ordered;
    }

pub returns : goal.returns
returns c = seen_given _ _ _ _ _ (moved c) ∙ ap (λ (h : HeapView). record h { out = without_line h.out c.args.line }) c.self.view_is
