use Rattle.std.proofs.Common.{◌≡◌, ◌<◌, [], length, refl, sym, subst, ap, ◌∙◌, arith}
use Rattle.std.specs.BinaryHeap.{heap_items}
use Rattle.std.proofs.lemmas.Bool.{true≢false}
use Rattle.std.proofs.lemmas.List.{nil_from_length}
use Rattle.std.proofs.lemmas.List.Sorted.{length_permutation}
use Rattle.held_nodes.specs.inside.Lines.{HeapView, IsLineHeap, IsLeastFree, with_taken}
use Rattle.held_nodes.proofs.FreeLineLemmas.{IsTop, lines_without_top, top_is_least, seen_top, top_not_all_out, IsLineHeap-seen, lines_when_empty}
use Rattle.held_nodes.proofs.FreeLineLemmas.{least_when_empty, seen_when_empty, not_all_out_when_empty, all_out_when_empty}
use Rattle.held_nodes.proofs.PeakLemmas.{peak_taken}
use Rattle.held_nodes.proofs.heap.Heap.take.Goals as goal

top : (c : goal.In-Some) → IsTop c.self.inside.limit c.self.inside.next c.in-Some.field-0 (heap_items c.self.inside.free) (heap_items c.pop.new.self)
top c = record {
  lines = c.self.invariant.lines;
  moved = c.in-Some.ensures.permutation;
  least = (c.in-Some.ensures.heap_order c.self.invariant.ordered).1;
}

pub invariant_of-self : goal.invariant_of-self
invariant_of-self c =
    let moved = length_permutation _ _ c.in-Some.ensures.permutation in
    record {
      lines = lines_without_top _ _ _ _ _ (top c);
      room = omega (arith, c.self.invariant.room, c.in-Some.ensures.capacity);
      len = omega (arith, c.self.invariant.len, c.in-Some.ensures.len, moved);
      ordered = (c.in-Some.ensures.heap_order c.self.invariant.ordered).0;
    }

pub returns-in-Some-clause-least : goal.returns-in-Some-clause-least
returns-in-Some-clause-least c = subst (λ (h : HeapView). IsLeastFree h c.in-Some.field-0.0) c.self.view_is (top_is_least _ _ _ _ _ (top c))

pub returns-in-Some-clause-taken : goal.returns-in-Some-clause-taken
returns-in-Some-clause-taken c = seen_top _ _ _ _ _ (top c) ∙ ap (λ (h : HeapView). with_taken h c.in-Some.field-0.0) c.self.view_is

pub returns-in-Some-clause-none : goal.returns-in-Some-clause-none
returns-in-Some-clause-none c =
    let fewer : length c.args.self.now.out < c.args.self.now.limit = subst (λ (h : HeapView). length h.out < h.limit) c.self.view_is
    (top_not_all_out _ _ _ _ _ (top c)) in
    (λ e. absurd (true≢false e), λ e. absurd (omega arith))

pub returns-then-self-clause-none : goal.returns-then-self-clause-none
returns-then-self-clause-none c =
    let none = nil_from_length _ (sym c.self.invariant.len ∙ c.in_default.ensures.none) in
    let all = subst (λ (h : HeapView). length h.out ≡ h.limit) c.self.view_is (all_out_when_empty _ _ _ none c.if-self.true) in
    (λ e. all, λ e. refl)

empty : (c : goal.After-self-1) → heap_items c.self.inside.free ≡ []
empty c = nil_from_length _ (sym c.self.invariant.len ∙ c.in_default.ensures.none)

fresh : (c : goal.After-self-1) → c.self.inside.next < c.self.inside.limit
fresh c = omega (arith, c.self.invariant.lines.in_limit, c.if-self.false)

pub returns-clause-least : goal.returns-clause-least
returns-clause-least c = subst (λ (h : HeapView). IsLeastFree h c.self.inside.next) c.self.view_is (least_when_empty _ _ _ (empty c) (fresh c))

pub returns-clause-taken : goal.returns-clause-taken
returns-clause-taken c =
    seen_when_empty _ _ _ _ (empty c) (c.in_default.ensures.unchanged.0 ∙ empty c) (fresh c)
    ∙ ap (λ (h : HeapView). with_taken h c.self.inside.next) c.self.view_is

pub returns-clause-none : goal.returns-clause-none
returns-clause-none c =
    let fewer : length c.args.self.now.out < c.args.self.now.limit = subst (λ (h : HeapView). length h.out < h.limit) c.self.view_is
    (not_all_out_when_empty _ _ _ (empty c) (fresh c)) in
    (λ e. absurd (true≢false e), λ e. absurd (omega arith))

pub returns-in-Some-clause-peak : goal.returns-in-Some-clause-peak
returns-in-Some-clause-peak c =
    peak_taken c.args.self.now _ c.in-Some.field-0.0 (subst IsLineHeap c.self.view_is (IsLineHeap-seen _ _ _ c.self.invariant.lines))
    (IsLineHeap-seen _ _ _ (lines_without_top _ _ _ _ _ (top c))) (returns-in-Some-clause-least c) (returns-in-Some-clause-taken c)

pub returns-clause-peak : goal.returns-clause-peak
returns-clause-peak c =
    peak_taken c.args.self.now _ c.self.inside.next (subst IsLineHeap c.self.view_is (IsLineHeap-seen _ _ _ c.self.invariant.lines))
    (IsLineHeap-seen _ _ _ (lines_when_empty _ _ _ (c.in_default.ensures.unchanged.0 ∙ empty c) (fresh c))) (returns-clause-least c) (returns-clause-taken c)
