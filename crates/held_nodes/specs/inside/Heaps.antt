-- What the fields of a heap stand for, and what they keep.
use Rattle.std.specs.Prelude.{◌≡◌, ℕ, ◌≤◌, ◌==◌, nat_lt, Bool, cond, ◌&&◌, List, length}
use Rattle.std.specs.List.{filter, sum_by, range_with_len}
use Rattle.std.specs.BinaryHeap.{heap_items, heap_len, heap_capacity, IsHeap}
use Rattle.std.specs.Ordering.{nat_cmp}
use Rattle.std.specs.declared.cmp.Reverse.{Reverse}
use Rattle.held_nodes.specs.declared.heap.Heap.TheInside.{Inside}
use Rattle.held_nodes.specs.inside.Lines.{HeapView}

-- how often a line stands in a list
abbrev pub count_of : List (Reverse ℕ) → ℕ → ℕ
count_of free line = sum_by (λ (x : Reverse ℕ). cond (x.0 == line) 1 0) free

-- a line is out where it was handed out once and is not among the free ones
abbrev pub is_out : ℕ → List (Reverse ℕ) → ℕ → Bool
is_out next free line = nat_lt line next && (count_of free line == 0)

abbrev pub out_of : ℕ → ℕ → List (Reverse ℕ) → List ℕ
out_of limit next free = filter (is_out next free) (range_with_len 0 limit)

abbrev pub view_of : Inside → HeapView
view_of h = record {
  limit = h.limit;
  out = out_of h.limit h.next
      (heap_items h.free);
  peak = h.next;
}

-- the free lines are different, and all lines that were ever handed out are below `next`
pub record AreLines (limit next : ℕ) (free : List (Reverse ℕ)) : Type 0 where
  pub in_limit : next ≤ limit
  pub below : (line : ℕ) → next ≤ line → count_of free line ≡ 0
  pub different : (line : ℕ) → count_of free line ≤ 1

-- the least free line is at the top, and there is room for all lines
pub record IsKept (h : Inside) : Type 0 where
  pub lines : AreLines h.limit h.next (heap_items h.free)
  pub room : h.limit ≤ heap_capacity h.free
  pub len : heap_len h.free ≡ length (heap_items h.free)
  pub ordered : IsHeap (λ (x y : Reverse ℕ). nat_cmp y.0 x.0) (heap_items h.free)
