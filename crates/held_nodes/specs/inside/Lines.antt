-- A heap of lines: some of the lines below its limit are out, and the others are free.
use Rattle.std.specs.Prelude.{◌≡◌, ℕ, ◌+◌, ◌<◌, ◌≤◌, ◌==◌, nat_lt, max, Bool, true, false, not, ◌||◌, if◌then◌else◌, List, [], ◌∷◌}
use Rattle.std.specs.List.{AllByRecursion, filter}
use Rattle.list_facts.specs.Lists.{IsRising}

-- its limit, the lines that are out, rising, and one more than the greatest line that was ever out
pub record HeapView : Type 0 where
  pub limit : ℕ
  pub out : List ℕ
  pub peak : ℕ

-- whether a line is among these
abbrev pub contains : List ℕ → ℕ → Bool
contains [] line = false
contains (x ∷ xs) line = (x == line) || contains xs line

-- what every heap keeps
pub record IsLineHeap (heap : HeapView) : Type 0 where
  pub rising : IsRising heap.out
  pub below_peak : AllByRecursion (λ line. line < heap.peak) heap.out
  pub in_limit : heap.peak ≤ heap.limit

-- the line is below the limit and not out, and all lesser lines are out
pub record IsLeastFree (heap : HeapView) (line : ℕ) : Type 0 where
  pub in_range : line < heap.limit
  pub free : contains heap.out line ≡ false
  pub least : (lesser : ℕ) → lesser < line → contains heap.out lesser ≡ true

-- rising lines with one more, in its place
abbrev pub with_line : List ℕ → ℕ → List ℕ
with_line [] line = line ∷ []
with_line (x ∷ xs) line = if nat_lt line x then line ∷ x ∷ xs else x ∷ with_line xs line

-- the lines other than this one
abbrev pub without_line : List ℕ → ℕ → List ℕ
without_line lines line = filter (λ x. not (x == line)) lines

-- the heap once the line is handed out
abbrev pub with_taken : HeapView → ℕ → HeapView
with_taken heap line =
    record heap { out = with_line heap.out line; peak = max heap.peak (line + 1) }
