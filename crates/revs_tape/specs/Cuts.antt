-- Cuts of a list of steps. A step is the list of its operands, each the number of an earlier step,
-- and some steps are outputs. The writes of a tape are such steps, and so are the nodes of a graph.
use Rattle.std.specs.Prelude.{◌≡◌, ℕ, ◌≤◌, ◌==◌, Bool, ◌||◌, List, length, drop, filter}
use Rattle.std.specs.List.{list_any}
use Rattle.list_facts.specs.Lists.{below}

-- whether a number stands in the list
abbrev pub is_in : List ℕ → ℕ → Bool
is_in numbers i = list_any (λ (k : ℕ). k == i) numbers

-- whether step i is an output, or an operand of step j or of a later one
abbrev pub is_needed : List (List ℕ) → List ℕ → ℕ → ℕ → Bool
is_needed steps outputs j i =
    is_in outputs i || list_any (λ operands. is_in operands i) (drop j steps)

-- the cut at j: the steps below j that are needed at j or later
abbrev pub cut_at : List (List ℕ) → List ℕ → ℕ → List ℕ
cut_at steps outputs j = filter (is_needed steps outputs j) (below j)

-- The width: no cut is longer, and some cut is that long. The cuts lie before each step and behind
-- the last.
pub record IsWidth (steps : List (List ℕ)) (outputs : List ℕ) (width : ℕ) : Type 0 where
  pub most : (j : ℕ) → j ≤ length steps → length (cut_at steps outputs j) ≤ width
  pub at : ℕ
  pub inside : at ≤ length steps
  pub reached : length (cut_at steps outputs at) ≡ width
