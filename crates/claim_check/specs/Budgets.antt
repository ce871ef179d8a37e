-- The budget numbers: how many lines and gates are enough for the circuits of each plan.
use Rattle.std.specs.Prelude.{ℕ, ◌+◌, ◌*◌, ◌^◌, min, nat_le, Bool, if◌then◌else◌, List, sum_by}
use Rattle.std.specs.List.{list_all}

-- What budgets are counted from: the numbers of inputs, outputs and steps, the width, and for each
-- step the number of its monomials. The steps are the writes of a tape, or the nodes of a graph.
pub record Measures : Type 0 where
  pub inputs : ℕ
  pub outputs : ℕ
  pub steps : ℕ
  pub width : ℕ
  pub monomials : List ℕ

-- ---- a line for each step, none cleaned before the end

abbrev pub plain_lines : Measures → ℕ → ℕ
plain_lines m borrowed = m.inputs + m.outputs + m.steps + borrowed

abbrev pub plain_gates : Measures → ℕ
plain_gates m = 4 * m.steps + m.outputs

-- ---- pebbling by halves, down to one step, on so many levels

-- the numbers of the lean row: a line for each node, and what all toggles of lean nodes and outputs
-- weigh at most
abbrev pub lean_lines : Measures → ℕ → ℕ
lean_lines m borrowed = m.inputs + m.outputs + m.steps + borrowed

abbrev pub lean_gates : Measures → ℕ
lean_gates m = 58 * m.steps + 5 * m.outputs

abbrev pub fine_lines : Measures → ℕ → ℕ → ℕ
fine_lines m levels borrowed = m.inputs + 2 * m.outputs + m.width * levels + borrowed

abbrev pub fine_gates : Measures → ℕ → ℕ
fine_gates m levels = 4 * 3 ^ levels + m.outputs

-- ---- pebbling by halves, down to a block of steps, on so many levels

abbrev pub block_lines : Measures → ℕ → ℕ → ℕ → ℕ
block_lines m block levels borrowed =
    m.inputs + 2 * m.outputs + m.width * levels + min block m.steps + borrowed

abbrev pub block_gates : Measures → ℕ → ℕ → ℕ
block_gates m block levels = 8 * block * 3 ^ levels + m.outputs

-- ---- each step cleaned after its last use, by its monomials

-- a step with more monomials is not cleaned before the end
abbrev pub most_cleaned : ℕ
most_cleaned = 64

abbrev pub is_cleaned : ℕ → Bool
is_cleaned count = nat_le count most_cleaned

-- the gates that make a step of so many monomials and clean it
abbrev pub step_gates : ℕ → ℕ → ℕ
step_gates inputs count = 4 + min count most_cleaned * (10 * inputs + 1)

abbrev pub eager_lines : Measures → ℕ → ℕ
eager_lines m borrowed =
    m.inputs + m.outputs
    + (if list_all is_cleaned m.monomials then min m.steps (m.width + 1) else m.steps)
    + borrowed

abbrev pub eager_gates : Measures → ℕ
eager_gates m = m.outputs + 2 * sum_by (step_gates m.inputs) m.monomials
