-- Levels of a list of steps that is taken in blocks.
use Rattle.std.specs.Prelude.{◌≡◌, ℕ, ◌*◌, ◌≤◌, ◌^◌}

-- The number of levels of so many steps in blocks of this size: the least number c for which block
-- * 2 ^ c steps are enough. It is 0 where one block holds them all.
pub record IsLevels (block steps levels : ℕ) : Type 0 where
  pub enough : steps ≤ block * 2 ^ levels
  pub least : (other : ℕ) → steps ≤ block * 2 ^ other → levels ≤ other

-- So many steps have one number of levels, and no other.
pub record HasOneNumberOfLevels (block steps : ℕ) : Type 0 where
  pub levels : ℕ
  pub are : IsLevels block steps levels
  pub only : (other : ℕ) → IsLevels block steps other → other ≡ levels

-- The law: for every size of a block, each number of steps has one number of levels.
abbrev pub LevelsAreDetermined : Type 0
LevelsAreDetermined = (block steps : ℕ) → 1 ≤ block → HasOneNumberOfLevels block steps
