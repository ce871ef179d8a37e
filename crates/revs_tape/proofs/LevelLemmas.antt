-- The number of levels of so many steps in blocks, found by counting the steps.
use Rattle.std.proofs.Common.{◌≡◌, ℕ, zero, suc, ◌*◌, ◌<◌, ◌≤◌, ◌^◌, inl, inr, ap, subst, sym, ◌∙◌, arith}
use Rattle.std.proofs.lemmas.Bool.{cases_lt}
use Rattle.std.proofs.lemmas.Nat.{pow_pos}
use Rattle.std.proofs.Math.Nat.{mul-le-mul_left, pow-succ'}
use Rattle.revs_tape.specs.Levels.{IsLevels, LevelsAreDetermined}

-- no steps have no level
pub none_for_none : (block : ℕ) → IsLevels block 0 0
none_for_none block = record { enough = omega arith; least = λ other enough. omega arith }

twice : (block levels : ℕ) → block * 2 ^ suc levels ≡ 2 * (block * 2 ^ levels)
twice block levels = ap (λ (n : ℕ). block * n) (pow-succ' 2 levels) ∙ omega arith

some_fit : (block levels : ℕ) → 1 ≤ block → 1 ≤ block * 2 ^ levels
some_fit block levels some = omega (arith, some, mul-le-mul_left block (pow_pos levels))

-- one more step: a level more only where the blocks are used up
one_more : (block steps levels : ℕ) → 1 ≤ block → IsLevels block steps levels → (block * 2 ^ levels < suc steps)
    → IsLevels block (suc steps) (suc levels)
one_more block steps levels some is full = record {
  enough = omega (arith, is.enough, full, twice block levels, some_fit block levels some);
  least = λ other enough. elim (cases_lt levels other) as (λ _. suc levels ≤ other) [
    | inl more ↦ omega (arith, more)
    | inr not_more ↦
        let low : levels ≤ other = is.least other (omega (arith, enough)) in
        let same : levels ≡ other = omega (arith, low, not_more) in
        let fits : suc steps ≤ block * 2 ^ levels = subst (λ (n : ℕ). suc steps ≤ block * 2 ^ n) (sym same) enough in
        absurd (omega (arith, fits, full))
  ];
}

as_many : (block steps levels : ℕ) → IsLevels block steps levels → suc steps ≤ block * 2 ^ levels → IsLevels block (suc steps) levels
as_many block steps levels is fits = record { enough = fits; least = λ other enough. is.least other (omega (arith, enough)) }

record Levels (block steps : ℕ) : Type 0 where
  levels : ℕ
  are : IsLevels block steps levels

some_levels : (block steps : ℕ) → 1 ≤ block → Levels block steps
some_levels block zero some = record { levels = 0; are = none_for_none block }
some_levels block (suc steps) some =
    let before = some_levels block steps some in
    elim (cases_lt (block * 2 ^ before.levels) (suc steps)) as (λ _. Levels block (suc steps)) [
      | inl full ↦ record { levels = suc before.levels; are = one_more block steps before.levels some before.are full }
      | inr fits ↦ record { levels = before.levels; are = as_many block steps before.levels before.are fits }
    ]

pub levels_are_determined : LevelsAreDetermined
levels_are_determined block steps some =
    let found = some_levels block steps some in
    record {
      levels = found.levels;
      are = found.are;
      only = λ other are. omega (arith, are.least found.levels found.are.enough, found.are.least other are.enough);
    }
