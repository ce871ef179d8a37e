use Rattle.std.proofs.Common.{ℕ, ◌<◌}
use Rattle.wide_sums.specs.inside.Rows.{VanishesIn}
use Rattle.wide_sums.proofs.window.vanishes.Given as goal

abbrev pub invariant-loop-turn : goal.invariant-loop-turn
invariant-loop-turn l = (k : ℕ) → k < l.turn → VanishesIn l.definitions l.window.sums.items k l.sum
