use Rattle.std.proofs.Common.{◌≡◌, ℕ, ◌<◌}
use Rattle.linear_forms.specs.Pairs.{times}
use Rattle.linear_forms.proofs.pairs.is_symmetric.Given as goal

abbrev pub invariant-loop-place : goal.invariant-loop-place
invariant-loop-place l = (i j : ℕ) → i < l.place → times l.fn.pairs i j ≡ times l.fn.pairs j i
