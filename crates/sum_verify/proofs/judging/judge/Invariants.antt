use Rattle.std.proofs.Common.{◌≡◌, ℕ, ◌<◌}
use Rattle.circuit_verify.specs.Compared.{comparison}
use Rattle.circuit_verify.specs.Verdicts.{IsRight}
use Rattle.sum_verify.proofs.judging.judge.Given as goal

abbrev pub invariant-loop-line : goal.invariant-loop-line
invariant-loop-line l = (l.products ≡ l.initial.products) × ((i : ℕ) → i < l.line → IsRight (comparison l.compared) i)
