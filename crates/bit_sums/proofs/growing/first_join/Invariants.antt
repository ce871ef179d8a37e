use Rattle.bit_sums.proofs.JoinLemmas.{IsFirstBelow}
use Rattle.bit_sums.proofs.growing.first_join.Given as goal

abbrev pub invariant-loop-place : goal.invariant-loop-place
invariant-loop-place l = IsFirstBelow l.place l.products l.product l.first
