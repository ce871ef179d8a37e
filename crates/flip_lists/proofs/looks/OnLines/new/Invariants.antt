use Rattle.flip_lists.proofs.OnLineLemmas.{ArePutSoFar}
use Rattle.flip_lists.proofs.looks.OnLines.new.Given as goal

abbrev pub invariant-loop-place : goal.invariant-loop-place
invariant-loop-place l = ArePutSoFar l.lines l.flips l.place l.on_lines
