use Rattle.std.proofs.Common.{◌≡◌, take}
use Rattle.sum_graph.specs.Graphs.{products_in}
use Rattle.program_commands.proofs.ands.products_in.Given as goal

abbrev pub invariant-loop-sum : goal.invariant-loop-sum
invariant-loop-sum l = l.count ≡ products_in (take l.sum-index l.sums)
