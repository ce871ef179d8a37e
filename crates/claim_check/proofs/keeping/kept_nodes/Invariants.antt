use Rattle.std.proofs.Common.{◌≡◌, ◌++◌, drop}
use Rattle.list_facts.specs.Bits.{bit_of}
use Rattle.claim_check.specs.Kept.{kept_nodes}
use Rattle.claim_check.specs.inside.Marks.{number_in}
use Rattle.claim_check.proofs.keeping.kept_nodes.Given as goal

abbrev pub invariant-loop-k : goal.invariant-loop-k
invariant-loop-k l =
    l.nodes.items ++ kept_nodes (bit_of l.marks) (number_in l.table) l.k (drop l.k l.graph.nodes)
    ≡ kept_nodes (bit_of l.marks) (number_in l.table) 0 l.graph.nodes
