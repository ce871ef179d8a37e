use Rattle.std.proofs.Common.{◌≡◌, List, take}
use Rattle.list_facts.specs.Lists.{AllFrom}
use Rattle.dependency_graph.specs.declared.node.Base.{Base}
use Rattle.line_states.specs.States.{ended_set}
use Rattle.line_states.proofs.ending.are_outputs.Given as goal

abbrev pub invariant-loop-k : goal.invariant-loop-k
invariant-loop-k l = AllFrom (λ k (set : List Base). set ≡ ended_set l.ends.start l.ends.inputs l.ends.nodes k) 0 (take l.k l.sets)
