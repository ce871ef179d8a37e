use Rattle.std.proofs.Common.{rules}
use Rattle.dependency_graph.specs.Graphs.{base_of, operands}
use Rattle.dependency_graph.proofs.TableLemmas.{use_inside, use_told}
use Rattle.claim_check.proofs.settled.Settled.last_use.Goals as goal

pub index-requires : goal.index-requires
index-requires c = let is = use_inside operands base_of _ c.self.inside.outputs.items c.self.invariant.1 (rw (← c.self.view_is) at c.requires) in search rules

pub returns : goal.returns
returns c =
    rw (← c.self.view_is) (use_told operands base_of _ c.self.inside.outputs.items c.self.invariant.1 (rw (← c.self.view_is) at c.requires) _ c.index.ensures)
