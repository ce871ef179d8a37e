use Rattle.std.proofs.Common.{rules}
use Rattle.bit_sums.specs.Sums.{bases_of}
use Rattle.dependency_graph.proofs.TableLemmas.{use_inside, use_told}
use Rattle.sum_graph.proofs.graph.SumGraph.last_use.Goals as goal

pub index-requires : goal.index-requires
index-requires c = let is = use_inside bases_of bases_of _ c.self.inside.outputs.items c.self.invariant.1 (rw (← c.self.view_is) at c.requires) in search rules

pub returns : goal.returns
returns c =
    rw (← c.self.view_is) (use_told bases_of bases_of _ c.self.inside.outputs.items c.self.invariant.1 (rw (← c.self.view_is) at c.requires) _ c.index.ensures)
