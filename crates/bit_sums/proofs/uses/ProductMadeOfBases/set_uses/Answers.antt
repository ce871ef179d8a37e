use Rattle.dependency_graph.proofs.TableLemmas.{made_of_itself, used_then}
use Rattle.bit_sums.proofs.uses.ProductMadeOfBases.set_uses.Goals as goal

pub returns : goal.returns
returns c =
    let p = c.args.self.now in
    used_then c.args.table.now c.set_all_uses.new.table c.set_all_uses-2.new.table p.first p.second c.args.place
    (rw (c.first.ensures.first, made_of_itself p.first) at c.set_all_uses.ensures)
    (rw (c.second.ensures.second, made_of_itself p.second) at c.set_all_uses-2.ensures)
