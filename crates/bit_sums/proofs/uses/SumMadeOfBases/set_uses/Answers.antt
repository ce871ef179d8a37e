use Rattle.std.specs.List.{flat_map}
use Rattle.dependency_graph.proofs.TableLemmas.{made_of_itself, used_then}
use Rattle.bit_sums.specs.Sums.{product_bases}
use Rattle.bit_sums.proofs.uses.SumMadeOfBases.set_uses.Goals as goal

pub returns : goal.returns
returns c =
    let s = c.args.self.now in
    used_then c.args.table.now c.set_all_uses.new.table c.set_all_uses-2.new.table s.bits (flat_map product_bases s.products) c.args.place
    (rw (c.bits.ensures, made_of_itself s.bits) at c.set_all_uses.ensures) (rw c.products.ensures at c.set_all_uses-2.ensures)
