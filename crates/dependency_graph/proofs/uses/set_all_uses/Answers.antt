use Rattle.dependency_graph.proofs.TableLemmas.{one_more}
use Rattle.dependency_graph.proofs.uses.set_all_uses.Goals as goal

pub loop-one-preserved : goal.loop-one-preserved
loop-one-preserved g c =
    one_more g.T.MadeOfBases.bases c.loop-one.table c.set_uses.new.table c.args.all.now c.loop-one.one-index c.args.place c.one-item.result _
    c.loop-one-test.true c.one-item.is c.set_uses.ensures c.loop-one.invariant
