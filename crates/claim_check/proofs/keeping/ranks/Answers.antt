use Rattle.list_facts.specs.Bits.{bit_of}
use Rattle.claim_check.proofs.RankLemmas.{ranks_more}
use Rattle.claim_check.proofs.keeping.ranks.Goals as goal

pub loop-mark-preserved : goal.loop-mark-preserved
loop-mark-preserved c = ranks_more (bit_of c.args.marks.now) c.loop-mark.mark-index c.loop-mark.count c.from-count.result c.loop-mark.table.items
    c.push.new.self.items c.from-count.ensures c.in_ok-push.ensures.items c.loop-mark.invariant
