use Rattle.circuit_tidy.proofs.BitRowLemmas.{block_more}
use Rattle.circuit_tidy.proofs.rows.add_block.Goals as goal

pub loop-flip-preserved : goal.loop-flip-preserved
loop-flip-preserved c =
    block_more c.args.lines.now c.args.words.now c.loop-flip.words c.add_flip.new.words c.args.block.now c.loop-flip.flip-index _ c.loop-flip-test.true
    c.loop-flip.invariant c.add_flip.ensures
