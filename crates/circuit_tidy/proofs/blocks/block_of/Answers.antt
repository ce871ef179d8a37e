use Rattle.std.proofs.Common.{◌∙◌, sym, arith}
use Rattle.circuit_tidy.proofs.BlockLemmas.{block_grows, block_ends, at_end, at_next}
use Rattle.circuit_tidy.proofs.blocks.block_of.Goals as goal
use Rattle.circuit_tidy.proofs.blocks.block_of.Goals.{then-block-test+else-takes, else-block-test}

pub block-preserved : goal.block-preserved
block-preserved c =
    let grown = block_grows c.args.flips.now c.block.length c.block.lines.items c.deref.result.now c.add_lines_of.new.lines.items _ c.block-test.true
    c.block.invariant.1 c.block.invariant.2 c.deref.ensures.value (sym c.takes.ensures ∙ c.if-takes.true) c.in_ok-add_lines_of.ensures in
    (omega arith, grown.0, grown.1, grown.2)

pub returns : goal.returns
returns c =
    elim c.block-test.branch [
      | then-block-test+else-takes w ↦
          block_ends c.args.flips.now (record { length = c.block.length; lines = c.block.lines }) c.requires.some c.requires.cx c.block.invariant.0
          c.block.invariant.1 c.block.invariant.2 c.block.invariant.3
          (at_next w.deref.result.now _ w.block-test.true w.deref.ensures.value (sym w.if-takes.ensures))
      | else-block-test w ↦
          block_ends c.args.flips.now (record { length = c.block.length; lines = c.block.lines }) c.requires.some c.requires.cx c.block.invariant.0
          c.block.invariant.1 c.block.invariant.2 c.block.invariant.3 (at_end w.block-test.false)
    ]
