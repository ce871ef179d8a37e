use Rattle.std.proofs.Common.{map, take}
use Rattle.circuit_tidy.specs.Blocks.{addition_of}
use Rattle.circuit_tidy.specs.inside.BitRows.{AddRows}
use Rattle.circuit_tidy.proofs.rows.add_block.Given as goal

abbrev pub invariant-loop-flip : goal.invariant-loop-flip
invariant-loop-flip l = AddRows l.lines l.fn.words l.words (map addition_of (take l.flip-index l.block))
