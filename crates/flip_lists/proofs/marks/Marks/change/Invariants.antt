use Rattle.std.proofs.Common.{take}
use Rattle.std.specs.List.{fold}
use Rattle.flip_lists.specs.Marks.{Becomes, cleared, notes_of, with_freed, with_new}
use Rattle.flip_lists.proofs.marks.Marks.change.Given as goal

abbrev pub invariant-loop-flip : goal.invariant-loop-flip
invariant-loop-flip l = Becomes l.fn.self l.self (fold with_freed (cleared (notes_of l.fn.self)) (take l.flip-index l.block))

abbrev pub invariant-loop-flip-2 : goal.invariant-loop-flip-2
invariant-loop-flip-2 l =
    Becomes l.fn.self l.self (fold with_new (fold with_freed (cleared (notes_of l.fn.self)) l.block) (take l.flip-index l.new))
