use Rattle.wide_sums.specs.inside.Forms.{AreOpened}
use Rattle.wide_sums.proofs.window.opened.Given as goal

abbrev pub invariant-loop-node : goal.invariant-loop-node
invariant-loop-node l = AreOpened l.definitions l.axes l.known.items
