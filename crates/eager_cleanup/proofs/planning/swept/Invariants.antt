use Rattle.std.proofs.Common.{[]}
use Rattle.eager_cleanup.specs.inside.Known.{AreFirstValues}
use Rattle.eager_cleanup.specs.inside.Sweeps.{IsSwept}
use Rattle.eager_cleanup.proofs.planning.swept.Given as goal

abbrev pub invariant-loop-node : goal.invariant-loop-node
invariant-loop-node l = IsSwept l.graph l.fn.forward.budget l.node [] l.forward × AreFirstValues l.graph l.node l.known.items
