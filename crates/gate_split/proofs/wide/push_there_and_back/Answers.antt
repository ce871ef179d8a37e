use Rattle.std.proofs.Common.{arith}
use Rattle.gate_split.proofs.BuildingLemmas.{started_back}
use Rattle.gate_split.proofs.wide.push_there_and_back.Goals as goal

pub loop-i-init : goal.loop-i-init
loop-i-init c = (started_back c.args.rungs.now _ _ c.in_ok-push_copies.ensures, omega arith)
