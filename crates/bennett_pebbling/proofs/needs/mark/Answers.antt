use Rattle.std.proofs.Common.{rules}
use Rattle.bennett_pebbling.proofs.needs.mark.Goals as goal

pub returns-then-j-lo : goal.returns-then-j-lo
returns-then-j-lo c = search rules
