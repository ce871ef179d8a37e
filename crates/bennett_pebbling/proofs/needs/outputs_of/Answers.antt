use Rattle.std.proofs.Common.{rules}
use Rattle.bennett_pebbling.proofs.needs.outputs_of.Goals as goal

pub returns : goal.returns
returns c = search rules
