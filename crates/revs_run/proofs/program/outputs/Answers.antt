use Rattle.std.proofs.Common.{rules}
use Rattle.revs_run.proofs.program.outputs.Goals as goal

pub returns-then-len-gt-MOST_OUTPUTS : goal.returns-then-len-gt-MOST_OUTPUTS
returns-then-len-gt-MOST_OUTPUTS c = rw c.stuck.ensures (search rules)
