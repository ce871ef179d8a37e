use Rattle.std.proofs.Common.{arith, ◌-◌}
use Rattle.std.proofs.lemmas.Nat.{one_shl}
use Rattle.wide_sums.proofs.window.turns.Goals as goal

pub returns : goal.returns
returns c = rw c.saturating_sub.ensures (one_shl (c.args.rank - 6) 64 (omega (arith, c.requires)))
