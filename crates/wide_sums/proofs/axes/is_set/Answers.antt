use Rattle.std.proofs.Common.{ℕ, ◌==◌, ap}
use Rattle.std.proofs.lemmas.Nat.Bits.{shr_and_one}
use Rattle.wide_sums.proofs.axes.is_set.Goals as goal

pub returns : goal.returns
returns c = ap (λ (x : ℕ). x == 1) (shr_and_one c.args.number c.args.place)
