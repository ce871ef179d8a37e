use Rattle.std.proofs.Common.{refl}
use Rattle.wide_sums.proofs.form.Form.bit.Goals as goal

pub returns : goal.returns
returns c = record { bits = c.in_ok-from_slice.ensures.items; word = refl }
