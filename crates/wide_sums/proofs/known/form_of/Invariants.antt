use Rattle.std.proofs.Common.{take}
use Rattle.wide_sums.specs.inside.Forms.{IsFormOf}
use Rattle.wide_sums.proofs.known.form_of.Given as goal

abbrev pub invariant-loop-base : goal.invariant-loop-base
invariant-loop-base l = IsFormOf l.known (take l.base-index l.bits) l.form
