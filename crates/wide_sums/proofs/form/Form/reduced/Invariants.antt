use Rattle.std.proofs.Common.{take}
use Rattle.wide_sums.specs.inside.Forms.{IsReduced}
use Rattle.wide_sums.proofs.form.Form.reduced.Given as goal

abbrev pub invariant-loop-axis : goal.invariant-loop-axis
invariant-loop-axis l = IsReduced (take l.axis-index l.axes) l.fn.self l.form
