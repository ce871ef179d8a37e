use Rattle.std.proofs.Common.{◌≤◌, sym, ◌∙◌, arith}
use Rattle.sum_cuts.proofs.TableLemmas.{early_part, late_none, late_one}
use Rattle.sum_cuts.proofs.table.part.Goals as goal

pub returns-then-place-lt6 : goal.returns-then-place-lt6
returns-then-place-lt6 c low l = early_part c.args.place c.args.i low c.if-place-lt6.true l

pub returns-then-has : goal.returns-then-has
returns-then-has c low l =
    let late : 6 ≤ c.args.place = omega (arith, c.if-place-lt6.false) in
    late_one c.args.place c.args.i low late l (sym c.has.ensures ∙ c.if-has.true)

pub returns-else-has : goal.returns-else-has
returns-else-has c low l =
    let late : 6 ≤ c.args.place = omega (arith, c.if-place-lt6.false) in
    late_none c.args.place c.args.i low late l (sym c.has.ensures ∙ c.if-has.false)
