use Rattle.std.proofs.Common.{length-set, ◌∙◌, arith}
use Rattle.sum_cuts.proofs.TableLemmas.{IsVariableWord, each_more, variable_bit}
use Rattle.sum_cuts.proofs.table.Table.variable.Goals as goal

pub loop-i-preserved : goal.loop-i-preserved
loop-i-preserved c = (
  length-set _ _ _ ∙ c.loop-i.invariant.0,
  each_more (IsVariableWord c.args.place) c.loop-i.words c.loop-i.i c.part.result (omega (arith, c.loop-i-test.true, c.loop-i.invariant.0))
      c.loop-i.invariant.1 c.part.ensures,
)

pub returns : goal.returns
returns c =
    variable_bit c.loop-i.words c.args.place (λ k low. c.loop-i.invariant.1 k (omega (arith, low, c.loop-i-test.false)))
