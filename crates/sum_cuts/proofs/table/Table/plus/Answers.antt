use Rattle.std.proofs.Common.{bit_xor, get_or, length-set, ◌∙◌, arith}
use Rattle.std.proofs.lemmas.List.Edits.{fill_by_more}
use Rattle.sum_cuts.proofs.TableLemmas.{sum_bit}
use Rattle.sum_cuts.proofs.table.Table.plus.Goals as goal

pub loop-i-preserved : goal.loop-i-preserved
loop-i-preserved c = (
  length-set _ _ _ ∙ c.loop-i.invariant.0,
  fill_by_more (λ k. bit_xor (get_or c.args.self.now.words k 0) (get_or c.args.other.now.words k 0)) c.loop-i.words c.loop-i.i 0
      (omega (arith, c.loop-i-test.true, c.loop-i.invariant.0)) c.loop-i.invariant.1,
)

pub returns : goal.returns
returns c =
    sum_bit c.args.self.now.words c.args.other.now.words c.loop-i.words
    (λ k low. c.loop-i.invariant.1 k (omega (arith, low, c.loop-i-test.false)))
