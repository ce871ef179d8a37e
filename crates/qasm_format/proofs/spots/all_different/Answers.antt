use Rattle.std.proofs.Common.{sym, ◌∙◌}
use Rattle.qasm_format.proofs.SpreadLemmas.{all_more, meets}
use Rattle.qasm_format.proofs.spots.all_different.Goals as goal

pub returns-then-not-are_different-clause-meet : goal.returns-then-not-are_different-clause-meet
returns-then-not-are_different-clause-meet c = λ e. record {
  i = c.loop-i.i;
  below = c.loop-i-test.true;
  meet = meets c.loop-i.i c.args.spots.now (sym c.are_different.ensures ∙ c.if-not-are_different.true);
}

pub loop-i-preserved : goal.loop-i-preserved
loop-i-preserved c = all_more c.args.spots.now c.loop-i.i c.loop-i.invariant (sym c.are_different.ensures ∙ c.if-not-are_different.false)
