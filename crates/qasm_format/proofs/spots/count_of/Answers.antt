use Rattle.std.proofs.Common.{sym, ◌∙◌, subst}
use Rattle.qasm_format.specs.declared.spots.Spot.TheVariants.{Line}
use Rattle.qasm_format.specs.Registers.{AreSpread}
use Rattle.qasm_format.proofs.SpreadLemmas.{shared_stop, no_count, none_left, count_found}
use Rattle.qasm_format.proofs.spots.count_of.Goals as goal

pub returns-in_err-count-clause-none : goal.returns-in_err-count-clause-none
returns-in_err-count-clause-none c = λ e. no_count c.args.spots.now
    (c.loop-spot.invariant ∙ shared_stop c.args.spots.now c.loop-spot.spot-index (Line 0) c.loop-spot.count c.loop-spot-test.true (sym c.in_err-count.ensures))

pub returns-clause-some : goal.returns-clause-some
returns-clause-some c =
    subst (AreSpread c.args.spots.now) (sym c.unwrap_or.ensures)
    (count_found c.args.spots.now c.loop-spot.count (c.loop-spot.invariant ∙ none_left _ _ _ c.loop-spot-test.false))
