use Rattle.revs_lexer.specs.Rest.{left}
use Rattle.revs_parser.proofs.PassingLemmas.{halts_on}
use Rattle.revs_parser.proofs.NumberLemmas.{steps_begun, steps_more, steps_done, steps_halt}
use Rattle.revs_parser.proofs.numbers.more_steps.Goals as goal

pub loop-minus-init : goal.loop-minus-init
loop-minus-init c = record { read = steps_begun c.new-steps.result.items (left c.args.tokens) c.new-steps.ensures.items }

pub returns-in_err-unit : goal.returns-in_err-unit
returns-in_err-unit c =
    halts_on _ _ _ c.from_residual.ensures.1 (steps_halt c.in-Some.minus c.loop-minus.invariant.read c.in-Some.ensures.found c.in_err-unit.ensures)

pub loop-minus-preserved : goal.loop-minus-preserved
loop-minus-preserved c = record {
  read = steps_more c.in-Some.minus c.loop-minus.invariant.read c.in-Some.ensures.found c.in_ok-unit.ensures c.in_ok-push.ensures.items;
}

pub returns : goal.returns
returns c = steps_done c.loop-minus.invariant.read c.in_default.ensures.none
