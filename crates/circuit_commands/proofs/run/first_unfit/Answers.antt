use Rattle.std.proofs.Common.{◌∙◌, ap}
use Rattle.circuit_commands.specs.Run.{free_lines}
use Rattle.circuit_commands.proofs.RunLemmas.{accepted_word, checked_more, checked_all, refused_word, unfit_at}
use Rattle.circuit_commands.proofs.run.first_unfit.Goals as goal

pub loop-place-init : goal.loop-place-init
loop-place-init c = tt

pub returns-then-not-is_input_word : goal.returns-then-not-is_input_word
returns-then-not-is_input_word c =
    unfit_at c.args.source.now c.args.words.now c.loop-place.place c.index-words-place.result c.as_str.result.now c.loop-place-test.true
    c.index-words-place.is c.as_str.ensures.value c.loop-place.invariant
    (refused_word c.args.source.now c.free_lines-inputs.result c.as_str.result.now c.is_input_word.result
    (c.free_lines-inputs.ensures ∙ ap free_lines c.constants.ensures) c.is_input_word.ensures c.if-not-is_input_word.true)

pub loop-place-preserved : goal.loop-place-preserved
loop-place-preserved c =
    checked_more c.args.source.now c.args.words.now c.loop-place.place c.index-words-place.result c.as_str.result.now c.loop-place-test.true
    c.index-words-place.is c.as_str.ensures.value c.loop-place.invariant
    (accepted_word c.args.source.now c.free_lines-inputs.result c.as_str.result.now c.is_input_word.result
    (c.free_lines-inputs.ensures ∙ ap free_lines c.constants.ensures) c.is_input_word.ensures c.if-not-is_input_word.false)

pub returns : goal.returns
returns c = checked_all c.args.source.now c.args.words.now c.loop-place.place c.loop-place-test.false c.loop-place.invariant
