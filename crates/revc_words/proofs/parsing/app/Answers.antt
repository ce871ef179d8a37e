use Rattle.std.proofs.Common.{◌≡◌, ◌∙◌, sym, ap, length, arith}
use Rattle.std.proofs.lemmas.Result.{IfOk-weaker}
use Rattle.clap.specs.Words.{app_of, with_rule}
use Rattle.revc_words.proofs.LoopLemmas.{building_more, built_with_words}
use Rattle.revc_words.specs.inside.Parsing.{takes_any}
use Rattle.revc_words.proofs.parsing.app.Goals as goal

pub loop-name-preserved : goal.loop-name-preserved
loop-name-preserved c =
    building_more _ _ _ _ _ _ c.loop-name-test.true c.loop-name.invariant
    (c.in_ok-app.ensures ∙ ap (with_rule (app_of c.loop-name.app)) c.option.ensures.rule)

pub returns : goal.returns
returns c =
    let over : length c.spelling-spelling.result.options.now ≡ c.loop-name.name-index =
    omega (arith, c.loop-name-test.false, c.loop-name.auto.name-index-end) in
    IfOk-weaker c.with-2.result _ _
    (λ more. built_with_words _ _ _ _ _ _ over c.loop-name.invariant
    (sym c.if-not-takes_any.false ∙ c.takes_any.ensures ∙ ap takes_any c.spelling-spelling.ensures.takes) c.any_words.ensures.rule) c.with-2.ensures
