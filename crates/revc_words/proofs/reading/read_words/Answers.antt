use Rattle.std.proofs.Common.{Err, ap, sym, ◌∙◌}
use Rattle.std.proofs.lemmas.Result.{IfOk-weaker}
use Rattle.revc_words.specs.Words.{order_of}
use Rattle.revc_words.proofs.OrderLemmas.{begins_with, texts_behind, not_parsed, not_given, gives_order, exactly, exactly_err}
use Rattle.revc_words.proofs.ParsingLemmas.{passed}
use Rattle.revc_words.proofs.reading.read_words.Goals as goal

pub returns-in_err-matches-clause-usage : goal.returns-in_err-matches-clause-usage
returns-in_err-matches-clause-usage c =
    let begun = begins_with c.args.words.now c.name-item.result c.as_str.result.now c.in-Some.command c.in-len1-up.len_at_least c.name-item.is
    c.as_str.ensures.value (sym c.named.ensures ∙ c.in-Some.is) in
    exactly_err _ _ c.from_residual.result c.from_residual.ensures.1
    (λ is. not_parsed _ _ c.in-Some.command begun (texts_behind c.args.words.now _ _ begun)
    (c.in_err-matches.ensures.usage (ap Err (passed c.in_err-matches.field-0.0 c.from_residual.result is c.from_residual.ensures.1))))

pub returns-clause-ok : goal.returns-clause-ok
returns-clause-ok c =
    let begun = begins_with c.args.words.now c.name-item.result c.as_str.result.now c.in-Some.command c.in-len1-up.len_at_least c.name-item.is
    c.as_str.ensures.value (sym c.named.ensures ∙ c.in-Some.is) in
    IfOk-weaker c.order.result _ _
    (λ o h. gives_order _ _ c.in-Some.command _ (order_of o) begun (texts_behind c.args.words.now _ _ begun) c.in_ok-matches.ensures.ok h)
    c.order.ensures.ok

pub returns-clause-usage : goal.returns-clause-usage
returns-clause-usage c =
    let begun = begins_with c.args.words.now c.name-item.result c.as_str.result.now c.in-Some.command c.in-len1-up.len_at_least c.name-item.is
    c.as_str.ensures.value (sym c.named.ensures ∙ c.in-Some.is) in
    let texts = texts_behind c.args.words.now _ _ begun in
    exactly _ c.order.result
    (IfOk-weaker c.order.result _ _
    (λ o h. gives_order _ _ c.in-Some.command _ (order_of o) begun texts c.in_ok-matches.ensures.ok h) c.order.ensures.ok)
    (λ is. not_given _ _ c.in-Some.command _ begun texts c.in_ok-matches.ensures.ok (c.order.ensures.usage is))
