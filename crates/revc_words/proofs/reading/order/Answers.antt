use Rattle.std.proofs.Common.{◌≡◌, Some, sym, ◌∙◌, subst}
use Rattle.std.specs.Prelude.{IfOk}
use Rattle.clap.specs.Words.{found_of, rows_of}
use Rattle.revc_words.specs.Words.{order_of}
use Rattle.revc_words.proofs.ParsingLemmas.{words_found, order_found}
use Rattle.revc_words.proofs.reading.order.Goals as goal

pub returns-in-Some-get_strs-clause-ok : goal.returns-in-Some-get_strs-clause-ok
returns-in-Some-get_strs-clause-ok c =
    let rows = rows_of (found_of c.args.matches.now) in
    let words = words_found (found_of c.args.matches.now) c.get_strs.result _ c.get_strs.ensures c.in-Some-get_strs.is in
    let same = order_found c.args.command rows _ c.in-Some.values c.values_given.result c.values_given.ensures c.in-Some.is words in
    subst (λ o. IfOk c.order_by.result (λ order. o ≡ Some (order_of order))) (sym same) c.order_by.ensures.ok

pub returns-in-Some-get_strs-clause-usage : goal.returns-in-Some-get_strs-clause-usage
returns-in-Some-get_strs-clause-usage c =
    let rows = rows_of (found_of c.args.matches.now) in
    let words = words_found (found_of c.args.matches.now) c.get_strs.result _ c.get_strs.ensures c.in-Some-get_strs.is in
    let same = order_found c.args.command rows _ c.in-Some.values c.values_given.result c.values_given.ensures c.in-Some.is words in
    λ is. same ∙ c.order_by.ensures.usage is

pub returns-in-None-clause-ok : goal.returns-in-None-clause-ok
returns-in-None-clause-ok c =
    let rows = rows_of (found_of c.args.matches.now) in
    let words = words_found (found_of c.args.matches.now) c.get_strs.result _ c.get_strs.ensures c.in-None.is in
    let same = order_found c.args.command rows _ c.in-Some.values c.values_given.result c.values_given.ensures c.in-Some.is words in
    subst (λ o. IfOk c.order_by-in-None.result (λ order. o ≡ Some (order_of order))) (sym same) c.order_by-in-None.ensures.ok

pub returns-in-None-clause-usage : goal.returns-in-None-clause-usage
returns-in-None-clause-usage c =
    let rows = rows_of (found_of c.args.matches.now) in
    let words = words_found (found_of c.args.matches.now) c.get_strs.result _ c.get_strs.ensures c.in-None.is in
    let same = order_found c.args.command rows _ c.in-Some.values c.values_given.result c.values_given.ensures c.in-Some.is words in
    λ is. same ∙ c.order_by-in-None.ensures.usage is
