use Rattle.std.proofs.Common.{◌<◌, List, Option, None, length, get_or, ap, sym, subst}
use Rattle.qasm_format.specs.declared.names.Span.{Span}
use Rattle.qasm_format.proofs.DeclaredLemmas.{copied_more, text_at}
use Rattle.qasm_format.proofs.names.Declared.copies.Goals as goal

pub push_register-requires : goal.push_register-requires
push_register-requires c = text_at c.self.inside.names c.loop-place.place c.at.result.now c.self.invariant.texts c.at.ensures

pub loop-place-preserved : goal.loop-place-preserved
loop-place-preserved c =
    let spans = c.self.inside.spans.items in
    let i = c.loop-place.place in
    let same = c.deref-span-items.ensures.value in
    copied_more _ c.loop-place.copies.items c.push_register.new.copies.items c.self.inside.names spans i c.at.result.now _ c.at.ensures
    (subst (λ (ss : List (Option Span)). i < length ss) same c.loop-place-test.true)
    (ap (λ (ss : List (Option Span)). get_or ss i None) (sym same)) c.in_ok-push_register.ensures c.loop-place.invariant
