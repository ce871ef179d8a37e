use Rattle.std.proofs.Common.{subst, sym, ap, ◌∙◌}
use Rattle.std.specs.List.{AllByRecursion}
use Rattle.format_parts.specs.Names.{names_in, IsText}
use Rattle.format_parts.proofs.NameLemmas.{text_in, text_more}
use Rattle.format_parts.proofs.names.Names.texts.Goals as goal

pub new-requires-clause-some : goal.new-requires-clause-some
new-requires-clause-some c = (text_in c.as_slice-name-items.result.now c.loop-name.name-index _
    (subst (AllByRecursion IsText) (sym (ap names_in c.as_slice-name-items.ensures.keys ∙ c.self.view_is)) c.requires) c.loop-name-test.true).0

pub new-requires-clause-few : goal.new-requires-clause-few
new-requires-clause-few c = (text_in c.as_slice-name-items.result.now c.loop-name.name-index _
    (subst (AllByRecursion IsText) (sym (ap names_in c.as_slice-name-items.ensures.keys ∙ c.self.view_is)) c.requires) c.loop-name-test.true).1

pub loop-name-preserved : goal.loop-name-preserved
loop-name-preserved c =
    text_more c.as_slice-name-items.result.now c.loop-name.name-index _ c.in_ok-new.field-0 c.loop-name.texts.items c.push.new.self.items
    c.loop-name-test.true c.in_ok-new.ensures c.in_ok-push.ensures.items c.loop-name.invariant
