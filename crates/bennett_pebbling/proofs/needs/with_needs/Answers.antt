use Rattle.std.proofs.Common.{◌∙◌, sym, subst, ap, List, Bool, length}
use Rattle.bennett_pebbling.specs.inside.Marks.{AreNeeds}
use Rattle.bennett_pebbling.proofs.NeedLemmas.{written}
use Rattle.bennett_pebbling.proofs.needs.with_needs.Goals as goal

pub returns : goal.returns
returns c =
    let old = c.deref_mut.ensures.value in
    let needs : AreNeeds c.args.graph.now c.args.lo c.args.marks.items c.mark_needs.new.marks =
    subst (λ (xs : List Bool). AreNeeds c.args.graph.now c.args.lo xs c.mark_needs.new.marks) old c.mark_needs.ensures in
    subst (AreNeeds c.args.graph.now c.args.lo c.args.marks.items)
    (sym (written c.args.marks.len c.args.marks.items c.mark_needs.new.marks needs.count (ap length (sym old) ∙ c.deref_mut.ensures.len))) needs
