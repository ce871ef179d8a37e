use Rattle.std.proofs.Common.{◌∙◌, List, length, slice_index_or, subst, sum, sym, rules}
use Rattle.revs_tape.specs.declared.tape.Entry.{Entry}
use Rattle.revs_tape.specs.Tapes.{AreWidths, IsKnownEntry}
use Rattle.claim_assumptions.proofs.BuildingLemmas.{copied_known}
use Rattle.claim_assumptions.proofs.building.bare.Goals as goal

pub new-made-requires : goal.new-made-requires
new-made-requires c = subst AreWidths (sym (c.in_ok-to_vec.ensures.items_if_clones_equal (λ x y same. same) ∙ c.params.ensures.params))
    c.params.ensures.tape.widths

pub push-requires-clause-known : goal.push-requires-clause-known
push-requires-clause-known c =
    let t = c.args.tape.now in
    subst (λ (es : List Entry). IsKnownEntry (sum c.loop-entry.made.params) (length c.loop-entry.made.entries) (slice_index_or es c.loop-entry.entry-index _))
    (sym c.entries-entry-items.ensures.entries)
    (copied_known t c.loop-entry.made c.loop-entry.entry-index _ c.params.ensures.tape c.loop-entry.invariant (search rules))
