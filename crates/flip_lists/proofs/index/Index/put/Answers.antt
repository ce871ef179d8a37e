use Rattle.std.proofs.Common.{◌∙◌, ap, sym, subst}
use Rattle.flip_lists.specs.inside.Index.{IsPartner, HasNoPartner, HoldLikes, flips_in}
use Rattle.flip_lists.specs.Settling.{with_flip}
use Rattle.flip_lists.proofs.IndexLemmas.{emptied, put_out, put_behind, slot_within, on_ok_both, lines_of_flip}
use Rattle.flip_lists.proofs.index.Index.put.Goals as goal

pub partner-requires : goal.partner-requires
partner-requires c = subst (λ s. HoldLikes s c.args.flip c.likely_places-places.result.now) (sym c.deref.ensures.value) c.likely_places-places.ensures

pub returns-in-Some : goal.returns-in-Some
returns-in-Some c =
    let index = c.bound-bound.ensures.kept.index in
    let slots = c.bound-bound.new.self.slots.items in
    let partner = subst (λ s. IsPartner s c.args.flip c.bound-bound.result c.in-Some.place) c.deref.ensures.value c.in-Some.ensures in
    record {
      index = emptied c.args.lines slots c.bound-bound.new.self.by_target.lists.items c.bound-bound.new.self.by_control.lists.items c.in-Some.place
          (slot_within slots c.in-Some.place partner.other partner.is) index;
      flips = put_out slots c.args.flip c.bound-bound.result c.in-Some.place c.bound-bound.ensures.bound partner
          ∙ ap (λ s. with_flip c.args.flip (flips_in s)) c.bound-bound.ensures.kept.slots;
    }

pub returns-in-None : goal.returns-in-None
returns-in-None c =
    let lines = lines_of_flip c.args.lines c.args.flip c.requires.flip in
    let slots = c.bound-bound.new.self.slots.items in
    let alone = subst (λ s. HasNoPartner s c.args.flip c.bound-bound.result) c.deref.ensures.value c.in-None.ensures in
    on_ok_both c.append.result
    (λ index is. record {
      index = index;
      flips = ap flips_in is ∙ put_behind slots c.args.flip c.bound-bound.result lines.apart c.bound-bound.ensures.bound alone
          ∙ ap (λ s. with_flip c.args.flip (flips_in s)) c.bound-bound.ensures.kept.slots;
    }) c.append.ensures.index c.append.ensures.slots
