use Rattle.std.proofs.Common.{refl, subst, sym}
use Rattle.cut_sweeping.specs.inside.Regions.{AreRegions}
use Rattle.cut_sweeping.proofs.SweepLemmas.{holds_with, region_kept}
use Rattle.cut_sweeping.proofs.cuts.Cuts.keep.Goals as goal

pub returns-in_err-push : goal.returns-in_err-push
returns-in_err-push c t over holds =
    holds_with t c.args.self.now _ (subst (AreRegions t) (sym c.in_err-push.ensures.items) (c.make_room.ensures t holds.regions)) refl holds

pub returns : goal.returns
returns c t over holds =
    holds_with t c.args.self.now _
    (region_kept t c.make_room.new.regions.items c.push.new.self.items _ c.in_ok-push.ensures.items over (c.make_room.ensures t holds.regions)) refl holds
