use Rattle.std.proofs.Common.{IfSome, Option, refl, subst}
use Rattle.sum_cuts.specs.Cuts.{AreOverCut}
use Rattle.cut_sweeping.specs.declared.regions.Region.{Region}
use Rattle.cut_sweeping.proofs.SweepLemmas.{holds_parts}
use Rattle.cut_sweeping.proofs.cuts.Cuts.is_zero_at.Goals as goal

pub returns-in_err-keep-clause-cuts : goal.returns-in_err-keep-clause-cuts
returns-in_err-keep-clause-cuts c =
    c.keep.ensures c.args.products.now
    (subst (λ (found : Option Region). IfSome found (λ r. AreOverCut c.args.products.now r.cut)) c.in-Some.is c.in_ok-region.ensures.region)
    (holds_parts c.args.products.now c.region.new.self _ refl refl c.region.ensures.cuts)

pub returns-clause-cuts : goal.returns-clause-cuts
returns-clause-cuts c =
    c.keep.ensures c.args.products.now
    (subst (λ (found : Option Region). IfSome found (λ r. AreOverCut c.args.products.now r.cut)) c.in-Some.is c.in_ok-region.ensures.region)
    (holds_parts c.args.products.now c.region.new.self _ refl refl c.region.ensures.cuts)
