use Rattle.std.proofs.Common.{IfSome, Option, refl, subst}
use Rattle.sum_cuts.specs.Cuts.{AreOverCut}
use Rattle.cut_sweeping.specs.declared.regions.Region.{Region}
use Rattle.cut_sweeping.proofs.SweepLemmas.{holds_with}
use Rattle.cut_sweeping.proofs.cuts.Cuts.product_at_home.Goals as goal

pub returns-in_default-take_home-clause-cuts : goal.returns-in_default-take_home-clause-cuts
returns-in_default-take_home-clause-cuts c =
    holds_with c.args.products.now c.args.self.now _ (c.take_home.ensures c.args.products.now c.requires.regions).left refl c.requires

pub refresh-requires-clause-cuts : goal.refresh-requires-clause-cuts
refresh-requires-clause-cuts c =
    holds_with c.args.products.now c.args.self.now _ (c.take_home.ensures c.args.products.now c.requires.regions).left refl c.requires

pub refresh-requires-clause-region : goal.refresh-requires-clause-region
refresh-requires-clause-region c =
    subst (λ (found : Option Region). IfSome found (λ r. AreOverCut c.args.products.now r.cut)) c.in-Some.is
    (c.take_home.ensures c.args.products.now c.requires.regions).taken
