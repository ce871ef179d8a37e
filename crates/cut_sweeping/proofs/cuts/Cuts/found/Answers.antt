use Rattle.std.proofs.Common.{IfSome, Option, refl, subst}
use Rattle.sum_cuts.specs.Cuts.{AreOverCut}
use Rattle.cut_sweeping.specs.declared.regions.Region.{Region}
use Rattle.cut_sweeping.proofs.SweepLemmas.{begun_for, holds_with}
use Rattle.cut_sweeping.proofs.cuts.Cuts.found.Goals as goal

pub returns-in-Some-clause-cuts : goal.returns-in-Some-clause-cuts
returns-in-Some-clause-cuts c =
    holds_with c.args.products.now c.args.self.now _ (c.take_out.ensures c.args.products.now c.requires.regions).left refl c.requires

pub returns-in-Some-clause-region : goal.returns-in-Some-clause-region
returns-in-Some-clause-region c =
    subst (λ (found : Option Region). IfSome found (λ r. AreOverCut c.args.products.now r.cut)) c.in-Some.is
    (c.take_out.ensures c.args.products.now c.requires.regions).taken

pub returns-clause-cuts : goal.returns-clause-cuts
returns-clause-cuts c =
    holds_with c.args.products.now c.args.self.now _ (c.take_out.ensures c.args.products.now c.requires.regions).left refl c.requires

pub returns-clause-region : goal.returns-clause-region
returns-clause-region c = begun_for c.args.products.now c.begun.result c.begun.ensures
