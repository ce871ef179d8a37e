use Rattle.cut_sweeping.proofs.cuts.Cuts.refresh.Goals as goal

pub returns-clause-cuts : goal.returns-clause-cuts
returns-clause-cuts c = record {
  regions = c.requires.cuts.regions;
  zeros = c.learn_all.ensures c.args.products.now c.join_all.ensures c.requires.cuts.zeros;
}
