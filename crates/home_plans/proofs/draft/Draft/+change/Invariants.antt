use Rattle.home_plans.proofs.draft.Draft.+change.Given as goal

abbrev pub decreases-change : goal.decreases-change
decreases-change l = l.depth
