use Rattle.home_plans.proofs.draft.Draft.+raise.Given as goal

abbrev pub decreases-raise : goal.decreases-raise
decreases-raise l = l.depth
