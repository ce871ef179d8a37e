use Rattle.revs_run.proofs.machine.Machine.+outward.Given as goal

abbrev pub decreases-outward : goal.decreases-outward
decreases-outward l = l.count
