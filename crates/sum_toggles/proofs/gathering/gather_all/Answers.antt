use Rattle.list_facts.proofs.AllLemmas.{AllByRecursion-at}
use Rattle.sum_toggles.proofs.gathering.gather_all.Goals as goal

pub gather-requires-clause-apart : goal.gather-requires-clause-apart
gather-requires-clause-apart c = AllByRecursion-at _ c.args.bits.now c.loop-base.base-index _ c.requires.apart c.loop-base-test.true
