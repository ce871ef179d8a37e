use Rattle.flip_lists.proofs.IndexLemmas.{contents-set, found_at}
use Rattle.flip_lists.proofs.index.Places.behind_last.Goals as goal

pub returns-clause-found : goal.returns-clause-found
returns-clause-found c =
    found_at c.args.slots.now c.args.self.now.lists.items c.args.line c.behind_last.result c.index_mut.result.now c.behind_last.new.places c.requires.line
    c.index_mut.ensures.value c.behind_last.ensures

pub returns-clause-others : goal.returns-clause-others
returns-clause-others c = contents-set c.args.self.now.lists.items c.args.line c.behind_last.new.places c.requires.line
