use Rattle.flip_lists.proofs.IndexLemmas.{contents-push}
use Rattle.flip_lists.proofs.index.Places.push.Goals as goal

pub returns : goal.returns
returns c =
    contents-push c.args.self.now.lists.items c.args.line c.args.place c.push.new.self c.index_mut.result.now c.requires c.index_mut.ensures.value
    c.in_ok-push.ensures.items
