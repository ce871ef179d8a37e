use Rattle.std.proofs.Common.{refl, arith}
use Rattle.flip_lists.proofs.OnLineLemmas.{put_on}
use Rattle.flip_lists.proofs.looks.OnLines.push_on.Goals as goal

pub returns-in_ok-push : goal.returns-in_ok-push
returns-in_ok-push c =
    put_on c.args.self.now _ c.args.line c.args.place c.push.new.self c.index_mut.result.now (omega arith) c.index_mut.ensures.value
    c.in_ok-push.ensures.items refl
