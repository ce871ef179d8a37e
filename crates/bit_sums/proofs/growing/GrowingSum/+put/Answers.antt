use Rattle.std.proofs.lemmas.Result.{on_ok_weaker}
use Rattle.bit_sums.proofs.GrowingLemmas.{put_done, put_more}
use Rattle.bit_sums.proofs.growing.GrowingSum.+put.Goals as goal

pub returns-in-Some : goal.returns-in-Some
returns-in-Some t c =
    on_ok_weaker c.put.result
    (put_more c.args.self.now c.args.product c.put_once.new.self c.in-Some.next c.put.new.self (rw c.in-Some.is at c.in_ok-next.ensures)) c.put.ensures

pub returns-in-None : goal.returns-in-None
returns-in-None t c = put_done c.args.self.now c.args.product c.put_once.new.self (rw c.in-None.is at c.in_ok-next.ensures)
