use Rattle.revc_words.proofs.OrderLemmas.{one_order}
use Rattle.revc_words.proofs.reading.one_order.Goals as goal

pub returns : goal.returns
returns c = one_order
