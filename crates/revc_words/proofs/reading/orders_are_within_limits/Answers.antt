use Rattle.revc_words.proofs.LimitLemmas.{orders_are_within_limits}
use Rattle.revc_words.proofs.reading.orders_are_within_limits.Goals as goal

pub returns : goal.returns
returns c = orders_are_within_limits
