use Rattle.real_format.proofs.VerdictLemmas.{one_reading}
use Rattle.real_format.proofs.law.one_meaning.Goals as goal

pub returns : goal.returns
returns c text file other m n = (one_reading text).one_meaning file other m n
