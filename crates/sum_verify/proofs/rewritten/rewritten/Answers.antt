use Rattle.sum_verify.proofs.RewrittenLemmas.{found_outputs}
use Rattle.sum_verify.proofs.rewritten.rewritten.Goals as goal

pub returns : goal.returns
returns c = found_outputs _ _ c.few_products.result c.in_ok-lean.ensures.lean c.few_products.ensures.fewer c.few_products.ensures.keeps
