use Rattle.sum_verify.proofs.RewrittenLemmas.{product_held}
use Rattle.sum_verify.proofs.rewritten.product_form.Goals as goal

pub returns-clause-form : goal.returns-clause-form
returns-clause-form c =
    product_held _ _ _ _ _ c.args.product.now _ _ _ (rw c.first.ensures.first at c.in_ok-first.ensures.form)
    (rw c.second.ensures.second at c.in_ok-second.ensures.form) c.in_ok-product.ensures.product c.in_ok-product.ensures.determined
