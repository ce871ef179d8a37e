use Rattle.product_sums.proofs.RecordLemmas.{pushed_sum}
use Rattle.product_sums.proofs.products.Products.keep.Goals as goal

pub invariant_of-self-2 : goal.invariant_of-self-2
invariant_of-self-2 c =
    (pushed_sum c.self.inside.given c.self.inside.atoms c.args.self.now c.self.inside.known.items c.push.new.self.items c.in_ok-known.known
    c.args.first.now c.args.second.now c.args.value c.self.view_is c.in_ok-push.ensures.items c.in_ok-known.ensures c.requires c.self.invariant).table

pub returns-clause-same : goal.returns-clause-same
returns-clause-same c =
    (pushed_sum c.self.inside.given c.self.inside.atoms c.args.self.now c.self.inside.known.items c.push.new.self.items c.in_ok-known.known
    c.args.first.now c.args.second.now c.args.value c.self.view_is c.in_ok-push.ensures.items c.in_ok-known.ensures c.requires c.self.invariant).same
