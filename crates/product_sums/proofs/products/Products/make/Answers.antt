use Rattle.product_sums.proofs.RecordLemmas.{pushed_made}
use Rattle.product_sums.proofs.products.Products.make.Goals as goal

pub invariant_of-self-2 : goal.invariant_of-self-2
invariant_of-self-2 c =
    (pushed_made c.self.inside.given c.self.inside.atoms c.args.self.now c.self.inside.known.items c.push.new.self.items c.in_ok-known.known
    c.args.first.now c.args.second.now c.in_ok-value.value c.self.view_is c.in_ok-push.ensures.items c.in_ok-known.ensures c.in_ok-value.ensures
    c.requires.first c.requires.second c.self.invariant).table

pub returns-clause-extends : goal.returns-clause-extends
returns-clause-extends c =
    (pushed_made c.self.inside.given c.self.inside.atoms c.args.self.now c.self.inside.known.items c.push.new.self.items c.in_ok-known.known
    c.args.first.now c.args.second.now c.in_ok-value.value c.self.view_is c.in_ok-push.ensures.items c.in_ok-known.ensures c.in_ok-value.ensures
    c.requires.first c.requires.second c.self.invariant).extends

pub returns-clause-product : goal.returns-clause-product
returns-clause-product c =
    (pushed_made c.self.inside.given c.self.inside.atoms c.args.self.now c.self.inside.known.items c.push.new.self.items c.in_ok-known.known
    c.args.first.now c.args.second.now c.in_ok-value.value c.self.view_is c.in_ok-push.ensures.items c.in_ok-known.ensures c.in_ok-value.ensures
    c.requires.first c.requires.second c.self.invariant).product
