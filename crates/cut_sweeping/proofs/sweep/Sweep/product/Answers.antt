use Rattle.cut_sweeping.proofs.SweepLemmas.{told, told_determined}
use Rattle.sum_cuts.proofs.CutLemmas.{determined_equal}
use Rattle.cut_sweeping.proofs.sweep.Sweep.product.Goals as goal

pub normal_product-requires-clause-first : goal.normal_product-requires-clause-first
normal_product-requires-clause-first c =
    determined_equal c.args.self.now c.args.first.now c.in_ok-first.first c.in_ok-first.ensures c.requires.first

pub normal_product-requires-clause-second : goal.normal_product-requires-clause-second
normal_product-requires-clause-second c =
    determined_equal c.args.self.now c.args.second.now c.in_ok-second.second c.in_ok-second.ensures c.requires.second

pub returns-clause-product : goal.returns-clause-product
returns-clause-product c =
    told c.args.self.now c.normal_product.new.self c.args.first.now c.args.second.now c.in_ok-first.first c.in_ok-second.second
    c.normal_product.result c.normal_product.ensures.extends c.in_ok-first.ensures c.in_ok-second.ensures c.normal_product.ensures.product

pub returns-clause-determined : goal.returns-clause-determined
returns-clause-determined c =
    let old = c.args.self.now in
    let first = c.in_ok-first.first in
    let second = c.in_ok-second.second in
    told_determined old c.normal_product.new.self first second c.normal_product.result c.normal_product.ensures.extends
    (determined_equal old c.args.first.now first c.in_ok-first.ensures c.requires.first)
    (determined_equal old c.args.second.now second c.in_ok-second.ensures c.requires.second) c.normal_product.ensures.product
