use Rattle.std.proofs.Common.{arith}
use Rattle.product_sums.specs.Products.{IsProduct}
use Rattle.sum_cuts.specs.declared.wide.Numbered.{Numbered}
use Rattle.sum_cuts.proofs.WideLemmas.{numbered_at, one_more, product_numbered}
use Rattle.sum_cuts.proofs.wide.WideCut.times.Goals as goal

pub returns : goal.returns
returns c =
    let t = c.args.products.now in
    let cut = c.args.self.now in
    let sums = cut.sums.items in
    let old = cut.diagram.nodes in
    let now = c.and.new.self.nodes in
    let first = c.index-first.result.now in
    let one = numbered_at t sums old cut.functions.items c.args.at first (omega (arith, c.if-at-len.false, c.len.ensures)) c.index-first.ensures
    c.requires.wide.all in
    let made : Numbered = record { form = c.in_ok-form.form; number = c.in_ok-number.number } in
    let is : IsProduct t first.form c.args.second.form c.in_ok-form.form =
    rw (c.if-not-is_same.ensures, c.if-not-is_same-2.ensures, c.in_ok-form.ensures) c.requires.product in
    one_more t sums old now cut.functions.items c.push.new.self.items made c.in_ok-number.ensures.earlier c.in_ok-push.ensures.items
    (product_numbered t sums old now first c.args.second made one c.requires.wide.own c.in_ok-number.ensures.answer is) c.requires.wide.all
