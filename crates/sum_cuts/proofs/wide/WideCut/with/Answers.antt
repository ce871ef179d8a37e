use Rattle.std.proofs.Common.{arith}
use Rattle.sum_cuts.proofs.WideLemmas.{all_later, numbered_at, sum_numbered}
use Rattle.sum_cuts.proofs.wide.WideCut.with.Goals as goal

pub returns : goal.returns
returns c =
    let t = c.args.products.now in
    let cut = c.args.self.now in
    let sums = cut.sums.items in
    let old = cut.diagram.nodes in
    let other = numbered_at t sums old cut.functions.items c.args.place c.index-other.result.now
    (omega (arith, c.if-place-len.false, c.len.ensures)) c.index-other.ensures c.requires.all in
    record {
      all = all_later t sums old c.xor.new.self.nodes cut.functions.items c.in_ok-number.ensures.earlier c.requires.all;
      own = sum_numbered t sums old c.xor.new.self.nodes c.args.sum c.index-other.result.now
          (record { form = c.in_ok-form.form; number = c.in_ok-number.number }) c.requires.own other c.in_ok-number.ensures.answer
          c.in_ok-form.ensures;
    }
