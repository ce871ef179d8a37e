use Rattle.std.proofs.Common.{◌<◌, length, ◌∙◌, arith}
use Rattle.std.proofs.lemmas.List.{get_or_read}
use Rattle.linear_forms.specs.Bases.{no_form}
use Rattle.sum_cuts.specs.declared.wide.Numbered.{Numbered}
use Rattle.sum_cuts.proofs.WideLemmas.{one_more, variable_numbered}
use Rattle.sum_cuts.proofs.wide.WideCut.new.Goals as goal

pub loop-place-preserved : goal.loop-place-preserved
loop-place-preserved c =
    let t = c.args.products.now in
    let sums = c.args.sums.items in
    let now = c.input.new.self.nodes in
    let place = c.loop-place.place in
    let made : Numbered = record { form = c.in_ok-form.form; number = c.in_ok-number.number } in
    let low : place < length sums = omega (arith, c.loop-place-test.true, c.loop-place.auto.place-end, c.len-place-end.ensures) in
    record {
      vars = c.in_ok-number.ensures.kept.vars ∙ c.loop-place.invariant.vars;
      are = one_more t sums c.loop-place.diagram.nodes now c.loop-place.functions.items _ made c.in_ok-number.ensures.earlier
          c.in_ok-push-2.ensures.items
          (variable_numbered t sums now made place low c.in_ok-number.ensures.answer
          (c.in_ok-form.ensures ∙ get_or_read sums place _ low c.index.ensures no_form))
          c.loop-place.invariant.are;
    }
