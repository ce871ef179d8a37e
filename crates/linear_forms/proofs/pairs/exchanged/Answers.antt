use Rattle.std.proofs.Common.{◌&&◌, get_or, ◌∙◌}
use Rattle.linear_forms.specs.declared.pairs.Pair.{Pair}
use Rattle.linear_forms.specs.Pairs.{is_in}
use Rattle.linear_forms.specs.inside.Exchanged.{exchanged_in, no_pair}
use Rattle.linear_forms.proofs.SumLemmas.{both_by}
use Rattle.linear_forms.proofs.CodeLemmas.{begun, both_orders, ended, step_on}
use Rattle.linear_forms.proofs.pairs.exchanged.Goals as goal

pub loop-pair-init : goal.loop-pair-init
loop-pair-init c = begun (exchanged_in c.args.place) c.args.pairs.now

pub loop-pair-preserved : goal.loop-pair-preserved
loop-pair-preserved c =
    let ps = c.args.pairs.now in
    let at = c.loop-pair.pair-index in
    step_on (exchanged_in c.args.place) ps at no_pair c.loop-pair.row _ _ c.loop-pair-test.true c.loop-pair.invariant
    (both_orders (get_or ps at no_pair) c.args.place c.beside.result c.beside-in-loop-pair.result c.beside.ensures c.beside-in-loop-pair.ensures)

pub returns : goal.returns
returns c j =
    ended (exchanged_in c.args.place) c.args.pairs.now c.loop-pair.pair-index c.loop-pair.row _ c.loop-pair-test.false c.loop-pair.invariant j
    ∙ both_by (λ (p : Pair). is_in p.first.set c.args.place && is_in p.second.set j) (λ p. is_in p.first.set j && is_in p.second.set c.args.place)
    c.args.pairs.now
