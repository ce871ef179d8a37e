use Rattle.std.proofs.Common.{rules, ◌≡◌, ℕ, ◌+◌, Bool, List, length, subst, arith}
use Rattle.std.proofs.lemmas.Result.{IfOk-weaker, IfErr-weaker}
use Rattle.bennett_pebbling.specs.inside.Changes.{IsRisen, IsRiseFault}
use Rattle.bennett_pebbling.specs.inside.Marks.{AreNeeds}
use Rattle.bennett_pebbling.proofs.RiseLemmas.{block_risen, rise_short}
use Rattle.bennett_pebbling.proofs.ChangeLemmas.{risen_block, rise_short_block}
use Rattle.bennett_pebbling.proofs.HalfLemmas.{IsInHalves, can_first, can_second, first_rise_short, halves_rise_short, halves_risen, in_halves, second_less}
use Rattle.bennett_pebbling.proofs.changing.+rise.Goals as goal
use Rattle.revc_base.proofs.ResultLemmas.{passes_on}
use Rattle.bennett_pebbling.proofs.changing.+rise.Goals.{After-deref, After-deref-2}

halved : (t : ℕ) (c : After-deref-2 t) → IsInHalves c.args.forward c.args.by.block c.args.lo c.args.wanted.now c.halves.result.0.now
    c.halves.result.1.now c.deref-2.result.now (length c.halves.result.0.now)
halved t c = in_halves c.requires.can c.halves.ensures c.in_ok-needed.ensures c.deref-2.ensures.value c.if-wanted-by.false

needs_are : (t : ℕ) (c : After-deref t) → AreNeeds c.args.forward.graph c.args.lo c.args.wanted.now c.deref.result.now
needs_are t c =
    let same : c.in_ok-from_slice.field-0.items ≡ c.args.wanted.now = search rules in
    rw (← c.requires.can.graph, c.deref.ensures.value)
    (subst (λ (xs : List Bool). AreNeeds c.args.by.graph.now c.args.lo xs c.with_needs-marks.result.items) same c.with_needs-marks.ensures)

pub returns-then-wanted-by : goal.returns-then-wanted-by
returns-then-wanted-by t c =
    let needs = needs_are t (goal.at.returns-then-wanted-by t c).After-deref in
    let made = c.raise.ensures in
    let some = c.requires.some in
    let within = c.if-wanted-by.true in
    record {
      risen = IfOk-weaker c.raise.result _ _ (λ next raised. risen_block some within next (block_risen _ _ _ _ needs next raised)) made.raised;
      keeps = made.keeps;
      refused = IfErr-weaker c.raise.result _ _ (λ e fault. rise_short_block some within e (rise_short _ _ _ _ needs e fault)) made.refused;
    }

pub change-requires-clause-can : goal.change-requires-clause-can
change-requires-clause-can t c =
    let h = halved t (goal.at.change-requires-clause-can t c).After-deref-2 in
    can_first h c.args.by.graph.now c.requires.can

pub returns-in_err-forward-clause-refused : goal.returns-in_err-forward-clause-refused
returns-in_err-forward-clause-refused t c =
    let h = halved t (goal.at.returns-in_err-forward-clause-refused t c).After-deref-2 in
    passes_on _ c.from_residual-in_err-forward.result c.from_residual-in_err-forward.ensures.1
    (first_rise_short h c.in_err-forward.field-0.0 c.in_err-forward.ensures.refused)

pub rise-requires : goal.rise-requires
rise-requires t c =
    let h = halved t (goal.at.rise-requires t c).After-deref-2 in (
      omega (arith, c.decreases, second_less h c.requires.some),
      (
        can_second h c.in_ok-forward.forward c.in_ok-forward.ensures.changed
            c.args.by.graph.now c.requires.can c.in_ok-forward.ensures.keeps,
        c.requires.some,
      ),
    )

pub returns : goal.returns
returns t c =
    let f = c.args.forward in let b = c.args.by.block in let lo = c.args.lo in let wanted = c.args.wanted.now in
    let right = c.halves.result.1.now in
    let half = length c.halves.result.0.now in
    let h = halved t (goal.at.returns t c).After-deref-2 in
    let next = c.in_ok-forward.forward in
    record {
      risen = IfOk-weaker c.rise.result (IsRisen next b (lo + half) right) (IsRisen f b lo wanted)
          (halves_risen h next c.in_ok-forward.ensures.changed) c.rise.ensures.risen;
      keeps = c.rise.ensures.keeps;
      refused = IfErr-weaker c.rise.result (IsRiseFault next b (lo + half) right) (IsRiseFault f b lo wanted)
          (halves_rise_short h next c.in_ok-forward.ensures.changed) c.rise.ensures.refused;
    }
