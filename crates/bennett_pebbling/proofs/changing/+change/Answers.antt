use Rattle.std.proofs.Common.{ℕ, length, arith}
use Rattle.std.proofs.lemmas.Result.{IfOk-weaker, IfErr-weaker}
use Rattle.bennett_pebbling.specs.inside.Changes.{IsChanged, IsChangeFault}
use Rattle.bennett_pebbling.proofs.ChangeLemmas.{changed_block, short_block}
use Rattle.bennett_pebbling.proofs.HalfLemmas.{IsInHalves, can_first, can_second, can_third, first_less, first_short, halves_changed, in_halves}
use Rattle.bennett_pebbling.proofs.HalfLemmas.{second_less, second_short, third_less, third_short}
use Rattle.bennett_pebbling.proofs.changing.+change.Goals as goal
use Rattle.revc_base.proofs.ResultLemmas.{passes_on}
use Rattle.bennett_pebbling.proofs.changing.+change.Goals.{After-deref}

halved : (t : ℕ) (c : After-deref t) → IsInHalves c.args.forward c.args.by.block c.args.lo c.args.wanted.now c.halves.result.0.now
    c.halves.result.1.now c.deref.result.now (length c.halves.result.0.now)
halved t c = in_halves c.requires.can c.halves.ensures c.in_ok-needed.ensures c.deref.ensures.value c.if-wanted-by.false

pub returns-then-wanted-by-clause-changed : goal.returns-then-wanted-by-clause-changed
returns-then-wanted-by-clause-changed t c =
    IfOk-weaker c.change_block.result _ _ (changed_block c.requires.some c.if-wanted-by.true) c.change_block.ensures.changed

pub returns-then-wanted-by-clause-refused : goal.returns-then-wanted-by-clause-refused
returns-then-wanted-by-clause-refused t c =
    IfErr-weaker c.change_block.result _ _ (short_block c.requires.some c.if-wanted-by.true) c.change_block.ensures.refused

pub change-requires : goal.change-requires
change-requires t c =
    let h = halved t (goal.at.change-requires t c).After-deref in (
      omega (arith, c.decreases, first_less h c.requires.some),
      (can_first h c.args.by.graph.now c.requires.can, c.requires.some),
    )

pub returns-in_err-forward-clause-refused : goal.returns-in_err-forward-clause-refused
returns-in_err-forward-clause-refused t c =
    let h = halved t (goal.at.returns-in_err-forward-clause-refused t c).After-deref in
    passes_on _ c.from_residual-in_err-forward.result c.from_residual-in_err-forward.ensures.1
    (first_short h c.in_err-forward.field-0.0 c.in_err-forward.ensures.refused)

pub change-requires-2 : goal.change-requires-2
change-requires-2 t c =
    let h = halved t (goal.at.change-requires-2 t c).After-deref in (
      omega (arith, c.decreases, second_less h c.requires.some),
      (
        can_second h c.in_ok-forward.forward c.in_ok-forward.ensures.changed
            c.args.by.graph.now c.requires.can c.in_ok-forward.ensures.keeps,
        c.requires.some,
      ),
    )

pub returns-in_err-forward-2-clause-refused : goal.returns-in_err-forward-2-clause-refused
returns-in_err-forward-2-clause-refused t c =
    let h = halved t (goal.at.returns-in_err-forward-2-clause-refused t c).After-deref in
    passes_on _ c.from_residual-in_err-forward-2.result c.from_residual-in_err-forward-2.ensures.1
    (second_short h c.in_ok-forward.forward c.in_ok-forward.ensures.changed
    c.in_err-forward-2.field-0.0 c.in_err-forward-2.ensures.refused)

pub change-requires-3 : goal.change-requires-3
change-requires-3 t c =
    let h = halved t (goal.at.change-requires-3 t c).After-deref in (
      omega (arith, c.decreases, third_less h c.requires.some),
      (
        can_third h c.in_ok-forward.forward c.in_ok-forward.ensures.changed
            c.in_ok-forward-2.forward c.in_ok-forward-2.ensures.changed c.args.by.graph.now c.requires.can c.in_ok-forward-2.ensures.keeps,
        c.requires.some,
      ),
    )

pub returns : goal.returns
returns t c =
    let f = c.args.forward in let b = c.args.by.block in let lo = c.args.lo in let wanted = c.args.wanted.now in let left = c.halves.result.0.now in
    let h = halved t (goal.at.returns t c).After-deref in
    let first = c.in_ok-forward.forward in
    let second = c.in_ok-forward-2.forward in
    record {
      changed = IfOk-weaker c.change-3.result (IsChanged second b lo left) (IsChanged f b lo wanted)
          (halves_changed h first c.in_ok-forward.ensures.changed second c.in_ok-forward-2.ensures.changed)
          c.change-3.ensures.changed;
      unchanged = λ held. absurd (c.is_held_so.ensures.differ c.if-is_held_so.false held);
      keeps = c.change-3.ensures.keeps;
      refused = IfErr-weaker c.change-3.result (IsChangeFault second b lo left) (IsChangeFault f b lo wanted)
          (third_short h first c.in_ok-forward.ensures.changed second c.in_ok-forward-2.ensures.changed)
          c.change-3.ensures.refused;
    }

pub returns-then-wanted-by-clause-unchanged : goal.returns-then-wanted-by-clause-unchanged
returns-then-wanted-by-clause-unchanged t c = λ held. absurd (c.is_held_so.ensures.differ c.if-is_held_so.false held)

pub returns-in_err-needed-clause-unchanged : goal.returns-in_err-needed-clause-unchanged
returns-in_err-needed-clause-unchanged t c = λ held. absurd (c.is_held_so.ensures.differ c.if-is_held_so.false held)

pub returns-in_err-forward-clause-unchanged : goal.returns-in_err-forward-clause-unchanged
returns-in_err-forward-clause-unchanged t c = λ held. absurd (c.is_held_so.ensures.differ c.if-is_held_so.false held)

pub returns-in_err-forward-2-clause-unchanged : goal.returns-in_err-forward-2-clause-unchanged
returns-in_err-forward-2-clause-unchanged t c = λ held. absurd (c.is_held_so.ensures.differ c.if-is_held_so.false held)
