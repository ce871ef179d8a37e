use Rattle.std.proofs.Common.{sym, arith, subst}
use Rattle.std.proofs.lemmas.List.{take-append-drop}
use Rattle.std.proofs.lemmas.Result.{IfOk-weaker}
use Rattle.bit_sums.specs.inside.Steps.{IsRisingOf}
use Rattle.bit_sums.proofs.SetLemmas.{rising_of_few, rising_halves}
use Rattle.bit_sums.proofs.bits.+rising.Goals as goal

pub returns-then-bits-lt2 : goal.returns-then-bits-lt2
returns-then-bits-lt2 t c = rising_of_few _ _ c.in_ok-from_slice.ensures.items (omega arith)

pub returns : goal.returns
returns t c =
    IfOk-weaker c.apart.result _ _
    (λ whole is. rising_halves c.args.bits.now c.deref.result.now c.deref-2.result.now c.split_at.result.0.now c.split_at.result.1.now
    (rw (c.split_at.ensures.front, c.split_at.ensures.back) (take-append-drop _ _))
    (subst (IsRisingOf c.split_at.result.0.now) (sym c.deref.ensures.value) c.in_ok-front.ensures)
    (subst (IsRisingOf c.split_at.result.1.now) (sym c.deref-2.ensures.value) c.in_ok-back.ensures) whole.items is) c.apart.ensures
