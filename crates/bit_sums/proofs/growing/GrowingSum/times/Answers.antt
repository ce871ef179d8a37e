use Rattle.std.proofs.Common.{◌≡◌, ◌&&◌, refl, ◌∙◌}
use Rattle.bit_sums.proofs.TotalLemmas.{times}
use Rattle.bit_sums.proofs.growing.GrowingSum.times.Goals as goal
use Rattle.bit_sums.proofs.growing.GrowingSum.times.Goals.{then-one, else-one}

pub returns : goal.returns
returns c =
    let both : c.if-one.result ≡ (c.args.a.now.one && c.args.b.now.one) = elim c.if-one.branch [
      | then-one w ↦ rw (← w.if-one.ensures) (w.result-is ∙ w.one-then-one.ensures)
      | else-one w ↦ rw (← w.if-one.ensures) (w.result-is ∙ w.if-one.false)
    ] in
    times c.args.a.now c.args.b.now c.in_ok-scaled.scaled.items c.in_ok-bits.field-0.bits.items _ c.in_ok-bits.field-0.product _ _ c.bits.ensures.short
    c.bits-2.ensures.short (rw (c.bits.ensures.bits, c.bits-2.ensures.bits) at c.in_ok-bits.ensures)
    (c.in_ok-scaled.ensures
    ∙ rw (c.bits_if.ensures, c.bits_if-2.ensures, c.one.ensures, c.one-2.ensures, c.bits-3.ensures.bits, c.bits-4.ensures.bits) refl)
    (c.in_ok-apart.ensures ∙ rw (c.deref.ensures.value, c.deref-2.ensures.value) refl) c.in_ok-set_of.ensures.keys both
