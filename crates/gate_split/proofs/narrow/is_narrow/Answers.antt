use Rattle.std.proofs.Common.{◌≡◌, true, false, length, inl, inr, sym, ap, arith, ◌∙◌}
use Rattle.mct_circuit.specs.declared.gate.Control.{Control}
use Rattle.std.specs.List.{list_all}
use Rattle.std.proofs.lemmas.Bool.Decides.{leb_tells}
use Rattle.gate_split.proofs.PieceLemmas.{narrow_is, narrow_flips, narrow_is_short, narrow_is_positive}
use Rattle.gate_split.proofs.narrow.is_narrow.Goals as goal

never : {A : Type 0} → false ≡ true → A
never e = absurd (cc)

pub returns-then-controls-le2 : goal.returns-then-controls-le2
returns-then-controls-le2 c =
    let few = rw c.controls.ensures.controls at c.if-controls-le2.true in (
      λ r. narrow_is c.args.gate.now c.in-Flip.field-0 (sym c.op.ensures.op ∙ c.in-Flip.is) few
          (rw c.controls-then-controls-le2.ensures.controls at (sym c.are_positive.ensures ∙ r)),
      λ s. c.are_positive.ensures ∙ ap (list_all (λ (control : Control). control.positive)) c.controls-then-controls-le2.ensures.controls
          ∙ narrow_is_positive c.args.gate.now s,
    )

pub returns-else-controls-le2 : goal.returns-else-controls-le2
returns-else-controls-le2 c =
    let many = rw c.controls.ensures.controls at c.if-controls-le2.false in (
      λ r. elim (leb_tells (length c.controls.result.now) 2) [ inl t ↦ absurd (omega (arith, t.1, c.if-controls-le2.false)) | inr t ↦ never (sym t.0 ∙ r) ],
      λ s. absurd (let short = narrow_is_short c.args.gate.now s in omega arith),
    )

pub returns-in-Swap : goal.returns-in-Swap
returns-in-Swap c = (never, λ s. absurd (let flips = narrow_flips c.args.gate.now s in let swaps = sym c.op.ensures.op ∙ c.in-Swap.is in cc))
