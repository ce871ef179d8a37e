use Rattle.std.proofs.Common.{◌≤◌, true, List, length, ap, sym, subst, ◌∙◌, arith}
use Rattle.std.specs.Bool.{xor}
use Rattle.std.proofs.lemmas.Result.{IfOk-weaker}
use Rattle.gate_split.proofs.PieceLemmas.{narrow_is_short}
use Rattle.linear_forms.specs.Forms.{FormView, form_value}
use Rattle.mct_circuit.specs.declared.gate.Control.{Control}
use Rattle.product_sums.specs.Products.{ProductsView}
use Rattle.sum_verify.specs.inside.Forms.{IsFlipped}
use Rattle.sum_verify.proofs.FlipLemmas.{IsPlaced, always_read, by_one_read, by_two_read, control_determined, placed_by}
use Rattle.sum_verify.proofs.walking.flipped.Goals as goal
use Rattle.sum_verify.proofs.walking.flipped.Goals.{After-controls}

placed : (c : After-controls) → IsPlaced c.args.lines.now c.args.gate.now c.args.target c.controls.result.now
placed c =
    placed_by c.args.lines.now c.args.gate.now c.args.target c.controls.result.now c.requires.narrow c.requires.placed c.requires.target
    c.controls.ensures.controls

few : (c : After-controls) → length c.controls.result.now ≤ 2
few c =
    omega (
      arith,
      narrow_is_short c.args.gate.now c.requires.narrow,
      ap (λ (cs : List Control). length cs) c.controls.ensures.controls,
    )

pub product-requires-clause-first : goal.product-requires-clause-first
product-requires-clause-first c =
    control_determined c.args.products.now c.args.lines.now c.args.gate.now c.args.target 0 c.controls.result.now c.index-lines-first.result
    (placed (goal.at.product-requires-clause-first c).After-controls) (omega (arith, c.in-len2-up.len_at_least)) c.index-lines-first.is
    c.requires.determined

pub product-requires-clause-second : goal.product-requires-clause-second
product-requires-clause-second c =
    control_determined c.args.products.now c.args.lines.now c.args.gate.now c.args.target 1 c.controls.result.now c.index-lines-second.result
    (placed (goal.at.product-requires-clause-second c).After-controls) (omega (arith, c.in-len2-up.len_at_least)) c.index-lines-second.is
    c.requires.determined

pub returns-in_ok-copy-in-empty-clause-flipped : goal.returns-in_ok-copy-in-empty-clause-flipped
returns-in_ok-copy-in-empty-clause-flipped c =
    always_read c.args.products.now c.args.lines.now c.args.gate.now c.args.target c.controls.result.now c.index-lines-target.result c.with_one.result
    (placed (goal.at.returns-in_ok-copy-in-empty-clause-flipped c).After-controls) c.in-empty.len_below c.index-lines-target.is (λ atom.
    c.with_one.ensures atom ∙ ap (λ (g : FormView). xor true (form_value atom g)) c.in_ok-copy-in-empty.ensures)

pub returns-in-len1-clause-flipped : goal.returns-in-len1-clause-flipped
returns-in-len1-clause-flipped c =
    IfOk-weaker c.sum.result _ _ (λ f is.
    subst (λ (t : ProductsView). IsFlipped t c.args.lines.now c.args.gate.now c.args.target f) (sym c.sum.ensures.same)
    (by_one_read c.args.products.now c.args.lines.now c.args.gate.now c.args.target c.controls.result.now c.index-lines-target.result
    c.index-lines-control.result f (placed (goal.at.returns-in-len1-clause-flipped c).After-controls) c.in-len1.len_at_least c.in-len1.len_below
    c.index-lines-target.is c.index-lines-control.is is))
    c.sum.ensures.sum

pub returns-in_ok-product-in-len2-up-clause-flipped : goal.returns-in_ok-product-in-len2-up-clause-flipped
returns-in_ok-product-in-len2-up-clause-flipped c =
    let here = (goal.at.returns-in_ok-product-in-len2-up-clause-flipped c).After-controls in
    IfOk-weaker c.sum-in-len2-up.result _ _ (λ f is.
    subst (λ (t : ProductsView). IsFlipped t c.args.lines.now c.args.gate.now c.args.target f) (sym c.sum-in-len2-up.ensures.same)
    (by_two_read c.product.new.self c.args.lines.now c.args.gate.now c.args.target c.controls.result.now c.index-lines-target.result
    c.index-lines-first.result c.index-lines-second.result c.in_ok-product-in-len2-up.product f (placed here) c.in-len2-up.len_at_least (few here)
    c.index-lines-target.is c.index-lines-first.is c.index-lines-second.is c.in_ok-product-in-len2-up.ensures.product is))
    c.sum-in-len2-up.ensures.sum
