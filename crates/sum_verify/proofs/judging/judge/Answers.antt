use Rattle.std.proofs.Common.{◌≡◌, ◌<◌, ℕ, inl, inr, subst, arith, ◌∙◌}
use Rattle.std.proofs.lemmas.Bool.{cases_lt}
use Rattle.std.proofs.lemmas.List.{get_or_read}
use Rattle.list_facts.specs.Bits.{bit_of}
use Rattle.linear_forms.specs.Bases.{no_form}
use Rattle.linear_forms.specs.Forms.{FormView}
use Rattle.product_sums.specs.Products.{ProductsView}
use Rattle.sum_cuts.specs.Cuts.{AreEqualSums}
use Rattle.circuit_verify.specs.Compared.{comparison}
use Rattle.circuit_verify.specs.Comparisons.{wanted_on}
use Rattle.circuit_verify.specs.Verdicts.{IsRight}
use Rattle.sum_verify.specs.inside.Forms.{IsFormOf}
use Rattle.sum_verify.proofs.JudgeLemmas.{right_line, verified}
use Rattle.sum_verify.proofs.judging.judge.Goals as goal

pub loop-line-preserved : goal.loop-line-preserved
loop-line-preserved c =
    let v = c.args.compared.now in
    let q = comparison v in
    let t = c.args.products.now in
    let lines = c.args.lines.now in
    let line = c.loop-line.line in
    let wanted = subst (λ (s : ProductsView). IsFormOf q s c.in_ok-wanted.wanted (λ bits. bit_of (wanted_on q bits) line)) c.loop-line.invariant.0
    c.in_ok-wanted.ensures.wanted in
    let inside : line < v.circuit.lines = omega (arith, c.loop-line-test.true, c.requires.lines.one_each) in
    let read = get_or_read lines line c.index-lines-line.result (omega (arith, inside, c.requires.lines.one_each)) c.index-lines-line.is no_form in
    let now = c.are_equal.ensures.same ∙ c.wanted_form.ensures.same ∙ c.loop-line.invariant.0 in
    let equal = subst (λ (s : ProductsView). AreEqualSums s c.index-lines-line.result c.in_ok-wanted.wanted) now
    (c.in_ok-is_right.ensures.equal c.if-not-is_right.false) in
    let own = subst (λ (f : FormView). AreEqualSums t f c.in_ok-wanted.wanted) read equal in
    let right : IsRight q line =
    right_line v t lines line c.in_ok-wanted.wanted c.requires.variables c.valuations.ensures c.requires.lines inside own wanted in (
      now,
      λ i low. elim (cases_lt i line) as (λ _. IsRight q i) [
        | inl early ↦ c.loop-line.invariant.1 i early
        | inr late ↦
            let here : line ≡ i = omega (arith, late, low) in
            subst (λ (n : ℕ). IsRight q n) here right
      ],
    )

pub returns : goal.returns
returns c =
    verified c.args.compared.now c.variables.ensures.ready
    (λ line low. c.loop-line.invariant.1 line (omega (arith, low, c.loop-line-test.false, c.requires.lines.one_each)))
