use Rattle.std.proofs.Common.{◌≡◌, ◌∙◌, ℕ, List, [], ◌∷◌, ap, sym, subst}
use Rattle.revs_tape.specs.Polynomials.{IsPolynomial}
use Rattle.revs_tape.specs.inside.Sums.{exclusive_sum_of}
use Rattle.revs_tape.proofs.SumLemmas.{IsPolynomial-exclusive_sum_of, IsPolynomial-one}
use Rattle.exclusive_sums.specs.Inputs.{AreOverInputsOf}
use Rattle.exclusive_sums.proofs.InputLemmas.{over_negation, if_answered}
use Rattle.exclusive_sums.proofs.PolyLemmas.{sum_of_equal, up_to_from_negation}
use Rattle.exclusive_sums.proofs.poly.Poly.not.Goals as goal

pub limited-requires : goal.limited-requires
limited-requires c =
    let sum : c.in_ok-sum.sum.items ≡ exclusive_sum_of ([] ∷ []) c.args.self.now =
    sum_of_equal c.in_ok-sum.ensures (c.deref.ensures.value ∙ c.in_ok-one.ensures.items ∙ ap (λ (m : List ℕ). m ∷ []) c.one.ensures)
    (c.deref-2.ensures.value ∙ c.self.view_is) in
    subst IsPolynomial (sym sum) (IsPolynomial-exclusive_sum_of _ _ IsPolynomial-one (subst IsPolynomial c.self.view_is c.self.invariant.0))

pub returns-clause-polynomial : goal.returns-clause-polynomial
returns-clause-polynomial c =
    let sum : c.in_ok-sum.sum.items ≡ exclusive_sum_of ([] ∷ []) c.args.self.now =
    sum_of_equal c.in_ok-sum.ensures (c.deref.ensures.value ∙ c.in_ok-one.ensures.items ∙ ap (λ (m : List ℕ). m ∷ []) c.one.ensures)
    (c.deref-2.ensures.value ∙ c.self.view_is) in
    up_to_from_negation _ c.args.self.now _ (subst IsPolynomial c.self.view_is c.self.invariant.0) (rw sum at c.limited.ensures)

pub returns-clause-inputs : goal.returns-clause-inputs
returns-clause-inputs c =
    let sum : c.in_ok-sum.sum.items ≡ exclusive_sum_of ([] ∷ []) c.args.self.now =
    sum_of_equal c.in_ok-sum.ensures (c.deref.ensures.value ∙ c.in_ok-one.ensures.items ∙ ap (λ (m : List ℕ). m ∷ []) c.one.ensures)
    (c.deref-2.ensures.value ∙ c.self.view_is) in
    if_answered (AreOverInputsOf c.args.self.now) _ (exclusive_sum_of ([] ∷ []) c.args.self.now) _ (rw sum at c.limited.ensures) (over_negation c.args.self.now)
