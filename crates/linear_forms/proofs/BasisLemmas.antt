-- Sums of members of a basis.
use Rattle.std.proofs.Common.{◌≡◌, ℕ, zero, suc, ◌+◌, ◌<◌, Bool, true, false, ◌&&◌, not, List, length, get_or, refl, sym, ap, ◌∙◌, arith}
use Rattle.std.specs.Bool.{xor}
use Rattle.list_facts.proofs.BitLemmas.{not-beq, xor_none, xor_swap}
use Rattle.linear_forms.specs.declared.pairs.Factor.{Factor}
use Rattle.linear_forms.specs.Sums.{xor_below}
use Rattle.linear_forms.specs.Pairs.{factor_value, is_in}
use Rattle.linear_forms.specs.Forms.{FormView, IsSum, form_value}
use Rattle.linear_forms.specs.Bases.{IsFactorOf, member_value, no_form}
use Rattle.linear_forms.specs.inside.Combining.{HasMember, IsCombined}
use Rattle.linear_forms.proofs.FormLemmas.{alike_values, more_one}

pub none_combined : (members : List FormView) (set : ℕ) (f : FormView) → ((atom : ℕ → Bool) → form_value atom f ≡ false) → IsCombined members set 0 f
none_combined members set f none = none

pub one_combined : (members : List FormView) (set place : ℕ) (old now member : FormView) → member ≡ get_or members place no_form
    → HasMember old member set place now → IsCombined members set place old → IsCombined members set (place + 1) now
one_combined members set place old now member at more so_far atom =
    let test : ℕ → Bool = λ i. is_in set i && member_value members atom i in
    let next : suc place ≡ place + 1 = omega arith in
    more atom
    ∙ ap (λ (m : FormView). xor (is_in set place && form_value atom m) (form_value atom old)) at
    ∙ ap (xor (test place)) (so_far atom)
    ∙ ap (λ n. xor_below n test) next

pub taken_in : (sum member now : FormView) (set place : ℕ) → true ≡ is_in set place → IsSum sum member now → HasMember sum member set place now
taken_in sum member now set place there is atom =
    is atom ∙ xor_swap (form_value atom sum) (form_value atom member)
    ∙ ap (λ t. xor (t && form_value atom member) (form_value atom sum)) there

pub left_out : (sum member : FormView) (set place : ℕ) → false ≡ is_in set place → HasMember sum member set place sum
left_out sum member set place there atom =
    sym (xor_none (form_value atom sum)) ∙ ap (λ t. xor (t && form_value atom member) (form_value atom sum)) there

pub factor_is : (members : List FormView) (sum form : FormView) (factor : Factor) → IsCombined members factor.set (length members) sum
    → sum.terms ≡ form.terms → factor.one ≡ not (mathlib.Core.Bool.beq sum.one form.one) → IsFactorOf members form factor
factor_is members sum form factor made same one atom =
    ap (λ o. xor o (xor_below (length members) (λ i. is_in factor.set i && member_value members atom i))) (one ∙ not-beq sum.one form.one)
    ∙ ap (xor (xor sum.one form.one)) (sym (made atom))
    ∙ alike_values atom sum form same

pub form_is : (members : List FormView) (sum form : FormView) (factor : Factor) → IsCombined members factor.set (length members) sum
    → ((atom : ℕ → Bool) → form_value atom form ≡ xor factor.one (form_value atom sum)) → IsFactorOf members form factor
form_is members sum form factor made is atom = sym (is atom ∙ ap (xor factor.one) (made atom))
