-- What a derivation collects, and what follows.
use Rattle.std.proofs.Common.{◌≡◌, ℕ, ◌&&◌, Bool, false, List, [], ◌∷◌, ◌++◌, length, sym, ap, ◌∙◌}
use Rattle.std.proofs.Common.{true, get_or}
use Rattle.std.proofs.Math.Dec.{ltb}
use Rattle.std.specs.Bool.{xor}
use Rattle.list_facts.proofs.BitLemmas.{xor_left, xor_nothing, xor_swap, xor_twice}
use Rattle.linear_forms.specs.declared.pairs.Factor.{Factor}
use Rattle.linear_forms.specs.declared.pairs.Pair.{Pair}
use Rattle.linear_forms.specs.Sums.{xor_by}
use Rattle.linear_forms.specs.Pairs.{IsSumOf, factor_value, pair_value}
use Rattle.linear_forms.specs.Bases.{IsFactorOf, member_value}
use Rattle.linear_forms.specs.Forms.{FormView, IsConstant, IsSum, form_value}
use Rattle.linear_forms.proofs.FormLemmas.{xor_by-append}
use Rattle.product_sums.specs.declared.known.Known.{Known}
use Rattle.product_sums.specs.inside.Deriving.{Follows, IsCollected, IsPairOf}
use Rattle.product_sums.proofs.RecordLemmas.{true_at}

pub pair_is : (members : List FormView) (f g : FormView) (one other : Factor) → IsFactorOf members f one → IsFactorOf members g other
    → IsPairOf members f g (record { first = one; second = other })
pair_is members f g one other is also atom =
    ap (λ b. b && factor_value (length members) (member_value members atom) other) (is atom) ∙ ap (λ b. form_value atom f && b) (also atom)

pub collected_first : (known : List Known) (f g : FormView) (members : List FormView) (pair : Pair) (sums : FormView) → IsPairOf members f g pair
    → IsConstant false sums → IsCollected known f g members (pair ∷ []) sums
collected_first known f g members pair sums is none atom all =
    ap (λ b. xor b false) (is atom) ∙ ap (xor (form_value atom f && form_value atom g)) (sym (none atom))

pub collected_more : (known : List Known) (f g : FormView) (members : List FormView) (pairs : List Pair) (sums now : FormView) (pair : Pair)
    (i : ℕ) (k : Known) → true ≡ ltb i (length known) → k ≡ get_or known i k → IsPairOf members k.first k.second pair → IsSum sums k.value now
    → IsCollected known f g members pairs sums → IsCollected known f g members (pairs ++ pair ∷ []) now
collected_more known f g members pairs sums now pair i k low at is sum so_far atom all =
    let value : Pair → Bool = pair_value (length members) (member_value members atom) in
    let product : Bool = form_value atom f && form_value atom g in
    xor_by-append value pairs (pair ∷ [])
    ∙ ap (xor (xor_by value pairs)) (xor_nothing (value pair) ∙ is atom ∙ sym (true_at atom known i k all low at))
    ∙ ap (λ b. xor b (form_value atom k.value)) (so_far atom all)
    ∙ sym (xor_left product (form_value atom sums) (form_value atom k.value))
    ∙ ap (xor product) (sym (sum atom))

pub collected_all : (known : List Known) (f g : FormView) (members : List FormView) (pairs : List Pair) (sums form now : FormView) (factor : Factor)
    → IsSumOf (length members) pairs factor → IsFactorOf members form factor → IsSum form sums now
    → IsCollected known f g members pairs sums → Follows known f g now
collected_all known f g members pairs sums form now factor linear is sum so_far atom all =
    let product : Bool = form_value atom f && form_value atom g in
    let rest : Bool = form_value atom sums in
    sum atom
    ∙ ap (λ b. xor b rest) (sym (is atom) ∙ sym (linear (member_value members atom)) ∙ so_far atom all ∙ xor_swap product rest)
    ∙ sym (xor_twice product rest)
