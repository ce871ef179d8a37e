-- What a derivation rests on besides: words, a basis that grows, and the end.
use Rattle.std.proofs.Common.{◌≡◌, ℕ, suc, ◌+◌, ◌*◌, ◌^◌, ◌<◌, bit_xor, Bool, false, ◌&&◌, List, [], ◌∷◌, ◌++◌, length, sym, ap, ◌∙◌, arith}
use Rattle.std.specs.Bool.{xor}
use Rattle.std.proofs.lemmas.Nat.Bits.{bit_at_above}
use Rattle.std.proofs.lemmas.List.{get_or_append_left}
use Rattle.std.proofs.Common.{◌==◌}
use Rattle.list_facts.specs.Bits.{bit_of}
use Rattle.list_facts.proofs.BitLemmas.{xor-and_left, xor_none, xor_swap, xor_twice}
use Rattle.linear_forms.specs.declared.pairs.Factor.{Factor}
use Rattle.linear_forms.specs.declared.pairs.Pair.{Pair}
use Rattle.linear_forms.specs.Sums.{xor_below, xor_by}
use Rattle.linear_forms.specs.Pairs.{IsSumOf, factor_value, is_in, pair_value}
use Rattle.linear_forms.specs.Forms.{word_value}
use Rattle.linear_forms.proofs.PairLemmas.{in_none, in_one}
use Rattle.linear_forms.proofs.SumLemmas.{both_below, none_below, same_below}

-- ---- words

-- of any number of bits, so that no sum of 64 is computed
pub bits-plus : (n : ℕ) (atom : ℕ → Bool) (u w : ℕ)
    → xor_below n (λ b. is_in (bit_xor u w) b && atom b) ≡ xor (xor_below n (λ b. is_in u b && atom b)) (xor_below n (λ b. is_in w b && atom b))
bits-plus n atom u w =
    same_below n (λ b. is_in (bit_xor u w) b && atom b) (λ b. xor (is_in u b && atom b) (is_in w b && atom b))
    (λ b low. ap (λ bit. bit && atom b) (in_one u w b) ∙ sym (xor-and_left (is_in u b) (is_in w b) (atom b)))
    ∙ both_below n (λ b. is_in u b && atom b) (λ b. is_in w b && atom b)

bits-none : (n : ℕ) (atom : ℕ → Bool) → xor_below n (λ b. is_in 0 b && atom b) ≡ false
bits-none n atom = same_below n (λ b. is_in 0 b && atom b) (λ b. false) (λ b low. ap (λ bit. bit && atom b) (in_none b)) ∙ none_below n

pub word-plus : (atom : ℕ → Bool) (place u w : ℕ) → word_value atom place (bit_xor u w) ≡ xor (word_value atom place u) (word_value atom place w)
unfolding word_value
word-plus atom place u w = bits-plus 64 (λ b. atom (64 * place + b)) u w

pub word-none : (atom : ℕ → Bool) (place : ℕ) → word_value atom place 0 ≡ false
unfolding word_value
word-none atom place = bits-none 64 (λ b. atom (64 * place + b))

-- ---- a basis that grows

-- a factor over the basis is the same over a larger one
pub grown : (values : List Bool) (v : Bool) (f : Factor) → f.set < 2 ^ length values
    → factor_value (suc (length values)) (bit_of (values ++ v ∷ [])) f ≡ factor_value (length values) (bit_of values) f
grown values v f low =
    let n = length values in
    ap (xor f.one) (ap (λ x. xor (x && bit_of (values ++ v ∷ []) n) (xor_below n (λ i. is_in f.set i && bit_of (values ++ v ∷ []) i)))
    (ap (λ b. b == 1) (bit_at_above f.set n n low (omega arith)))
    ∙ xor_none (xor_below n (λ i. is_in f.set i && bit_of (values ++ v ∷ []) i))
    ∙ same_below n (λ i. is_in f.set i && bit_of (values ++ v ∷ []) i) (λ i. is_in f.set i && bit_of values i)
    (λ i less. ap (λ x. is_in f.set i && x) (get_or_append_left values (v ∷ []) false i less)))

-- ---- the end

-- a product is the sum of known products and of a factor
pub derived : (size : ℕ) (value : ℕ → Bool) (p : Pair) (ps : List Pair) (sum : Factor) (known : Bool) → IsSumOf size (p ∷ ps) sum
    → xor_by (pair_value size value) ps ≡ known → pair_value size value p ≡ xor (factor_value size value sum) known
derived size value p ps sum known is same =
    xor_twice (pair_value size value p) known
    ∙ ap (λ x. xor x known) (xor_swap known (pair_value size value p) ∙ ap (xor (pair_value size value p)) (sym same) ∙ is value)
