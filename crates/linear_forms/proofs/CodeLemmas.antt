-- The loops over pairs.
use Rattle.std.proofs.Common.{◌≡◌, ℕ, ◌+◌, ◌<◌, ◌≤◌, bit_and, bit_xor, Bool, true, false, ◌&&◌, List, ◌∷◌, length, drop, get_or, refl, sym, ap, ◌∙◌, below_more}
use Rattle.std.proofs.lemmas.List.{drop_all, drop_more}
use Rattle.std.specs.Bool.{xor}
use Rattle.list_facts.proofs.BitLemmas.{xor_left, xor_none, xor_nothing}
use Rattle.list_facts.proofs.TableLemmas.{of_two_bits}
use Rattle.linear_forms.specs.declared.pairs.Pair.{Pair}
use Rattle.linear_forms.specs.Sums.{xor_by}
use Rattle.linear_forms.specs.Pairs.{alone_in, is_in, times}
use Rattle.linear_forms.specs.inside.Exchanged.{exchanged_in}
use Rattle.linear_forms.proofs.PairLemmas.{in_both, in_none, in_one}

pub left_over : (p : Pair) (a b : ℕ) → ((i : ℕ) → is_in a i ≡ (p.first.one && is_in p.second.set i))
    → ((i : ℕ) → is_in b i ≡ (p.second.one && is_in p.first.set i))
    → (i : ℕ) → is_in (bit_xor (bit_and p.first.set p.second.set) (bit_xor a b)) i ≡ alone_in p i
left_over p a b first second i =
    in_one (bit_and p.first.set p.second.set) (bit_xor a b) i
    ∙ ap (λ x. xor x (is_in (bit_xor a b) i)) (in_both p.first.set p.second.set i)
    ∙ ap (xor (is_in p.first.set i && is_in p.second.set i)) (in_one a b i
    ∙ ap (λ x. xor x (is_in b i)) (first i)
    ∙ ap (xor (p.first.one && is_in p.second.set i)) (second i))

swap : (a b : Bool) → (a && b) ≡ (b && a)
swap = of_two_bits (λ a b. a && b) (λ a b. b && a) refl

pub both_orders : (p : Pair) (place a b : ℕ) → ((j : ℕ) → is_in a j ≡ (is_in p.first.set place && is_in p.second.set j))
    → ((j : ℕ) → is_in b j ≡ (is_in p.second.set place && is_in p.first.set j))
    → (j : ℕ) → is_in (bit_xor a b) j ≡ exchanged_in place p j
both_orders p place a b first second j =
    in_one a b j
    ∙ ap (λ x. xor x (is_in b j)) (first j)
    ∙ ap (xor (is_in p.first.set place && is_in p.second.set j)) (second j ∙ swap (is_in p.second.set place) (is_in p.first.set j))

-- one pair more
pub further : (f : Pair → ℕ → Bool) (p : Pair) (ps : List Pair) (set more : ℕ) (whole : ℕ → Bool)
    → ((i : ℕ) → xor (is_in set i) (xor_by (λ q. f q i) (p ∷ ps)) ≡ whole i) → ((i : ℕ) → is_in more i ≡ f p i)
    → (i : ℕ) → xor (is_in (bit_xor set more) i) (xor_by (λ q. f q i) ps) ≡ whole i
further f p ps set more whole so_far is i =
    ap (λ x. xor x (xor_by (λ q. f q i) ps)) (in_one set more i ∙ ap (xor (is_in set i)) (is i))
    ∙ sym (xor_left (is_in set i) (f p i) (xor_by (λ q. f q i) ps))
    ∙ so_far i

apart : (x y : Bool) → false ≡ xor x y → x ≡ y
unfolding mathlib.Core.Bool.xor
apart true true same = refl
apart false false same = refl
apart true false same = sym same
apart false true same = same

pub same_times : (ps : List Pair) (row i : ℕ) → row ≡ 0 → ((j : ℕ) → is_in row j ≡ xor (times ps i j) (times ps j i)) → (j : ℕ) → times ps i j ≡ times ps j i
same_times ps row i none is j = apart (times ps i j) (times ps j i) (sym (in_none j) ∙ ap (λ n. is_in n j) (sym none) ∙ is j)

-- a loop over the pairs begins, goes one pair further, and ends
pub step_on : (f : Pair → ℕ → Bool) (ps : List Pair) (at : ℕ) (none : Pair) (set more : ℕ) (whole : ℕ → Bool) → at < length ps
    → ((i : ℕ) → xor (is_in set i) (xor_by (λ q. f q i) (drop at ps)) ≡ whole i) → ((i : ℕ) → is_in more i ≡ f (get_or ps at none) i)
    → (i : ℕ) → xor (is_in (bit_xor set more) i) (xor_by (λ q. f q i) (drop (at + 1) ps)) ≡ whole i
step_on f ps at none set more whole low so_far is =
    further f (get_or ps at none) (drop (at + 1) ps) set more whole
    (λ i. ap (λ qs. xor (is_in set i) (xor_by (λ q. f q i) qs)) (sym (drop_more ps at none low)) ∙ so_far i) is

pub begun : (f : Pair → ℕ → Bool) (ps : List Pair) (i : ℕ) → xor (is_in 0 i) (xor_by (λ q. f q i) ps) ≡ xor_by (λ q. f q i) ps
begun f ps i = ap (λ x. xor x (xor_by (λ q. f q i) ps)) (in_none i) ∙ xor_none (xor_by (λ q. f q i) ps)

pub ended : (f : Pair → ℕ → Bool) (ps : List Pair) (at set : ℕ) (whole : ℕ → Bool) → length ps ≤ at
    → ((i : ℕ) → xor (is_in set i) (xor_by (λ q. f q i) (drop at ps)) ≡ whole i) → (i : ℕ) → is_in set i ≡ whole i
ended f ps at set whole high so_far i =
    sym (xor_nothing (is_in set i)) ∙ ap (λ qs. xor (is_in set i) (xor_by (λ q. f q i) qs)) (sym (drop_all at ps high)) ∙ so_far i

-- the same of one bit
pub one_on : (f : Pair → Bool) (ps : List Pair) (at : ℕ) (none : Pair) (one more whole : Bool) → at < length ps
    → xor one (xor_by f (drop at ps)) ≡ whole → more ≡ f (get_or ps at none) → xor (xor one more) (xor_by f (drop (at + 1) ps)) ≡ whole
one_on f ps at none one more whole low so_far is =
    ap (λ x. xor (xor one x) (xor_by f (drop (at + 1) ps))) is
    ∙ sym (xor_left one (f (get_or ps at none)) (xor_by f (drop (at + 1) ps)))
    ∙ ap (λ qs. xor one (xor_by f qs)) (sym (drop_more ps at none low))
    ∙ so_far

pub one_ended : (f : Pair → Bool) (ps : List Pair) (at : ℕ) (one whole : Bool) → length ps ≤ at → xor one (xor_by f (drop at ps)) ≡ whole → one ≡ whole
one_ended f ps at one whole high so_far = sym (xor_nothing one) ∙ ap (λ qs. xor one (xor_by f qs)) (sym (drop_all at ps high)) ∙ so_far

-- the places below one more
pub one_more_same : (ps : List Pair) (place row : ℕ) → ((i j : ℕ) → i < place → times ps i j ≡ times ps j i)
    → row ≡ 0 → ((j : ℕ) → is_in row j ≡ xor (times ps place j) (times ps j place))
    → (i j : ℕ) → i < place + 1 → times ps i j ≡ times ps j i
one_more_same ps place row below none is i j low =
    below_more (λ k. times ps k j ≡ times ps j k) place (λ k less. below k j less) (same_times ps row place none is j) i low
