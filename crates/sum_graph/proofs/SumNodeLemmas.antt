-- The value of a node of a lean graph is that of its sum; nodes that come later change no value.
use Rattle.std.proofs.Common.{◌≡◌, ℕ, ◌+◌, ◌≤◌, Bool, true, ◌&&◌, List, [], ◌∷◌, ◌++◌, length, slice_get, Some}
use Rattle.std.proofs.Common.{refl, sym, ap, ap₂, ◌∙◌, subst, arith}
use Rattle.std.specs.Bool.{xor}
use Rattle.std.specs.List.{AllByRecursion}
use Rattle.std.proofs.lemmas.Bool.{lt-ltb, ltb-true}
use Rattle.std.proofs.lemmas.List.{get_or_append_left}
use Rattle.list_facts.specs.Bits.{bit_of}
use Rattle.list_facts.proofs.AllLemmas.{AllFrom-push}
use Rattle.dependency_graph.proofs.MadeLemmas.{bits_made-append, length-bits_made, made_at, made_front}
use Rattle.list_facts.proofs.AllLemmas.{AllByRecursion-weaker}
use Rattle.dependency_graph.specs.declared.node.Base.{Base}
use Rattle.dependency_graph.specs.declared.node.Base.TheVariants as bases
use Rattle.dependency_graph.specs.Graphs.{IsKnownBase, base_bit, bits_made}
use Rattle.bit_sums.specs.Sums.{ProductView, SumView, AreAll, IsProductOver, IsSumOver, product_value, sum_value, xor_by}
use Rattle.sum_graph.specs.Graphs.{AreKnownSums, IsKnownSum, is_known, sum_bit, sum_on, sums_made}

-- ---- a value rests on the bits of a sum's bases alone

bits_same : (f g : Base → Bool) (test : Base → Bool) → ((b : Base) → test b ≡ true → f b ≡ g b) → (bits : List Base) → AreAll test bits
    → xor_by f bits ≡ xor_by g bits
bits_same f g test agree [] all = refl
bits_same f g test agree (b ∷ bs) all = ap₂ xor (agree b all.0) (bits_same f g test agree bs all.1)

products_same : (f g : Base → Bool) (test : Base → Bool) → ((b : Base) → test b ≡ true → f b ≡ g b) → (ps : List ProductView)
    → AllByRecursion (IsProductOver test) ps → xor_by (product_value f) ps ≡ xor_by (product_value g) ps
products_same f g test agree [] all = refl
products_same f g test agree (p ∷ ps) all =
    ap₂ xor (ap₂ ◌&&◌ (bits_same f g test agree p.first all.0.first) (bits_same f g test agree p.second all.0.second))
    (products_same f g test agree ps all.1)

pub sum_same : (f g : Base → Bool) (test : Base → Bool) → ((b : Base) → test b ≡ true → f b ≡ g b) → (s : SumView) → IsSumOver test s
    → sum_value f s ≡ sum_value g s
sum_same f g test agree s over =
    ap (xor s.one) (ap₂ xor (bits_same f g test agree s.bits over.bits) (products_same f g test agree s.products over.products))

-- ---- bits made later change no earlier ones

base-front : (n : ℕ) (assignment : ℕ → Bool) (made more : List Bool) (base : Base) → is_known n (length made) base ≡ true
    → base_bit assignment (made ++ more) base ≡ base_bit assignment made base
base-front n assignment made more (bases.Input i) known = refl
base-front n assignment made more (bases.Node j) known = get_or_append_left made more _ j (ltb-true j (length made) known)

sum-front : (n : ℕ) (assignment : ℕ → Bool) (made more : List Bool) (s : SumView) → IsKnownSum n (length made) s
    → sum_value (base_bit assignment (made ++ more)) s ≡ sum_value (base_bit assignment made) s
sum-front n assignment made more s known =
    sum_same (base_bit assignment (made ++ more)) (base_bit assignment made) (is_known n (length made)) (base-front n assignment made more) s known

-- nodes that come later change no value of a sum of earlier ones
pub sum_on-more : (n : ℕ) (nodes more : List SumView) (input : List Bool) (s : SumView) → IsKnownSum n (length nodes) s
    → sum_on (nodes ++ more) input s ≡ sum_on nodes input s
sum_on-more n nodes more input s known =
    let bit = sum_bit (bit_of input) in
    let made = bits_made bit [] nodes in
    let rest = made_front bit made more in
    let long : length made ≡ length nodes = length-bits_made bit [] nodes ∙ omega arith in
    ap (λ (bits : List Bool). bit bits s) (bits_made-append bit [] nodes more ∙ rest.parts)
    ∙ sum-front n (bit_of input) made rest.more s (subst (λ (k : ℕ). IsKnownSum n k s) (sym long) known)

-- ---- the bit of a node

-- a node's bit is the value of its sum over all nodes
pub value_of_sum : (n : ℕ) (nodes : List SumView) (input : List Bool) (k : ℕ) (s : SumView) → AreKnownSums n 0 nodes → slice_get nodes k ≡ Some s
    → base_bit (bit_of input) (sums_made (bit_of input) [] nodes) (bases.Node k) ≡ sum_on nodes input s
value_of_sum n nodes input k s known is =
    made_at (sum_bit (bit_of input)) (IsKnownSum n) (sum-front n (bit_of input)) nodes k s known is

-- ---- known sums

-- one more node, which is a sum of the earlier ones
pub known_more : (n : ℕ) (nodes : List SumView) (s : SumView) → AreKnownSums n 0 nodes → IsKnownSum n (length nodes) s → AreKnownSums n 0 (nodes ++ s ∷ [])
known_more n nodes s known is =
    let same : length nodes ≡ 0 + length nodes = omega arith in
    AllFrom-push (IsKnownSum n) 0 nodes s known (subst (λ (j : ℕ). IsKnownSum n j s) same is)

pub base_further : (n k j : ℕ) → k ≤ j → (b : Base) → is_known n k b ≡ true → is_known n j b ≡ true
base_further n k j le (bases.Input i) known = known
base_further n k j le (bases.Node m) known = lt-ltb m j (omega (arith, ltb-true m k known, le))

bits_further : (n k j : ℕ) → k ≤ j → (bits : List Base) → AreAll (is_known n k) bits → AreAll (is_known n j) bits
bits_further n k j le bits all = AllByRecursion-weaker (λ b. is_known n k b ≡ true) (λ b. is_known n j b ≡ true) (base_further n k j le) bits all

-- what is known among some nodes is so among more
pub known_further : (n k j : ℕ) → k ≤ j → (s : SumView) → IsKnownSum n k s → IsKnownSum n j s
known_further n k j le s known = record {
  bits = bits_further n k j le s.bits known.bits;
  products = AllByRecursion-weaker (IsProductOver (is_known n k)) (IsProductOver (is_known n j))
      (λ p over. record { first = bits_further n k j le p.first over.first; second = bits_further n k j le p.second over.second })
      s.products known.products;
}

pub known_base : (n k : ℕ) (b : Base) → IsKnownBase n k b → is_known n k b ≡ true
known_base n k (bases.Input i) known = lt-ltb i n known
known_base n k (bases.Node j) known = lt-ltb j k known
