-- Products that do not come from nodes that go to one output alone.
use Rattle.std.proofs.Common.{◌≡◌, ℕ, zero, suc, ◌+◌, ◌≤◌, ◌<◌, Bool, true, false, List, [], ◌∷◌, ◌++◌, length, slice_get, slice_set, Some}
use Rattle.std.proofs.Common.{refl, sym, ap, ◌∙◌, inl, inr, arith, zero-add}
use Rattle.std.specs.List.{AllByRecursion, flat_map}
use Rattle.std.proofs.lemmas.Bool.{true≢false}
use Rattle.std.proofs.lemmas.Option.{none-some, same_Some}
use Rattle.list_facts.proofs.AllLemmas.{AllByRecursion-append}
use Rattle.dependency_graph.specs.declared.node.Base.{Base}
use Rattle.dependency_graph.specs.declared.node.Base.TheVariants as bases
use Rattle.dependency_graph.specs.declared.node.Node.{Node}
use Rattle.dependency_graph.specs.declared.node.Node.TheVariants.{Not, Xor, And}
use Rattle.dependency_graph.specs.Graphs.{and_count, node_of}
use Rattle.claim_check.specs.Settled.{SettledView}
use Rattle.bit_sums.specs.Sums.{SumView}
use Rattle.sum_graph.specs.Graphs.{products_in}
use Rattle.sum_graph.specs.Lone.{GoToOneOutput, KeepsAlone, beside, is_in, sum_from}
use Rattle.sum_graph.specs.declared.slot.Slot.{Slot}
use Rattle.sum_graph.specs.declared.slot.Slot.TheVariants as slots
use Rattle.sum_graph.specs.inside.Placing.{IsPlaced}
use Rattle.sum_graph.specs.inside.Walks.{AreNoFactors, AreShared, IsNodeSum, IsTaken, factors_of, is_shared, products_beside, slot_products}
use Rattle.sum_graph.proofs.PlaceLemmas.{IsAtHome}

-- ---- sums of what counts at places

pub sum_from-append : {A : Type 0} (count : ℕ → A → ℕ) (k : ℕ) (xs : List A) (y : A)
    → sum_from count k (xs ++ y ∷ []) ≡ sum_from count k xs + count (k + length xs) y
sum_from-append count k [] y =
    let at : count (k + 0) y ≡ count k y = ap (λ i. count i y) (omega arith) in
    omega (arith, at)
sum_from-append count k (x ∷ xs) y =
    let at : count ((k + 1) + length xs) y ≡ count (k + suc (length xs)) y = ap (λ i. count i y) (omega arith) in
    omega (arith, at, sum_from-append count (k + 1) xs y)

sum_from-set : {A : Type 0} (count : ℕ → A → ℕ) (k : ℕ) (xs : List A) (j : ℕ) (old new : A) → slice_get xs j ≡ Some old
    → sum_from count k (slice_set xs j new) + count (k + j) old ≡ sum_from count k xs + count (k + j) new
sum_from-set count k [] j old new e = absurd (none-some old e)
sum_from-set count k (x ∷ xs) zero old new e =
    let was : count (k + 0) old ≡ count k x = ap (λ i. count i old) (omega arith) ∙ ap (count k) (sym (same_Some x old e)) in
    let is : count (k + 0) new ≡ count k new = ap (λ i. count i new) (omega arith) in
    omega (arith, was, is)
sum_from-set count k (x ∷ xs) (suc j) old new e =
    let was : count ((k + 1) + j) old ≡ count (k + suc j) old = ap (λ i. count i old) (omega arith) in
    let is : count ((k + 1) + j) new ≡ count (k + suc j) new = ap (λ i. count i new) (omega arith) in
    omega (arith, was, is, sum_from-set count (k + 1) xs j old new e)

beside_none : (lone : Bool) → beside lone 0 ≡ 0
beside_none true = refl
beside_none false = refl

beside_most : (lone : Bool) (m n : ℕ) → m ≤ n → beside lone m ≤ beside lone n
beside_most true m n le = omega arith
beside_most false m n le = le

-- what is of the set beside more counts no more
beside_less : (from to : Bool) (n : ℕ) → (from ≡ true → to ≡ true) → beside to n ≤ beside from n
beside_less true to n more = rw (more refl) (omega arith)
beside_less false true n more = omega arith
beside_less false false n more = omega arith

beside_plus : (lone : Bool) (m n : ℕ) → beside lone (m + n) ≡ beside lone m + beside lone n
beside_plus true m n = refl
beside_plus false m n = refl

-- ---- a sum is made

pub taken_beside : (lone : ℕ → Bool) (base : Base) (old new : List Slot) (sum : SumView) → IsTaken base old new sum
    → products_beside lone new + beside (is_in lone base) (length sum.products) ≡ products_beside lone old
taken_beside lone (bases.Input i) old new sum taken = rw (taken.0, taken.1) (omega arith)
taken_beside lone (bases.Node k) old new sum taken =
    elim taken as (λ _. products_beside lone new + beside (lone k) (length sum.products) ≡ products_beside lone old) [
      | inl copied ↦ rw (copied.same, copied.is) (omega (arith, beside_none (lone k)))
      | inr moved ↦
          let count = λ (i : ℕ) (slot : Slot). beside (lone i) (slot_products slot) in
          let was : count (0 + k) (slots.Sum sum) ≡ beside (lone k) (length sum.products) =
          ap (λ i. beside (lone i) (length sum.products)) (zero-add k) in
          let is : count (0 + k) slots.Moved ≡ 0 = beside_none (lone (0 + k)) in
          rw moved.gone (omega (arith, was, is, sum_from-set count 0 old k (slots.Sum sum) slots.Moved moved.found))
    ]

pub summed_beside : (lone : ℕ → Bool) (k : ℕ) (node : Node) (old new : List Slot) (sum : SumView) → KeepsAlone lone k node → IsNodeSum node old new sum
    → products_beside lone new + beside (lone k) (length sum.products) ≤ products_beside lone old + beside (lone k) (and_count node)
summed_beside lone k (Not a) old new sum keeps is =
    let many : beside (lone k) (length sum.products) ≡ beside (lone k) (length is.operand.products) =
    ap (λ (s : SumView). beside (lone k) (length s.products)) is.is in
    omega (
      arith,
      many,
      taken_beside lone a old new is.operand is.taken,
      beside_less (is_in lone a) (lone k) (length is.operand.products) keeps,
    )
summed_beside lone k (Xor a b) old new sum keeps is =
    omega (
      arith,
      beside_most (lone k) (length sum.products) (length is.left.products + length is.right.products) is.is.few,
      beside_plus (lone k) (length is.left.products) (length is.right.products),
      taken_beside lone a old is.between is.left is.first,
      taken_beside lone b is.between new is.right is.second,
      beside_less (is_in lone a) (lone k) (length is.left.products) keeps.0,
      beside_less (is_in lone b) (lone k) (length is.right.products) keeps.1,
    )
summed_beside lone k (And a b) old new sum keeps is =
    let same : products_beside lone new ≡ products_beside lone old = ap (products_beside lone) is.same in
    omega (arith, same, beside_most (lone k) (length sum.products) 1 is.is.few)

-- ---- a sum is placed

no_factor : (lone : ℕ → Bool) (base : Base) → is_in lone base ≡ false → AllByRecursion (λ j. lone j ≡ false) (node_of base)
no_factor lone (bases.Input i) none = tt
no_factor lone (bases.Node j) none = (none, tt)

no_factors : (lone : ℕ → Bool) (k : ℕ) (node : Node) → KeepsAlone lone k node → AllByRecursion (λ j. lone j ≡ false) (factors_of node)
no_factors lone k (Not a) keeps = tt
no_factors lone k (Xor a b) keeps = tt
no_factors lone k (And a b) keeps =
    let P = λ (j : ℕ). lone j ≡ false in
    AllByRecursion-append P (node_of a) (node_of b ++ []) (no_factor lone a keeps.0)
    (AllByRecursion-append P (node_of b) [] (no_factor lone b keeps.1) tt)

none_in : (lone : ℕ → Bool) (nodes : List Node)
    → ((k : ℕ) (node : Node) → slice_get nodes k ≡ Some node → AllByRecursion (λ j. lone j ≡ false) (factors_of node)) → AreNoFactors lone nodes
none_in lone [] each = tt
none_in lone (node ∷ rest) each =
    AllByRecursion-append (λ j. lone j ≡ false) (factors_of node) (flat_map factors_of rest) (each 0 node refl)
    (none_in lone rest (λ k x e. each (suc k) x e))

pub lone_alone : (s : SettledView) (shared : List Bool) (lone : ℕ → Bool) (k : ℕ) → AreShared s.nodes s.outputs shared → GoToOneOutput s lone
    → k < length s.nodes → lone k ≡ true → is_shared shared k ≡ false
lone_alone s shared lone k are go low here =
    are.only lone (none_in lone s.nodes (λ j node e. no_factors lone j node (go.summed j node e))) k low here (go.once k here)

pub placed_beside : (s : SettledView) (shared : Bool) (lone : Bool) (sum : SumView) (old new : List SumView) (slot : Slot)
    → (lone ≡ true → shared ≡ false) → IsPlaced shared sum old new slot → IsAtHome s shared sum old new slot
    → products_in new + beside lone (slot_products slot) ≤ products_in old + beside lone (length sum.products)
placed_beside s true true sum old new slot alone placed home = absurd (true≢false (alone refl))
placed_beside s false true sum old new slot alone placed home = let same = ap products_in placed.0 in omega (arith, same)
placed_beside s shared false sum old new slot alone placed home = home.products
