-- What copies and toggles do to the sets of the lines.
use Rattle.std.proofs.Common.{◌≡◌, ◌≢◌, ℕ, ◌<◌, Bool, true, false, ◌&&◌, List, [], ◌∷◌, ◌++◌, suc, ◌+◌, ◌≤◌, length, set, slice_get, Some, refl, sym, ap, ap₂, ◌∙◌, arith}
use Rattle.std.specs.Bool.{xor}
use Rattle.std.specs.List.{AllByRecursion, flat_map}
use Rattle.std.proofs.lemmas.Bool.{and_parts, false≢true}
use Rattle.std.proofs.lemmas.List.{length-append, length-map, map-set, set-get_or}
use Rattle.std.proofs.lemmas.Option.{slice_get-get_or}
use Rattle.list_facts.specs.Bits.{bit_of}
use Rattle.list_facts.specs.Lists.{AllFrom}
use Rattle.list_facts.proofs.BitLemmas.{xor_none, xor_one, xor_swap}
use Rattle.list_facts.proofs.TableLemmas.{of_four_bits}
use Rattle.dependency_graph.specs.declared.node.Base.{Base}
use Rattle.dependency_graph.specs.declared.node.Base.TheVariants as bases
use Rattle.bit_sums.specs.Bits.{apart}
use Rattle.bit_sums.specs.Sums.{ProductView, SumView, product_value, sum_value, xor_by}
use Rattle.bit_sums.proofs.SetLemmas.{value-apart}
use Rattle.mct_circuit.specs.Gates.{line_map}
use Rattle.mct_circuit.proofs.ReversalLemmas.{line_map-append}
use Rattle.sum_graph.specs.Graphs.{AreKnownSums, IsKnownSum, IsSumGraph, SumGraphView}
use Rattle.sum_graph.proofs.SumNodeLemmas.{known_further, value_of_sum}
use Rattle.sum_toggles.proofs.AddingLemmas.{flip_always, flip_by_one, set_again}
use Rattle.sum_toggles.proofs.GatherLemmas.{copy_on}
use Rattle.sum_toggles.specs.Toggles.{one_gates}
use Rattle.line_states.specs.Gathers.{GatherView, PairView, all_fit, are_placed, fits, gathered, is_held, is_one, pair_gates, set_at, toggle_gates}
use Rattle.line_states.specs.States.{StatesView, all_sums, bit_value, copy_gates, no_sum, sum_at, toggled_set}
use Rattle.line_states.specs.inside.Places.{AreLow, ArePlaced, MovesSets}
use Rattle.line_states.proofs.GateLemmas.{narrow_flip, narrow_toggle, toggle_on}
use Rattle.line_states.proofs.GatherLemmas.{lines_agree, pair_value, pairs_add}
use Rattle.line_states.proofs.PlaceLemmas.{all_placed, first_low, second_low}
use Rattle.line_states.proofs.ValueLemmas.{added_value, bit_at, bits_of, is_one_value}

-- ---- pairs that fit have the values of the products

module _ (f : Base → Bool) (sets : List (List Base)) where
  factor_value : (g : GatherView) (factor : List Base) → AreLow (length sets) g → is_one (gathered sets g) factor ≡ true
      → xor (xor_by (bit_of (bits_of f sets)) g.others) (bit_of (bits_of f sets) g.on) ≡ xor_by f factor
  factor_value g factor low e =
      let own = xor_by f (set_at sets g.on) in
      let others = xor_by (λ (l : ℕ). xor_by f (set_at sets l)) g.others in
      ap₂ xor (lines_agree (bit_of (bits_of f sets)) (λ (l : ℕ). xor_by f (set_at sets l)) (λ (l : ℕ). l < length sets) g.others low.others
      (λ l here. bit_at f sets l here)) (bit_at f sets g.on low.on)
      ∙ xor_swap others own
      ∙ sym (added_value f sets (set_at sets g.on) g.others)
      ∙ is_one_value f (gathered sets g) factor e

  fits_value : (target : ℕ) (pair : PairView) (p : ProductView) → fits sets target pair p ≡ true → pair_value (bits_of f sets) pair ≡ product_value f p
  fits_value target pair p e =
      let both = and_parts (are_placed (length sets) target pair) (is_held sets pair p) e in
      let held = and_parts (is_one (gathered sets pair.first) p.first) (is_one (gathered sets pair.second) p.second) both.1 in
      ap₂ ◌&&◌ (factor_value pair.first p.first (first_low (length sets) target pair both.0) held.0)
      (factor_value pair.second p.second (second_low (length sets) target pair both.0) held.1)

  all_value : (target : ℕ) (pairs : List PairView) (ps : List ProductView) → all_fit sets target pairs ps ≡ true
      → xor_by (pair_value (bits_of f sets)) pairs ≡ xor_by (product_value f) ps
  all_value target [] [] e = refl
  all_value target [] (p ∷ ps) e = absurd (false≢true e)
  all_value target (pair ∷ pairs) [] e = absurd (false≢true e)
  all_value target (pair ∷ pairs) (p ∷ ps) e =
      let parts = and_parts (fits sets target pair p) (all_fit sets target pairs ps) e in
      ap₂ xor (fits_value target pair p parts.0) (all_value target pairs ps parts.1)

-- ---- the constant

one_adds : (target : ℕ) (one : Bool) (bits : List Bool) → line_map (one_gates target one) bits ≡ set bits target (xor one (bit_of bits target))
one_adds target true bits = flip_always target bits ∙ ap (set bits target) (sym (xor_one (bit_of bits target)))
one_adds target false bits = sym (ap (set bits target) (xor_none (bit_of bits target)) ∙ set-get_or bits target false)

-- ---- what is toggled

known_from : (n k j : ℕ) (sums : List SumView) → k ≤ j → AllByRecursion (IsKnownSum n k) sums → AllFrom (IsKnownSum n) j sums
known_from n k j [] le known = tt
known_from n k j (s ∷ ss) le known = (known_further n k j (omega (arith, le)) s known.0, known_from n k (j + 1) ss (omega (arith, le)) known.1)

all_from_append : {A : Type 0} (P : ℕ → A → Type 0) (k : ℕ) (xs ys : List A) → AllFrom P k xs → AllFrom P (k + length xs) ys → AllFrom P k (xs ++ ys)
all_from_append P k [] ys front back = let same : k + 0 ≡ k = omega arith in rw same at back
all_from_append P k (x ∷ xs) ys front back =
    let same : k + suc (length xs) ≡ k + 1 + length xs = omega arith in
    (front.0, all_from_append P (k + 1) xs ys front.1 (rw same at back))

pub all_known : (g : SumGraphView) → IsSumGraph g → AreKnownSums g.inputs 0 (all_sums g)
all_known g is =
    all_from_append (IsKnownSum g.inputs) 0 g.nodes g.outputs is.nodes
    (known_from g.inputs (length g.nodes) (0 + length g.nodes) g.outputs (omega arith) is.outputs)

-- a node's bit is the value of its sum
pub node_is : (g : SumGraphView) (input : List Bool) (node : ℕ) (sum : SumView) → IsSumGraph g → slice_get (all_sums g) node ≡ Some sum
    → bit_value g input (bases.Node node) ≡ sum_value (bit_value g input) sum
node_is g input node sum is here = value_of_sum g.inputs (all_sums g) input node sum (all_known g is) here

-- ---- the steps

same_sum : (one products old bits : Bool) → xor one (xor products old) ≡ xor (xor old bits) (xor (xor one (xor bits products)) false)
unfolding mathlib.Core.Bool.xor
same_sum =
    of_four_bits (λ one products old bits. xor one (xor products old))
    (λ one products old bits. xor (xor old bits) (xor (xor one (xor bits products)) false)) refl

toggled_value : (f : Base → Bool) (old : List Base) (node : ℕ) (sum : SumView) → f (bases.Node node) ≡ sum_value f sum
    → xor sum.one (xor (xor_by (product_value f) sum.products) (xor_by f old)) ≡ xor_by f (toggled_set old node sum)
toggled_value f old node sum is =
    let bits = xor_by f sum.bits in
    let products = xor_by (product_value f) sum.products in
    same_sum sum.one products (xor_by f old) bits
    ∙ ap₂ (λ x y. xor x (xor y false)) (sym (value-apart f old sum.bits)) (sym is)
    ∙ sym (value-apart f (apart old sum.bits) (bases.Node node ∷ []))

-- what is asked of a toggle
pub record CanToggle (s : StatesView) (node onto : ℕ) (pairs : List PairView) : Type 0 where
  pub known : slice_get (all_sums s.graph) node ≡ Some (sum_at s.graph node)
  pub low : onto < length s.sets
  pub fit : all_fit s.sets onto pairs (sum_at s.graph node).products ≡ true
  pub placed : AllByRecursion (ArePlaced (length s.sets) onto) pairs

pub toggle_can : (s : StatesView) (node onto : ℕ) (pairs : List PairView) → node < length (all_sums s.graph) → onto < length s.sets
    → all_fit s.sets onto pairs (sum_at s.graph node).products ≡ true → CanToggle s node onto pairs
toggle_can s node onto pairs known low fit = record {
  known = slice_get-get_or (all_sums s.graph) node no_sum known;
  low = low;
  fit = fit;
  placed = all_placed s.sets onto pairs (sum_at s.graph node).products fit;
}

-- the code's tests
pub tests_can : (s : StatesView) (node onto : ℕ) (pairs : List PairView) (sets : List (List Base)) (sum : SumView) (products : List ProductView) (fit : Bool)
    → sets ≡ s.sets → sum ≡ sum_at s.graph node → products ≡ sum.products → fit ≡ all_fit sets onto pairs products → fit ≡ true
    → node < length s.graph.nodes + length s.graph.outputs → onto < length s.sets → CanToggle s node onto pairs
tests_can s node onto pairs sets sum products fit e is parts found passed known low =
    let all : length (all_sums s.graph) ≡ length s.graph.nodes + length s.graph.outputs = length-append s.graph.nodes s.graph.outputs in
    let same : products ≡ (sum_at s.graph node).products = parts ∙ ap (λ (t : SumView). t.products) is in
    toggle_can s node onto pairs (omega (arith, all, known)) low
    (ap₂ (λ (a : List (List Base)) (ps : List ProductView). all_fit a onto pairs ps) (sym e) (sym same) ∙ sym found ∙ passed)

pub toggle_moves : (s : StatesView) (node onto : ℕ) (pairs : List PairView) → IsSumGraph s.graph → CanToggle s node onto pairs
    → MovesSets s onto (toggled_set (set_at s.sets onto) node (sum_at s.graph node)) (toggle_gates onto pairs (sum_at s.graph node).one)
toggle_moves s node onto pairs is can = record {
  low = can.low;
  on = toggle_on (length s.sets) onto pairs (sum_at s.graph node).one can.low can.placed;
  narrow = narrow_toggle onto pairs (sum_at s.graph node).one;
  moves = λ input.
      (let f = bit_value s.graph input in
      let sum = sum_at s.graph node in
      let bits = bits_of f s.sets in
      let size : length bits ≡ length s.sets = length-map s.sets (xor_by f) in
      let old = set_at s.sets onto in
      let products = xor_by (product_value f) sum.products in
      line_map-append (flat_map (pair_gates onto) pairs) (one_gates onto sum.one) bits
      ∙ ap (line_map (one_gates onto sum.one)) (pairs_add (length s.sets) onto can.low pairs can.placed bits size
      ∙ ap₂ (λ x y. set bits onto (xor x y)) (all_value f s.sets onto pairs sum.products can.fit) (bit_at f s.sets onto can.low))
      ∙ one_adds onto sum.one (set bits onto (xor products (xor_by f old)))
      ∙ set_again bits onto (xor products (xor_by f old)) sum.one (omega (arith, size, can.low))
      ∙ ap (set bits onto) (toggled_value f old node sum (node_is s.graph input node sum is can.known))
      ∙ sym (map-set (xor_by f) s.sets onto (toggled_set old node sum)));
}

pub copy_moves : (s : StatesView) (from to : ℕ) → from < length s.sets → to < length s.sets → from ≢ to
    → MovesSets s to (apart (set_at s.sets to) (set_at s.sets from)) (copy_gates from to)
copy_moves s from to low also apart_lines = record {
  low = also;
  on = (copy_on (length s.sets) from to low also apart_lines, tt);
  narrow = (narrow_flip (from ∷ []) to (omega arith), tt);
  moves = λ input.
      (let f = bit_value s.graph input in
      let bits = bits_of f s.sets in
      let a = xor_by f (set_at s.sets from) in
      let b = xor_by f (set_at s.sets to) in
      flip_by_one from to bits
      ∙ ap (set bits to) (ap₂ xor (bit_at f s.sets from low) (bit_at f s.sets to also) ∙ xor_swap a b ∙ sym
      (value-apart f (set_at s.sets to) (set_at s.sets from)))
      ∙ sym (map-set (xor_by f) s.sets to (apart (set_at s.sets to) (set_at s.sets from))));
}
