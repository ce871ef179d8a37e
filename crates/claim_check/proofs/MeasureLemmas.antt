-- Each tape and each settled graph has measures: a cut of the greatest length, and the number of the monomials of each write.
use Rattle.std.proofs.Common.{◌≡◌, ℕ, zero, suc, ◌<◌, ◌≤◌, Bool, inl, inr, List, length, map, refl, sym, ap, subst, arith}
use Rattle.std.specs.List.{range_with_len}
use Rattle.std.proofs.lemmas.Bool.{cases_lt}
use Rattle.std.proofs.lemmas.List.FromFn.{get_or-map-range_with_len, length-map-range_with_len}
use Rattle.revs_tape.specs.Cuts.{IsWidth, cut_at}
use Rattle.revs_tape.specs.Measures.{inputs_of, outputs_of, steps_of, writes_among, writes_of}
use Rattle.revs_tape.proofs.MonomialLemmas.{monomials_are_determined}
use Rattle.dependency_graph.specs.Graphs.{output_nodes}
use Rattle.dependency_graph.specs.Graphs as graphs
use Rattle.claim_check.specs.Measures.{HasMonomials, HaveMonomials, SettledGraphsHaveMeasures, TapesHaveMeasures, node_function, write_function}
use Rattle.claim_check.specs.Settled.{as_graph}

-- ---- the width

-- no value at a number up to n is greater than that at one of them
record HasGreatest (f : ℕ → ℕ) (n : ℕ) : Type 0 where
  at : ℕ
  inside : at ≤ n
  most : (j : ℕ) → j ≤ n → f j ≤ f at

up_to_next : (f : ℕ → ℕ) (n top : ℕ) → ((j : ℕ) → j ≤ n → f j ≤ top) → f (suc n) ≤ top → (j : ℕ) → j ≤ suc n → f j ≤ top
up_to_next f n top before last j low = elim (cases_lt n j) as (λ _. f j ≤ top) [
  | inl above ↦ let same : j ≡ suc n = omega (arith, above, low) in omega (arith, ap f same, last)
  | inr within ↦ before j (omega (arith, within))
]

greatest : (f : ℕ → ℕ) (n : ℕ) → HasGreatest f n
greatest f zero = record {
  at = 0;
  inside = omega arith;
  most = λ j low. let same : j ≡ 0 = omega (arith, low) in omega (arith, ap f same);
}
greatest f (suc n) =
    let before = greatest f n in
    elim (cases_lt (f before.at) (f (suc n))) as (λ _. HasGreatest f (suc n)) [
      | inl greater ↦ record {
        at = suc n;
        inside = omega arith;
        most = up_to_next f n (f (suc n)) (λ j low. omega (arith, before.most j low, greater)) (omega arith);
      }
      | inr not_greater ↦ record {
        at = before.at;
        inside = omega (arith, before.inside);
        most = up_to_next f n (f before.at) before.most (omega (arith, not_greater));
      }
    ]

record SomeWidth (steps : List (List ℕ)) (outputs : List ℕ) : Type 0 where
  width : ℕ
  is : IsWidth steps outputs width

some_width : (steps : List (List ℕ)) (outputs : List ℕ) → SomeWidth steps outputs
some_width steps outputs =
    let top = greatest (λ j. length (cut_at steps outputs j)) (length steps) in
    record {
      width = length (cut_at steps outputs top.at);
      is = record { most = top.most; at = top.at; inside = top.inside; reached = refl };
    }

-- ---- the numbers of monomials

count_of : ℕ → (List Bool → Bool) → ℕ
count_of n f = length (monomials_are_determined n f).monomials

has_count : (n : ℕ) (f : List Bool → Bool) → HasMonomials n f (count_of n f)
unfolding count_of
has_count n f = let one = monomials_are_determined n f in record { monomials = one.monomials; are = one.are; counted = refl }

-- one for each of the first functions, so many
counts_of : ℕ → (ℕ → List Bool → Bool) → ℕ → List ℕ
counts_of n functions size = map (λ k. count_of n (functions k)) (range_with_len 0 size)

length-counts_of : (n : ℕ) (functions : ℕ → List Bool → Bool) (size : ℕ) → length (counts_of n functions size) ≡ size
unfolding counts_of
length-counts_of n functions size = length-map-range_with_len (λ k. count_of n (functions k)) 0 size

have_counts : (n : ℕ) (functions : ℕ → List Bool → Bool) (size : ℕ) → HaveMonomials n functions (counts_of n functions size)
unfolding counts_of
have_counts n functions size k low =
    let inside : k < size = omega (arith, low, length-map-range_with_len (λ k. count_of n (functions k)) 0 size) in
    subst (HasMonomials n (functions k)) (sym (get_or-map-range_with_len (λ k. count_of n (functions k)) 0 size k k 0 inside (omega arith)))
    (has_count n (functions k))

-- ---- the law

pub tapes_have_measures : TapesHaveMeasures
tapes_have_measures t =
    let cuts = some_width (steps_of t) (writes_among t.outputs) in
    record {
      measures = record {
        inputs = inputs_of t;
        outputs = outputs_of t;
        steps = writes_of t;
        width = cuts.width;
        monomials = counts_of (inputs_of t) (write_function t) (writes_of t);
      };
      are = record {
        inputs = refl;
        outputs = refl;
        steps = refl;
        width = cuts.is;
        one_each = length-counts_of (inputs_of t) (write_function t) (writes_of t);
        monomials = have_counts (inputs_of t) (write_function t) (writes_of t);
      };
    }

pub settled_graphs_have_measures : SettledGraphsHaveMeasures
settled_graphs_have_measures s =
    let cuts = some_width (graphs.steps_of (as_graph s)) (output_nodes (as_graph s)) in
    record {
      measures = record {
        inputs = s.inputs;
        outputs = length s.outputs;
        steps = length s.nodes;
        width = cuts.width;
        monomials = counts_of s.inputs (node_function s) (length s.nodes);
      };
      are = record {
        inputs = refl;
        outputs = refl;
        steps = refl;
        width = cuts.is;
        one_each = length-counts_of s.inputs (node_function s) (length s.nodes);
        monomials = have_counts s.inputs (node_function s) (length s.nodes);
      };
    }
