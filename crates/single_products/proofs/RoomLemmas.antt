-- What is counted of a graph: its products, one sum after another.
use Rattle.std.proofs.Common.{◌≡◌, ℕ, ◌+◌, ◌<◌, ◌≤◌, List, [], ◌∷◌, ◌++◌, length, take, drop, slice_get, Some, Option, None}
use Rattle.std.proofs.Common.{◌-◌, Bool, true, false, is_some, not, inl, inr, ap, ◌∙◌, arith}
use Rattle.std.proofs.lemmas.Bool.{cases_lt}
use Rattle.revs_tape.specs.declared.limits.TheConstants.{MOST_WRITES}
use Rattle.std.proofs.lemmas.List.{take_all, take-append-drop}
use Rattle.std.proofs.lemmas.List.Sums.{sum_by-append, sum_by-cons}
use Rattle.bit_sums.specs.Sums.{SumView}
use Rattle.sum_graph.specs.Graphs.{SumGraphView, products_in}
use Rattle.single_products.specs.Singles.{most_nodes}
use Rattle.single_products.specs.inside.Parting.{IsLeft}
use Rattle.sum_graph.proofs.WalkLemmas.{take_next}

abbrev products_of : SumView → ℕ
products_of s = length s.products

-- the products of one sum more
pub products_next : (sums : List SumView) (k : ℕ) (s : SumView) → slice_get sums k ≡ Some s
    → products_in (take (k + 1) sums) ≡ products_in (take k sums) + length s.products
products_next sums k s e =
    ap products_in (take_next sums k s e) ∙ sum_by-append products_of (take k sums) (s ∷ []) ∙ omega (arith, sum_by-cons products_of s [])

pub products_all : (sums : List SumView) → products_in (take (length sums) sums) ≡ products_in sums
products_all sums = ap products_in (take_all (length sums) sums (omega arith))

-- those so far are no more than all
pub products_within : (sums : List SumView) (k : ℕ) → products_in (take k sums) ≤ products_in sums
products_within sums k =
    let all : products_in (take k sums ++ drop k sums) ≡ products_in sums = ap products_in (take-append-drop k sums) in
    omega (arith, all, sum_by-append products_of (take k sums) (drop k sums))

-- the number of the sum's products is taken off what is left
pub left_less : (sums : List SumView) (k : ℕ) (s : SumView) (old left new count : ℕ) → slice_get sums k ≡ Some s → count ≡ length s.products
    → left + products_in (take k sums) ≡ old → (count ≤ left) × (new ≡ left - count) → new + products_in (take (k + 1) sums) ≡ old
left_less sums k s old left new count e same before is = omega (arith, products_next sums k s e, before, same, is.0, is.1)

-- there is less left than the sum has products
pub none_left : (sums : List SumView) (k : ℕ) (s : SumView) (old left count : ℕ) → slice_get sums k ≡ Some s → count ≡ length s.products
    → left + products_in (take k sums) ≡ old → ¬ (count ≤ left) → old < products_in sums
none_left sums k s old left count e same before low =
    elim (cases_lt left count) [
      | inl less ↦ omega (arith, products_next sums k s e, products_within sums (k + 1), before, same, less)
      | inr more ↦ absurd (low (omega (arith, more)))
    ]

pub left_done : (sums : List SumView) (k old left : ℕ) → k ≡ length sums → left + products_in (take k sums) ≡ old → left + products_in sums ≡ old
left_done sums k old left end before = omega (arith, ap (λ i. products_in (take i sums)) end, products_all sums, before)

-- ---- nodes, and products of nodes and outputs

pub left_both : (o : Option ℕ) (g : SumGraphView) (counted old left : ℕ) (outputs : List SumView) → counted ≡ length g.nodes
    → length g.nodes ≤ MOST_WRITES → old ≡ MOST_WRITES - counted → left + products_in g.nodes ≡ old → outputs ≡ g.outputs
    → IsLeft left (products_in outputs) o → IsLeft MOST_WRITES (most_nodes g) o
left_both None g counted old left outputs same few is before all low = omega (arith, same, few, is, before, ap products_in all, low)
left_both (Some new) g counted old left outputs same few is before all rest = omega (arith, same, few, is, before, ap products_in all, rest)

pub nodes_large : (g : SumGraphView) (counted old : ℕ) → counted ≡ length g.nodes → length g.nodes ≤ MOST_WRITES → old ≡ MOST_WRITES - counted
    → old < products_in g.nodes → MOST_WRITES < most_nodes g
nodes_large g counted old same few is low = omega (arith, same, few, is, low)

pub has_room : (o : Option ℕ) (n : ℕ) (none : Bool) → IsLeft MOST_WRITES n o → is_some o ≡ not none → none ≡ false → n ≤ MOST_WRITES
has_room None n true left e f = cc
has_room None n false left e f = cc
has_room (Some rest) n none left e f = omega (arith, left)
