-- Prices of toggles: their weights, and their flips under two lines.
use Rattle.std.proofs.Common.{◌≡◌, ◌≢◌, ℕ, zero, suc, ◌+◌, ◌≤◌, inl, inr, List, [], ◌∷◌, length, Some, sum_by, refl, sym, ◌∙◌, ap, subst, arith, zero-add}
use Rattle.std.specs.Prelude.{slice_get}
use Rattle.std.proofs.lemmas.Bool.{cases_eq}
use Rattle.std.proofs.lemmas.List.Sums.{sum_by-append, sum_by-cons}
use Rattle.bit_sums.specs.Sums.{SumView}
use Rattle.sum_graph.specs.Graphs.{SumGraphView}
use Rattle.sum_toggles.specs.Toggles.{toggle_weight}
use Rattle.sum_toggles.proofs.CountLemmas.{ccx_of}
use Rattle.mct_circuit.specs.Sizes.{weight_of}
use Rattle.held_nodes.specs.Held.{ForwardView}
use Rattle.sum_graph.specs.Graphs.{first_work}
use Rattle.held_nodes.specs.Moves.{IsToggled, toggle_of}
use Rattle.mct_circuit.specs.Sizes.{weight_in}
use Rattle.held_nodes.proofs.CountLemmas.{ccx_toggled}
use Rattle.held_nodes.specs.Prices.{IsPrice, price_at, price_of, prices}

weight_toggled : (f next : ForwardView) (k : ℕ) (t : IsToggled f k next) → weight_in next.gates ≤ weight_in f.gates + toggle_weight t.node
weight_toggled f next k t =
    let e = ap (λ (g : ForwardView). weight_in g.gates) t.becomes in
    let sum = sum_by-append weight_of f.gates (toggle_of (first_work f.graph) f.lines t.line t.node) in
    omega (arith, e, sum, t.weighs)

pub weight_price : IsPrice weight_of toggle_weight
weight_price = record { toggled = weight_toggled }

ccx_more : (f next : ForwardView) (k : ℕ) (t : IsToggled f k next) → sum_by ccx_of next.gates ≤ sum_by ccx_of f.gates + length t.node.products
ccx_more f next k t = omega (arith, ccx_toggled f next k t)

pub ccx_price : IsPrice ccx_of (λ (s : SumView). length s.products)
ccx_price = record { toggled = ccx_more }

-- ---- sums of prices

pub price_node : (price : SumView → ℕ) (s : SumGraphView) (k : ℕ) (node : SumView) → slice_get s.nodes k ≡ Some node → price_at price s k ≡ price node
price_node price s k node is = ap (price_of price) is

pub prices-longer : (price : SumView → ℕ) (s : SumGraphView) (lo m n : ℕ) → m ≤ n → prices price s lo m ≤ prices price s lo n
prices-longer price s lo m zero low = let e : m ≡ 0 = omega arith in subst (λ i. prices price s lo i ≤ prices price s lo 0) (sym e) (omega arith)
prices-longer price s lo m (suc n) low =
    elim (cases_eq m (suc n)) as (λ _. prices price s lo m ≤ prices price s lo (suc n)) [
      | inl e ↦ subst (λ i. prices price s lo i ≤ prices price s lo (suc n)) (sym e) (omega arith)
      | inr ne ↦ let other : m ≢ suc n = ne in omega (arith, prices-longer price s lo m n (omega (arith, other, low)))
    ]

-- the prices of the nodes before place k of a list
abbrev front : (SumView → ℕ) → List SumView → ℕ → ℕ
front price nodes zero = 0
front price nodes (suc k) = front price nodes k + price_of price (slice_get nodes k)

front_more : (price : SumView → ℕ) (x : SumView) (xs : List SumView) (k : ℕ) → front price (x ∷ xs) (suc k) ≡ price x + front price xs k
front_more price x xs zero = omega arith
front_more price x xs (suc k) = omega (arith, front_more price x xs k)

front_all : (price : SumView → ℕ) (xs : List SumView) → front price xs (length xs) ≡ sum_by price xs
front_all price [] = refl
front_all price (x ∷ xs) =
    let cons = sum_by-cons price x xs in
    omega (arith, front_more price x xs (length xs), front_all price xs, cons)

prices_front : (price : SumView → ℕ) (s : SumGraphView) (n : ℕ) → prices price s 0 n ≡ front price s.nodes n
prices_front price s zero = refl
prices_front price s (suc n) =
    let at : price_at price s (0 + n) ≡ price_at price s n = ap (price_at price s) (zero-add n) in
    omega (arith, prices_front price s n, at)

-- the prices of all nodes
pub prices_all : (price : SumView → ℕ) (s : SumGraphView) → prices price s 0 (length s.nodes) ≡ sum_by price s.nodes
prices_all price s = prices_front price s (length s.nodes) ∙ front_all price s.nodes
