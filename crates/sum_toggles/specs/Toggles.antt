-- The gates that add the value of a sum to a line, where each of its bases has a line.
use Rattle.std.specs.Prelude.{◌≡◌, ◌≢◌, ℕ, ◌+◌, ◌-◌, ◌*◌, ◌<◌, ◌≤◌, Bool, if◌then◌else◌, List, []}
use Rattle.std.specs.Prelude.{◌∷◌, ◌++◌, length, map, reverse, Option, unwrap_or, slice_index_or, None, sum_by, ⊤}
use Rattle.std.specs.List.{flat_map, list_any}
use Rattle.list_facts.specs.Lists.{IsAmong}
use Rattle.dependency_graph.specs.declared.node.Base.{Base}
use Rattle.dependency_graph.specs.declared.node.Base.TheVariants as bases
use Rattle.dependency_graph.specs.Folds.{is_same}
use Rattle.bit_sums.specs.Sums.{ProductView, SumView}
use Rattle.circuit_plans.specs.declared.plan.TheConstants.{MOST_LINES}
use Rattle.mct_circuit.specs.Gates.{GateView, flip_of}

-- ---- a product: both factors are gathered, each on the line of a bit that the other lacks

abbrev pub has : List Base → Base → Bool
has bits base = list_any (is_same base) bits

-- the last of the bits that the other list lacks; the given one where it has them all
abbrev pub last_own : List Base → Base → List Base → Base
last_own other none [] = none
last_own other none (b ∷ bs) = last_own other (if has other b then none else b) bs

abbrev pub own_base : List Base → List Base → Base
own_base bits other = last_own other (bases.Input 0) bits

-- every other bit is added to the line of a factor's own one
abbrev pub gather : (Base → ℕ) → Base → Base → List GateView
gather line own b = if is_same b own then [] else flip_of (line b ∷ []) (line own) ∷ []

abbrev pub gathers : (Base → ℕ) → Base → List Base → List GateView
gathers line own bits = flat_map (gather line own) bits

abbrev pub both_gathered : (Base → ℕ) → ProductView → List GateView
both_gathered line p =
    gathers line (own_base p.first p.second) p.first
    ++ gathers line (own_base p.second p.first) p.second

-- a flip under the two lines, between the gathering and its reverse
abbrev pub product_gates : (Base → ℕ) → ℕ → ProductView → List GateView
product_gates line target p =
    both_gathered line p
    ++ flip_of
    (line (own_base p.first p.second) ∷ line (own_base p.second p.first) ∷ []) target ∷ []
    ++ reverse (both_gathered line p)

-- ---- a sum: its bits, its products, and the constant last

abbrev pub bit_gates : (Base → ℕ) → ℕ → List Base → List GateView
bit_gates line target bits = map (λ (b : Base). flip_of (line b ∷ []) target) bits

abbrev pub one_gates : ℕ → Bool → List GateView
one_gates target one = if one then flip_of [] target ∷ [] else []

abbrev pub sum_gates : (Base → ℕ) → ℕ → SumView → List GateView
sum_gates line target s =
    bit_gates line target s.bits
    ++ flat_map (product_gates line target) s.products
    ++ one_gates target s.one

-- what these gates weigh, on any lines
abbrev pub product_weight : ProductView → ℕ
product_weight p = 2 * (length p.first + length p.second) - 3

abbrev pub toggle_weight : SumView → ℕ
toggle_weight s =
    length s.bits + sum_by product_weight s.products + (if s.one then 1 else 0)

-- ---- lines

-- Good bases have lines of their own, below n, and none is the target.
pub record HaveLines (IsGood : Base → Type 0) (line : Base → ℕ) (n target : ℕ) : Type 0 where
  pub target_low : target < n
  pub low : (b : Base) → IsGood b → line b < n
  pub apart : (b : Base) → IsGood b → line b ≢ target
  pub own : (a b : Base) → IsGood a → IsGood b → line a ≡ line b → a ≡ b

-- the lines of some bases are different, and none is the target
pub record AreApart (line : Base → ℕ) (target : ℕ) (some : List Base) : Type 0 where
  pub apart : (b : Base) → IsAmong b some → line b ≢ target
  pub own : (a b : Base) → IsAmong a some → IsAmong b some → line a ≡ line b → a ≡ b

-- the line of an input, or of a node that is held; `first` is the first work line
abbrev pub base_line : ℕ → List (Option ℕ) → Base → ℕ
base_line first lines (bases.Input i) = i
base_line first lines (bases.Node k) = first + unwrap_or (slice_index_or lines k None) 0

-- it can be told: a node has one that is no more than the most lines
abbrev pub IsPlacedBase : ℕ → List (Option ℕ) → Base → Type 0
IsPlacedBase first lines (bases.Input i) = ⊤
IsPlacedBase first lines (bases.Node k) =
    (k < length lines) × (first + unwrap_or (slice_index_or lines k None) 0 ≤ MOST_LINES)
