-- Marks of the nodes of a range: the mark at place k is that of node lo + k.
use Rattle.std.specs.Prelude.{◌≡◌, ℕ, ◌+◌, ◌<◌, ◌≤◌, nat_le, Bool, true, false, not, ◌||◌, ◌⊎◌}
use Rattle.std.specs.Prelude.{List, [], length, take, drop, slice_index_or, Option}
use Rattle.list_facts.specs.Bits.{bit_of}
use Rattle.list_facts.specs.Lists.{IsAmong}
use Rattle.sum_graph.specs.Uses.{sum_steps}
use Rattle.sum_graph.specs.Uses.{sum_last_use}
use Rattle.sum_graph.specs.Graphs.{SumGraphView}
use Rattle.held_nodes.specs.Held.{is_held}

-- node j is an operand of node k
pub record RestsOn (s : SumGraphView) (k j : ℕ) : Type 0 where
  pub among : IsAmong j (slice_index_or (sum_steps s) k [])

-- half of a range, rounded up
pub record IsHalf (count half : ℕ) : Type 0 where
  pub less : half + half ≤ count + 1
  pub more : count ≤ half + half

-- the marks of a range in two halves: the first has no fewer than the second
pub record AreHalves (wanted left right : List Bool) : Type 0 where
  pub half : IsHalf (length wanted) (length left)
  pub front : left ≡ take (length left) wanted
  pub behind : right ≡ drop (length left) wanted

-- node k is not one of the range
abbrev pub IsOutside : ℕ → ℕ → ℕ → Type 0
IsOutside lo count k = (k < lo) ⊎ (lo + count ≤ k)

-- the wanted nodes are marked, and those in the cut at the end of the range
pub record AreNeeded (s : SumGraphView) (lo : ℕ) (wanted marks : List Bool) : Type 0 where
  pub count : length marks ≡ length wanted
  pub marked : (k : ℕ) → k < length wanted
      → bit_of marks k
      ≡ (bit_of wanted k || nat_le (lo + length wanted) (sum_last_use s (lo + k)))

-- whether two bits differ
abbrev pub differ : Bool → Bool → Bool
differ true b = not b
differ false b = b

-- exactly the wanted nodes are held
pub record AreHeld (lines : List (Option ℕ)) (lo : ℕ) (wanted : List Bool) : Type 0 where
  pub each : (k : ℕ) → k < length wanted → differ (is_held lines (lo + k)) (bit_of wanted k) ≡ false

-- the nodes that are held and not wanted, or wanted and not held, are marked
pub record AreDifferences (lines : List (Option ℕ)) (lo : ℕ) (wanted marks : List Bool)
    : Type 0 where
  pub count : length marks ≡ length wanted
  pub marked : (k : ℕ) → k < length wanted
      → bit_of marks k ≡ differ (is_held lines (lo + k)) (bit_of wanted k)

-- each operand that a marked node has in the range is marked
pub record AreClosed (s : SumGraphView) (lo : ℕ) (marks : List Bool) : Type 0 where
  pub closed : (k j : ℕ) → bit_of marks k ≡ true → j < length marks
      → RestsOn s (lo + k) (lo + j) → bit_of marks j ≡ true

-- a marked node, or one on which a needed node rests
pub data IsNeeded (s : SumGraphView) (lo : ℕ) (start : List Bool) : ℕ → Type 0 where
  marked_itself : (k : ℕ) → bit_of start k ≡ true → IsNeeded s lo start k
  rested_on : (k j : ℕ) → IsNeeded s lo start k → RestsOn s (lo + k) (lo + j)
      → IsNeeded s lo start j

-- the marked nodes and all nodes of the range on which they rest are marked, and nothing else; the
-- last node has the mark that it had
pub record AreNeeds (s : SumGraphView) (lo : ℕ) (start marks : List Bool) : Type 0 where
  pub count : length marks ≡ length start
  pub more : (k : ℕ) → bit_of start k ≡ true → bit_of marks k ≡ true
  pub closed : AreClosed s lo marks
  pub only : (k : ℕ) → bit_of marks k ≡ true → IsNeeded s lo start k
  pub last : (k : ℕ) → k + 1 ≡ length start → bit_of marks k ≡ bit_of start k

-- these nodes were marked, and nothing else
pub record HasMarked (lo : ℕ) (nodes : List ℕ) (start marks : List Bool) : Type 0 where
  pub count : length marks ≡ length start
  pub more : (k : ℕ) → bit_of start k ≡ true → bit_of marks k ≡ true
  pub set : (k : ℕ) → k < length start → IsAmong (lo + k) nodes → bit_of marks k ≡ true
  pub only : (k : ℕ) → bit_of marks k ≡ true → (bit_of start k ≡ true) ⊎ IsAmong (lo + k) nodes
