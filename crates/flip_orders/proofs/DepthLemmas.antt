-- The greatest depths on lines, as flips come.
use Rattle.std.proofs.Common.{◌≡◌, ℕ, ◌+◌, ◌<◌, ◌≤◌, max, Bool, true, false, cond, List, [], ◌∷◌, ◌++◌, length, take, reverse, get_or}
use Rattle.std.proofs.Common.{sym, ap, ◌∙◌, arith}
use Rattle.std.specs.Prelude.{slice_index}
use Rattle.std.proofs.lemmas.List.{length-map, length-reverse, length-take-le, map-append, reverse-append, take_more}
use Rattle.mct_circuit.specs.Gates.{GateView, lines_of}
use Rattle.mct_circuit.specs.Sizes.{depth_by, gate_depth, greatest_at, greatest_depth, has_line, is_flip_under}
use Rattle.mct_circuit.proofs.DepthLemmas.{depth_on, depth_on-le, depths_more, gate_depth_on, greatest_at-depths}
use Rattle.flip_lists.specs.declared.flip.Flip.{Flip}
use Rattle.flip_lists.specs.Flips.{gate_of, gates_of}
use Rattle.flip_orders.specs.declared.depths.Counting.{Counting}
use Rattle.flip_orders.specs.declared.depths.Counting.TheVariants.{EachFlip, Toffolis}
use Rattle.flip_orders.specs.inside.Depths.{weight_for}

-- the depths on lines, and the greatest of them, behind some gates
pub record AreCounted (n : ℕ) (weigh : GateView → ℕ) (gates : List GateView) (depths : List ℕ) (greatest : ℕ) : Type 0 where
  pub long : length depths ≡ n
  pub each : (line : ℕ) → slice_index depths line ≡ depth_on weigh (line ∷ []) (reverse gates)
  pub most : greatest ≡ depth_by weigh gates

at_most_one : (b : Bool) → cond b 1 0 ≤ 1
at_most_one true = omega arith
at_most_one false = omega arith

one_at_most : (counting : Counting) (gate : GateView) → weight_for counting gate ≤ 1
one_at_most EachFlip gate = omega arith
one_at_most Toffolis gate = at_most_one (is_flip_under 2 gate)

-- a depth is at most the number of gates
pub counted_few : (n : ℕ) (counting : Counting) (gates : List GateView) (depths : List ℕ) (greatest : ℕ) (lines : List ℕ)
    → AreCounted n (weight_for counting) gates depths greatest → greatest_at depths lines ≤ length gates
counted_few n counting gates depths greatest lines are =
    let weigh = weight_for counting in
    let deep = greatest_at-depths weigh depths (reverse gates) lines are.each in
    let few = depth_on-le weigh (one_at_most counting) lines (reverse gates) in
    let long = length-reverse gates in
    omega (arith, deep, few, long)

-- one gate more
pub counted_more : (n : ℕ) (weigh : GateView → ℕ) (gates : List GateView) (gate : GateView) (depths new : List ℕ) (greatest depth most : ℕ)
    → AreCounted n weigh gates depths greatest → depth ≡ weigh gate + greatest_at depths (lines_of gate)
    → ((line : ℕ) → slice_index new line ≡ cond (has_line line (lines_of gate)) depth (slice_index depths line)) → length new ≡ length depths
    → most ≡ max depth greatest → AreCounted n weigh (gates ++ gate ∷ []) new most
counted_more n weigh gates gate depths new greatest depth most are is set long more =
    let behind : reverse (gates ++ gate ∷ []) ≡ gate ∷ reverse gates = reverse-append gates (gate ∷ []) in
    let deep = greatest_at-depths weigh depths (reverse gates) (lines_of gate) are.each in
    record {
      long = long ∙ are.long;
      each = λ line. set line ∙ depths_more weigh depths gate (reverse gates) depth line are.each is
          ∙ ap (depth_on weigh (line ∷ [])) (sym behind);
      most = more ∙ ap (λ d. max d greatest) (is ∙ ap (λ d. weigh gate + d) deep ∙ sym (gate_depth_on weigh gate (reverse gates)))
          ∙ ap (λ g. max (gate_depth weigh gate (reverse gates)) g) are.most ∙ ap (greatest_depth weigh) (sym behind);
    }

pub more_gates : (flips : List Flip) (i : ℕ) (d : Flip) → i < length flips
    → gates_of (take (i + 1) flips) ≡ gates_of (take i flips) ++ gate_of (get_or flips i d) ∷ []
more_gates flips i d low = ap gates_of (take_more flips i d low) ∙ map-append gate_of (take i flips) (get_or flips i d ∷ [])

pub gates_so_far : (flips : List Flip) (i : ℕ) → i ≤ length flips → length (gates_of (take i flips)) ≡ i
gates_so_far flips i low = length-map (take i flips) gate_of ∙ length-take-le i flips low
