-- The gates that toggle the nodes of a copied graph in their order, and their Toffoli depth.
use Rattle.std.proofs.Common.{◌≡◌, ℕ, ◌+◌, ◌*◌, ◌<◌, ◌≤◌, max, Bool, cond, ltb, List, [], ◌∷◌, ◌++◌, length, get_or, reverse}
use Rattle.std.proofs.Common.{sym, ap, subst, ◌∙◌, inl, inr, arith}
use Rattle.std.proofs.lemmas.Bool.{cases_lt, le-ltb, lt-ltb}
use Rattle.std.proofs.lemmas.List.{append-nil, append_assoc, length-append, reverse-append}
use Rattle.std.proofs.Math.Seq.{get_or-append_seam}
use Rattle.dependency_graph.specs.declared.node.Base.{Base}
use Rattle.dependency_graph.specs.declared.node.Base.TheVariants as bases
use Rattle.dependency_graph.specs.declared.node.Node.{Node}
use Rattle.dependency_graph.specs.declared.node.Node.TheVariants.{Not, Xor, And}
use Rattle.dependency_graph.specs.Graphs.{AreKnownNodes, IsKnownBase, IsKnownNode}
use Rattle.mct_circuit.specs.Gates.{GateView, flip_of}
use Rattle.mct_circuit.specs.Sizes.{greatest_depth, toffoli_depth_of, toffoli_weight}
use Rattle.gate_chains.proofs.NodeLemmas.{AreWithin, AreWithinBehind, and_within, not_within, sum_within}
use Rattle.copied_plans.specs.Levels.{and_depth, base_level, greatest_of, levels_made, node_level}
use Rattle.copied_plans.proofs.LevelLemmas.{known_level, level_bound}

-- the line of a base's value, where the first node's first copy has the line `first`
abbrev pub line_of : ℕ → Base → ℕ
line_of first (bases.Input i) = i
line_of first (bases.Node j) = first + (3 * j + 2)

-- the gates of a node whose lines begin with c
abbrev pub node_gates : ℕ → ℕ → Node → List GateView
node_gates first c (Not a) = flip_of (line_of first a ∷ []) c ∷ flip_of (c ∷ []) (c + 2) ∷ flip_of [] (c + 2) ∷ []
node_gates first c (Xor a b) =
    flip_of (line_of first a ∷ []) c ∷ flip_of (line_of first b ∷ []) (c + 1) ∷ flip_of (c ∷ []) (c + 2) ∷ flip_of ((c + 1) ∷ []) (c + 2) ∷ []
node_gates first c (And a b) =
    flip_of (line_of first a ∷ []) c ∷ flip_of (line_of first b ∷ []) (c + 1) ∷ flip_of (c ∷ (c + 1) ∷ []) (c + 2) ∷ []

-- those of some nodes, the first of which is the k-th
abbrev pub all_gates : ℕ → ℕ → List Node → List GateView
all_gates first k [] = []
all_gates first k (node ∷ rest) = node_gates first (first + 3 * k) node ++ all_gates first (k + 1) rest

-- ---- bounds of the lines

-- behind these gates, of which the latest comes first: the lines of known bases are within their levels
record Stage (n first : ℕ) (levels : List ℕ) (most : ℕ) (gates : List GateView) : Type 0 where
  bound : ℕ → ℕ
  within : AreWithin bound (first + 3 * length levels) most gates
  known : (base : Base) → IsKnownBase n (length levels) base → bound (line_of first base) ≤ base_level levels base

known_line : (n first k : ℕ) (base : Base) → n ≤ first → IsKnownBase n k base → line_of first base < first + 3 * k
known_line n first k (bases.Input i) few known = omega (arith, few, known)
known_line n first k (bases.Node j) few known = omega (arith, known)

one_longer : (levels : List ℕ) (level : ℕ) → length (levels ++ level ∷ []) ≡ length levels + 1
one_longer levels level = length-append levels (level ∷ [])

-- the bound with a level for the lines from c on
abbrev raised : (ℕ → ℕ) → ℕ → ℕ → ℕ → ℕ
raised bound c level line = cond (ltb line c) (bound line) level

raised_below : (bound : ℕ → ℕ) (c level line : ℕ) → line < c → raised bound c level line ≡ bound line
raised_below bound c level line low = ap (λ (b : Bool). cond b (bound line) level) (lt-ltb line c low)

raised_above : (bound : ℕ → ℕ) (c level line : ℕ) → c ≤ line → raised bound c level line ≡ level
raised_above bound c level line high = ap (λ (b : Bool). cond b (bound line) level) (le-ltb line c high)

-- one node more
module _ (n first : ℕ) (levels : List ℕ) (level most : ℕ) (old new : List GateView) (few : n ≤ first) (stage : Stage n first levels most old)
    (behind : AreWithinBehind stage.bound (first + 3 * length levels) level most new)
  where
    abbrev c : ℕ
    c = first + 3 * length levels

    above : first + 3 * length (levels ++ level ∷ []) ≡ c + 3
    above = omega (arith, one_longer levels level)

    more_known : (base : Base) → IsKnownBase n (length levels + 1) base
        → raised stage.bound c level (line_of first base) ≤ base_level (levels ++ level ∷ []) base
    more_known (bases.Input i) known =
        let same = raised_below stage.bound c level i (omega (arith, few, known)) in
        let low = stage.known (bases.Input i) known in
        omega (arith, same, low)
    more_known (bases.Node j) known = elim (cases_lt j (length levels)) as (λ _. raised stage.bound c level (line_of first (bases.Node j))
        ≤ base_level (levels ++ level ∷ []) (bases.Node j)) [
          | inl less ↦
              (let same = raised_below stage.bound c level (line_of first (bases.Node j)) (omega (arith, less)) in
              let low = stage.known (bases.Node j) less in
              let still = known_level n levels level (bases.Node j) less in
              omega (arith, same, low, still))
          | inr last ↦
              (let here : j ≡ length levels = omega (arith, last, known) in
              let same = raised_above stage.bound c level (line_of first (bases.Node j)) (omega (arith, here)) in
              let is : get_or (levels ++ level ∷ []) j 0 ≡ level =
              ap (λ (at : ℕ). get_or (levels ++ level ∷ []) at 0) here ∙ get_or-append_seam levels level [] 0 in
              omega (arith, same, is))
        ]

    next_stage : Stage n first (levels ++ level ∷ []) most new
    next_stage = record {
      bound = raised stage.bound c level;
      within = subst (λ (at : ℕ). AreWithin (raised stage.bound c level) at most new) (sym above) (record {
        below = λ line under. elim (cases_lt line c) [
          | inl low ↦ (let less = behind.below line low in let same = raised_below stage.bound c level line low in omega (arith, less, same))
          | inr high ↦
              (let less = behind.inner line high under in let same = raised_above stage.bound c level line high in omega (arith, less, same))
        ];
        fresh = λ line high. behind.fresh line high;
        greatest = behind.greatest;
      });
      known = λ base is. more_known base (subst (λ (k : ℕ). IsKnownBase n k base) (one_longer levels level) is);
    }

-- behind a node's gates its lines are within its level
node_behind : (n first : ℕ) (levels : List ℕ) (most : ℕ) (node : Node) (gates : List GateView) → n ≤ first → (stage : Stage n first levels most gates)
    → IsKnownNode n (length levels) node → node_level levels node ≤ most
    → AreWithinBehind stage.bound (first + 3 * length levels) (node_level levels node) most
    (reverse (node_gates first (first + 3 * length levels) node) ++ gates)
node_behind n first levels most (Not a) gates few stage known room =
    let low = stage.known a known in
    let c = first + 3 * length levels in
    let is = not_within stage.bound (line_of first a) c most gates stage.within (known_line n first (length levels) a few known) (omega (arith, low, room)) in
    record {
      below = is.below;
      inner = λ line from under. (let less = is.inner line from under in omega (arith, less, low));
      fresh = is.fresh;
      greatest = is.greatest;
    }
node_behind n first levels most (Xor a b) gates few stage known room =
    let one = stage.known a known.0 in let other = stage.known b known.1 in
    sum_within stage.bound (line_of first a) (line_of first b) (first + 3 * length levels) (max (base_level levels a) (base_level levels b)) most gates
    stage.within (known_line n first (length levels) a few known.0) (known_line n first (length levels) b few known.1) (omega (arith, one))
    (omega (arith, other)) room
node_behind n first levels most (And a b) gates few stage known room =
    let one = stage.known a known.0 in let other = stage.known b known.1 in
    and_within stage.bound (line_of first a) (line_of first b) (first + 3 * length levels) (max (base_level levels a) (base_level levels b)) most gates
    stage.within (known_line n first (length levels) a few known.0) (known_line n first (length levels) b few known.1) (omega (arith, one))
    (omega (arith, other)) (omega (arith, room)) room

-- ---- all nodes

deep_behind : (n first : ℕ) (levels : List ℕ) (most : ℕ) (nodes : List Node) (gates : List GateView) → n ≤ first → Stage n first levels most gates
    → AreKnownNodes n (length levels) nodes → greatest_of (levels_made levels nodes) ≤ most
    → greatest_depth toffoli_weight (reverse (all_gates first (length levels) nodes) ++ gates) ≤ most
deep_behind n first levels most [] gates few stage known room = stage.within.greatest
deep_behind n first levels most (node ∷ rest) gates few stage known room =
    let level = node_level levels node in
    let here = node_gates first (first + 3 * length levels) node in
    let low : level ≤ most = (let bound = level_bound levels node rest in omega (arith, bound, room)) in
    let behind = node_behind n first levels most node gates few stage known.0 low in
    let longer = one_longer levels level in
    let next = deep_behind n first (levels ++ level ∷ []) most rest (reverse here ++ gates) few
    (next_stage n first levels level most gates (reverse here ++ gates) few stage behind)
    (subst (λ (k : ℕ). AreKnownNodes n k rest) (sym longer) known.1) room in
    let behind_here = all_gates first (length levels + 1) rest in
    let turned : reverse (here ++ behind_here) ++ gates ≡ reverse behind_here ++ (reverse here ++ gates) =
    ap (λ (all : List GateView). all ++ gates) (reverse-append here behind_here) ∙ append_assoc (reverse behind_here) (reverse here) gates in
    subst (λ (all : List GateView). greatest_depth toffoli_weight all ≤ most) (sym turned)
    (subst (λ (k : ℕ). greatest_depth toffoli_weight (reverse (all_gates first k rest) ++ (reverse here ++ gates)) ≤ most) longer next)

-- the gates of all nodes have at most the AND depth as Toffoli depth
pub gates_are_shallow : (n first : ℕ) (nodes : List Node) → n ≤ first → AreKnownNodes n 0 nodes
    → toffoli_depth_of (all_gates first 0 nodes) ≤ and_depth nodes
gates_are_shallow n first nodes few known =
    subst (λ (all : List GateView). greatest_depth toffoli_weight all ≤ and_depth nodes) (append-nil (reverse (all_gates first 0 nodes)))
    (deep_behind n first [] (and_depth nodes) nodes [] few (record {
      bound = λ line. 0;
      within = record { below = λ line low. omega arith; fresh = λ line high. omega arith; greatest = omega arith };
      known = λ base is. omega arith;
    }) known (omega arith))
