-- Nodes that are ready to turn, and turns within what is allowed.
use Rattle.std.proofs.Common.{◌≡◌, ℕ, zero, suc, ◌+◌, ◌-◌, ◌<◌, Bool, true, false, not, ◌&&◌, ◌||◌, ◌⊎◌, inl, inr, List, [], ◌∷◌, length, Some, Option}
use Rattle.std.proofs.Common.{subst, refl, arith}
use Rattle.std.specs.Prelude.{slice_get}
use Rattle.std.specs.List.{AllByRecursion}
use Rattle.std.proofs.lemmas.Bool.{cases_lt}
use Rattle.list_facts.specs.Lists.{IsAmong}
use Rattle.dependency_graph.specs.declared.node.Base.{Base}
use Rattle.dependency_graph.specs.declared.node.Base.TheVariants as bases
use Rattle.dependency_graph.specs.Graphs.{nodes_among}
use Rattle.bit_sums.specs.Sums.{SumView, bases_of}
use Rattle.sum_graph.specs.Graphs.{SumGraphView}
use Rattle.held_nodes.specs.Held.{ForwardView, is_held}
use Rattle.held_nodes.specs.Moves.{IsReadyBase, IsReadyNode}
use Rattle.bennett_pebbling.specs.inside.Changes.{turned}
use Rattle.bennett_pebbling.specs.inside.Costs.{IsMove, counted}
use Rattle.bennett_pebbling.specs.inside.Marks.{IsOutside, RestsOn}
use Rattle.bennett_pebbling.proofs.NeedLemmas.{rests_on}

-- ---- ready

pub ready_operands : (lines : List (Option ℕ)) (bs : List Base) → ((j : ℕ) → IsAmong j (nodes_among bs) → is_held lines j ≡ true)
    → AllByRecursion (IsReadyBase lines) bs
ready_operands lines [] each = tt
ready_operands lines (bases.Input i ∷ rest) each = (tt, ready_operands lines rest each)
ready_operands lines (bases.Node k ∷ rest) each = (each k (inl refl), ready_operands lines rest (λ j among. each j (inr among)))

node_at : (nodes : List SumView) (k : ℕ) → k < length nodes → (node : SumView) × (slice_get nodes k ≡ Some node)
node_at [] k low = absurd (omega (arith, low))
node_at (x ∷ xs) zero low = (x, refl)
node_at (x ∷ xs) (suc k) low = node_at xs k (omega (arith, low))

pub is_ready : (s : SumGraphView) (lines : List (Option ℕ)) (k : ℕ) → k < length s.nodes → ((j : ℕ) → RestsOn s k j → is_held lines j ≡ true)
    → IsReadyNode s lines k
is_ready s lines k low each =
    let found = node_at s.nodes k low in
    record {
      node = found.0;
      is = found.1;
      ready = ready_operands lines (bases_of found.0) (λ j among. each j (rests_on s k j found.0 found.1 among));
    }

-- ---- bits

pub and_left : (a b : Bool) → (a && b) ≡ true → a ≡ true
and_left true b e = refl
and_left false b e = absurd (let clash : false ≡ true = e in cc)

pub and_right : (a b : Bool) → (a && b) ≡ true → b ≡ true
and_right true b e = e
and_right false b e = absurd (let clash : false ≡ true = e in cc)

pub or_true : (a b : Bool) → (a || b) ≡ true → (a ≡ true) ⊎ (b ≡ true)
or_true true b e = inl refl
or_true false b e = inr e

pub or_right_true : (a b : Bool) → b ≡ true → (a || b) ≡ true
or_right_true true b e = refl
or_right_true false b e = e

pub or_left_true : (a b : Bool) → a ≡ true → (a || b) ≡ true
or_left_true true b e = refl
or_left_true false b e = absurd (let clash : false ≡ true = e in cc)

pub raised_bit : (mark held : Bool) → turned (mark && not held) held ≡ (held || mark)
raised_bit true true = refl
raised_bit true false = refl
raised_bit false true = refl
raised_bit false false = refl

-- a node that is wanted is held
pub lowered_bit : (wanted held : Bool) → (wanted ≡ true → held ≡ true) → turned (held && not wanted) held ≡ wanted
lowered_bit true true kept = refl
lowered_bit true false kept = kept refl
lowered_bit false true kept = refl
lowered_bit false false kept = refl

-- ---- places

pub record IsPlace (lo count k : ℕ) : Type 0 where
  pub place : ℕ
  pub is : k ≡ lo + place
  pub low : place < count

pub in_or_out : (lo count k : ℕ) → IsPlace lo count k ⊎ IsOutside lo count k
in_or_out lo count k = elim (cases_lt k lo) as (λ _. IsPlace lo count k ⊎ IsOutside lo count k) [
  | inl below ↦ inr (inl below)
  | inr above ↦ elim (cases_lt k (lo + count)) as (λ _. IsPlace lo count k ⊎ IsOutside lo count k) [
    | inl low ↦ inl (record { place = k - lo; is = omega (arith, above); low = omega (arith, above, low) })
    | inr high ↦ inr (inr high)
  ]
]

-- a move from a forward part of the same graph
pub move-graph : (f g next : ForwardView) (allowed : ℕ → Bool) (toggles : ℕ) → f.graph ≡ g.graph
    → IsMove f (counted allowed (length f.graph.nodes)) toggles next → IsMove f (counted allowed (length g.graph.nodes)) toggles next
move-graph f g next allowed toggles same m =
    subst (λ (s : SumGraphView). IsMove f (counted allowed (length s.nodes)) toggles next) same m
