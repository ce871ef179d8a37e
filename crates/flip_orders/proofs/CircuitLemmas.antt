-- Flips in a better order, and the gates of a circuit in it.
use Rattle.std.proofs.Common.{◌≡◌, ◌⊎◌, ℕ, List, Option, Some, inl, inr, sym, subst, arith}
use Rattle.std.specs.Prelude.{IfSome}
use Rattle.std.proofs.lemmas.List.Sorted.{IsPermutation-map}
use Rattle.list_facts.proofs.AllLemmas.{AllByRecursion-permutation}
use Rattle.mct_circuit.specs.Gates.{GateView, IsGateOn}
use Rattle.flip_lists.specs.declared.flip.Flip.{Flip}
use Rattle.flip_lists.specs.Flips.{AreFlipsOn, gate_of, gates_of}
use Rattle.flip_orders.specs.declared.best.Ordered.{Ordered}
use Rattle.flip_orders.specs.declared.depths.Depths.{Depths}
use Rattle.flip_orders.specs.Orders.{AreReordered}
use Rattle.flip_orders.specs.inside.Depths.{AreDepthsOf, AreWithin, IsNoDeeper, IsOrderOf}
use Rattle.flip_orders.specs.inside.Orders.{IsFreeOrder}
use Rattle.flip_orders.proofs.OrderLemmas.{same_flips, same_map}

pub still_on : (n : ℕ) (old new : List Flip) → IsFreeOrder old new → AreFlipsOn n old → AreFlipsOn n new
still_on n old new is on = AllByRecursion-permutation (λ (f : Flip). IsGateOn n (gate_of f)) old new (same_flips old new is) on

-- the gates of flips in an order that is no deeper
pub reordered : (old new : List Flip) (gates : List GateView) → gates_of old ≡ gates → IsNoDeeper old new → AreReordered gates (gates_of new)
reordered old new gates are is =
    subst (λ gs. AreReordered gs (gates_of new)) are (record {
      permutation = IsPermutation-map gate_of old new (same_flips old new is.order);
      same = λ bits. same_map old new is.order bits;
      depth = is.depth;
      toffoli_depth = is.toffoli_depth;
    })

abbrev pub AreNoDeeper : List Flip → Option Ordered → Type 0
AreNoDeeper flips found = IfSome found (λ (ordered : Ordered). IsNoDeeper flips ordered.flips.items)

no_deeper : (flips : List Flip) (ordered : Ordered) (most : Depths) → AreDepthsOf (gates_of flips) most → IsOrderOf flips ordered
    → AreWithin ordered.depths most → IsNoDeeper flips ordered.flips.items
no_deeper flips ordered most old is within =
    record {
      order = is.order;
      depth = omega (arith, old.all, is.depths.all, within.all);
      toffoli_depth = omega (arith, old.toffoli, is.depths.toffoli, within.toffoli);
    }

-- the better one of two
pub better : (flips : List Flip) (most : Depths) (best result : Option Ordered) (other : Ordered) → AreDepthsOf (gates_of flips) most
    → AreNoDeeper flips best → IsOrderOf flips other → (result ≡ best) ⊎ ((result ≡ Some other) × AreWithin other.depths most)
    → AreNoDeeper flips result
better flips most best result other old are is (inl same) = subst (AreNoDeeper flips) (sym same) are
better flips most best result other old are is (inr (same, within)) =
    subst (AreNoDeeper flips) (sym same) (no_deeper flips other most old is within)
