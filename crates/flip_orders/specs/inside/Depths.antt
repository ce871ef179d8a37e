-- Depths of flips, and orders whose depths are compared.
use Rattle.std.specs.Prelude.{◌≡◌, ℕ, ◌≤◌, List}
use Rattle.mct_circuit.specs.Gates.{GateView}
use Rattle.mct_circuit.specs.Sizes.{depth_of, toffoli_depth_of, toffoli_weight}
use Rattle.flip_lists.specs.declared.flip.Flip.{Flip}
use Rattle.flip_lists.specs.Flips.{gates_of}
use Rattle.flip_orders.specs.declared.best.Ordered.{Ordered}
use Rattle.flip_orders.specs.declared.depths.Counting.{Counting}
use Rattle.flip_orders.specs.declared.depths.Counting.TheVariants.{EachFlip, Toffolis}
use Rattle.flip_orders.specs.declared.depths.Depths.{Depths}
use Rattle.flip_orders.specs.inside.Orders.{IsFreeOrder}

-- what a gate adds to a depth
abbrev pub weight_for : Counting → GateView → ℕ
weight_for EachFlip gate = 1
weight_for Toffolis gate = toffoli_weight gate

pub record AreDepthsOf (gates : List GateView) (depths : Depths) : Type 0 where
  pub all : depths.all ≡ depth_of gates
  pub toffoli : depths.toffoli ≡ toffoli_depth_of gates

-- neither is greater
pub record AreWithin (depths most : Depths) : Type 0 where
  pub all : depths.all ≤ most.all
  pub toffoli : depths.toffoli ≤ most.toffoli

-- the flips in another order, with their depths
pub record IsOrderOf (flips : List Flip) (ordered : Ordered) : Type 0 where
  pub order : IsFreeOrder flips ordered.flips.items
  pub depths : AreDepthsOf (gates_of ordered.flips.items) ordered.depths

-- the flips in another order, neither deeper nor of a greater Toffoli depth
pub record IsNoDeeper (old new : List Flip) : Type 0 where
  pub order : IsFreeOrder old new
  pub depth : depth_of (gates_of new) ≤ depth_of (gates_of old)
  pub toffoli_depth : toffoli_depth_of (gates_of new) ≤ toffoli_depth_of (gates_of old)
