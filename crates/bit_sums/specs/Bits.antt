-- Sets of bits as rising lists, inputs before nodes, and which bits of one set another one lacks.
use Rattle.std.specs.Prelude.{List}
use Rattle.std.specs.Ordering.{nat_cmp}
use Rattle.std.specs.declared.cmp.Ordering.{Ordering}
use Rattle.std.specs.declared.cmp.Ordering.TheVariants.{Less, Greater}
use Rattle.list_facts.specs.Lists.{IsAmong}
use Rattle.revs_tape.specs.Polynomials.{IsInOrder}
use Rattle.revs_tape.specs.inside.Aligned.{aligned, alone}
use Rattle.dependency_graph.specs.declared.node.Base.{Base}
use Rattle.dependency_graph.specs.declared.node.Base.TheVariants.{Input, Node}

-- inputs by their number, and behind them nodes by theirs
abbrev pub base_cmp : Base → Base → Ordering
base_cmp (Input i) (Input j) = nat_cmp i j
base_cmp (Input i) (Node k) = Less
base_cmp (Node k) (Input i) = Greater
base_cmp (Node j) (Node k) = nat_cmp j k

-- a set of bits: each comes before all behind it
abbrev pub AreRising : List Base → Type 0
AreRising bits = IsInOrder base_cmp bits

-- the bits of one set and not of the other, rising
abbrev pub apart : List Base → List Base → List Base
apart a b = alone (aligned base_cmp a b)

-- a bit of the first list that the second lacks
pub record HasOwn (a b : List Base) : Type 0 where
  pub base : Base
  pub here : IsAmong base a
  pub not_there : ¬ IsAmong base b
