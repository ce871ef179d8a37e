-- What single steps of a toggle ask of the lines.
use Rattle.std.specs.Prelude.{◌≡◌, ◌≢◌, ℕ, List, Option}
use Rattle.std.specs.List.{AllByRecursion}
use Rattle.list_facts.specs.Lists.{IsAmong}
use Rattle.dependency_graph.specs.declared.node.Base.{Base}
use Rattle.bit_sums.specs.Sums.{ProductView, product_bases}
use Rattle.sum_toggles.specs.Toggles.{IsPlacedBase, base_line}

-- a bit's line can be told, and is not the target
pub record CanAdd (first : ℕ) (lines : List (Option ℕ)) (target : ℕ) (b : Base) : Type 0 where
  pub placed : IsPlacedBase first lines b
  pub apart : base_line first lines b ≢ target

-- a product's bits have lines of their own
pub record HaveOwnLines (first : ℕ) (lines : List (Option ℕ)) (p : ProductView) : Type 0 where
  pub placed : AllByRecursion (IsPlacedBase first lines) (product_bases p)
  pub own : (a b : Base) → IsAmong a (product_bases p) → IsAmong b (product_bases p)
      → base_line first lines a ≡ base_line first lines b → a ≡ b

-- and none is the target
pub record CanFlip (first : ℕ) (lines : List (Option ℕ)) (target : ℕ) (p : ProductView)
    : Type 0 where
  pub lines_own : HaveOwnLines first lines p
  pub apart : (b : Base) → IsAmong b (product_bases p) → base_line first lines b ≢ target

-- the lines of a factor's bits are not that of its own one
pub record IsGathered (first : ℕ) (lines : List (Option ℕ)) (own : Base) (bits : List Base)
    : Type 0 where
  pub placed : AllByRecursion (IsPlacedBase first lines) bits
  pub own_placed : IsPlacedBase first lines own
  pub apart : AllByRecursion (λ (b : Base). b ≢ own
      → base_line first lines b ≢ base_line first lines own) bits
