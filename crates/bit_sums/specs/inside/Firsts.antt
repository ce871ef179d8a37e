-- Which product of a list is joined with another one.
use Rattle.std.specs.Prelude.{◌≡◌, ◌⊎◌, ◌<◌, ◌≤◌, ℕ, Bool, false, List, length, Option, Some, None, slice_get}
use Rattle.std.specs.Ordering.{is_gt, is_lt}
use Rattle.bit_sums.specs.Sums.{ProductView}
use Rattle.bit_sums.specs.declared.growing.Join.{Join}
use Rattle.bit_sums.specs.declared.growing.TheConstants.{MOST_JOINED}
use Rattle.bit_sums.specs.inside.Joins.{CanJoin, IsJoined, product_cmp}

-- The least of the products of the list that can be joined with this one, and what the two make.
pub record IsFirstJoin (products : List ProductView) (product : ProductView) (join : Join)
    : Type 0 where
  pub other : ProductView
  pub found : slice_get products join.place ≡ Some other
  pub joined : IsJoined product other join.part.bits.items join.part.product
  pub least : (k : ℕ) (q : ProductView) → slice_get products k ≡ Some q → CanJoin product q
      → is_gt (product_cmp other q) ≡ false

-- No product of the list can be joined with this one.
pub record HasNoJoin (products : List ProductView) (product : ProductView) : Type 0 where
  pub none : (k : ℕ) (q : ProductView) → slice_get products k ≡ Some q → ¬ CanJoin product q

-- the first product that can be joined, or that there is none
abbrev pub IsFirst : List ProductView → ProductView → Option Join → Type 0
IsFirst products product None = HasNoJoin products product
IsFirst products product (Some join) = IsFirstJoin products product join

-- the same, where one is looked for among few products alone
abbrev pub IsFirstOfFew : List ProductView → ProductView → Option Join → Type 0
IsFirstOfFew products product None =
    (MOST_JOINED < length products) ⊎ HasNoJoin products product
IsFirstOfFew products product (Some join) =
    (length products ≤ MOST_JOINED) × IsFirstJoin products product join

-- whether the product that was found comes before another one
abbrev pub found_before : List ProductView → Option Join → ProductView → Bool
found_before products None other = false
found_before products (Some join) other =
    elim (slice_get products join.place)
    [ None ↦ false | Some least ↦ is_lt (product_cmp least other) ]
