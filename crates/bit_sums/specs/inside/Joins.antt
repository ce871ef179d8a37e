-- Which two products can be joined, and by which rule; the order of products.
use Rattle.std.specs.Prelude.{◌≡◌, ◌⊎◌, ◌<◌, ◌≤◌, List, ◌++◌, length, Option}
use Rattle.std.specs.Cmp.Lexicographic.{slice_cmp}
use Rattle.std.specs.Ordering.{ordering_then}
use Rattle.std.specs.declared.cmp.Ordering.{Ordering}
use Rattle.dependency_graph.specs.declared.node.Base.{Base}
use Rattle.bit_sums.specs.Bits.{apart, base_cmp}
use Rattle.bit_sums.specs.Products.{IsJoinOf, IsProductOf}
use Rattle.bit_sums.specs.Sums.{ProductView}
use Rattle.bit_sums.specs.declared.limits.TheConstants.{MOST_FACTOR_BITS}

-- ---- rules

-- the product of these two factors
abbrev pub HasFactors : List Base → List Base → ProductView → Type 0
HasFactors a b p = (p ≡ record { first = a; second = b }) ⊎ (p ≡ record { first = b; second = a })

-- Two products share a factor, and the sum of their other factors has few bits.
pub record ShareFactor (p q : ProductView) : Type 0 where
  pub a : List Base
  pub b : List Base
  pub c : List Base
  pub first : HasFactors a c p
  pub second : HasFactors b c q
  pub few : length (apart a b) ≤ MOST_FACTOR_BITS

-- A factor of the second product is the sum of both of the first; with its other factor each of
-- those has few bits.
pub record Cross (p q : ProductView) : Type 0 where
  pub c : List Base
  pub factors : HasFactors c (apart p.first p.second) q
  pub left : length (apart p.first c) ≤ MOST_FACTOR_BITS
  pub right : length (apart p.second c) ≤ MOST_FACTOR_BITS

-- one of the rules joins two products
abbrev pub CanJoin : ProductView → ProductView → Type 0
CanJoin p q = ShareFactor p q ⊎ (Cross p q ⊎ Cross q p)

-- The sum of two products by the first rule: `a c + b c = (a + b) c`.
pub record IsShared (p q : ProductView) (bits : List Base) (product : Option ProductView)
    : Type 0 where
  pub join : IsJoinOf p q bits product
  pub rule : ShareFactor p q
  pub made : IsProductOf (apart rule.a rule.b) rule.c bits product

-- The sum of two products by the second rule: `a b + c (a + b) = (a + c) (b + c) + c`.
pub record IsCrossing (p q : ProductView) (bits : List Base) (product : Option ProductView)
    : Type 0 where
  pub join : IsJoinOf p q bits product
  pub rule : Cross p q
  pub rest : List Base
  pub parts : bits ≡ rest ++ rule.c
  pub made : IsProductOf (apart p.first rule.c) (apart p.second rule.c) rest product

-- bits and a product that are the sum of two products, by one of the rules
pub record IsJoined (p q : ProductView) (bits : List Base) (product : Option ProductView)
    : Type 0 where
  pub join : IsJoinOf p q bits product
  pub rule : IsShared p q bits product ⊎ (IsCrossing p q bits product ⊎ IsCrossing q p bits product)

-- ---- steps to them

-- `a c` and q share no factor `c` with few bits left over: whatever b is with q = b c, a + b has
-- too many bits
pub record CannotShare (a c : List Base) (q : ProductView) : Type 0 where
  pub long : (b : List Base) → HasFactors b c q → MOST_FACTOR_BITS < length (apart a b)

-- `a + c` or `b + c` has too many bits
abbrev pub AreLong : List Base → List Base → List Base → Type 0
AreLong a b c = (MOST_FACTOR_BITS < length (apart a c)) ⊎ (MOST_FACTOR_BITS < length (apart b c))

-- ---- their order

-- the dictionary's order: by the first factors, and by the second ones where those are one
abbrev pub product_cmp : ProductView → ProductView → Ordering
product_cmp p q =
    ordering_then (slice_cmp base_cmp p.first q.first) (slice_cmp base_cmp p.second q.second)
