-- How the names in scope are kept: each with the depth of the one that it hides, and for each name
-- the depth of the nearest one.
use Rattle.std.specs.Prelude.{◌≡◌, ℕ, Option, Some, None, List, [], ◌∷◌, length, bytes_eq, if◌then◌else◌}
use Rattle.name_scope.specs.declared.names.Bound.{Bound}

-- the depth of the nearest binding of a name among those in scope, the nearest first
abbrev pub depth_of : List ℕ → List Bound → Option ℕ
depth_of name [] = None
depth_of name (b ∷ bs) = if bytes_eq name b.name then Some (length bs) else depth_of name bs

-- each name has the depth of the one that it hides
abbrev pub Hide : List Bound → Type 0
Hide [] = Unit {0}
Hide (b ∷ bs) = (b.hidden ≡ depth_of b.name bs) × Hide bs

-- a name that was never bound, and one that went out of scope, have no depth
abbrev pub held : Option (Option ℕ) → Option ℕ
held None = None
held (Some depth) = depth

-- a table that holds this depth for a name, and stays as it was for all others
pub record IsNoted (before after : List ℕ → Option (Option ℕ)) (name : List ℕ) (depth : ℕ)
    : Type 0 where
  pub entries : (other : List ℕ) → after other
      ≡ (if bytes_eq name other then Some (Some depth) else before other)
