-- The limit of a basis, as a number.
use Rattle.std.specs.Prelude.{◌≡◌}
use Rattle.linear_forms.specs.declared.basis.TheConstants.{MOST_MEMBERS}

-- The law: the most members of a basis.
pub record LimitsAre : Type 0 where
  pub members : MOST_MEMBERS ≡ 64
