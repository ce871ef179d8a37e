-- The limits as numbers.
use Rattle.std.specs.Prelude.{◌≡◌}
use Rattle.text_places.specs.declared.numbers.TheConstants.{FITTING_DIGITS}

-- the number of each limit
pub record LimitsAre : Type 0 where
  pub fitting_digits : FITTING_DIGITS ≡ 9
