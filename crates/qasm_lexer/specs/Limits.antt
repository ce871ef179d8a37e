-- The limits as numbers.
use Rattle.std.specs.Prelude.{◌≡◌}
use Rattle.qasm_lexer.specs.declared.words.TheConstants.{MOST_DIGITS}

-- the number of each limit
pub record LimitsAre : Type 0 where
  pub digits : MOST_DIGITS ≡ 9
