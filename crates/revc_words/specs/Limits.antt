-- The limits of words, as numbers.
use Rattle.std.specs.Prelude.{◌≡◌}
use Rattle.revc_words.specs.declared.limits.TheConstants.{MOST_DIGITS, MOST_NODES, MOST_ASSUMED, USUAL_LINES, USUAL_GATES, USUAL_NODES}

-- The law: the most digits of a number, the most nodes and assumed claims that may be asked for,
-- and the lines, gates and nodes where no option says another number.
pub record LimitsAre : Type 0 where
  pub digits : MOST_DIGITS ≡ 7
  pub nodes : MOST_NODES ≡ 1000000
  pub assumed : MOST_ASSUMED ≡ 4096
  pub usual_lines : USUAL_LINES ≡ 4096
  pub usual_gates : USUAL_GATES ≡ 1000000
  pub usual_nodes : USUAL_NODES ≡ 100000
