-- The limits of a table, as numbers.
use Rattle.std.specs.Prelude.{◌≡◌}
use Rattle.product_sums.specs.declared.budget.TheConstants.{ATOMS_BESIDES, ATOMS_FOR_EACH, MOST_STEPS, MOST_WORDS}

-- The law: the most words that are held and the most steps that are taken; and where atoms are
-- limited, how many may be made for each product that is known then, and how many besides.
pub record LimitsAre : Type 0 where
  pub words : MOST_WORDS ≡ 67108864
  pub steps : MOST_STEPS ≡ 17179869184
  pub atoms_for_each : ATOMS_FOR_EACH ≡ 4
  pub atoms_besides : ATOMS_BESIDES ≡ 4096
