-- When a table stops.
use Rattle.std.specs.Prelude.{◌≡◌, ◌<◌, ◌⊎◌, Result, MatchResult}
use Rattle.product_sums.specs.declared.budget.Budget.{Budget}
use Rattle.product_sums.specs.declared.budget.TheConstants.{MOST_STEPS, MOST_WORDS}
use Rattle.product_sums.specs.declared.fault.ProductsFault.{ProductsFault}
use Rattle.product_sums.specs.declared.fault.ProductsFault.TheVariants.{Limit}

-- more words are held, or more steps were taken, than may be
abbrev pub PassesLimit : Budget → Type 0
PassesLimit budget = (MOST_STEPS < budget.steps) ⊎ (MOST_WORDS < budget.words)

-- it is refused exactly there, and for no want of memory
abbrev pub StopsPastLimit : {T : Type 0} → Result T ProductsFault → Budget → Type 0
StopsPastLimit result budget = MatchResult result
    (λ _. ¬ PassesLimit budget) (λ fault. (fault ≡ Limit) × PassesLimit budget)
