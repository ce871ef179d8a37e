use Rattle.plan_choice.proofs.SearchLemmas.{IsSearching}
use Rattle.plan_choice.proofs.search.lay_pebbling.Given as goal

abbrev pub invariant-halving : goal.invariant-halving
invariant-halving l = IsSearching l.graph l.budget l.block l.tried

abbrev pub decreases-halving : goal.decreases-halving
decreases-halving l = l.block
