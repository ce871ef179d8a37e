-- The inputs of sums.
use Rattle.std.proofs.Common.{◌≡◌, ℕ, Bool, true, false, cond, List, [], ◌∷◌, ◌++◌, Option, Some, None, IfSome, subst, sym}
use Rattle.std.specs.List.{AllByRecursion}
use Rattle.list_facts.specs.Lists.{IsAmong}
use Rattle.list_facts.proofs.AmongLemmas.{among_left, among_right, any_of, all_from_among}
use Rattle.revs_tape.specs.inside.Sums.{exclusive_sum_of}
use Rattle.revs_tape.proofs.SumLemmas.{All-exclusive_sum_of}
use Rattle.exclusive_sums.specs.Inputs.{StandsIn, AreOverInputsOf}

-- the inputs of a monomial stand in a sum that has it
pub own_inputs : (m : List ℕ) (p : List (List ℕ)) → IsAmong m p → AllByRecursion (StandsIn p) m
own_inputs m p among = all_from_among (StandsIn p) m (λ i k. any_of (IsAmong i) m p among k)

pub over_itself : (p : List (List ℕ)) → AreOverInputsOf p p
over_itself p = all_from_among (AllByRecursion (StandsIn p)) p (λ m k. own_inputs m p k)

pub over_sum : (p q : List (List ℕ)) → AreOverInputsOf (p ++ q) (exclusive_sum_of p q)
over_sum p q =
    All-exclusive_sum_of (AllByRecursion (StandsIn (p ++ q))) p q
    (all_from_among (AllByRecursion (StandsIn (p ++ q))) p (λ m k. own_inputs m (p ++ q) (among_left m p q k)))
    (all_from_among (AllByRecursion (StandsIn (p ++ q))) q (λ m k. own_inputs m (p ++ q) (among_right m p q k)))

pub over_negation : (p : List (List ℕ)) → AreOverInputsOf p (exclusive_sum_of ([] ∷ []) p)
over_negation p = All-exclusive_sum_of (AllByRecursion (StandsIn p)) ([] ∷ []) p (tt, tt) (over_itself p)

-- an answer with a limit
pub if_answered : (P : List (List ℕ) → Type 0) (b : Bool) (sum : List (List ℕ)) (answer : Option (List (List ℕ))) → answer ≡ cond b (Some sum) None → P sum
    → IfSome answer P
if_answered P true sum answer e is = subst (λ (o : Option (List (List ℕ))). IfSome o P) (sym e) is
if_answered P false sum answer e is = subst (λ (o : Option (List (List ℕ))). IfSome o P) (sym e) tt
