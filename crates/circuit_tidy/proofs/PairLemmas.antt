-- A settled list has no cancelling pair.
use Rattle.std.proofs.Common.{◌≡◌, ◌≢◌, true, List, [], ◌∷◌, ◌++◌, reverse, sym, ap, ◌∙◌}
use Rattle.std.proofs.Common.{subst, inl, inr, None}
use Rattle.std.specs.List.{AllByRecursion}
use Rattle.std.proofs.lemmas.Bool.{cases_Bool}
use Rattle.std.proofs.lemmas.List.{reverse-append, reverse-reverse, append_assoc}
use Rattle.list_facts.proofs.AllLemmas.{AllByRecursion-reverse, AllByRecursion-weaker}
use Rattle.flip_lists.specs.declared.flip.Flip.{Flip}
use Rattle.flip_lists.specs.Flips.{are_alike, are_free}
use Rattle.circuit_tidy.specs.Pairs.{HasPair}
use Rattle.flip_lists.specs.Settling.{without, IsSettled}
use Rattle.flip_lists.proofs.FlipLemmas.{alike_swap, free_swap, free_of_alike}
use Rattle.flip_lists.proofs.SettlingLemmas.{some_is_some, onto_none, without-meets, without-passes}

settled_behind : (front rest : List Flip) → IsSettled (front ++ rest) → IsSettled rest
settled_behind [] rest settled = settled
settled_behind (f ∷ fs) rest settled = settled_behind fs rest settled.1

finds : (flip first : Flip) (between before : List Flip) → AllByRecursion (λ f. are_free flip f ≡ true) between → are_alike flip first ≡ true
    → without flip (between ++ first ∷ before) ≢ None
finds flip first [] before free alike none = some_is_some before (sym none ∙ without-meets flip first before alike)
finds flip first (x ∷ xs) before free alike none =
    elim (cases_Bool (are_alike flip x)) [
      | inl met ↦ some_is_some (xs ++ first ∷ before) (sym none ∙ without-meets flip x (xs ++ first ∷ before) met)
      | inr other ↦ finds flip first xs before free.1 alike
          (onto_none x (without flip (xs ++ first ∷ before)) (sym (without-passes flip x (xs ++ first ∷ before) other free.0) ∙ none))
    ]

turned : (before between behind : List Flip) (first second : Flip) → reverse (before ++ first ∷ (between ++ second ∷ behind))
    ≡ reverse behind ++ (second ∷ (reverse between ++ first ∷ reverse before))
turned before between behind first second =
    reverse-append before (first ∷ (between ++ second ∷ behind))
    ∙ ap (λ l. l ++ reverse before) (reverse-append (first ∷ []) (between ++ second ∷ behind)
    ∙ ap (λ l. l ++ first ∷ []) (reverse-append between (second ∷ behind) ∙ ap (λ l. l ++ reverse between) (reverse-append (second ∷ []) behind)))
    ∙ regroup (reverse behind) (second ∷ []) (reverse between) (first ∷ []) (reverse before)
  where
    regroup : (a b c d e : List Flip) → (((a ++ b) ++ c) ++ d) ++ e ≡ a ++ (b ++ (c ++ (d ++ e)))
    regroup a b c d e = simp append_assoc

pub settled_has_no_pair : (l : List Flip) → IsSettled l → ¬ HasPair (reverse l)
settled_has_no_pair l settled pair =
    let is : l ≡ reverse pair.behind ++ (pair.second ∷ (reverse pair.between ++ pair.first ∷ reverse pair.before)) =
    sym (reverse-reverse l) ∙ ap reverse pair.cut ∙ turned pair.before pair.between pair.behind pair.first pair.second in
    let there = settled_behind (reverse pair.behind) (pair.second ∷ (reverse pair.between ++ pair.first ∷ reverse pair.before)) (subst IsSettled is settled) in
    finds pair.second pair.first (reverse pair.between) (reverse pair.before)
    (AllByRecursion-reverse (λ f. are_free pair.second f ≡ true) pair.between
    (AllByRecursion-weaker (λ f. are_free pair.first f ≡ true) (λ f. are_free pair.second f ≡ true)
    (λ f free. free_swap f pair.second (free_of_alike f pair.first pair.second pair.alike (free_swap pair.first f free))) pair.between pair.free))
    (alike_swap pair.first pair.second pair.alike) there.0
