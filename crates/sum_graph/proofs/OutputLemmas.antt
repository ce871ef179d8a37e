-- A node of a settled graph implies an output.
use Rattle.std.proofs.Common.{◌≡◌, ℕ, ◌-◌, ◌<◌, ◌≤◌, ◌⊎◌, List, [], ◌∷◌, length, refl, ap, inl, inr, arith}
use Rattle.std.specs.List.{AllByRecursion}
use Rattle.list_facts.specs.Lists.{below}
use Rattle.list_facts.proofs.AllLemmas.{AllByRecursion-filter}
use Rattle.list_facts.proofs.AmongLemmas.{all_from_among}
use Rattle.list_facts.proofs.OrderLemmas.{below_bound}
use Rattle.dependency_graph.specs.Graphs.{output_nodes, steps_of}
use Rattle.dependency_graph.specs.Uses.{last_of, last_use, readers}
use Rattle.dependency_graph.proofs.TableLemmas.{length-steps_of}
use Rattle.claim_check.specs.Settled.{SettledView, IsSettled, as_graph}

last_below : (none m : ℕ) (xs : List ℕ) → none < m → AllByRecursion (λ x. x < m) xs → last_of none xs < m
last_below none m [] low all = low
last_below none m (x ∷ xs) low all = last_below x m xs all.0 all.1

-- without outputs, a step's last use is a step
unread_last : (steps : List (List ℕ)) (i : ℕ) → i < length steps → last_use steps [] i < length steps
unread_last steps i low =
    last_below i (length steps) (readers steps i) low
    (AllByRecursion-filter (λ x. x < length steps) _ (below (length steps))
    (all_from_among (λ x. x < length steps) (below (length steps)) (below_bound (length steps))))

no_outputs : (s : SettledView) → s.outputs ≡ [] → output_nodes (as_graph s) ≡ []
no_outputs s e = ap (λ (sigs : List _). output_nodes (record { inputs = s.inputs; nodes = s.nodes; sigs = []; outputs = sigs })) e

-- without outputs there is no node
no_nodes : (s : SettledView) → IsSettled s → 0 < length s.nodes → s.outputs ≡ [] → ⊥
no_nodes s is some none =
    let long : length (steps_of (as_graph s)) ≡ length s.nodes = length-steps_of (as_graph s) in
    let k = length s.nodes - 1 in
    let last : k < last_use (steps_of (as_graph s)) (output_nodes (as_graph s)) k = is.used k (omega (arith, some)) in
    let unread : last_use (steps_of (as_graph s)) [] k < length (steps_of (as_graph s)) = unread_last (steps_of (as_graph s)) k (omega (arith, long, some)) in
    let same : last_use (steps_of (as_graph s)) (output_nodes (as_graph s)) k ≡ last_use (steps_of (as_graph s)) [] k =
    ap (λ (outputs : List ℕ). last_use (steps_of (as_graph s)) outputs k) (no_outputs s none) in
    absurd (omega (arith, long, some, last, unread, same))

no_or_some : {A : Type 0} (xs : List A) → (xs ≡ []) ⊎ (1 ≤ length xs)
no_or_some [] = inl refl
no_or_some (x ∷ xs) = inr (omega arith)

pub some_output : (s : SettledView) → IsSettled s → 1 ≤ length s.nodes → 1 ≤ length s.outputs
some_output s is some = elim (no_or_some s.outputs) [ inl none ↦ absurd (no_nodes s is (omega (arith, some)) none) | inr more ↦ more ]
