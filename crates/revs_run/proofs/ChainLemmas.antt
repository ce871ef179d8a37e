-- The forms of terms, as the machine takes them.
use Rattle.std.proofs.Common.{◌≡◌, ℕ, suc, ◌-◌, ◌≤◌, ◌<◌, List, [], ◌∷◌, ◌++◌, length, refl, sym, ap, ◌∙◌, subst, arith, append_assoc}
use Rattle.std.proofs.lemmas.List.{append-nil}
use Rattle.revc_base.specs.declared.place.Place.{Place}
use Rattle.revs_terms.specs.Terms.{place_of}
use Rattle.revs_terms.specs.Trees.{Tree, trees, assign, reg}
use Rattle.revs_terms.specs.Running as runs
use Rattle.revs_terms.specs.Running.{Environment, State, Outcome, stuck, went, after, provided, run_of, term_of, bit_of, bits_of}
use Rattle.revs_terms.specs.Running.{chain, chain_of, worked, written, read, Stamped, assigned, short_register}
use Rattle.revs_terms.specs.Runs.{no_bits}
use Rattle.array_shapes.specs.declared.value.Value.TheVariants as variants
use Rattle.revs_run.specs.declared.fault.RunFault.{RunFault}
use Rattle.revs_run.specs.declared.machine.Machine.{Machine}
use Rattle.revs_run.specs.declared.operators.Operator.{Operator}
use Rattle.revs_run.specs.declared.operators.Operator.TheVariants as operators
use Rattle.revs_run.specs.inside.Machines.{env_in, envs_of, state_of, IsMachine, Does, Goes}
use Rattle.revs_run.proofs.FaultLemmas.{said_first, said_same}
use Rattle.revs_run.specs.inside.Calls.{Going, Says, chain_tree, entry_of, join_step, link_step}
use Rattle.revs_run.proofs.ProgressLemmas.{Through, begun, step, same_rest, ends_here, said, does_in, says_in, regroup, same_next, after_went, list_of-trees}

-- ---- a term is entered

entered_at : (old mid : Machine) (k : ℕ) (e : Environment) (t : Tree) → IsMachine old → Does old mid (worked no_bits 1 (place_of t) (state_of old)) tt
    → Through old mid (run_of no_bits (suc k) e t (state_of old)) (term_of no_bits (run_of no_bits k) e t (state_of mid))
entered_at old mid k e t is d = step (λ _ s. term_of no_bits (run_of no_bits k) e t s) (begun old _ _ refl is) d

pub entered : (old mid : Machine) (left : ℕ) (e : Environment) (t : Tree) → IsMachine old → 0 < left
    → Does old mid (worked no_bits 1 (place_of t) (state_of old)) tt
    → Through old mid (run_of no_bits left e t (state_of old)) (term_of no_bits (run_of no_bits (left - 1)) e t (state_of mid))
entered old mid left e t is some d =
    let k : left ≡ suc (left - 1) = omega arith in
    subst (λ (n : ℕ). Through old mid (run_of no_bits n e t (state_of old)) (term_of no_bits (run_of no_bits (left - 1)) e t (state_of mid))) (sym k)
    (entered_at old mid (left - 1) e t is d)

-- ---- assignment

pub assigns_to : (old mid : Machine) (left to : ℕ) (e : Environment) (l r : Tree) → IsMachine old
    → Does old mid (bit_of no_bits (run_of no_bits left) e l (state_of old)) to
    → Through old mid (term_of no_bits (run_of no_bits left) e (assign l r) (state_of old))
    (after (bit_of no_bits (run_of no_bits left) e r (state_of mid)) (λ from s. assigned no_bits to from (place_of l) (place_of r) s))
assigns_to old mid left to e l r is d = step
    (λ to s. after (bit_of no_bits (run_of no_bits left) e r s) (λ from s. assigned no_bits to from (place_of l) (place_of r) s)) (begun old _ _ refl is) d

pub assigns_from : (old mid later : Machine) (left env to from : ℕ) (l r : Tree) → IsMachine old → env ≤ length old.bindings.items
    → Does old mid (bit_of no_bits (run_of no_bits left) (env_in (envs_of old) env) l (state_of old)) to
    → Does mid later (bit_of no_bits (run_of no_bits left) (env_in (envs_of mid) env) r (state_of mid)) from
    → Through old later (term_of no_bits (run_of no_bits left) (env_in (envs_of old) env) (assign l r) (state_of old))
    (assigned no_bits to from (place_of l) (place_of r) (state_of later))
assigns_from old mid later left env to from l r is h d f =
    step (λ from s. assigned no_bits to from (place_of l) (place_of r) s) (assigns_to old mid left to (env_in (envs_of old) env) l r is d)
    (does_in (λ e. bit_of no_bits (run_of no_bits left) e r (state_of mid)) old mid later env from d.grows h f)

pub assigns_stuck : (old mid : Machine) (left env to : ℕ) (l r : Tree) (fault : RunFault) → IsMachine old → env ≤ length old.bindings.items
    → Does old mid (bit_of no_bits (run_of no_bits left) (env_in (envs_of old) env) l (state_of old)) to
    → Says fault (bit_of no_bits (run_of no_bits left) (env_in (envs_of mid) env) r (state_of mid))
    → Says fault (term_of no_bits (run_of no_bits left) (env_in (envs_of old) env) (assign l r) (state_of old))
assigns_stuck old mid left env to l r fault is h d f =
    said fault (assigns_to old mid left to (env_in (envs_of old) env) l r is d)
    (said_first fault (bit_of no_bits (run_of no_bits left) (env_in (envs_of old) env) r (state_of mid))
    (λ from s. assigned no_bits to from (place_of l) (place_of r) s)
    (says_in (λ e. bit_of no_bits (run_of no_bits left) e r (state_of mid)) old mid env fault d.grows h f))

-- ---- bits, one after another

abbrev pub rest_of_bits : ℕ → Environment → List Tree → List ℕ → State (Unit {0}) → Going (List ℕ)
rest_of_bits left e ts made s = after (bits_of no_bits (run_of no_bits left) e ts s) (λ more s. went (made ++ more) s)

pub bits_begun : (m : Machine) (left : ℕ) (e : Environment) (ts : List Tree) (made : List ℕ) → IsMachine m → made ≡ []
    → Through m m (bits_of no_bits (run_of no_bits left) e ts (state_of m)) (rest_of_bits left e ts made (state_of m))
bits_begun m left e ts made is none = begun m _ _ (after_went _ ∙ ap (λ (x : List ℕ). rest_of_bits left e ts x (state_of m)) (sym none)) is

pub bits_more : (old now later : Machine) (left env l : ℕ) (t : Tree) (ts us : List Tree) (made made2 : List ℕ) (whole : Going (List ℕ))
    → env ≤ length old.bindings.items → us ≡ t ∷ ts → made2 ≡ made ++ l ∷ []
    → Through old now whole (rest_of_bits left (env_in (envs_of old) env) us made (state_of now))
    → Does now later (bit_of no_bits (run_of no_bits left) (env_in (envs_of now) env) t (state_of now)) l
    → Through old later whole (rest_of_bits left (env_in (envs_of old) env) ts made2 (state_of later))
bits_more old now later left env l t ts us made made2 whole h cut e v d =
    let w : Through old now whole (rest_of_bits left (env_in (envs_of old) env) (t ∷ ts) made (state_of now)) = same_rest _
    (ap (λ (x : List Tree). rest_of_bits left (env_in (envs_of old) env) x made (state_of now)) cut) v in
    let r : Outcome (Unit {0}) (List ℕ) = bits_of no_bits (run_of no_bits left) (env_in (envs_of old) env) ts (state_of later) in
    same_rest _ (regroup r (λ more s. went (l ∷ more) s) (λ more s. went (made ++ more) s)
    ∙ same_next r (λ more s. went (made ++ l ∷ more) s) (λ more s. went (made2 ++ more) s)
    (λ more s. ap (λ (x : List ℕ). went x s) (sym (append_assoc made (l ∷ []) more) ∙ ap (λ (x : List ℕ). x ++ more) (sym e))))
    (step (λ first s. after (after (bits_of no_bits (run_of no_bits left) (env_in (envs_of old) env) ts s) (λ more s. went (first ∷ more) s))
    (λ more s. went (made ++ more) s))
    (same_rest _ (regroup (bit_of no_bits (run_of no_bits left) (env_in (envs_of old) env) t (state_of now))
    (λ first s. after (bits_of no_bits (run_of no_bits left) (env_in (envs_of old) env) ts s) (λ more s. went (first ∷ more) s))
    (λ more s. went (made ++ more) s)) w)
    (does_in (λ e. bit_of no_bits (run_of no_bits left) e t (state_of now)) old now later env l w.grows h d))

pub bits_stuck : (old now : Machine) (left env : ℕ) (t : Tree) (ts us : List Tree) (made : List ℕ) (whole : Going (List ℕ)) (fault : RunFault)
    → env ≤ length old.bindings.items → us ≡ t ∷ ts
    → Through old now whole (rest_of_bits left (env_in (envs_of old) env) us made (state_of now))
    → Says fault (bit_of no_bits (run_of no_bits left) (env_in (envs_of now) env) t (state_of now))
    → Says fault whole
bits_stuck old now left env t ts us made whole fault h cut v s =
    let w : Through old now whole (rest_of_bits left (env_in (envs_of old) env) (t ∷ ts) made (state_of now)) = same_rest _
    (ap (λ (x : List Tree). rest_of_bits left (env_in (envs_of old) env) x made (state_of now)) cut) v in
    said fault w (said_first fault _ (λ more s. went (made ++ more) s)
    (said_first fault (bit_of no_bits (run_of no_bits left) (env_in (envs_of old) env) t (state_of now))
    (λ first s. after (bits_of no_bits (run_of no_bits left) (env_in (envs_of old) env) ts s) (λ more s. went (first ∷ more) s))
    (says_in (λ e. bit_of no_bits (run_of no_bits left) e t (state_of now)) old now env fault w.grows h s)))

pub bits_done : (old now : Machine) (left : ℕ) (e : Environment) (ts : List Tree) (made : List ℕ) (whole : Going (List ℕ)) → ts ≡ []
    → Through old now whole (rest_of_bits left e ts made (state_of now)) → Does old now whole made
bits_done old now left e ts made whole none w =
    ends_here made w (ap (λ (x : List Tree). rest_of_bits left e x made (state_of now)) none ∙ ap (λ (x : List ℕ). went x (state_of now)) (append-nil made))

-- ---- a register

pub reg_made : (old mid : Machine) (left : ℕ) (e : Environment) (ts : List Tree) (at : Place) (made : List ℕ) → IsMachine old
    → Does old mid (bits_of no_bits (run_of no_bits left) e ts (state_of old)) made
    → Through old mid (term_of no_bits (run_of no_bits left) e (reg (trees ts) at) (state_of old)) (short_register no_bits made at (state_of mid))
reg_made old mid left e ts at made is d =
    step (λ made s. short_register no_bits made at s)
    (begun old _ _ (ap (λ (x : List Tree). after (bits_of no_bits (run_of no_bits left) e x (state_of old)) (λ made s. short_register no_bits made at s))
    (list_of-trees ts)) is) d

pub reg_stuck : (old : Machine) (left : ℕ) (e : Environment) (ts : List Tree) (at : Place) (fault : RunFault) → IsMachine old
    → Says fault (bits_of no_bits (run_of no_bits left) e ts (state_of old))
    → Says fault (term_of no_bits (run_of no_bits left) e (reg (trees ts) at) (state_of old))
reg_stuck old left e ts at fault is s =
    said_same fault _ _ (ap (λ (x : List Tree). after (bits_of no_bits (run_of no_bits left) e x (state_of old)) (λ made s. short_register no_bits made at s))
    (list_of-trees ts))
    (said_first fault (bits_of no_bits (run_of no_bits left) e ts (state_of old)) (λ made s. short_register no_bits made at s) s)

-- ---- chains

abbrev pub rest_of_chain : ℕ → Operator → Environment → Place → ℕ → List Tree → State (Unit {0}) → Going runs.Value
rest_of_chain left op e first so_far ts s = chain_of no_bits (run_of no_bits left) (entry_of op) (λ a b. tt) e first so_far ts s

chain_is : (left : ℕ) (op : Operator) (e : Environment) (ts : List Tree) (s : State (Unit {0}))
    → term_of no_bits (run_of no_bits left) e (chain_tree op ts) s ≡ chain no_bits (run_of no_bits left) (entry_of op) (λ a b. tt) e ts s
chain_is left operators.And e ts s = ap (λ (x : List Tree). chain no_bits (run_of no_bits left) (entry_of operators.And) (λ a b. tt) e x s) (list_of-trees ts)
chain_is left operators.Xor e ts s = ap (λ (x : List Tree). chain no_bits (run_of no_bits left) (entry_of operators.Xor) (λ a b. tt) e x s) (list_of-trees ts)

chain_first : (m : Machine) (left : ℕ) (op : Operator) (e : Environment) (ts : List Tree) (t : Tree) (rest : List Tree) → ts ≡ t ∷ rest
    → term_of no_bits (run_of no_bits left) e (chain_tree op ts) (state_of m)
    ≡ after (bit_of no_bits (run_of no_bits left) e t (state_of m)) (λ first s. rest_of_chain left op e (place_of t) first rest s)
chain_first m left op e ts t rest cut = chain_is left op e ts (state_of m) ∙ ap
    (λ (x : List Tree). chain no_bits (run_of no_bits left) (entry_of op) (λ a b. tt) e x (state_of m)) cut

pub chain_begun : (old mid : Machine) (left : ℕ) (op : Operator) (e : Environment) (ts : List Tree) (t : Tree) (rest : List Tree) (l : ℕ) → IsMachine old
    → ts ≡ t ∷ rest
    → Does old mid (bit_of no_bits (run_of no_bits left) e t (state_of old)) l
    → Through old mid (term_of no_bits (run_of no_bits left) e (chain_tree op ts) (state_of old)) (rest_of_chain left op e (place_of t) l rest (state_of mid))
chain_begun old mid left op e ts t rest l is cut d =
    step (λ first s. rest_of_chain left op e (place_of t) first rest s) (begun old _ _ (chain_first old left op e ts t rest cut) is) d

pub chain_no_first : (old : Machine) (left : ℕ) (op : Operator) (e : Environment) (ts : List Tree) (t : Tree) (rest : List Tree) (fault : RunFault)
    → ts ≡ t ∷ rest
    → Says fault (bit_of no_bits (run_of no_bits left) e t (state_of old))
    → Says fault (term_of no_bits (run_of no_bits left) e (chain_tree op ts) (state_of old))
chain_no_first old left op e ts t rest fault cut s =
    said_same fault _ _ (chain_first old left op e ts t rest cut)
    (said_first fault (bit_of no_bits (run_of no_bits left) e t (state_of old)) (λ first s. rest_of_chain left op e (place_of t) first rest s) s)

chain_next : (left : ℕ) (op : Operator) (e : Environment) (first : Place) (so_far : ℕ) (t : Tree) (ts : List Tree) (s : State (Unit {0}))
    → rest_of_chain left op e first so_far (t ∷ ts) s ≡ after (link_step (run_of no_bits left) op e first so_far t s)
    (λ made s. rest_of_chain left op e first made ts s)
chain_next left op e first so_far t ts s =
    let k : ℕ → State (Unit {0}) → Going runs.Value = λ made s. rest_of_chain left op e first made ts s in
    sym (regroup (bit_of no_bits (run_of no_bits left) e t s) (λ next s. join_step op so_far next first (place_of t) s) k
    ∙ same_next (bit_of no_bits (run_of no_bits left) e t s) _ _ (λ next s.
    regroup (read no_bits so_far first s) (λ a s. after (read no_bits next (place_of t) s)
    (λ b s. written no_bits (entry_of op a.stamp b.stamp) tt (place_of t) s)) k
    ∙ same_next (read no_bits so_far first s) _ _
    (λ a s. regroup (read no_bits next (place_of t) s) (λ b s. written no_bits (entry_of op a.stamp b.stamp) tt (place_of t) s) k)))

pub chain_more : (old now later : Machine) (left env so_far made : ℕ) (op : Operator) (first : Place) (t : Tree) (ts us : List Tree)
    (whole : Going runs.Value) → env ≤ length old.bindings.items → us ≡ t ∷ ts
    → Through old now whole (rest_of_chain left op (env_in (envs_of old) env) first so_far us (state_of now))
    → Does now later (link_step (run_of no_bits left) op (env_in (envs_of now) env) first so_far t (state_of now)) made
    → Through old later whole (rest_of_chain left op (env_in (envs_of old) env) first made ts (state_of later))
chain_more old now later left env so_far made op first t ts us whole h cut v d =
    let w : Through old now whole (rest_of_chain left op (env_in (envs_of old) env) first so_far (t ∷ ts) (state_of now)) = same_rest _
    (ap (λ (x : List Tree). rest_of_chain left op (env_in (envs_of old) env) first so_far x (state_of now)) cut) v in
    step (λ made s. rest_of_chain left op (env_in (envs_of old) env) first made ts s)
    (same_rest _ (chain_next left op (env_in (envs_of old) env) first so_far t ts (state_of now)) w)
    (does_in (λ e. link_step (run_of no_bits left) op e first so_far t (state_of now)) old now later env made w.grows h d)

pub chain_stuck : (old now : Machine) (left env so_far : ℕ) (op : Operator) (first : Place) (t : Tree) (ts us : List Tree) (whole : Going runs.Value)
    (fault : RunFault) → env ≤ length old.bindings.items → us ≡ t ∷ ts
    → Through old now whole (rest_of_chain left op (env_in (envs_of old) env) first so_far us (state_of now))
    → Says fault (link_step (run_of no_bits left) op (env_in (envs_of now) env) first so_far t (state_of now))
    → Says fault whole
chain_stuck old now left env so_far op first t ts us whole fault h cut v s =
    let w : Through old now whole (rest_of_chain left op (env_in (envs_of old) env) first so_far (t ∷ ts) (state_of now)) = same_rest _
    (ap (λ (x : List Tree). rest_of_chain left op (env_in (envs_of old) env) first so_far x (state_of now)) cut) v in
    said fault (same_rest _ (chain_next left op (env_in (envs_of old) env) first so_far t ts (state_of now)) w)
    (said_first fault _ (λ made s. rest_of_chain left op (env_in (envs_of old) env) first made ts s)
    (says_in (λ e. link_step (run_of no_bits left) op e first so_far t (state_of now)) old now env fault w.grows h s))

pub chain_done : (old now : Machine) (left : ℕ) (op : Operator) (e : Environment) (first : Place) (so_far : ℕ) (ts : List Tree) (whole : Going runs.Value)
    → ts ≡ []
    → Through old now whole (rest_of_chain left op e first so_far ts (state_of now)) → Goes old now whole (variants.Bit so_far)
chain_done old now left op e first so_far ts whole none w = record {
  does = ends_here (runs.bit so_far) w (ap (λ (x : List Tree). rest_of_chain left op e first so_far x (state_of now)) none);
  made = record { made = tt };
}
