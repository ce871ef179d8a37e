-- Numbers, as the machine reads them.
use Rattle.std.proofs.Common.{◌≡◌, ℕ, ◌+◌, ◌≤◌, ◌<◌, drop, get_or, List, ◌∷◌, length, refl, sym, ap, ◌∙◌, subst}
use Rattle.std.proofs.lemmas.List.{drop_more}
use Rattle.std.specs.Prelude.{ℤ}
use Rattle.revc_base.specs.declared.place.Place.{Place}
use Rattle.revs_terms.specs.declared.term.Step.{Step}
use Rattle.revs_terms.specs.Terms.{unit_place}
use Rattle.revs_terms.specs.Running.{Environment, went, after, worked, summed, more_of}
use Rattle.revs_terms.specs.Runs.{no_bits}
use Rattle.array_shapes.specs.Values as values
use Rattle.array_shapes.specs.Values.{ValueView}
use Rattle.revs_run.specs.declared.fault.RunFault.{RunFault}
use Rattle.revs_run.specs.declared.machine.Machine.{Machine}
use Rattle.revs_run.specs.inside.Machines.{env_in, spec_value, envs_of, state_of, Does}
use Rattle.revs_run.specs.inside.Calls.{Going, Says}
use Rattle.revs_run.specs.inside.Numbers.{number_in}
use Rattle.revs_run.proofs.FaultLemmas.{goes_on, said_first}
use Rattle.revs_run.proofs.EnvironmentLemmas.{grown_env}
use Rattle.revs_run.proofs.ProgressLemmas.{Through, step, same_rest, said, says_in}

-- ---- a name

pub number_in-view : (envs : List Environment) (v : ValueView) → number_in (spec_value envs v) ≡ values.number_of v
number_in-view envs values.unit = refl
number_in-view envs (values.bit location) = refl
number_in-view envs (values.register locations) = refl
number_in-view envs (values.number k) = refl
number_in-view envs (values.function env taken of) = refl

-- ---- the steps behind the first

-- the element in a place, and what is behind it
pub left_from : {X : Type 0} (xs : List X) (i : ℕ) (x : X) → i < length xs → x ≡ get_or xs i x → drop i xs ≡ x ∷ drop (i + 1) xs
left_from {X} xs i x h e = drop_more xs i x h ∙ ap (λ (y : X). y ∷ drop (i + 1) xs) (sym e)

abbrev pub rest_of_number : ℕ → Machine → Machine → ℤ → List Step → Going ℤ
rest_of_number env old now sum ps = more_of no_bits (env_in (envs_of old) env) sum ps (state_of now)

-- a step is looked at, once its work was counted
pub more_counted : (old now mid : Machine) (env : ℕ) (sum : ℤ) (p : Step) (ps qs : List Step) (at : Place) (whole : Going ℤ) → qs ≡ p ∷ ps
    → at ≡ unit_place p.unit → Through old now whole (rest_of_number env old now sum qs) → Does now mid (worked no_bits 1 at (state_of now)) tt
    → Through old mid whole (after (summed no_bits (env_in (envs_of old) env) sum p (state_of mid))
    (λ next s. more_of no_bits (env_in (envs_of old) env) next ps s))
more_counted old now mid env sum p ps qs at whole cut same t d =
    step (λ _ s. after (summed no_bits (env_in (envs_of old) env) sum p s) (λ next s. more_of no_bits (env_in (envs_of old) env) next ps s))
    (same_rest _ (ap (λ (x : List Step). more_of no_bits (env_in (envs_of old) env) sum x (state_of now)) cut) t)
    (subst (λ (x : Place). Does now mid (worked no_bits 1 x (state_of now)) tt) same d)

pub more_next : (old now mid : Machine) (env : ℕ) (sum next : ℤ) (p : Step) (ps qs : List Step) (at : Place) (whole : Going ℤ)
    → env ≤ length old.bindings.items → qs ≡ p ∷ ps → at ≡ unit_place p.unit → Through old now whole (rest_of_number env old now sum qs)
    → Does now mid (worked no_bits 1 at (state_of now)) tt
    → summed no_bits (env_in (envs_of mid) env) sum p (state_of mid) ≡ went next (state_of mid)
    → Through old mid whole (rest_of_number env old mid next ps)
more_next old now mid env sum next p ps qs at whole h cut same t d e =
    let counted = more_counted old now mid env sum p ps qs at whole cut same t d in
    same_rest _ (goes_on _ _ _ _ _ (subst (λ (x : Environment). summed no_bits x sum p (state_of mid) ≡ went next (state_of mid))
    (grown_env old mid env counted.grows h) e) refl) counted

pub more_stuck : (old now mid : Machine) (env : ℕ) (sum : ℤ) (p : Step) (ps qs : List Step) (at : Place) (whole : Going ℤ) (fault : RunFault)
    → env ≤ length old.bindings.items → qs ≡ p ∷ ps → at ≡ unit_place p.unit → Through old now whole (rest_of_number env old now sum qs)
    → Does now mid (worked no_bits 1 at (state_of now)) tt → Says fault (summed no_bits (env_in (envs_of mid) env) sum p (state_of mid))
    → Says fault whole
more_stuck old now mid env sum p ps qs at whole fault h cut same t d s =
    let counted = more_counted old now mid env sum p ps qs at whole cut same t d in
    said fault counted (said_first fault _ _ (says_in (λ e. summed no_bits e sum p (state_of mid)) old mid env fault counted.grows h s))
