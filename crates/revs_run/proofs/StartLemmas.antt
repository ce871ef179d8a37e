-- The start of a program.
use Rattle.std.proofs.Common.{◌≡◌, ℕ, zero, suc, ◌+◌, ◌-◌, ◌≤◌, leb, true, Option, Some, None, List, [], ◌∷◌}
use Rattle.std.proofs.Common.{◌++◌, length, map, sum, refl, sym, ap, ◌∙◌, subst, arith, length-append}
use Rattle.std.specs.List.{AllByRecursion, list_all, range_with_len, fold}
use Rattle.std.proofs.lemmas.List.FromFn.{length-map-range_with_len}
use Rattle.revs_tape.specs.declared.limits.TheConstants.{MOST_INPUTS}
use Rattle.revs_tape.specs.declared.tape.Ref.{Ref}
use Rattle.revs_tape.specs.declared.tape.Ref.TheVariants as refs
use Rattle.revs_tape.specs.Tapes.{AreWidths}
use Rattle.revs_terms.specs.declared.program.Param.{Param}
use Rattle.revs_terms.specs.Programs.{AreParams, width_of, widths_of}
use Rattle.std.proofs.lemmas.Bool.Decides.{nat_tests}
use Rattle.std.proofs.lemmas.Bool.{and_parts}
use Rattle.revs_terms.specs.Running as runs
use Rattle.revs_terms.specs.Running.{Environment, nothing, bound}
use Rattle.revs_terms.specs.Runs.{inputs_from, nothings, from, params_in, param_value}
use Rattle.array_shapes.specs.Values as values
use Rattle.array_shapes.specs.Values.{ValueView, seen}
use Rattle.revs_run.specs.declared.machine.Binding.{Binding}
use Rattle.revs_tape.specs.Tapes.{TapeView}
use Rattle.list_facts.proofs.AllLemmas.{AllByRecursion-weaker}
use Rattle.revs_run.specs.declared.machine.Machine.{Machine}
use Rattle.revs_run.proofs.WriteLemmas.{state_is}
use Rattle.revs_run.specs.inside.Machines.{held_by, met_by, IsKnownIn, env_in, spec_value, envs_from, AreBindings, AreLeaps, IsValueView}
use Rattle.revs_run.specs.inside.Starts.{param_view, IsInputBelow, AreInputs, AreBound, IsParamBinding, IsStart}
use Rattle.revs_run.proofs.EnvironmentLemmas.{pushed_at, bindings_pushed}
use Rattle.revs_run.proofs.LeapLemmas.{leaps_pushed}

-- ---- inputs

held_inputs : (a n : ℕ) → map held_by (map (λ i. Some (refs.Input i)) (range_with_len a n)) ≡ inputs_from a (nothings n)
held_inputs a zero = refl
held_inputs a (suc n) = ap (λ z. held_by (Some (refs.Input a)) ∷ z) (held_inputs (a + 1) n)

known_inputs : (a n m : ℕ) → a + n ≤ m → AllByRecursion (IsInputBelow m) (map (λ i. Some (refs.Input i)) (range_with_len a n))
known_inputs a zero m h = tt
known_inputs a (suc n) m h = (omega arith, known_inputs (a + 1) n m (omega arith))

pub are_inputs : (n : ℕ) (store : List (Option Ref)) → store ≡ map (λ i. Some (refs.Input i)) (range_with_len 0 n) → AreInputs n store
are_inputs n store e = record {
  held = ap (map held_by) e ∙ held_inputs 0 n;
  known = subst (λ (s : List (Option Ref)). AllByRecursion (IsInputBelow n) s) (sym e) (known_inputs 0 n n (omega arith));
  count = ap length e ∙ length-map-range_with_len _ 0 n;
}

pub from_range : (first count : ℕ) → range_with_len first count ≡ from first count
from_range first zero = refl
from_range first (suc count) = ap (λ z. first ∷ z) (from_range (first + 1) count)

-- ---- widths

fold_more : (a : ℕ) (ws : List ℕ) → fold ◌+◌ a ws ≡ a + sum ws
fold_more a [] = omega arith
fold_more a (w ∷ ws) = fold_more (a + w) ws ∙ omega (arith, fold_more (0 + w) ws)

at_least : (w : ℕ) → leb 1 w ≡ true → 1 ≤ w
at_least w e = grind (arith, nat_tests)

pub all_widths : (ws : List ℕ) → list_all (λ w. leb 1 w) ws ≡ true → AllByRecursion (λ w. 1 ≤ w) ws
all_widths [] e = tt
all_widths (w ∷ ws) e = let h = and_parts (leb 1 w) (list_all (λ w. leb 1 w) ws) e in (at_least w h.0, all_widths ws h.1)

pub are_widths : (params : List Param) (ws : List ℕ) → AreParams params → ws ≡ widths_of params → AreWidths ws
are_widths params ws are e = subst AreWidths (sym e) (record { bits = all_widths (widths_of params) are.bits; inputs = are.inputs })

pub range_more : (a n b : ℕ) → a + n ≡ b → range_with_len a (n + 1) ≡ range_with_len a n ++ b ∷ []
range_more a zero b e = ap (λ (x : ℕ). x ∷ []) (omega arith)
range_more a (suc n) b e =
    let next : suc n + 1 ≡ suc (n + 1) = omega arith in
    rw next (ap (λ z. a ∷ z) (range_more (a + 1) n b (omega arith)))

-- ---- parameters

-- The parameters so far are bound; these are left.
pub record InBound (bs : List Binding) (first : ℕ) (rest params : List Param) : Type 0 where
  pub are : AreBindings 0 bs
  pub leaps : AreLeaps [] bs
  pub env : params_in first rest (env_in (envs_from [] bs) (length bs)) ≡ params_in 0 params nothing
  pub count : length bs + length rest ≡ length params
  pub total : first + sum (widths_of rest) ≤ MOST_INPUTS
  pub few : length bs ≤ first
  pub wide : AllByRecursion (λ w. 1 ≤ w) (widths_of rest)

pub bound_begun : (bs : List Binding) (params : List Param) → bs ≡ [] → AreParams params → InBound bs 0 params params
bound_begun bs params none are = record {
  are = subst (AreBindings 0) (sym none) tt;
  leaps = subst (AreLeaps []) (sym none) tt;
  env = ap (λ (x : List Binding). params_in 0 params (env_in (envs_from [] x) (length x))) none;
  count = ap (λ (x : List Binding). length x + length params) none ∙ omega arith;
  total = omega (arith, are.inputs);
  few = subst (λ (x : List Binding). length x ≤ 0) (sym none) (omega arith);
  wide = all_widths (widths_of params) are.bits;
}

spec_param : (envs : List Environment) (first : ℕ) (w : Option ℕ) → spec_value envs (param_view first w) ≡ param_value first w
spec_param envs first None = refl
spec_param envs first (Some w) = refl

view_param : (n first : ℕ) (w : Option ℕ) → IsValueView n (param_view first w)
view_param n first None = tt
view_param n first (Some w) = tt

pub bound_more : (bs cs : List Binding) (first next : ℕ) (b : Binding) (p : Param) (ps rest params : List Param) → rest ≡ p ∷ ps
    → IsParamBinding bs first p.width b → next ≡ first + width_of p.width → cs ≡ bs ++ b ∷ [] → InBound bs first rest params → InBound cs next ps params
bound_more bs cs first next b p ps rest params cut is n pushed i =
    let s = is.value in
    let at = is.parent in
    let longer : length cs ≡ length bs + 1 = ap length pushed ∙ length-append bs (b ∷ []) in
    let whole : first + sum (widths_of (p ∷ ps)) ≤ MOST_INPUTS = subst (λ (x : List Param). first + sum (widths_of x) ≤ MOST_INPUTS) cut i.total in
    let total : first + (width_of p.width + sum (widths_of ps)) ≤ MOST_INPUTS = omega (arith, whole, fold_more (0 + width_of p.width) (widths_of ps)) in
    let wide : AllByRecursion (λ w. 1 ≤ w) (widths_of (p ∷ ps)) = subst (λ (x : List Param). AllByRecursion (λ w. 1 ≤ w) (widths_of x)) cut i.wide in
    let last : env_in (envs_from [] cs) (length cs) ≡ bound (param_value first p.width) (env_in (envs_from [] bs) (length bs)) =
    ap (env_in (envs_from [] cs)) longer ∙ ap (λ (x : List Binding). env_in (envs_from [] x) (length bs + 1)) pushed ∙ pushed_at bs b
    ∙ ap (λ (x : ValueView). bound (spec_value (envs_from [] bs) x) (env_in (envs_from [] bs) b.parent)) s
    ∙ ap (λ (x : runs.Value). bound x (env_in (envs_from [] bs) b.parent)) (spec_param (envs_from [] bs) first p.width)
    ∙ ap (λ (x : ℕ). bound (param_value first p.width) (env_in (envs_from [] bs) x)) at in
    record {
      are = rw pushed (bindings_pushed bs b i.are (omega (arith, at))
          (subst (λ (x : ValueView). IsValueView (length bs) x) (sym s) (view_param (length bs) first p.width)));
      leaps = rw pushed (leaps_pushed [] bs b i.leaps is.leap);
      env = ap (params_in next ps) last ∙ ap (λ (x : ℕ). params_in x ps (bound (param_value first p.width) (env_in (envs_from [] bs) (length bs)))) n
          ∙ ap (λ (x : List Param). params_in first x (env_in (envs_from [] bs) (length bs))) (sym cut) ∙ i.env;
      count = omega (arith, longer, ap length cut, i.count);
      total = omega (arith, n, total);
      few = omega (arith, longer, n, i.few, wide.0);
      wide = wide.1;
    }

-- there is room for the next parameter
pub next_within : (bs : List Binding) (first : ℕ) (p : Param) (ps rest params : List Param) → rest ≡ p ∷ ps → InBound bs first rest params
    → (length bs ≤ MOST_INPUTS) × (first + width_of p.width ≤ MOST_INPUTS)
next_within bs first p ps rest params cut i =
    let whole : first + sum (widths_of (p ∷ ps)) ≤ MOST_INPUTS = subst (λ (x : List Param). first + sum (widths_of x) ≤ MOST_INPUTS) cut i.total in
    let within : first + width_of p.width ≤ MOST_INPUTS = omega (arith, whole, fold_more (0 + width_of p.width) (widths_of ps)) in
    (omega (arith, i.few, within), within)

pub bound_done : (bs : List Binding) (first : ℕ) (rest params : List Param) → rest ≡ [] → InBound bs first rest params → AreBound params bs
bound_done bs first rest params none i = record {
  are = i.are;
  leaps = i.leaps;
  env = ap (λ (x : List Param). params_in first x (env_in (envs_from [] bs) (length bs))) (sym none) ∙ i.env;
  count = omega (arith, ap length none, i.count);
  few = omega (arith, i.few, i.total);
}

pub param_places : (first : ℕ) (w : Option ℕ) (width : ℕ) (places : List ℕ) → w ≡ Some width → places ≡ range_with_len first (first + width - first)
    → values.register places ≡ param_view first w
param_places first w width places some e =
    let n : first + width - first ≡ width = omega arith in
    ap values.register (e ∙ ap (range_with_len first) n ∙ from_range first width) ∙ ap (param_view first) (sym some)

-- ---- the start

known_below : (ws : List ℕ) (held : Option Ref) → IsInputBelow (sum ws) held
    → IsKnownIn (record { params = ws; entries = []; claims = []; outputs = [] }) held
known_below ws None h = tt
known_below ws (Some r) h = h

pub started : (params : List Param) (m : Machine) → m.work ≡ 0 → m.tape ≡ record { params = widths_of params; entries = []; claims = []; outputs = [] }
    → AreInputs (sum (widths_of params)) m.store.items → AreBound params m.bindings.items → AreParams params → IsStart params m
started params m w t i b are =
    let p : m.tape.params ≡ widths_of params = ap (λ (x : TapeView). x.params) t in
    let e : m.tape.entries ≡ [] = ap (λ (x : TapeView). x.entries) t in
    record {
      kept = record {
        made = b.are;
        leaps = b.leaps;
        known = subst (λ (x : TapeView). AllByRecursion (IsKnownIn x) m.store.items) (sym t)
            (AllByRecursion-weaker (IsInputBelow (sum (widths_of params)))
            (IsKnownIn (record { params = widths_of params; entries = []; claims = []; outputs = [] }))
            (known_below (widths_of params)) m.store.items i.known);
        few = omega (arith, i.count, are.inputs);
        within = omega arith;
        room = omega (arith, b.few);
      };
      state = state_is m _ _ _ _ i.held e (ap (λ (x : TapeView). map met_by x.claims) t) w;
      env = b.env;
      widths = p;
    }
