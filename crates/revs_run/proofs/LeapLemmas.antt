-- Ways out of environments.
use Rattle.std.proofs.Common.{◌≡◌, ℕ, zero, suc, ◌+◌, ◌-◌, ◌≤◌, ◌<◌, Some, List, [], ◌∷◌, ◌++◌, length, slice_get}
use Rattle.std.proofs.Common.{Option, None, slice_index_or, get_or, length-append, arith, refl, sym, ap, ◌∙◌, subst}
use Rattle.std.proofs.lemmas.Bool.{eq-eqb, ne_eqb}
use Rattle.revs_terms.specs.Running.{Environment, nothing, bound, value_at}
use Rattle.revs_run.specs.declared.leaps.Leap.{Leap}
use Rattle.revs_run.specs.declared.machine.Binding.{Binding}
use Rattle.revs_run.specs.declared.machine.Machine.{Machine}
use Rattle.revs_run.specs.inside.Machines.{env_in, bound_in, envs_from, envs_of, farther, Leaps, AreLeaps}
use Rattle.revs_run.specs.inside.Machines.{AreBindings, IsMachine, joined_leap, leap_at, leap_behind, leap_of}
use Rattle.revs_run.proofs.EnvironmentLemmas.{env_in-front, envs_from-front, added_by, at_place, placed, got}

-- ---- farther out

value_farther : (n k : ℕ) (e : Environment) → value_at (farther n e) k ≡ value_at e (n + k)
value_farther zero k e = ap (value_at e) (omega arith)
value_farther (suc n) k nothing = refl
value_farther (suc n) k (bound v far) =
    let next : suc (n + k) ≡ suc n + k = omega arith in
    value_farther n k far ∙ ap (value_at (bound v far)) next

farther_nothing : (n : ℕ) → farther n nothing ≡ nothing
farther_nothing zero = refl
farther_nothing (suc n) = refl

farther_twice : (a b : ℕ) (e : Environment) → farther a (farther b e) ≡ farther (b + a) e
farther_twice a zero e = ap (λ (n : ℕ). farther n e) (omega arith)
farther_twice a (suc b) nothing = farther_nothing a ∙ sym (farther_nothing (suc b + a))
farther_twice a (suc b) (bound v far) =
    let next : suc (b + a) ≡ suc b + a = omega arith in
    farther_twice a b far ∙ ap (λ (n : ℕ). farther n (bound v far)) next

-- ---- the leaps of bindings

leaps_front : (d r : List Environment) (env : ℕ) (leap : Leap) → env ≤ length d → Leaps d env leap → Leaps (d ++ r) env leap
leaps_front d r env leap h l = record {
  reached = env_in-front d r leap.to (omega (arith, l.before)) ∙ l.reached ∙ ap (farther leap.passed) (sym (env_in-front d r env h));
  before = l.before;
}

leaps_at : (d : List Environment) (bs : List Binding) (k : ℕ) (b : Binding) → AreBindings (length d) bs → AreLeaps d bs → slice_get bs k ≡ Some b
    → Leaps (envs_from d bs) b.parent b.leap
leaps_at d [] k b are ls e = absurd cc
leaps_at d (c ∷ cs) zero b are ls e =
    let same : c ≡ b = cc in
    subst (λ (x : Binding). Leaps (envs_from d (c ∷ cs)) x.parent x.leap) same
    (subst (λ (x : List Environment). Leaps x c.parent c.leap) (sym (envs_from-front d (c ∷ cs)))
    (leaps_front d (added_by d (c ∷ cs)) c.parent c.leap are.0 ls.0))
leaps_at d (c ∷ cs) (suc k) b are ls e =
    let longer : length (d ++ bound_in d c ∷ []) ≡ length d + 1 = length-append d (bound_in d c ∷ []) in
    leaps_at (d ++ bound_in d c ∷ []) cs k b (subst (λ (n : ℕ). AreBindings n cs) (sym longer) are.1.1) ls.1 e

pub leaps_pushed : (d : List Environment) (bs : List Binding) (b : Binding) → AreLeaps d bs → Leaps (envs_from d bs) b.parent b.leap
    → AreLeaps d (bs ++ b ∷ [])
leaps_pushed d [] b ls l = (l, tt)
leaps_pushed d (c ∷ bs) b ls l = (ls.0, leaps_pushed (d ++ bound_in d c ∷ []) bs b ls.1 l)

-- ---- a way out

pub stays : (envs : List Environment) (env : ℕ) (leap : Leap) → leap ≡ record { to = env; passed = 0 } → Leaps envs env leap
stays envs env leap e = subst (Leaps envs env) (sym e) (record { reached = refl; before = omega arith })

-- a binding that is looked up by its place
got_or : (bs : List Binding) (k : ℕ) (d : Binding) → k < length bs → slice_get bs k ≡ Some (slice_index_or bs k d)
got_or [] k d h = absurd (omega arith)
got_or (c ∷ cs) zero d h = refl
got_or (c ∷ cs) (suc k) d h = got_or cs k d (omega arith)

-- the leap of the binding of an environment, from that environment
pub out : (bs : List Binding) (env : ℕ) (b : Binding) → AreBindings 0 bs → AreLeaps [] bs → 0 < env → env ≤ length bs → slice_get bs (env - 1) ≡ Some b
    → (env_in (envs_from [] bs) b.leap.to ≡ farther (suc b.leap.passed) (env_in (envs_from [] bs) env)) × (b.leap.to + b.leap.passed + 1 ≤ env)
out bs env b are ls some within e =
    let p = at_place [] bs (env - 1) b are e in
    let l = leaps_at [] bs (env - 1) b are ls e in
    let k : env ≡ suc (0 + (env - 1)) = omega arith in
    (l.reached ∙ ap (farther (suc b.leap.passed)) (sym (ap (env_in (envs_from [] bs)) k ∙ p.env)), omega (arith, l.before, p.parent))

-- ---- where a leap leads

pub leaps_none : (bs : List Binding) (env : ℕ) → env ≡ 0 → leap_at bs env ≡ None
leaps_none bs env e = rw (eq-eqb env 0 e) refl

pub leaps_some : (bs : List Binding) (env : ℕ) (b : Binding) → ¬ (env ≡ 0) → slice_get bs (env - 1) ≡ Some b → leap_at bs env ≡ Some b.leap
leaps_some bs env b some is = rw (ne_eqb env 0 some, is) refl

-- The binding of an environment, which is looked up by its place, and the leap out of it.
pub record Near (bs : List Binding) (env : ℕ) (b : Binding) : Type 0 where
  pub here : slice_get bs (env - 1) ≡ Some b
  pub reached : env_in (envs_from [] bs) b.leap.to ≡ farther (suc b.leap.passed) (env_in (envs_from [] bs) env)
  pub before : b.leap.to + b.leap.passed + 1 ≤ env
  pub is : leap_at bs env ≡ Some b.leap

module _ (bs : List Binding) (env : ℕ) (d : Binding) (are : AreBindings 0 bs) (ls : AreLeaps [] bs) (some : ¬ (env ≡ 0)) (within : env ≤ length bs) where
  pub nearest : Near bs env (slice_index_or bs (env - 1) d)
  nearest =
      let b = slice_index_or bs (env - 1) d in
      let here : slice_get bs (env - 1) ≡ Some b = got_or bs (env - 1) d (omega arith) in
      let o = out bs env b are ls (omega arith) within here in
      record { here = here; reached = o.0; before = o.1; is = leaps_some bs env b some here }

-- The binding where that leap leads, and its leap.
module _ (bs : List Binding) (env : ℕ) (d e : Binding) (are : AreBindings 0 bs) (ls : AreLeaps [] bs) (some : ¬ (env ≡ 0)) (within : env ≤ length bs)
    (further : ¬ ((slice_index_or bs (env - 1) d).leap.to ≡ 0)) where
  pub next_nearest : Near bs (slice_index_or bs (env - 1) d).leap.to (slice_index_or bs ((slice_index_or bs (env - 1) d).leap.to - 1) e)
  next_nearest =
      let n = nearest bs env d are ls some within in
      nearest bs (slice_index_or bs (env - 1) d).leap.to e are ls further (omega (arith, n.before))

  pub out_twice : (leap : Leap)
      → leap ≡ record {
        to = (slice_index_or bs ((slice_index_or bs (env - 1) d).leap.to - 1) e).leap.to;
        passed = (slice_index_or bs (env - 1) d).leap.passed + (slice_index_or bs ((slice_index_or bs (env - 1) d).leap.to - 1) e).leap.passed + 2;
      } → Leaps (envs_from [] bs) env leap
  out_twice leap is =
      let b = slice_index_or bs (env - 1) d in
      let c = slice_index_or bs (b.leap.to - 1) e in
      let n = nearest bs env d are ls some within in
      let both : suc b.leap.passed + suc c.leap.passed ≡ b.leap.passed + c.leap.passed + 2 = omega arith in
      subst (Leaps (envs_from [] bs) env) (sym is) (record {
        reached = next_nearest.reached ∙ ap (farther (suc c.leap.passed)) n.reached
            ∙ farther_twice (suc c.leap.passed) (suc b.leap.passed) (env_in (envs_from [] bs) env)
            ∙ ap (λ (k : ℕ). farther k (env_in (envs_from [] bs) env)) both;
        before = omega (arith, n.before, next_nearest.before);
      })

  -- what two leaps pass is less than what there is
  pub passed_twice :
      (slice_index_or bs (env - 1) d).leap.passed + (slice_index_or bs ((slice_index_or bs (env - 1) d).leap.to - 1) e).leap.passed + 2 ≤ env
  passed_twice = let n = nearest bs env d are ls some within in omega (arith, n.before, next_nearest.before)

-- ---- what a leap is

pub leap_is : (bs : List Binding) (env : ℕ) (near next : Option Leap) → leap_at bs env ≡ near → leap_behind bs near ≡ next
    → leap_of bs env ≡ joined_leap env near next
leap_is bs env near next e f = ap (λ (n : Option Leap). joined_leap env n (leap_behind bs n)) e ∙ ap (joined_leap env near) f

pub leap_twice : (bs : List Binding) (env : ℕ) (d e : Binding) → AreBindings 0 bs → AreLeaps [] bs → ¬ (env ≡ 0) → env ≤ length bs
    → ¬ ((slice_index_or bs (env - 1) d).leap.to ≡ 0)
    → leap_of bs env ≡ joined_leap env (Some (slice_index_or bs (env - 1) d).leap)
    (Some (slice_index_or bs ((slice_index_or bs (env - 1) d).leap.to - 1) e).leap)
leap_twice bs env d e are ls some within further =
    leap_is bs env _ _ (nearest bs env d are ls some within).is (next_nearest bs env d e are ls some within further).is

pub leap_stays : (env : ℕ) (near next : Leap) → ¬ (near.passed ≡ next.passed)
    → joined_leap env (Some near) (Some next) ≡ record { to = env; passed = 0 }
leap_stays env near next differ = rw (ne_eqb near.passed next.passed differ) refl

pub leap_joins : (env : ℕ) (near next : Leap) → near.passed ≡ next.passed
    → joined_leap env (Some near) (Some next) ≡ record { to = next.to; passed = near.passed + next.passed + 2 }
leap_joins env near next same = rw (eq-eqb near.passed next.passed same) refl

-- ---- an environment farther out

onward : (envs : List Environment) (env near there n left count : ℕ) → n + left ≡ count → env_in envs near ≡ farther n (env_in envs env)
    → env_in envs there ≡ farther left (env_in envs near) → env_in envs there ≡ farther count (env_in envs env)
onward envs env near there n left count whole first second =
    second ∙ ap (farther left) first ∙ farther_twice left n (env_in envs env) ∙ ap (λ (k : ℕ). farther k (env_in envs env)) whole

-- past the leap of the nearest binding
pub leapt : (m : Machine) (env there count : ℕ) (b : Binding) → IsMachine m → 0 < env → env ≤ length m.bindings.items → b.leap.passed < count
    → b ≡ get_or m.bindings.items (env - 1) b
    → env_in (envs_of m) there ≡ farther (count - 1 - b.leap.passed) (env_in (envs_of m) b.leap.to)
    → env_in (envs_of m) there ≡ farther count (env_in (envs_of m) env)
leapt m env there count b is some within further e f =
    let o = out m.bindings.items env b is.made is.leaps some within (got m.bindings.items (env - 1) b (omega arith) e) in
    onward (envs_of m) env b.leap.to there (suc b.leap.passed) (count - 1 - b.leap.passed) count (omega arith) o.0 f

pub leap_made : (m : Machine) (env : ℕ) (b : Binding) → IsMachine m → 0 < env → env ≤ length m.bindings.items → b ≡ get_or m.bindings.items (env - 1) b
    → b.leap.to ≤ length m.bindings.items
leap_made m env b is some within e = omega
    (arith, (out m.bindings.items env b is.made is.leaps some within (got m.bindings.items (env - 1) b (omega arith) e)).1)

-- past the nearest binding
pub one_out : (m : Machine) (env there count : ℕ) (b : Binding) → IsMachine m → 0 < env → env ≤ length m.bindings.items → 0 < count
    → b ≡ get_or m.bindings.items (env - 1) b
    → env_in (envs_of m) there ≡ farther (count - 1) (env_in (envs_of m) b.parent) → env_in (envs_of m) there ≡ farther count (env_in (envs_of m) env)
one_out m env there count b is some within further e f =
    let p = placed m (env - 1) b is (got m.bindings.items (env - 1) b (omega arith) e) in
    let k : env ≡ suc (env - 1) = omega arith in
    onward (envs_of m) env b.parent there (suc zero) (count - 1) count (omega arith) (ap (farther (suc zero)) (sym (ap (env_in (envs_of m)) k ∙ p.env))) f

pub parent_made : (m : Machine) (env : ℕ) (b : Binding) → IsMachine m → 0 < env → env ≤ length m.bindings.items → b ≡ get_or m.bindings.items (env - 1) b
    → b.parent ≤ length m.bindings.items
parent_made m env b is some within e = omega (arith, (placed m (env - 1) b is (got m.bindings.items (env - 1) b (omega arith) e)).parent)

-- the value of a name is the nearest one there
pub value_there : (m : Machine) (env there back : ℕ) → env_in (envs_of m) there ≡ farther back (env_in (envs_of m) env)
    → value_at (env_in (envs_of m) there) 0 ≡ value_at (env_in (envs_of m) env) back
value_there m env there back e = ap (λ (x : Environment). value_at x 0) e ∙ value_farther back 0 (env_in (envs_of m) env) ∙ ap
    (value_at (env_in (envs_of m) env)) (omega arith)
