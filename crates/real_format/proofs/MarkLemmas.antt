-- The marks of a written file's lines.
use Rattle.std.proofs.Common.{◌≡◌, ℕ, zero, suc, ◌+◌, ◌-◌, ◌<◌, ◌≤◌, inl, inr, List, ◌++◌, length, replicate, slice_get, Some, refl, ap, ◌∙◌}
use Rattle.std.proofs.Common.{arith}
use Rattle.std.proofs.lemmas.List.{length-append, length-replicate}
use Rattle.std.proofs.lemmas.Bool.{cases_lt, lt-ltb}
use Rattle.circuit_plans.specs.declared.roles.Roles.{Roles}
use Rattle.circuit_plans.specs.Plans.{lines_in, role_at}
use Rattle.real_format.specs.declared.file.Mark.TheVariants.{Free, Zero}
use Rattle.real_format.specs.Compiled.{constants_of}
use Rattle.real_format.specs.inside.Labels.{start_of}
use Rattle.real_format.proofs.NameLemmas.{ltb-above}

-- ---- numbers of marks

pub length-constants_of : (roles : Roles) → length (constants_of roles) ≡ lines_in roles
length-constants_of roles = simp (length-append, length-replicate) (omega arith)

-- ---- the mark of a line

pub slice_get-replicate : {A : Type 0} (n i : ℕ) (x : A) → i < n → slice_get (replicate n x) i ≡ Some x
slice_get-replicate zero i x h = absurd (omega arith)
slice_get-replicate (suc n) zero x h = refl
slice_get-replicate (suc n) (suc i) x h = slice_get-replicate n i x (omega arith)

-- behind a row of equal elements
behind_row : {A : Type 0} (n i : ℕ) (x : A) (xs : List A) → n ≤ i → slice_get (replicate n x ++ xs) i ≡ slice_get xs (i - n)
behind_row zero i x xs h = let same : i ≡ i - 0 = omega arith in ap (slice_get xs) same
behind_row (suc n) zero x xs h = absurd (omega arith)
behind_row (suc n) (suc i) x xs h =
    let same : i - n ≡ suc i - suc n = omega arith in
    behind_row n i x xs (omega arith) ∙ ap (slice_get xs) same

-- in a row of equal elements
in_row : {A : Type 0} (n i : ℕ) (x : A) (xs : List A) → i < n → slice_get (replicate n x ++ xs) i ≡ Some x
in_row zero i x xs h = absurd (omega arith)
in_row (suc n) zero x xs h = refl
in_row (suc n) (suc i) x xs h = in_row n i x xs (omega arith)

pub start_at : (roles : Roles) (line : ℕ) → line < lines_in roles → slice_get (constants_of roles) line ≡ Some (start_of (role_at roles line))
start_at roles line below =
    let started = roles.outputs + roles.work in
    elim (cases_lt line roles.inputs) [
      | inl p ↦ rw (lt-ltb line roles.inputs p) (in_row roles.inputs line Free _ p)
      | inr p ↦ behind_row roles.inputs line Free _ p ∙ elim (cases_lt line (roles.inputs + roles.outputs)) [
        | inl q ↦ rw (ltb-above line roles.inputs p, lt-ltb line (roles.inputs + roles.outputs) q)
            (in_row started (line - roles.inputs) Zero _ (omega arith))
        | inr q ↦ elim (cases_lt line (roles.inputs + roles.outputs + roles.work)) [
          | inl r ↦ rw (
            ltb-above line roles.inputs p,
            ltb-above line (roles.inputs + roles.outputs) q,
            lt-ltb line (roles.inputs + roles.outputs + roles.work) r,
          )
              (in_row started (line - roles.inputs) Zero _ (omega arith))
          | inr r ↦ rw (
            ltb-above line roles.inputs p,
            ltb-above line (roles.inputs + roles.outputs) q,
            ltb-above line (roles.inputs + roles.outputs + roles.work) r,
          ) (behind_row started (line - roles.inputs) Zero _ (omega arith) ∙ slice_get-replicate roles.borrowed _ Free (omega arith))
        ]
      ]
    ]
