-- The registers of a compiled file: where their lines stand.
use Rattle.std.proofs.Common.{◌≡◌, ℕ, zero, suc, ◌+◌, ◌<◌, ◌≤◌, ltb, eqb, false, get_or, eq-eqb, inl, inr, List, [], ◌∷◌, ◌++◌, refl, sym, ap, ◌∙◌, subst}
use Rattle.std.proofs.Common.{arith, append_assoc, append-nil}
use Rattle.std.specs.List.{AllByRecursion}
use Rattle.std.proofs.lemmas.Bool.{false≢true, cond-false, ne_eqb, lt-ltb, cases_lt}
use Rattle.std.proofs.lemmas.Bool.Decides.{nat_tests}
use Rattle.list_facts.proofs.AllLemmas.{AllByRecursion-append}
use Rattle.circuit_plans.specs.declared.roles.Roles.{Roles}
use Rattle.circuit_plans.specs.declared.roles.Role.{Role}
use Rattle.circuit_plans.specs.declared.roles.Role.TheVariants.{Input, Output, Work, Borrowed}
use Rattle.circuit_plans.specs.Plans.{lines_in, first_of, role_at, number_at}
use Rattle.qasm_format.specs.declared.file.Register.{Register}
use Rattle.qasm_format.specs.Registers.{IsLaid, IsRegister, HaveDifferentNames, lines_of_all}
use Rattle.qasm_format.specs.Compiled.{register_name, register_of, registers_of, argument_of}
use Rattle.qasm_format.proofs.WordLemmas.{IsName-register_name}
use Rattle.qasm_format.proofs.RegisterLemmas.{lines_of_all-append}
use Rattle.qasm_format.proofs.WrittenLemmas.{IsPlaceOf}

-- ---- one register, or none

abbrev pub one_register : Role → ℕ → List Register
one_register role size = record { name = register_name role; size = size } ∷ []

pub register_of-some : (role : Role) (size : ℕ) → 1 ≤ size → register_of role size ≡ one_register role size
register_of-some role size some = cond-false _ [] (one_register role size) (ne_eqb size 0 (λ e. omega arith))

-- what holds of no register and of one holds of both
pub by_size : (P : List Register → Type 0) (role : Role) (size : ℕ) → P [] → (1 ≤ size → P (one_register role size)) → P (register_of role size)
by_size P role zero none some = none
by_size P role (suc k) none some = subst P (sym (register_of-some role (suc k) (omega arith))) (some (omega arith))

-- ---- numbers of lines

pub lines_of_all-register_of : (role : Role) (size : ℕ) → lines_of_all (register_of role size) ≡ size
lines_of_all-register_of role zero = refl
lines_of_all-register_of role (suc k) =
    let one = ap lines_of_all (register_of-some role (suc k) (omega arith)) in omega arith

-- ---- the register of a role

abbrev pub size_of : Roles → Role → ℕ
size_of roles Input = roles.inputs
size_of roles Output = roles.outputs
size_of roles Work = roles.work
size_of roles Borrowed = roles.borrowed

-- over any registers before and behind
laid_there : (registers before behind : List Register) (role : Role) (first size : ℕ) → registers ≡ before ++ (register_of role size ++ behind)
    → first ≡ lines_of_all before → 1 ≤ size → IsLaid registers (register_name role) first size
laid_there registers before behind role first size among place some = record {
  before = before;
  behind = behind;
  among = among ∙ ap (λ rs. before ++ (rs ++ behind)) (register_of-some role size some);
  place = place;
}

laid_in : (roles : Roles) (role : Role) → 1 ≤ size_of roles role
    → IsLaid (registers_of roles) (register_name role) (first_of roles role) (size_of roles role)
laid_in roles Input some =
    laid_there (registers_of roles) [] (register_of Output roles.outputs ++ (register_of Work roles.work ++ register_of Borrowed roles.borrowed))
    Input 0 roles.inputs refl refl some
laid_in roles Output some =
    laid_there (registers_of roles) (register_of Input roles.inputs) (register_of Work roles.work ++ register_of Borrowed roles.borrowed)
    Output roles.inputs roles.outputs refl (sym (lines_of_all-register_of Input roles.inputs)) some
laid_in roles Work some =
    let before = register_of Input roles.inputs ++ register_of Output roles.outputs in
    let i = lines_of_all-register_of Input roles.inputs in
    let o = lines_of_all-register_of Output roles.outputs in
    let both = lines_of_all-append (register_of Input roles.inputs) (register_of Output roles.outputs) in
    laid_there (registers_of roles) before (register_of Borrowed roles.borrowed) Work (roles.inputs + roles.outputs) roles.work
    (sym (append_assoc (register_of Input roles.inputs) (register_of Output roles.outputs)
    (register_of Work roles.work ++ register_of Borrowed roles.borrowed))) (omega arith) some
laid_in roles Borrowed some =
    let i = lines_of_all-register_of Input roles.inputs in
    let o = lines_of_all-register_of Output roles.outputs in
    let w = lines_of_all-register_of Work roles.work in
    let two = lines_of_all-append (register_of Output roles.outputs) (register_of Work roles.work) in
    let three = lines_of_all-append (register_of Input roles.inputs) (register_of Output roles.outputs ++ register_of Work roles.work) in
    laid_there (registers_of roles) (register_of Input roles.inputs ++ (register_of Output roles.outputs ++ register_of Work roles.work)) []
    Borrowed (roles.inputs + roles.outputs + roles.work) roles.borrowed
    (four (register_of Input roles.inputs) (register_of Output roles.outputs) (register_of Work roles.work) (register_of Borrowed roles.borrowed))
    (omega arith) some
  where
    four : (i o w b : List Register) → i ++ (o ++ (w ++ b)) ≡ (i ++ (o ++ w)) ++ (b ++ [])
    four i o w b = simp (append_assoc, append-nil)

-- ---- the place of a line

pub ltb-above : (a b : ℕ) → b ≤ a → ltb a b ≡ false
ltb-above a b h = grind (arith, nat_tests)

-- a line stands among those of its role
place_in_role : (roles : Roles) (line : ℕ) → line < lines_in roles → (first_of roles (role_at roles line) ≤ line)
    × (line < first_of roles (role_at roles line) + size_of roles (role_at roles line))
place_in_role roles line below = elim (cases_lt line roles.inputs) [
  | inl p ↦ rw (lt-ltb line roles.inputs p) (omega arith, omega arith)
  | inr p ↦ elim (cases_lt line (roles.inputs + roles.outputs)) [
    | inl q ↦ rw (ltb-above line roles.inputs p, lt-ltb line (roles.inputs + roles.outputs) q) (omega arith, omega arith)
    | inr q ↦ elim (cases_lt line (roles.inputs + roles.outputs + roles.work)) [
      | inl r ↦ rw (ltb-above line roles.inputs p, ltb-above line (roles.inputs + roles.outputs) q, lt-ltb line (roles.inputs + roles.outputs + roles.work) r)
          (omega arith, omega arith)
      | inr r ↦ rw (
        ltb-above line roles.inputs p,
        ltb-above line (roles.inputs + roles.outputs) q,
        ltb-above line (roles.inputs + roles.outputs + roles.work) r,
      ) (omega arith, omega arith)
    ]
  ]
]

-- the argument of a line is its place
pub place_of_line : (roles : Roles) (line : ℕ) → lines_in roles ≤ 16384 → line < lines_in roles
    → IsPlaceOf (registers_of roles) (argument_of roles line) line
place_of_line roles line few below =
    let place = place_in_role roles line below in
    record {
      name = register_name (role_at roles line);
      first = first_of roles (role_at roles line);
      size = size_of roles (role_at roles line);
      number = number_at roles line;
      spelled = refl;
      named = IsName-register_name (role_at roles line);
      laid = laid_in roles (role_at roles line) (omega arith);
      inside = omega arith;
      small = omega arith;
      place = omega arith;
    }

-- ---- all registers

pub all_lines : (roles : Roles) → lines_of_all (registers_of roles) ≡ lines_in roles
all_lines roles =
    let i = register_of Input roles.inputs in
    let o = register_of Output roles.outputs in
    let w = register_of Work roles.work in
    let b = register_of Borrowed roles.borrowed in
    let of_i = lines_of_all-register_of Input roles.inputs in
    let of_o = lines_of_all-register_of Output roles.outputs in
    let of_w = lines_of_all-register_of Work roles.work in
    let of_b = lines_of_all-register_of Borrowed roles.borrowed in
    let one = lines_of_all-append w b in
    let two = lines_of_all-append o (w ++ b) in
    let three = lines_of_all-append i (o ++ (w ++ b)) in
    omega arith

register_is_good : (role : Role) (size : ℕ) → AllByRecursion IsRegister (register_of role size)
register_is_good role size =
    by_size (AllByRecursion IsRegister) role size tt (λ some. (record { named = IsName-register_name role; some = some }, tt))

pub registers_are_good : (roles : Roles) → AllByRecursion IsRegister (registers_of roles)
registers_are_good roles =
    AllByRecursion-append IsRegister (register_of Input roles.inputs) _ (register_is_good Input roles.inputs)
    (AllByRecursion-append IsRegister (register_of Output roles.outputs) _ (register_is_good Output roles.outputs)
    (AllByRecursion-append IsRegister (register_of Work roles.work) _ (register_is_good Work roles.work)
    (register_is_good Borrowed roles.borrowed)))

-- no register of the second list has this name
abbrev IsNew : Role → List Register → Type 0
IsNew role registers = AllByRecursion (λ (other : Register). ¬ (register_name role ≡ other.name)) registers

-- names with other first bytes are different
pub differ : (name other : List ℕ) → eqb (get_or name 0 0) (get_or other 0 0) ≡ false → ¬ (name ≡ other)
differ name other e same = false≢true (sym e ∙ eq-eqb (get_or name 0 0) (get_or other 0 0) (ap (λ (w : List ℕ). get_or w 0 0) same))

is_new : (role other : Role) (size : ℕ) → eqb (get_or (register_name role) 0 0) (get_or (register_name other) 0 0) ≡ false
    → IsNew role (register_of other size)
is_new role other size e = by_size (IsNew role) other size tt (λ some. (differ (register_name role) (register_name other) e, tt))

apart_behind : (role : Role) (size : ℕ) (behind : List Register) → IsNew role behind → HaveDifferentNames behind
    → HaveDifferentNames (register_of role size ++ behind)
apart_behind role size behind new apart =
    by_size (λ rs. HaveDifferentNames (rs ++ behind)) role size apart (λ some. (new, apart))

pub registers_are_different : (roles : Roles) → HaveDifferentNames (registers_of roles)
registers_are_different roles =
    let o = register_of Output roles.outputs in
    let w = register_of Work roles.work in
    let b = register_of Borrowed roles.borrowed in
    apart_behind Input roles.inputs (o ++ (w ++ b))
    (AllByRecursion-append _ o (w ++ b) (is_new Input Output roles.outputs refl)
    (AllByRecursion-append _ w b (is_new Input Work roles.work refl) (is_new Input Borrowed roles.borrowed refl)))
    (apart_behind Output roles.outputs (w ++ b)
    (AllByRecursion-append _ w b (is_new Output Work roles.work refl) (is_new Output Borrowed roles.borrowed refl))
    (apart_behind Work roles.work b (is_new Work Borrowed roles.borrowed refl)
    (by_size HaveDifferentNames Borrowed roles.borrowed tt (λ some. (tt, tt)))))
