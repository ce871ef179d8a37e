-- What each used name is bound to.
use Rattle.std.specs.Prelude.{◌≡◌, ◌≢◌, ◌<◌, ℕ, Option, Some, None, List, [], ◌∷◌, map, position, bytes_eq, slice_get}
use Rattle.revc_base.specs.declared.place.Place.{Place}
use Rattle.revs_terms.specs.declared.term.Name.{Name}
use Rattle.revs_terms.specs.declared.program.Param.{Param}
use Rattle.revs_terms.specs.declared.term.Unit as u
use Rattle.revs_terms.specs.declared.term.Unit.TheVariants as units
use Rattle.revs_terms.specs.declared.term.Step.{Step}
use Rattle.revs_terms.specs.declared.term.Part.{Part}
use Rattle.revs_terms.specs.declared.term.Part.TheVariants as part
use Rattle.revs_terms.specs.Trees.{Tree, Trees, ItemTrees, nil, cons, no_items, item, used, bool, reg, block, function, parts, apply, append, rotate, clean}
use Rattle.revs_terms.specs.Trees.{assert, ands, xors, assign, loop, bind, run}

-- A tree with each used name bound, or the place of the first name without a binding, in text
-- order.
pub data Scoped (A : Type 0) : Type 0 where
  unbound : Place → Scoped A
  scoped : A → Scoped A

abbrev pub and_then : {A C : Type 0} → Scoped A → (A → Scoped C) → Scoped C
and_then (unbound at) next = unbound at
and_then (scoped a) next = next a

-- names that are bound one after another, the last one nearest, before those in scope
abbrev pub nearer : List Name → List (List ℕ) → List (List ℕ)
nearer [] scope = scope
nearer (name ∷ names) scope = nearer names (name.text ∷ scope)

-- a used name, with the number of bindings between the use and its own binding
abbrev pub bound_name : List (List ℕ) → Name → Scoped Name
bound_name scope name = elim (position (bytes_eq name.text) scope)
    [ None ↦ unbound name.at | Some back ↦ scoped (record name { back = back }) ]

-- The binding so many names out has this name, and no nearer one has.
pub record IsNearest (name : List ℕ) (scope : List (List ℕ)) (back : ℕ) : Type 0 where
  pub here : slice_get scope back ≡ Some name
  pub none_nearer : (k : ℕ) → k < back → slice_get scope k ≢ Some name

-- A used name is bound to the nearest binding of its name, and nothing else of it changes.
abbrev pub BindsToNearest : Type 0
BindsToNearest =
    (scope : List (List ℕ)) (name bound : Name) → bound_name scope name ≡ scoped bound
    → (bound ≡ record name { back = bound.back }) × IsNearest name.text scope bound.back

-- A used name is unbound, at its place, only where no binding in scope has its name.
abbrev pub UnboundHasNone : Type 0
UnboundHasNone =
    (scope : List (List ℕ)) (name : Name) (at : Place) → bound_name scope name ≡ unbound at
    → (at ≡ name.at) × ((k : ℕ) → slice_get scope k ≢ Some name.text)

-- a number and parts, with each used name bound
abbrev pub scoped_unit : List (List ℕ) → u.Unit → Scoped (u.Unit)
scoped_unit scope (units.Digits value at) = scoped (units.Digits value at)
scoped_unit scope (units.Name name) = and_then (bound_name scope name) (λ n. scoped (units.Name n))

abbrev pub scoped_num : List (List ℕ) → List Step → Scoped (List Step)
scoped_num scope [] = scoped []
scoped_num scope (s ∷ ss) =
    and_then (scoped_unit scope s.unit) (λ v. and_then (scoped_num scope ss)
    (λ vs. scoped (record s { unit = v } ∷ vs)))

abbrev pub scoped_part : List (List ℕ) → Part → Scoped Part
scoped_part scope (part.Index i at) = and_then (scoped_num scope i) (λ k. scoped (part.Index k at))
scoped_part scope (part.Slice i j at) =
    and_then (scoped_num scope i) (λ k. and_then (scoped_num scope j)
    (λ l. scoped (part.Slice k l at)))

abbrev pub scoped_parts : List (List ℕ) → List Part → Scoped (List Part)
scoped_parts scope [] = scoped []
scoped_parts scope (p ∷ ps) =
    and_then (scoped_part scope p) (λ q. and_then (scoped_parts scope ps) (λ qs. scoped (q ∷ qs)))

-- The tree with its names bound among those in scope, the nearest first. A name of a `let` is bound
-- in the later items and in the last expression of its block, or in the later items of its `for`.
-- The name of a `for` is bound in its items.
abbrev mutual
  pub scoped_tree : List (List ℕ) → Tree → Scoped Tree
  scoped_tree scope (used name) = and_then (bound_name scope name) (λ n. scoped (used n))
  scoped_tree scope (bool b at) = scoped (bool b at)
  scoped_tree scope (reg ts at) = and_then (scoped_trees scope ts) (λ us. scoped (reg us at))
  scoped_tree scope (block items last at) =
      and_then (scoped_items scope items) (λ r. and_then (scoped_tree r.1 last)
      (λ l. scoped (block r.0 l at)))
  scoped_tree scope (function names body at) = and_then (scoped_tree (nearer names scope) body)
      (λ b. scoped (function names b at))
  scoped_tree scope (parts base ps) = and_then (scoped_tree scope base)
      (λ b. and_then (scoped_parts scope ps) (λ qs. scoped (parts b qs)))
  scoped_tree scope (apply head ts) = and_then (scoped_tree scope head)
      (λ h. and_then (scoped_trees scope ts) (λ us. scoped (apply h us)))
  scoped_tree scope (append a b at) = and_then (scoped_tree scope a)
      (λ c. and_then (scoped_tree scope b) (λ d. scoped (append c d at)))
  scoped_tree scope (rotate i t at) = and_then (scoped_num scope i)
      (λ k. and_then (scoped_tree scope t) (λ v. scoped (rotate k v at)))
  scoped_tree scope (clean t at) = and_then (scoped_tree scope t) (λ u. scoped (clean u at))
  scoped_tree scope (assert t at) = and_then (scoped_tree scope t) (λ u. scoped (assert u at))
  scoped_tree scope (ands ts) = and_then (scoped_trees scope ts) (λ us. scoped (ands us))
  scoped_tree scope (xors ts) = and_then (scoped_trees scope ts) (λ us. scoped (xors us))
  scoped_tree scope (assign a b) = and_then (scoped_tree scope a)
      (λ c. and_then (scoped_tree scope b) (λ d. scoped (assign c d)))
  scoped_tree scope (loop name a b items at) =
      and_then (scoped_num scope a) (λ c. and_then (scoped_num scope b)
      (λ d. and_then (scoped_items (name.text ∷ scope) items) (λ r. scoped (loop name c d r.0 at))))

  pub scoped_trees : List (List ℕ) → Trees → Scoped Trees
  scoped_trees scope nil = scoped nil
  scoped_trees scope (cons t ts) = and_then (scoped_tree scope t)
      (λ u. and_then (scoped_trees scope ts) (λ us. scoped (cons u us)))

  -- the items of a block or a `for`, and what is in scope behind them
  pub scoped_items : List (List ℕ) → ItemTrees → Scoped (ItemTrees × List (List ℕ))
  scoped_items scope no_items = scoped (no_items, scope)
  scoped_items scope (item (bind name value) items) =
      and_then (scoped_tree scope value) (λ v. and_then (scoped_items (name.text ∷ scope) items)
      (λ r. scoped (item (bind name v) r.0, r.1)))
  scoped_items scope (item (run t) items) =
      and_then (scoped_tree scope t) (λ u. and_then (scoped_items scope items)
      (λ r. scoped (item (run u) r.0, r.1)))

-- ---- programs

-- the place of the first parameter whose name another one before it has
abbrev pub second_of : List (List ℕ) → List Param → Option Place
second_of before [] = None
second_of before (p ∷ ps) =
    elim (position (bytes_eq p.name.text) before)
    [ None ↦ second_of (p.name.text ∷ before) ps | Some back ↦ Some p.name.at ]

-- what is in scope in the body, the last parameter nearest
abbrev pub params_scope : List Param → List (List ℕ)
params_scope params = nearer (map (λ p. p.name) params) []

-- Why the scope rule fails, at the first place in text order: two parameters of one name, or a used
-- name without a binding.
pub data ScopeVerdict : Type 0 where
  two_params : Place → ScopeVerdict
  unbound_name : Place → ScopeVerdict
  bound_as : Tree → ScopeVerdict

abbrev pub scope_verdict : List Param → Tree → ScopeVerdict
scope_verdict params body = elim (second_of [] params) [
  | Some at ↦ two_params at
  | None ↦ elim (scoped_tree (params_scope params) body)
      [ unbound at ↦ unbound_name at | scoped tree ↦ bound_as tree ]
]
