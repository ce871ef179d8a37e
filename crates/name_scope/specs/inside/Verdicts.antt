-- What a call that binds names answers.
use Rattle.std.specs.Prelude.{◌≡◌, ℕ, List, [], Option, Some, None, Result, Ok, Err}
use Rattle.revc_base.specs.declared.place.Place.{Place}
use Rattle.revs_terms.specs.Scopes.{Scoped, unbound, scoped, and_then, scoped_tree, second_of, params_scope, scope_verdict, unbound_name, two_params}
use Rattle.revs_terms.specs.declared.program.Param.{Param}
use Rattle.revs_terms.specs.declared.term.Name.{Name}
use Rattle.revs_terms.specs.Trees.{Tree, ItemTrees}
use Rattle.name_scope.specs.declared.binding.ScopeFault.{ScopeFault}
use Rattle.name_scope.specs.declared.binding.ScopeFault.TheVariants as fault

-- A refusal names the place of the name that is not bound, or memory was wanting.
abbrev pub IsUnbound : {A : Type 0} → ScopeFault → Scoped A → Type 0
IsUnbound (fault.Unbound at) verdict = verdict ≡ unbound at
IsUnbound (fault.TwoParams at) verdict = ⊥
IsUnbound (fault.Memory _) verdict = Unit {0}

-- The names are bound, or the first that cannot be is refused.
abbrev pub Binds : {A : Type 0} → Result (Unit {0}) ScopeFault → Scoped A → A → Type 0
Binds (Ok done) verdict now = verdict ≡ scoped now
Binds (Err fault) verdict now = IsUnbound fault verdict

-- The same, and the names in scope are those from before.
abbrev pub BindsIn : {A : Type 0} → Result (Unit {0}) ScopeFault → Scoped A → A
    → (before after : List (List ℕ)) → Type 0
BindsIn (Ok done) verdict now before after = (verdict ≡ scoped now) × (after ≡ before)
BindsIn (Err fault) verdict now before after = IsUnbound fault verdict

-- one after the other, among the same names
abbrev pub in_turn : {A B : Type 0} → Scoped A → Scoped B → Scoped (A × B)
in_turn first second = and_then first (λ a. and_then second (λ b. scoped (a, b)))

-- the items of a block, and its last expression among what is in scope behind them
abbrev pub with_last : Scoped (ItemTrees × List (List ℕ)) → Tree → Scoped (ItemTrees × Tree)
with_last items last = and_then items (λ r. and_then (scoped_tree r.1 last) (λ l. scoped (r.0, l)))

-- the items of a `for`, without what is in scope behind them
abbrev pub alone : Scoped (ItemTrees × List (List ℕ)) → Scoped ItemTrees
alone items = and_then items (λ r. scoped r.0)

-- the names of a function, and its body
abbrev pub with_names : List Name → Scoped Tree → Scoped (List Name × Tree)
with_names names body = and_then body (λ b. scoped (names, b))

-- No two parameters share a name, or the second of two is refused.
abbrev pub Differ : Result (Unit {0}) ScopeFault → Option Place → Type 0
Differ (Ok done) second = second ≡ None
Differ (Err (fault.Unbound at)) second = ⊥
Differ (Err (fault.TwoParams at)) second = second ≡ Some at
Differ (Err (fault.Memory _)) second = Unit {0}

-- The names of parameters and of a body are bound, or the first that cannot be is refused.
abbrev pub Settles : Result (Unit {0}) ScopeFault → List Param → (before now : Tree) → Type 0
Settles (Ok done) params before now =
    (second_of [] params ≡ None) × (scoped_tree (params_scope params) before ≡ scoped now)
Settles (Err (fault.Unbound at)) params before now = scope_verdict params before ≡ unbound_name at
Settles (Err (fault.TwoParams at)) params before now = scope_verdict params before ≡ two_params at
Settles (Err (fault.Memory _)) params before now = Unit {0}
