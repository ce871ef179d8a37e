-- What `scope` answers.
use Rattle.std.specs.Prelude.{◌≡◌, List, Result, Ok, Err}
use Rattle.revs_terms.specs.declared.program.Param.{Param}
use Rattle.revs_terms.specs.Scopes.{ScopeVerdict, two_params, unbound_name, bound_as}
use Rattle.revs_terms.specs.Trees.{tree_of}
use Rattle.name_scope.specs.declared.binding.ScopeFault.{ScopeFault}
use Rattle.name_scope.specs.declared.binding.ScopeFault.TheVariants as fault
use Rattle.name_scope.specs.declared.program.Scoped.{Scoped}

-- The program with its names bound, or why the scope rule fails. Only want of memory comes from
-- elsewhere.
abbrev pub Answers : Result Scoped ScopeFault → List Param → ScopeVerdict → Type 0
Answers (Ok scoped) params verdict = (scoped.program.params.items ≡ params) ×
    (verdict ≡ bound_as (tree_of scoped.program.body))
Answers (Err (fault.Unbound at)) params verdict = verdict ≡ unbound_name at
Answers (Err (fault.TwoParams at)) params verdict = verdict ≡ two_params at
Answers (Err (fault.Memory _)) params verdict = Unit {0}
