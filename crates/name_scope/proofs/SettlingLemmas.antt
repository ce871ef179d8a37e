-- The parameters of a program, and then its body: what their calls say of the whole.
use Rattle.std.proofs.Common.{◌≡◌, ℕ, List, [], None, Result, Ok, Err, refl}
use Rattle.std.specs.Result.{IsErrAnd}
use Rattle.revs_terms.specs.declared.program.Param.{Param}
use Rattle.revs_terms.specs.Trees.{Tree}
use Rattle.revs_terms.specs.Scopes.{scoped, scoped_tree, second_of, params_scope, bound_as, scope_verdict}
use Rattle.name_scope.specs.Answers.{Answers}
use Rattle.name_scope.specs.declared.binding.ScopeFault.{ScopeFault}
use Rattle.name_scope.specs.declared.binding.ScopeFault.TheVariants as fault
use Rattle.name_scope.specs.declared.program.Scoped as program
use Rattle.name_scope.specs.inside.Verdicts.{BindsIn, Differ, Settles}

-- two parameters of one name
pub params_refused : (r : Result (Unit {0}) ScopeFault) (f : ScopeFault) (params : List Param) (tree now : Tree) → IsErrAnd r (λ e. e ≡ f)
    → Differ (Err f) (second_of [] params) → Settles r params tree now
params_refused (Ok done) f params tree now e d = absurd e
params_refused (Err g) (fault.Unbound at) params tree now e d = absurd d
params_refused (Err g) (fault.TwoParams at) params tree now e d = rw e (rw (d, scope_verdict) refl)
params_refused (Err g) (fault.Memory _) params tree now e d = rw e tt

-- what the call for the body says, behind different parameters
pub body_settled : (r : Result (Unit {0}) ScopeFault) (params : List Param) (tree now : Tree) (after : List (List ℕ)) → second_of [] params ≡ None
    → BindsIn r (scoped_tree (params_scope params) tree) now (params_scope params) after → Settles r params tree now
body_settled (Ok done) params tree now after d b = (d, b.0)
body_settled (Err (fault.Unbound at)) params tree now after d u = rw (d, scope_verdict) (rw u refl)
body_settled (Err (fault.TwoParams at)) params tree now after d u = absurd u
body_settled (Err (fault.Memory _)) params tree now after d u = tt

-- names that cannot be bound
pub names_refused : (r : Result program.Scoped ScopeFault) (f : ScopeFault) (params : List Param) (tree now : Tree) → IsErrAnd r (λ e. e ≡ f)
    → Settles (Err f) params tree now → Answers r params (scope_verdict params tree)
names_refused (Ok done) f params tree now e s = absurd e
names_refused (Err g) (fault.Unbound at) params tree now e s = rw e s
names_refused (Err g) (fault.TwoParams at) params tree now e s = rw e s
names_refused (Err g) (fault.Memory _) params tree now e s = rw e tt

-- a body whose names are bound
pub body_bound : (params : List Param) (tree now : Tree) → second_of [] params ≡ None → scoped_tree (params_scope params) tree ≡ scoped now
    → scope_verdict params tree ≡ bound_as now
body_bound params tree now d e = rw (d, scope_verdict) (rw e refl)
