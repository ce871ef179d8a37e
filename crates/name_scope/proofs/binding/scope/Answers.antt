use Rattle.std.proofs.Common.{refl}
use Rattle.revs_terms.specs.Trees.{tree_of}
use Rattle.revs_terms.specs.Scopes.{params_scope}
use Rattle.name_scope.proofs.NearerLemmas.{params-length}
use Rattle.name_scope.proofs.KeepsLemmas.{keeps}
use Rattle.name_scope.proofs.SettlingLemmas.{names_refused, body_bound}
use Rattle.name_scope.proofs.binding.scope.Goals as goal

pub returns-in_err-bind_program : goal.returns-in_err-bind_program
returns-in_err-bind_program c =
    names_refused c.from_residual.result _ c.args.program.params.items (tree_of c.args.program.body) _ c.from_residual.ensures.1
    (rw c.deref.ensures.value at (c.in_err-bind_program.ensures {u = tt}))

pub bind_program-requires : goal.bind_program-requires
bind_program-requires c = rw c.deref.ensures.value c.args.program.few_names

pub invariant_of-new : goal.invariant_of-new
invariant_of-new c =
    let s = rw c.deref.ensures.value at (c.in_ok-bind_program.ensures {u = tt}) in
    let k = keeps (params_scope c.args.program.params.items) (tree_of c.args.program.body) _ s.1 in
    record {
      inputs = c.args.program.inputs;
      formed = record { formed = rw k.formed c.args.program.formed.formed; nesting = rw k.levels c.args.program.formed.nesting };
      few_names = rw k.names c.args.program.few_names;
    }

pub new-requires : goal.new-requires
new-requires c =
    let s = rw c.deref.ensures.value at (c.in_ok-bind_program.ensures {u = tt}) in
    let k = keeps (params_scope c.args.program.params.items) (tree_of c.args.program.body) _ s.1 in
    rw (params-length c.args.program.params.items) at k.bound

pub returns : goal.returns
returns c =
    let s = rw c.deref.ensures.value at (c.in_ok-bind_program.ensures {u = tt}) in
    rw c.new.ensures (refl, body_bound c.args.program.params.items (tree_of c.args.program.body) (tree_of c.bind_program.new.body) s.0 s.1)
