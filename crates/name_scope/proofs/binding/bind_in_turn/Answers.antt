use Rattle.std.proofs.Common.{arith}
use Rattle.revs_terms.specs.Trees.{tree_of}
use Rattle.name_scope.proofs.NearerLemmas.{params-length}
use Rattle.name_scope.proofs.SettlingLemmas.{params_refused, body_settled}
use Rattle.name_scope.proofs.binding.bind_in_turn.Goals as goal

pub returns-in_err-bind_params : goal.returns-in_err-bind_params
returns-in_err-bind_params c =
    params_refused c.from_residual.result _ c.args.params.now (tree_of c.args.body.now) _ c.from_residual.ensures.1
    (rw c.requires.none at (c.in_err-bind_params.ensures {u = tt}).second)

pub bind_term-requires : goal.bind_term-requires
bind_term-requires c =
    let n = rw c.requires.none at (c.in_ok-bind_params.ensures {u = tt}).names in
    rw n (omega (arith, params-length c.args.params.now, c.requires.few))

pub returns : goal.returns
returns c =
    let a = c.in_ok-bind_params.ensures {u = tt} in
    body_settled c.bind_term.result c.args.params.now (tree_of c.args.body.now) (tree_of c.bind_term.new.term) c.bind_term.new.names
    (rw c.requires.none at a.second) (rw (rw c.requires.none at a.names) at c.bind_term.ensures)
