use Rattle.std.proofs.Common.{subst}
use Rattle.revs_terms.specs.declared.program.Program.{Program}
use Rattle.revs_terms.specs.Trees.{tree_of}
use Rattle.revs_terms.specs.Runs.{run_without_bits}
use Rattle.revs_run.proofs.EndLemmas.{refused, left_on_all, written_few}
use Rattle.std.proofs.lemmas.Result.{IfOk-weaker, IfErr-weaker}
use Rattle.revs_run.specs.inside.Calls.{Leaves, Says}
use Rattle.revs_run.proofs.program.run.Goals as goal

pub returns-clause-ok : goal.returns-clause-ok
returns-clause-ok c =
    let p = c.args.scoped.now.program in
    IfOk-weaker c.tape_of.result _ _ (λ tape l. left_on_all p.params.items (tree_of p.body) tape
    (subst (λ (x : Program). Leaves x.params.items (tree_of x.body) tape) c.program.ensures.same l)) c.tape_of.ensures.ok

pub returns-clause-few : goal.returns-clause-few
returns-clause-few c =
    let p = c.args.scoped.now.program in
    IfOk-weaker c.tape_of.result _ _ (λ tape l. written_few p.params.items (tree_of p.body) tape
    (subst (λ (x : Program). Leaves x.params.items (tree_of x.body) tape) c.program.ensures.same l)) c.tape_of.ensures.ok

pub returns-clause-err : goal.returns-clause-err
returns-clause-err c =
    let p = c.args.scoped.now.program in
    IfErr-weaker c.tape_of.result _ _ (λ fault s. refused p.params.items (tree_of p.body) fault
    (subst (λ (x : Program). Says fault (run_without_bits x.params.items (tree_of x.body))) c.program.ensures.same s)) c.tape_of.ensures.err
