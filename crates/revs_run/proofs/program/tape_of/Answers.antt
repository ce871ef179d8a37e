use Rattle.std.proofs.Common.{refl, subst, List, map}
use Rattle.revs_terms.specs.declared.program.Param.{Param}
use Rattle.revs_terms.specs.Trees.{tree_of}
use Rattle.revs_run.specs.inside.Machines.{state_of}
use Rattle.revs_run.specs.inside.Starts.{IsStart, stamped}
use Rattle.revc_base.proofs.ResultLemmas.{passes_on}
use Rattle.revs_run.proofs.EndLemmas.{program_stuck, program_leaves, some_made}
use Rattle.revs_run.proofs.FaultLemmas.{memory_says}
use Rattle.revs_run.proofs.program.tape_of.Goals as goal

pub returns-in_err-machine-clause-err : goal.returns-in_err-machine-clause-err
returns-in_err-machine-clause-err c = passes_on _ c.from_residual.result c.from_residual.ensures.1
    (memory_says c.in_err-machine.field-0.0 _ c.in_err-machine.ensures)

pub returns-in_err-outputs-clause-err : goal.returns-in_err-outputs-clause-err
returns-in_err-outputs-clause-err c =
    let m = c.in_ok-machine.machine in
    passes_on _ c.from_residual-in_err-outputs.result c.from_residual-in_err-outputs.ensures.1
    (program_stuck 400 c.args.program.now.params.items (tree_of c.args.program.now.body) m c.last_environment-env.result c.in_err-outputs.field-0.0
    (subst (λ (ps : List Param). IsStart ps m) c.deref.ensures.value c.in_ok-machine.ensures) c.last_environment-env.ensures c.in_err-outputs.ensures)

pub returns-clause-ok : goal.returns-clause-ok
returns-clause-ok c =
    let m = c.in_ok-machine.machine in
    let made = c.in_ok-outputs.outputs.items in
    let p = program_leaves 400 c.args.program.now.params.items
    (tree_of c.args.program.now.body) m c.body_outputs.new.machine c.last_environment-env.result made c.finished.result
    (subst (λ (ps : List Param). IsStart ps m) c.deref.ensures.value c.in_ok-machine.ensures) c.last_environment-env.ensures
    c.in_ok-outputs.ensures.runs c.in_ok-outputs.ensures.grows c.finished.ensures in
    record { outputs = map stamped made; state = state_of c.body_outputs.new.machine; ends = p.0; left = p.1 }

pub finished-requires-clause-some : goal.finished-requires-clause-some
finished-requires-clause-some c =
    let m = c.in_ok-machine.machine in
    some_made 400 c.args.program.now.params.items
    (tree_of c.args.program.now.body) m c.body_outputs.new.machine c.last_environment-env.result c.in_ok-outputs.outputs.items refl
    c.args.program.now.inputs c.args.program.now.formed.formed
    (subst (λ (ps : List Param). IsStart ps m) c.deref.ensures.value c.in_ok-machine.ensures) c.last_environment-env.ensures
    c.in_ok-outputs.ensures.runs
