use Rattle.revs_run.specs.inside.Machines.{env_in, envs_of}
use Rattle.revs_run.proofs.ProgressLemmas.{stops}
use Rattle.revs_run.proofs.PartLemmas.{index_stuck}
use Rattle.revs_run.proofs.machine.Machine.indexed.Goals as goal

pub returns-in_err-k-clause-run : goal.returns-in_err-k-clause-run
returns-in_err-k-clause-run c = stops _ _ c.from_residual.result c.from_residual.ensures.1
    (index_stuck c.args.self.now (env_in (envs_of c.args.self.now) c.args.env) c.args.value.now c.in-Some.places.now c.args.i.now c.args.at c.args.at
    c.in_err-k.field-0.0 c.in-Some.ensures c.in_err-k.ensures.err)
