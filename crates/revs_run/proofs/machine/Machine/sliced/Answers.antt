use Rattle.std.proofs.lemmas.Int.{to_z-of_z}
use Rattle.revs_run.specs.inside.Machines.{env_in, envs_of}
use Rattle.revs_run.proofs.ProgressLemmas.{stops, goes_on_so}
use Rattle.revs_run.proofs.PartLemmas.{first_stuck, slice_both, slice_stuck}
use Rattle.revs_run.proofs.machine.Machine.sliced.Goals as goal

pub returns-in_err-last-clause-run : goal.returns-in_err-last-clause-run
returns-in_err-last-clause-run c = stops _ _ c.from_residual-in_err-last.result c.from_residual-in_err-last.ensures.1
    (slice_stuck c.args.self.now c.number.new.self c.args.env c.args.value.now c.in-Some.places.now c.args.i.now c.args.j.now c.in_ok-first.first
    c.args.whole c.args.at c.in_err-last.field-0.0 c.in-Some.ensures c.requires.machine c.requires.env c.in_ok-first.ensures.ok c.in_err-last.ensures.err)

pub returns-clause-run : goal.returns-clause-run
returns-clause-run c =
    goes_on_so c.between.new.self c.between.result
    (slice_both c.args.self.now c.number.new.self c.number-2.new.self c.args.env c.args.value.now c.in-Some.places.now c.args.i.now
    c.args.j.now c.in_ok-first.first c.in_ok-last.last c.args.whole c.args.at c.in-Some.ensures c.requires.machine c.requires.env
    c.in_ok-first.ensures.ok c.in_ok-last.ensures.ok) (simp (to_z-of_z, c.in_ok-first.ensures.fits, c.in_ok-last.ensures.fits) at c.between.ensures)

pub returns-in_err-first-clause-run : goal.returns-in_err-first-clause-run
returns-in_err-first-clause-run c = stops _ _ c.from_residual.result c.from_residual.ensures.1
    (first_stuck c.args.self.now (env_in (envs_of c.args.self.now) c.args.env) c.args.value.now c.in-Some.places.now c.args.i.now c.args.j.now
    c.args.whole c.args.at c.in_err-first.field-0.0 c.in-Some.ensures c.in_err-first.ensures.err)
