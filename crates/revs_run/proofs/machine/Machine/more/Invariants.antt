use Rattle.std.proofs.Common.{drop}
use Rattle.revs_terms.specs.Running.{more_of}
use Rattle.revs_terms.specs.Runs.{no_bits}
use Rattle.revs_run.specs.inside.Machines.{envs_of, env_in, state_of}
use Rattle.revs_run.proofs.ProgressLemmas.{Through}
use Rattle.revs_run.proofs.NumberLemmas.{rest_of_number}
use Rattle.revs_run.proofs.machine.Machine.more.Given as goal

abbrev pub invariant-loop-step : goal.invariant-loop-step
invariant-loop-step l =
    Through l.fn.self l.self (more_of no_bits (env_in (envs_of l.fn.self) l.env) l.fn.first l.steps (state_of l.fn.self))
    (rest_of_number l.env l.fn.self l.self l.sum (drop l.step-index l.steps))
