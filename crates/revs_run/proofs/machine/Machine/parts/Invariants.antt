use Rattle.std.proofs.Common.{drop}
use Rattle.revs_run.specs.inside.Machines.{env_in, envs_of, state_of, value_in}
use Rattle.revs_run.proofs.PartLemmas.{InParts}
use Rattle.revs_terms.specs.Running.{parts_of}
use Rattle.revs_terms.specs.Runs.{no_bits}
use Rattle.revs_run.proofs.machine.Machine.parts.Given as goal

abbrev pub invariant-loop-part : goal.invariant-loop-part
invariant-loop-part l =
    InParts l.fn.self l.self (env_in (envs_of l.fn.self) l.env) l.whole (drop l.part-index l.parts) l.made
    (parts_of no_bits (env_in (envs_of l.fn.self) l.env) l.whole l.parts (value_in (envs_of l.fn.self) l.fn.value) (state_of l.fn.self))
