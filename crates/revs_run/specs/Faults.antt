-- Why a program has no tape, and where.
use Rattle.std.specs.Prelude.{Bool, List, ⊤}
use Rattle.revs_terms.specs.declared.program.Param.{Param}
use Rattle.revs_terms.specs.Trees.{Tree}
use Rattle.revs_terms.specs.Runs.{IsInput, IsStuck}
use Rattle.revs_run.specs.declared.fault.RunFault.{RunFault}
use Rattle.revs_run.specs.declared.fault.RunFault.TheVariants as faults

abbrev pub IsStuckOnAll : List Param → Tree → RunFault → Type 0
IsStuckOnAll params body (faults.Stuck cause at) =
    (input : List Bool) → IsInput params input → IsStuck params body input cause at
IsStuckOnAll params body (faults.Memory _) = ⊤

-- The run of a program is stuck as the fault says, on every input; want of memory says nothing of
-- the run.
pub record IsRefused (params : List Param) (body : Tree) (fault : RunFault) : Type 0 where
  pub stuck : IsStuckOnAll params body fault
