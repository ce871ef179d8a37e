-- A run goes on from step to step, or is stuck at the first that is stuck.
use Rattle.std.proofs.Common.{◌≡◌, sym, ap, ◌∙◌, subst}
use Rattle.revs_terms.specs.Running.{State, Outcome, went, after}
use Rattle.revs_run.specs.declared.fault.RunFault.{RunFault}
use Rattle.revs_run.specs.inside.Calls.{IsStuckAs, Says}
use Rattle.revs_run.specs.declared.fault.RunFault.TheVariants as faults

pub goes_on : {A C : Type 0} (o : Outcome (Unit {0}) A) (a : A) (s : State (Unit {0})) (next : A → State (Unit {0}) → Outcome (Unit {0}) C)
    (r : Outcome (Unit {0}) C) → o ≡ went a s → next a s ≡ r → after o next ≡ r
goes_on o a s next r e f = ap (λ (x : Outcome (Unit {0}) _). after x next) e ∙ f

stuck_first : {A C : Type 0} (fault : RunFault) (o : Outcome (Unit {0}) A) (next : A → State (Unit {0}) → Outcome (Unit {0}) C)
    → IsStuckAs fault o → IsStuckAs fault (after o next)
stuck_first (faults.Memory _) o next e = tt
stuck_first (faults.Stuck cause at) o next e = ap (λ (x : Outcome (Unit {0}) _). after x next) e

-- stuck at the first step
pub said_first : {A C : Type 0} (fault : RunFault) (o : Outcome (Unit {0}) A) (next : A → State (Unit {0}) → Outcome (Unit {0}) C)
    → Says fault o → Says fault (after o next)
said_first fault o next says = record { stuck = stuck_first fault o next says.stuck }

pub said_same : {A : Type 0} (fault : RunFault) (o p : Outcome (Unit {0}) A) → o ≡ p → Says fault p → Says fault o
said_same fault o p e says = subst (λ (x : Outcome (Unit {0}) _). Says fault x) (sym e) says

-- stuck behind the first step
pub said_next : {A C : Type 0} (fault : RunFault) (o : Outcome (Unit {0}) A) (a : A) (s : State (Unit {0}))
    (next : A → State (Unit {0}) → Outcome (Unit {0}) C)
    → o ≡ went a s → Says fault (next a s) → Says fault (after o next)
said_next fault o a s next e says = said_same fault (after o next) (next a s) (ap (λ (x : Outcome (Unit {0}) _). after x next) e) says

-- Want of memory says nothing of the run.
pub memory_says : {A : Type 0} (fault : RunFault) (o : Outcome (Unit {0}) A) → fault ≡ faults.Memory _ → Says fault o
memory_says fault o e = rw e (record { stuck = tt })
