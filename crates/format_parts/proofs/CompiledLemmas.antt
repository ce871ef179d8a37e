-- The gates of a laid plan, as what its format's compiled files have to mean.
use Rattle.std.proofs.Common.{◌≡◌, ◌≤◌, List, length, sym, subst}
use Rattle.circuit_plans.specs.declared.plan.TheConstants.{MOST_LINES, MOST_GATES}
use Rattle.circuit_plans.specs.declared.roles.Roles.{Roles}
use Rattle.circuit_plans.specs.Plans.{LaidView, lines_in, roles_of}
use Rattle.mct_circuit.specs.Gates.{CircuitView, GateView, AreGatesOn, AreNarrow}
use Rattle.format_parts.specs.Compiled.{ForEachCompiled}
use Rattle.format_parts.specs.Fits.{FitAFile}

-- what holds for all roles and narrow gates holds for those of a laid plan
pub laid_has : (P : Roles → List GateView → Type 0) → ForEachCompiled P → (laid : LaidView) (circuit : CircuitView)
    → lines_in (roles_of laid) ≡ laid.circuit.lines → circuit ≡ laid.circuit → AreGatesOn circuit.lines circuit.gates
    → AreNarrow laid.circuit.gates → 1 ≤ laid.circuit.lines → laid.circuit.lines ≤ MOST_LINES → length laid.circuit.gates ≤ MOST_GATES
    → P (roles_of laid) laid.circuit.gates
laid_has P each laid circuit fits same on narrow some few few_gates =
    let placed : AreGatesOn laid.circuit.lines laid.circuit.gates = subst (λ (v : CircuitView). AreGatesOn v.lines v.gates) same on in
    let fit : FitAFile laid.circuit.lines laid.circuit.gates =
    record { some = some; few = few; few_gates = few_gates; placed = placed; narrow = narrow } in
    each (roles_of laid) laid.circuit.gates (subst (λ n. FitAFile n laid.circuit.gates) (sym fits) fit)
