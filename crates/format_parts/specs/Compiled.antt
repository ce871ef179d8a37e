-- The compiled files that a format has to give a meaning.
use Rattle.std.specs.Prelude.{List}
use Rattle.circuit_plans.specs.declared.roles.Roles.{Roles}
use Rattle.circuit_plans.specs.Plans.{lines_in}
use Rattle.mct_circuit.specs.Gates.{GateView}
use Rattle.format_parts.specs.Fits.{FitAFile}

-- it holds for all roles and gates that fit a file
abbrev pub ForEachCompiled : (Roles → List GateView → Type 0) → Type 0
ForEachCompiled P =
    (roles : Roles) (gates : List GateView) → FitAFile (lines_in roles) gates → P roles gates
