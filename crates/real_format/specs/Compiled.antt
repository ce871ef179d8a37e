-- The file of a compiled circuit: its names and marks by the roles of its lines, and its text.
use Rattle.std.specs.Prelude.{◌≡◌, ℕ, ◌+◌, false, List, ◌∷◌, ◌++◌, replicate}
use Rattle.std.specs.Fmt.{decimal}
use Rattle.real_format.specs.declared.file.Mark.{Mark}
use Rattle.real_format.specs.declared.file.Mark.TheVariants.{Free, Zero}
use Rattle.circuit_plans.specs.declared.roles.Roles.{Roles}
use Rattle.circuit_plans.specs.declared.roles.Role.{Role}
use Rattle.circuit_plans.specs.declared.roles.Role.TheVariants.{Input, Output, Work, Borrowed}
use Rattle.circuit_plans.specs.Plans.{lines_in, role_at, number_at}
use Rattle.mct_circuit.specs.Gates.{GateView}
use Rattle.format_parts.specs.Compiled.{ForEachCompiled}
use Rattle.real_format.specs.Real.{RealView, MeansFile}
use Rattle.real_format.specs.Written.{names_by, file_text}

-- ---- names and marks

-- the letter with which the names of a role's lines begin: `x`, `y`, `w` or `b`
abbrev pub letter_of : Role → ℕ
letter_of Input = 120
letter_of Output = 121
letter_of Work = 119
letter_of Borrowed = 98

-- the name of a line: the letter of its role, and its number among the lines of that role
abbrev pub name_of_line : Roles → ℕ → List ℕ
name_of_line roles line = letter_of (role_at roles line) ∷ decimal (number_at roles line)

-- output and work lines start at 0, input and borrowed lines hold anything
abbrev pub constants_of : Roles → List Mark
constants_of roles =
    replicate roles.inputs Free
    ++ (replicate (roles.outputs + roles.work) Zero ++ replicate roles.borrowed Free)

abbrev pub names_of : Roles → List (List ℕ)
names_of roles = names_by (name_of_line roles) (lines_in roles)

-- the lines of a file have these roles: x, y, w and b lines in this order, each numbered from 0,
-- with their constants, and no line's last bit is of no use
pub record HasRoles (file : RealView) (roles : Roles) : Type 0 where
  pub names : file.names ≡ names_of roles
  pub constants : file.constants ≡ constants_of roles
  pub garbage : file.garbage ≡ replicate (lines_in roles) false

-- ---- the text

abbrev pub compiled_text : Roles → List GateView → List ℕ
compiled_text roles gates =
    file_text (name_of_line roles) (lines_in roles) (constants_of roles)
    (replicate (lines_in roles) false) gates

-- ---- what the text means

-- the text means a file of these gates, whose lines have these roles
pub record MeansCompiled (text : List ℕ) (roles : Roles) (gates : List GateView) : Type 0 where
  pub file : RealView
  pub meaning : MeansFile text file
  pub roles_are : HasRoles file roles
  pub gates_are : file.gates ≡ gates

abbrev pub CompiledHasMeaning : Type 0
CompiledHasMeaning =
    ForEachCompiled (λ roles gates. MeansCompiled (compiled_text roles gates) roles gates)
