-- The file of a compiled circuit: its registers by the roles of its lines, and its text.
use Rattle.std.specs.Prelude.{◌≡◌, ◌==◌, ℕ, if◌then◌else◌, List, [], ◌∷◌, ◌++◌, codes}
use Rattle.std.specs.Fmt.{decimal}
use Rattle.circuit_plans.specs.declared.roles.Roles.{Roles}
use Rattle.circuit_plans.specs.declared.roles.Role.{Role}
use Rattle.circuit_plans.specs.declared.roles.Role.TheVariants.{Input, Output, Work, Borrowed}
use Rattle.circuit_plans.specs.Plans.{role_at, number_at}
use Rattle.mct_circuit.specs.Gates.{GateView}
use Rattle.format_parts.specs.Compiled.{ForEachCompiled}
use Rattle.qasm_format.specs.Statements.{Argument, one_of}
use Rattle.qasm_format.specs.declared.file.Register.{Register}
use Rattle.qasm_format.specs.Qasm.{QasmView, MeansFile}
use Rattle.qasm_format.specs.Written.{file_text}

-- ---- registers

-- the name of the register of a role's lines
abbrev pub register_name : Role → List ℕ
register_name Input = codes "inp"
register_name Output = codes "outp"
register_name Work = codes "work"
register_name Borrowed = codes "dirty"

-- a register, left out exactly where it has no line
abbrev pub register_of : Role → ℕ → List Register
register_of role size =
    if size == 0 then [] else record { name = register_name role; size = size } ∷ []

-- the registers of a compiled file
abbrev pub registers_of : Roles → List Register
registers_of roles =
    register_of Input roles.inputs
    ++ (register_of Output roles.outputs
    ++ (register_of Work roles.work ++ register_of Borrowed roles.borrowed))

-- ---- the text

-- the place of a line in the register of its role
abbrev pub argument_of : Roles → ℕ → Argument
argument_of roles line =
    one_of (register_name (role_at roles line)) (decimal (number_at roles line))

abbrev pub compiled_text : Roles → List GateView → List ℕ
compiled_text roles gates = file_text (registers_of roles) (argument_of roles) gates

-- ---- what the text means

-- The text means a file of these gates, whose lines are those of the registers `inp`, `outp`,
-- `work` and `dirty`, by these roles: each register has the lines of its role, and is left out
-- exactly where there are none.
pub record MeansCompiled (text : List ℕ) (roles : Roles) (gates : List GateView) : Type 0 where
  pub file : QasmView
  pub meaning : MeansFile text file
  pub roles_are : file.registers ≡ registers_of roles
  pub gates_are : file.gates ≡ gates

abbrev pub CompiledHasMeaning : Type 0
CompiledHasMeaning =
    ForEachCompiled (λ roles gates. MeansCompiled (compiled_text roles gates) roles gates)
