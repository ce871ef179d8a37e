-- How many lines a written file has, its registers, and the place of each line.
use Rattle.std.specs.Prelude.{ℕ, List}
use Rattle.circuit_plans.specs.Plans.{lines_in}
use Rattle.qasm_format.specs.declared.file.Register.{Register}
use Rattle.qasm_format.specs.declared.naming.Naming.{Naming}
use Rattle.qasm_format.specs.declared.naming.Naming.TheVariants.{ByRole, ByNumber}
use Rattle.qasm_format.specs.Statements.{Argument}
use Rattle.qasm_format.specs.Compiled.{registers_of, argument_of}
use Rattle.qasm_format.specs.Converted.{converted_registers, converted_place}

abbrev pub count_of : Naming → ℕ
count_of (ByRole roles) = lines_in roles
count_of (ByNumber count added) = count

abbrev pub registers_by : Naming → List Register
registers_by (ByRole roles) = registers_of roles
registers_by (ByNumber count added) = converted_registers count added

abbrev pub place_by : Naming → ℕ → Argument
place_by (ByRole roles) = argument_of roles
place_by (ByNumber count added) = converted_place count added
