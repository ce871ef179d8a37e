-- What a written file says of its lines: how many they are, their names and their marks.
use Rattle.std.specs.Prelude.{◌≡◌, ℕ, ◌≤◌, Bool, false, List, length, map, replicate}
use Rattle.circuit_plans.specs.declared.roles.Role.{Role}
use Rattle.circuit_plans.specs.declared.roles.Role.TheVariants.{Input, Output, Work, Borrowed}
use Rattle.circuit_plans.specs.declared.plan.TheConstants.{MOST_LINES}
use Rattle.circuit_plans.specs.Plans.{lines_in}
use Rattle.real_format.specs.declared.file.Mark.{Mark}
use Rattle.real_format.specs.declared.file.Mark.TheVariants.{Free, Zero}
use Rattle.real_format.specs.declared.labels.Labels.{Labels}
use Rattle.real_format.specs.declared.labels.Labels.TheVariants.{ByRole, ByNumber}
use Rattle.real_format.specs.declared.labels.MarkKind.{MarkKind}
use Rattle.real_format.specs.declared.labels.MarkKind.TheVariants.{Constants, Garbage}
use Rattle.real_format.specs.Header.{constant_byte, garbage_byte}
use Rattle.real_format.specs.Written.{names_by}
use Rattle.real_format.specs.Compiled.{name_of_line, constants_of}
use Rattle.real_format.specs.Converted.{numbered_name}

abbrev pub count_of : Labels → ℕ
count_of (ByRole roles) = lines_in roles
count_of (ByNumber constants garbage) = length constants.now

abbrev pub name_by : Labels → ℕ → List ℕ
name_by (ByRole roles) = name_of_line roles
name_by (ByNumber constants garbage) = numbered_name

abbrev pub all_names : Labels → List (List ℕ)
all_names labels = names_by (name_by labels) (count_of labels)

abbrev pub constants_by : Labels → List Mark
constants_by (ByRole roles) = constants_of roles
constants_by (ByNumber constants garbage) = constants.now

abbrev pub garbage_by : Labels → List Bool
garbage_by (ByRole roles) = replicate (lines_in roles) false
garbage_by (ByNumber constants garbage) = garbage.now

-- the lines are within the limit, and each has its marks
abbrev pub HasMarks : Labels → Type 0
HasMarks labels =
    (count_of labels ≤ MOST_LINES) × (length (garbage_by labels) ≡ count_of labels)

-- the bytes of the marks of a kind
abbrev pub mark_bytes : Labels → MarkKind → List ℕ
mark_bytes labels Constants = map constant_byte (constants_by labels)
mark_bytes labels Garbage = map garbage_byte (garbage_by labels)

-- with which bit the lines of a role start
abbrev pub start_of : Role → Mark
start_of Input = Free
start_of Output = Zero
start_of Work = Zero
start_of Borrowed = Free
