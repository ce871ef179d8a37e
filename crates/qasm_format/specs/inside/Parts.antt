-- The parts of a file's text, as its writer puts them one after another.
use Rattle.std.specs.Prelude.{ℕ, ◌==◌, Bool, if◌then◌else◌, List, [], ◌∷◌, ◌++◌, codes}
use Rattle.std.specs.List.{concat}
use Rattle.std.specs.Fmt.{decimal}
use Rattle.circuit_plans.specs.declared.roles.Roles.{Roles}
use Rattle.circuit_plans.specs.declared.roles.Role.TheVariants.{Input, Output, Work, Borrowed}
use Rattle.format_parts.specs.Flips.{FlipTexts}
use Rattle.qasm_format.specs.declared.naming.Naming.{Naming}
use Rattle.qasm_format.specs.declared.naming.Naming.TheVariants.{ByRole, ByNumber}
use Rattle.qasm_format.specs.Statements.{Argument, one_of, argument_words}
use Rattle.qasm_format.specs.Written.{gate_word}
use Rattle.qasm_format.specs.Compiled.{register_name}
use Rattle.qasm_format.specs.Converted.{kept_lines}

-- a name and an opening bracket
abbrev pub opened : List ℕ → List ℕ
opened name = name ++ codes "["

-- a number between two texts
abbrev pub place_text : List ℕ → ℕ → List ℕ → List ℕ
place_text front number back = front ++ (decimal number ++ back)

abbrev pub declared_text : List ℕ → ℕ → List ℕ → List ℕ
declared_text front size back = codes "qreg " ++ place_text front size back

-- left out where it has no line
abbrev pub registered_text : List ℕ → ℕ → List ℕ → List ℕ
registered_text front size back = if size == 0 then [] else declared_text front size back

abbrev pub declaration_text : List ℕ → ℕ → List ℕ
declaration_text name size = declared_text (opened name) size (codes "];\n")

abbrev pub register_text : List ℕ → ℕ → List ℕ
register_text name size = registered_text (opened name) size (codes "];\n")

abbrev pub role_registers_text : Roles → List ℕ
role_registers_text roles =
    register_text (register_name Input) roles.inputs
    ++ (register_text (register_name Output) roles.outputs
    ++ (register_text (register_name Work) roles.work
    ++ register_text (register_name Borrowed) roles.borrowed))

abbrev pub numbered_registers_text : ℕ → Bool → List ℕ
numbered_registers_text count added =
    declaration_text (codes "q") (kept_lines count added)
    ++ register_text (codes "dirty") (if added then 1 else 0)

abbrev pub registers_text : Naming → List ℕ
registers_text (ByRole roles) = role_registers_text roles
registers_text (ByNumber count added) = numbered_registers_text count added

abbrev pub head_text : List ℕ
head_text = codes "OPENQASM 2.0;\ninclude \"qelib1.inc\";\n"

abbrev pub header_text : Naming → List ℕ
header_text naming = head_text ++ registers_text naming

-- ---- gates

abbrev pub argument_text : Argument → List ℕ
argument_text argument = concat (argument_words argument)

-- its name and the opening bracket
abbrev pub opened_in : Argument → List ℕ
opened_in (one_of name digits) = opened name

abbrev pub digits_in : Argument → List ℕ
digits_in (one_of name digits) = digits

abbrev pub word_text : ℕ → List ℕ
word_text controls = gate_word controls ++ 32 ∷ []

-- the parts of a gate's line: its word and a space, and each place with what stands behind it
abbrev pub flip_texts : (ℕ → Argument) → FlipTexts
flip_texts place = record {
  word = word_text;
  control = λ line. argument_text (place line) ++ codes ",";
  target = λ line. argument_text (place line) ++ codes ";\n";
}
