-- What was declared: names, and the registers among them.
use Rattle.std.specs.Prelude.{◌≡◌, ℕ, ◌+◌, ◌≤◌, List, [], ◌∷◌, length, Option, Some, None}
use Rattle.std.specs.List.{AllByRecursion}
use Rattle.list_facts.specs.Lists.{AreApart}
use Rattle.circuit_plans.specs.declared.plan.TheConstants.{MOST_LINES}
use Rattle.format_parts.specs.Names.{IsText}
use Rattle.qasm_format.specs.declared.file.Register.{Register}
use Rattle.qasm_format.specs.declared.names.Span.{Span}
use Rattle.qasm_format.specs.Registers.{lines_of_all}

-- the registers of qubits among what was declared
abbrev pub registers_in : List (List ℕ) → List (Option Span) → List Register
registers_in [] spans = []
registers_in (name ∷ names) [] = []
registers_in (name ∷ names) (None ∷ spans) = registers_in names spans
registers_in (name ∷ names) (Some span ∷ spans) =
    record { name = name; size = span.size } ∷ registers_in names spans

-- the register of this name, where it has a span
abbrev pub registers_at : List ℕ → Option Span → List Register
registers_at name None = []
registers_at name (Some span) = record { name = name; size = span.size } ∷ []

-- the registers stand one after another, from this line on
abbrev pub AreLaid : ℕ → List (Option Span) → Type 0
AreLaid at [] = Unit {0}
AreLaid at (None ∷ spans) = AreLaid at spans
AreLaid at (Some span ∷ spans) = (span.first ≡ at) × AreLaid (at + span.size) spans

-- what was declared: all names, and the registers of qubits
pub record DeclaredView : Type 0 where
  pub names : List (List ℕ)
  pub registers : List Register

-- names that are all different, with a span each
pub record AreDeclared (names : List (List ℕ)) (spans : List (Option Span))
    (lines : ℕ) : Type 0 where
  pub counted : length spans ≡ length names
  pub texts : AllByRecursion IsText names
  pub different : AreApart (λ one other. one ≡ other) names
  pub laid : AreLaid 0 spans
  pub total : lines ≡ lines_of_all (registers_in names spans)
  pub few : lines ≤ MOST_LINES
