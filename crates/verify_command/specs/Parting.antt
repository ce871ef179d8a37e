-- The parting line of a source: before it stands a program, and behind it a circuit.
use Rattle.std.specs.Prelude.{◌≡◌, ◌≢◌, ◌⊎◌, ℕ, List, [], ◌∷◌, ◌++◌, codes}
use Rattle.std.specs.List.{AllByRecursion, flat_map}

-- ---- lines

-- the bytes of one line, without the line feed that ends it
abbrev pub IsOneLine : List ℕ → Type 0
IsOneLine line = AllByRecursion (λ byte. byte ≢ 10) line

-- lines, each with the line feed that ends it
abbrev pub ended : List (List ℕ) → List ℕ
ended lines = flat_map (λ line. line ++ 10 ∷ []) lines

-- a line that parts, without the line feed that ends it
abbrev pub IsMark : List ℕ → Type 0
IsMark line = (line ≡ codes "---") ⊎ (line ≡ codes "---\r")

-- a line that does not part
pub record IsPassed (line : List ℕ) : Type 0 where
  pub one : IsOneLine line
  pub unmarked : ¬ IsMark line

-- ---- the parts

-- the program is all before the first line that parts, and the circuit all behind the line feed
-- that ends it
pub record IsParted (source program circuit : List ℕ) : Type 0 where
  pub lines : List (List ℕ)
  pub each : AllByRecursion IsPassed lines
  pub mark : List ℕ
  pub is_mark : IsMark mark
  pub before : program ≡ ended lines
  pub cut : source ≡ program ++ (mark ++ 10 ∷ circuit)

-- no line parts that ends with a line feed
pub record HasNoPart (source : List ℕ) : Type 0 where
  pub lines : List (List ℕ)
  pub each : AllByRecursion IsPassed lines
  pub last : List ℕ
  pub unended : IsOneLine last
  pub cut : source ≡ ended lines ++ last

-- a source is parted or not, and its parts are fixed
pub record PartsInOneWay (source : List ℕ) : Type 0 where
  pub one_program : (program other circuit behind : List ℕ)
      → IsParted source program circuit → IsParted source other behind → program ≡ other
  pub one_circuit : (program other circuit behind : List ℕ)
      → IsParted source program circuit → IsParted source other behind → circuit ≡ behind
  pub never_both : (program circuit : List ℕ)
      → IsParted source program circuit → HasNoPart source → ⊥

-- The law: a source parts in one way at most.
abbrev pub SourcesPartInOneWay : Type 0
SourcesPartInOneWay = (source : List ℕ) → PartsInOneWay source
