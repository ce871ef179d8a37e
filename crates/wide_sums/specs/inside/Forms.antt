-- Forms, which are sums of bits and of a bit for each row, and rows in which nodes have theirs.
use Rattle.std.specs.Prelude.{◌≡◌, ℕ, ◌<◌, Bool, false, List, [], ◌∷◌}
use Rattle.std.specs.Bool.{xor}
use Rattle.std.specs.List.{AllByRecursion}
use Rattle.circuit_sim.specs.Planes.{plane_bit}
use Rattle.dependency_graph.specs.declared.node.Base.{Base}
use Rattle.dependency_graph.specs.declared.node.Base.TheVariants as bases
use Rattle.bit_sums.specs.Sums.{ProductView, SumView, product_value, sum_value, xor_by}
use Rattle.wide_sums.specs.declared.form.Form.{Form}
use Rattle.wide_sums.specs.declared.known.Known.{Known}
use Rattle.wide_sums.specs.Wide.{Holds}

-- the value of a form in a row, where each base has a bit
abbrev pub form_value : (Base → Bool) → ℕ → Form → Bool
form_value bit row form = xor (xor_by bit form.bits.items) (plane_bit row form.word)

-- a bit alone
pub record IsBit (base : Base) (form : Form) : Type 0 where
  pub bits : form.bits.items ≡ base ∷ []
  pub word : form.word ≡ 0

-- a form of the same bits and the same word
pub record IsSameForm (a b : Form) : Type 0 where
  pub bits : b.bits.items ≡ a.bits.items
  pub word : b.word ≡ a.word

-- the sum of two forms has both values
pub record IsFormSum (a b sum : Form) : Type 0 where
  pub values : (bit : Base → Bool) (row : ℕ)
      → form_value bit row sum ≡ xor (form_value bit row a) (form_value bit row b)

-- each form is 0 in this row
abbrev pub AreZero : (Base → Bool) → ℕ → List Form → Type 0
AreZero bit row forms = AllByRecursion (λ form. form_value bit row form ≡ false) forms

-- a form with the value of another one where all axes are 0
pub record IsReduced (axes : List Form) (form reduced : Form) : Type 0 where
  pub values : (bit : Base → Bool) (row : ℕ) → AreZero bit row axes
      → form_value bit row reduced ≡ form_value bit row form

-- a word with this bit in each row
pub record IsOnes (bit : Bool) (word : ℕ) : Type 0 where
  pub each : (row : ℕ) → row < 64 → plane_bit row word ≡ bit

-- ---- rows

-- each node has the value of its form in this row
abbrev pub AreKnown : (Base → Bool) → ℕ → List Known → Type 0
AreKnown bit row known =
    AllByRecursion (λ (k : Known). bit (bases.Node k.node) ≡ form_value bit row k.form) known

-- a row in which all axes are 0, and known bases have the values of their forms
pub record IsRow (axes : List Form) (known : List Known) (bit : Base → Bool) (row : ℕ)
    : Type 0 where
  pub few : row < 64
  pub zero : AreZero bit row axes
  pub each : AreKnown bit row known

-- a form with the value of some bits, where bases are known
pub record IsFormOf (known : List Known) (bits : List Base) (form : Form) : Type 0 where
  pub values : (bit : Base → Bool) (row : ℕ) → AreKnown bit row known
      → form_value bit row form ≡ xor_by bit bits

-- a word with a value that bases determine, row by row
pub record IsWord (axes : List Form) (known : List Known) (value : (Base → Bool) → Bool)
    (word : ℕ) : Type 0 where
  pub values : (bit : Base → Bool) (row : ℕ) → IsRow axes known bit row
      → plane_bit row word ≡ value bit

-- the word of a sum of bits, of a product, and of the sum of some products
abbrev pub IsWordOf : List Form → List Known → List Base → ℕ → Type 0
IsWordOf axes known bits word = IsWord axes known (λ bit. xor_by bit bits) word

abbrev pub IsProductWord : List Form → List Known → ProductView → ℕ → Type 0
IsProductWord axes known product word =
    IsWord axes known (λ bit. product_value bit product) word

abbrev pub AreProductsWord : List Form → List Known → List ProductView → ℕ → Type 0
AreProductsWord axes known products word =
    IsWord axes known (λ bit. xor_by (product_value bit) products) word

-- a form with the value of a sum
pub record IsSumForm (axes : List Form) (known : List Known) (s : SumView) (form : Form)
    : Type 0 where
  pub values : (bit : Base → Bool) (row : ℕ) → IsRow axes known bit row
      → form_value bit row form ≡ sum_value bit s

-- ---- windows

-- in each row in which the axes are 0, these bases have the values of their forms
pub record AreOpened (definitions : List SumView) (axes : List Form) (known : List Known)
    : Type 0 where
  pub each : (bit : Base → Bool) (row : ℕ) → row < 64 → Holds definitions bit
      → AreZero bit row axes → AreKnown bit row known

-- a sum is 0 where the definitions hold and a row has the axes at 0
pub record VanishesOver (definitions : List SumView) (axes : List Form) (s : SumView)
    : Type 0 where
  pub values : (bit : Base → Bool) (row : ℕ) → row < 64 → Holds definitions bit
      → AreZero bit row axes → sum_value bit s ≡ false
