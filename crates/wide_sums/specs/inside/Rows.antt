-- Rows and turns: the values that variables may have. Each row of each turn has values of its own.
use Rattle.std.specs.Prelude.{◌≡◌, ℕ, ◌-◌, ◌<◌, Bool, false, cond, List, length, map, nat_lt}
use Rattle.std.specs.Global.{Vec}
use Rattle.list_facts.specs.Bits.{bit_of}
use Rattle.circuit_sim.specs.Planes.{plane_bit}
use Rattle.dependency_graph.specs.declared.node.Base.{Base}
use Rattle.bit_sums.specs.Sums.{SumView, sum_value, xor_by}
use Rattle.wide_sums.specs.declared.form.Form.{Form}
use Rattle.wide_sums.specs.Wide.{Holds}
use Rattle.wide_sums.specs.inside.Forms.{AreZero}

-- the value of a variable: one of the first six is a bit of the row, another one of the turn
abbrev pub variable_bit : ℕ → ℕ → ℕ → Bool
variable_bit place row turn =
    cond (nat_lt place 6) (plane_bit place row) (plane_bit (place - 6) turn)

-- a word that has the values of a variable in all rows of a turn
pub record IsVariable (place turn word : ℕ) : Type 0 where
  pub each : (row : ℕ) → row < 64 → plane_bit row word ≡ variable_bit place row turn

-- the values of sums of bits
abbrev pub values_of : (Base → Bool) → List (Vec Base) → List Bool
values_of bit sums = map (λ (sum : Vec Base). xor_by bit sum.items) sums

-- the variables have these values in a row of a turn
pub record HasValues (values : List Bool) (row turn : ℕ) : Type 0 where
  pub few : row < 64
  pub each : (place : ℕ) → place < length values → variable_bit place row turn ≡ bit_of values place

-- forms that are 0 where the variables have the values of these sums
pub record AreAxes (sums : List (Vec Base)) (turn : ℕ) (axes : List Form) : Type 0 where
  pub zero : (bit : Base → Bool) (row : ℕ) → HasValues (values_of bit sums) row turn
      → AreZero bit row axes

-- a sum is 0 where the definitions hold and a row of this turn has the values of these sums
pub record VanishesIn (definitions : List SumView) (sums : List (Vec Base)) (turn : ℕ)
    (s : SumView) : Type 0 where
  pub values : (bit : Base → Bool) (row : ℕ) → Holds definitions bit
      → HasValues (values_of bit sums) row turn → sum_value bit s ≡ false
