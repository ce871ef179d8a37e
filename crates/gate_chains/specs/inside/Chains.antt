-- Chains of gates, each of which shares a line with the next.
use Rattle.std.specs.Prelude.{◌≡◌, ℕ, true, List, [], ◌∷◌, sum_by, ⊤}
use Rattle.mct_circuit.specs.Gates.{GateView, lines_of}
use Rattle.mct_circuit.specs.Sizes.{share_a_line}

-- the first list has some of the gates of the second, in their order
pub data AreSomeOf : List GateView → List GateView → Type 0 where
  no_gates : AreSomeOf [] []
  taken : (gate : GateView) (some all : List GateView) → AreSomeOf some all
      → AreSomeOf (gate ∷ some) (gate ∷ all)
  left_out : (gate : GateView) (some all : List GateView) → AreSomeOf some all
      → AreSomeOf some (gate ∷ all)

abbrev pub ShareALine : GateView → GateView → Type 0
ShareALine one other = share_a_line (lines_of one) (lines_of other) ≡ true

-- each of the gates shares a line with the next
abbrev pub AreLinked : List GateView → Type 0
AreLinked [] = ⊤
AreLinked (gate ∷ []) = ⊤
AreLinked (gate ∷ (next ∷ rest)) = ShareALine gate next × AreLinked (next ∷ rest)

-- a chain among the gates, of this weight
pub record HasChain (weigh : GateView → ℕ) (gates : List GateView) (weight : ℕ) : Type 0 where
  pub chain : List GateView
  pub among : AreSomeOf chain gates
  pub linked : AreLinked chain
  pub weighs : sum_by weigh chain ≡ weight
