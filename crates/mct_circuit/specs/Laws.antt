-- What lists of gates do to bits: the laws on which plans stand.
use Rattle.std.specs.Prelude.{◌≡◌, ℕ, ◌≤◌, Bool, List, ◌++◌, length, reverse, slice_set}
use Rattle.std.specs.Bool.{xor}
use Rattle.std.specs.List.{list_all, sum_by}
use Rattle.list_facts.specs.Bits.{bit_of}
use Rattle.mct_circuit.specs.declared.gate.Control.{Control}
use Rattle.mct_circuit.specs.declared.gate.Op.TheVariants.{Flip}
use Rattle.mct_circuit.specs.Gates.{GateView, AreGatesOn, after_gate, is_met, line_map}
use Rattle.mct_circuit.specs.Sizes.{weight_of}

-- a flip is a set: its target's bit becomes the exclusive or of that bit and of whether all
-- controls are met
abbrev pub FlipsSet : Type 0
FlipsSet =
    (controls : List Control) (target : ℕ) (bits : List Bool)
    → after_gate (record { controls = controls; op = Flip target }) bits
    ≡ slice_set bits target (xor (list_all (is_met bits) controls) (bit_of bits target))

-- gates on the first lines map these, and leave the bits of more lines as they are
abbrev pub MoreLinesStay : Type 0
MoreLinesStay =
    (gates : List GateView) (bits more : List Bool) → AreGatesOn (length bits) gates
    → line_map gates (bits ++ more) ≡ line_map gates bits ++ more

-- Compute, copy, uncompute: where the computing gates take s to u and s' to u', and the copying
-- gates take u to u', all of them and the computing gates reversed take s to s'.
abbrev pub Uncomputes : Type 0
Uncomputes =
    (computing copying : List GateView) (s u s' u' : List Bool)
    → AreGatesOn (length s') computing
    → line_map computing s ≡ u → line_map computing s' ≡ u' → line_map copying u ≡ u'
    → line_map (computing ++ copying ++ reverse computing) s ≡ s'

-- each gate weighs at least 1, and a reversed list weighs what the list does
pub record WeightsAreKept : Type 0 where
  pub positive : (gate : GateView) → 1 ≤ weight_of gate
  pub reversed : (gates : List GateView) → sum_by weight_of (reverse gates) ≡ sum_by weight_of gates
