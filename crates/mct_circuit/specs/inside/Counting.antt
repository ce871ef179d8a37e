-- Which gates count in a depth.
use Rattle.std.specs.Prelude.{ℕ}
use Rattle.mct_circuit.specs.declared.depth.Counting.{Counting}
use Rattle.mct_circuit.specs.declared.depth.Counting.TheVariants.{EachGate, Toffolis}
use Rattle.mct_circuit.specs.Gates.{GateView}
use Rattle.mct_circuit.specs.Sizes.{toffoli_weight}

abbrev pub weight_for : Counting → GateView → ℕ
weight_for EachGate gate = 1
weight_for Toffolis gate = toffoli_weight gate
