use Rattle.std.proofs.Common.{refl, rules}
use Rattle.array_shapes.proofs.value.Value.copy.Goals.{in-Unit, in-Bit, in-Reg+in_ok-clone-in-Reg, in-Fun, in-Num}
use Rattle.array_shapes.proofs.value.Value.copy.Goals as goal

pub returns : goal.returns
returns c = elim c.match-self.branch [
  | in-Unit w ↦ rw (w.result-is, w.in-Unit.is) refl
  | in-Bit w ↦ rw (w.result-is, w.in-Bit.is) refl
  | in-Reg+in_ok-clone-in-Reg w ↦ rw (w.result-is, w.in-Reg.is, w.in_ok-clone-in-Reg.ensures.cases) refl
  | in-Fun w ↦ rw (w.result-is, w.in-Fun.is) refl
  | in-Num w ↦ search rules
]
