-- What gates in another order keep.
use Rattle.std.proofs.Common.{◌≡◌, ℕ, Bool, cond, List, length, refl, ◌∙◌, arith}
use Rattle.std.specs.Prelude.{count_by}
use Rattle.std.proofs.lemmas.List.Sorted.{IsPermutation-refl, IsPermutation-trans, length_permutation, sum_by-IsPermutation}
use Rattle.list_facts.proofs.AllLemmas.{AllByRecursion-permutation}
use Rattle.mct_circuit.specs.Gates.{AreGatesOn, AreNarrow, GateView, IsGateOn, IsNarrow}
use Rattle.flip_orders.specs.Orders.{AreReordered}

pub AreReordered-refl : (gates : List GateView) → AreReordered gates gates
AreReordered-refl gates =
    record { permutation = IsPermutation-refl gates; same = λ bits. refl; depth = omega arith; toffoli_depth = omega arith }

pub AreReordered-trans : (old mid new : List GateView) → AreReordered old mid → AreReordered mid new → AreReordered old new
AreReordered-trans old mid new one other =
    record {
      permutation = IsPermutation-trans old mid new one.permutation other.permutation;
      same = λ bits. other.same bits ∙ one.same bits;
      depth = omega (arith, one.depth, other.depth);
      toffoli_depth = omega (arith, one.toffoli_depth, other.toffoli_depth);
    }

pub length-reordered : (old new : List GateView) → AreReordered old new → length new ≡ length old
length-reordered old new is = length_permutation old new is.permutation

pub count_by-reordered : (test : GateView → Bool) (old new : List GateView) → AreReordered old new → count_by test new ≡ count_by test old
count_by-reordered test old new is = sum_by-IsPermutation (λ gate. cond (test gate) 1 0) old new is.permutation

pub gates_on-reordered : (n : ℕ) (old new : List GateView) → AreReordered old new → AreGatesOn n old → AreGatesOn n new
gates_on-reordered n old new is on = AllByRecursion-permutation (IsGateOn n) old new is.permutation on

pub narrow-reordered : (old new : List GateView) → AreReordered old new → AreNarrow old → AreNarrow new
narrow-reordered old new is narrow = AllByRecursion-permutation IsNarrow old new is.permutation narrow
