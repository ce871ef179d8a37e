-- How many gates stand in place of others.
use Rattle.std.specs.Prelude.{◌≡◌, ℕ, ◌+◌, nat_le, if◌then◌else◌, Option, Some, None, Result, Ok, Err, List, length}
use Rattle.mct_circuit.specs.Gates.{GateView, IsGateOn, flip_of}
use Rattle.gate_split.specs.declared.fault.SplitFault.{SplitFault}
use Rattle.gate_split.specs.declared.fault.SplitFault.TheVariants.{NoIdle, Gates}
use Rattle.gate_split.specs.Split.{split_positive}

-- how many gates these are and so many around them
abbrev pub count_with : ℕ → Option (List GateView) → Option ℕ
count_with around None = None
count_with around (Some gates) = Some (length gates + around)

abbrev pub count_of : Option (List GateView) → Option ℕ
count_of None = None
count_of (Some gates) = Some (length gates)

-- so many stand in place of each flip of so many positive controls among the lines, with those
-- around them
pub record CountsFlips (n controls around : ℕ) (count : Option ℕ) : Type 0 where
  pub counts : (lines : List ℕ) (target : ℕ) → IsGateOn n (flip_of lines target)
      → length lines ≡ controls → count_with around (split_positive n lines target) ≡ count

-- so many gates and some more, where the limit allows them
abbrev pub counted_within : (count more limit : ℕ) → Result ℕ SplitFault
counted_within count more limit =
    if nat_le (count + more) limit then Ok (count + more) else Err Gates

-- so many gates and those in place of the gate at a place, of which there may be none
abbrev pub counted_on : ℕ → Option ℕ → ℕ → ℕ → Result ℕ SplitFault
counted_on count None place limit = Err (NoIdle place)
counted_on count (Some more) place limit = counted_within count more limit
