-- On one line more, no gate wants an idle line.
use Rattle.std.proofs.Common.{◌≡◌, ◌≢◌, ℕ, suc, ◌+◌, ◌-◌, ◌<◌, Bool, true, false, not, cond, leb, List, [], ◌∷◌, ◌++◌, length, take, Some, Option, Err, Result}
use Rattle.std.proofs.Common.{refl, sym, ap, ◌∙◌, subst, arith}
use Rattle.std.specs.List.{AllByRecursion}
use Rattle.std.specs.Prelude.{IsErrOf}
use Rattle.list_facts.proofs.AllLemmas.{AllByRecursion-take, AllByRecursion-weaker}
use Rattle.mct_circuit.specs.declared.gate.Op.{Op}
use Rattle.mct_circuit.specs.declared.gate.Op.TheVariants.{Flip, Swap}
use Rattle.mct_circuit.specs.Gates.{GateView, AreGatesOn, IsGateOn, flip_of}
use Rattle.mct_circuit.specs.Sizes.{has_line}
use Rattle.gate_split.specs.declared.fault.SplitFault.{SplitFault}
use Rattle.gate_split.specs.declared.fault.SplitFault.TheVariants.{NoIdle}
use Rattle.gate_split.specs.Split.{Avoids, idle_lines, between, flips_of_negatives, over_few_lines, over_idle_lines, in_halves, split_positive, split_gate}
use Rattle.gate_split.specs.Split.{WantsIdle, behind, joined, split_gates}
use Rattle.gate_split.proofs.EffectLemmas.{below_of}
use Rattle.gate_split.proofs.FallingLineLemmas.{falling_yes, no_member}
use Rattle.gate_split.proofs.NegativeLemmas.{lines}
use Rattle.gate_split.proofs.PieceLemmas.{flip_on, flip_piece, swap_on, swap_piece}

-- ---- one gate

record HasPiece (piece : Option (List GateView)) : Type 0 where
  gates : List GateView
  is : piece ≡ Some gates

one_of_three : (few enough : Bool) (alone over halves : List GateView) → HasPiece (cond few (Some alone) (cond enough (Some over) (Some halves)))
one_of_three true enough alone over halves = record { gates = alone; is = refl }
one_of_three false true alone over halves = record { gates = over; is = refl }
one_of_three false false alone over halves = record { gates = halves; is = refl }

-- a line above all others is none of them
above_all : (n : ℕ) (used : List ℕ) → AllByRecursion (λ line. line < n) used → Avoids n used
above_all n used low =
    AllByRecursion-weaker (λ line. line < n) (λ line. n ≢ line) (λ line below same. absurd (omega (arith, below, same))) used low

-- the line that is added is idle
first_idle : (n : ℕ) (used : List ℕ) → AllByRecursion (λ line. line < n) used → idle_lines (suc n) used ≡ n ∷ idle_lines n used
first_idle n used low =
    falling_yes (λ line. not (has_line line used)) n (ap not (no_member n used (above_all n used low)))

positive_piece : (n : ℕ) (controls : List ℕ) (target : ℕ) → IsGateOn n (flip_of controls target) → HasPiece (split_positive (suc n) controls target)
positive_piece n controls target on =
    let used = controls ++ target ∷ [] in
    let idle = n ∷ idle_lines n used in
    subst (λ (found : List ℕ). HasPiece (cond (leb (length controls) 2) (Some (flip_of controls target ∷ []))
    (cond (leb (length controls - 2) (length found)) (Some (over_idle_lines controls target (take (length controls - 2) found)))
    (over_few_lines (suc n) controls target found))))
    (sym (first_idle n used (below_of n controls target on)))
    (one_of_three (leb (length controls) 2) (leb (length controls - 2) (length idle)) (flip_of controls target ∷ [])
    (over_idle_lines controls target (take (length controls - 2) idle)) (in_halves (suc n) controls target n))

between_piece : (outer : List GateView) (piece : Option (List GateView)) → HasPiece piece → HasPiece (between outer piece)
between_piece outer piece p = record { gates = outer ++ p.gates ++ outer; is = ap (between outer) p.is }

same_piece : (one other : Option (List GateView)) → one ≡ other → HasPiece other → HasPiece one
same_piece one other same p = record { gates = p.gates; is = same ∙ p.is }

op_piece : (n : ℕ) (gate : GateView) (op : Op) → gate.op ≡ op → IsGateOn n gate → HasPiece (split_gate (suc n) gate)
op_piece n gate (Flip target) is on =
    let controls = lines gate.controls in
    same_piece _ _ (flip_piece (suc n) gate target gate.controls controls is refl refl)
    (between_piece (flips_of_negatives gate.controls) (split_positive (suc n) controls target)
    (positive_piece n controls target (flip_on n gate target controls is refl on)))
op_piece n gate (Swap first second) is on =
    let controls = lines gate.controls ++ first ∷ [] in
    let inner = between (flips_of_negatives gate.controls) (split_positive (suc n) controls second) in
    same_piece _ _ (swap_piece (suc n) gate first second gate.controls controls is refl refl)
    (between_piece (flip_of (second ∷ []) first ∷ []) inner
    (between_piece (flips_of_negatives gate.controls) (split_positive (suc n) controls second)
    (positive_piece n controls second (swap_on n gate first second controls is refl on))))

-- ---- many gates

all_have : (n : ℕ) (gates : List GateView) → AreGatesOn n gates → HasPiece (split_gates (suc n) gates)
all_have n [] on = record { gates = []; is = refl }
all_have n (first ∷ gates) on =
    let piece = op_piece n first first.op refl on.0 in
    let rest = all_have n gates on.1 in
    record {
      gates = piece.gates ++ rest.gates;
      is = ap (λ o. joined o (split_gates (suc n) gates)) piece.is ∙ ap (behind piece.gates) rest.is;
    }

wider_never_wants : (n limit place : ℕ) (gates : List GateView) → AreGatesOn n gates → WantsIdle (n + 1) limit gates place → ⊥
wider_never_wants n limit place gates on wants =
    let same : n + 1 ≡ suc n = omega arith in
    let some = all_have n (take (place + 1) gates) (AllByRecursion-take (IsGateOn n) (place + 1) gates on) in
    let both = sym wants.none ∙ ap (λ k. split_gates k (take (place + 1) gates)) same ∙ some.is in cc

-- a split on one line more has no such fault
pub never_wants : {T : Type 0} (n limit gate lines : ℕ) (gates : List GateView) (result : Result T SplitFault) (fault : SplitFault) → AreGatesOn n gates
    → lines ≡ n → result ≡ Err fault → fault ≡ NoIdle gate
    → ((at : ℕ) → IsErrOf result (NoIdle at) → WantsIdle (lines + 1) limit gates at) → ⊥
never_wants {T} n limit gate lines gates result fault on same is named says =
    let wants : IsErrOf result (NoIdle gate) = is ∙ ap (λ (f : SplitFault). let r : Result T SplitFault = Err f in r) named in
    wider_never_wants n limit gate gates on (subst (λ k. WantsIdle (k + 1) limit gates gate) same (says gate wants))
