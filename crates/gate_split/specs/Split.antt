-- The split of a circuit into flips of at most two controls, all positive, gate by gate.
use Rattle.std.specs.Prelude.{◌≡◌, ◌≢◌, ℕ, zero, suc, ◌+◌, ◌-◌, ◌/◌, ◌<◌, ◌≤◌, Bool, not, nat_le, if◌then◌else◌, Option, Some, None, Result, Ok, Err, List, [], ◌∷◌, ◌++◌}
use Rattle.std.specs.Prelude.{length, map, reverse, take, drop, IfOk, IsErrOf}
use Rattle.std.specs.List.{AllByRecursion}
use Rattle.mct_circuit.specs.declared.gate.Control.{Control}
use Rattle.mct_circuit.specs.declared.gate.Op.{Op}
use Rattle.mct_circuit.specs.declared.gate.Op.TheVariants.{Flip, Swap}
use Rattle.mct_circuit.specs.Gates.{CircuitView, GateView, flip_of, line_map, positive}
use Rattle.mct_circuit.specs.Sizes.{has_line}
use Rattle.gate_split.specs.declared.fault.SplitFault.{SplitFault}
use Rattle.gate_split.specs.declared.fault.SplitFault.TheVariants.{NoIdle, Gates, Memory}

-- ---- lines in falling order

-- the lines below n that pass the test, the greatest first
abbrev pub falling_lines : (ℕ → Bool) → ℕ → List ℕ
falling_lines test zero = []
falling_lines test (suc n) = if test n then n ∷ falling_lines test n else falling_lines test n

-- the line is none of the lines
abbrev pub Avoids : ℕ → List ℕ → Type 0
Avoids line lines = AllByRecursion (λ other. line ≢ other) lines

-- the lines below n that are not used
abbrev pub idle_lines : ℕ → List ℕ → List ℕ
idle_lines n used = falling_lines (λ line. not (has_line line used)) n

-- the lines below n that are among the lines
abbrev pub in_falling_order : ℕ → List ℕ → List ℕ
in_falling_order n lines = falling_lines (λ line. has_line line lines) n

-- ---- a flip of three or more controls over idle lines (Barenco and others 1995, Lemma 7.2)

-- from the last control and idle line down to the first: each flips the line before by a control
-- and its idle line, and the last one flips the first idle line by the first two controls
abbrev pub ladder : ℕ → List ℕ → List ℕ → List GateView
ladder target controls [] = flip_of (reverse controls) target ∷ []
ladder target [] (idle ∷ idles) = []
ladder target (control ∷ controls) (idle ∷ idles) =
    flip_of (control ∷ idle ∷ []) target ∷ ladder idle controls idles

abbrev pub there_and_back : List GateView → List GateView
there_and_back gates = gates ++ drop 1 (reverse gates)

abbrev pub over_idle_lines : List ℕ → ℕ → List ℕ → List GateView
over_idle_lines controls target idle =
    let rungs = ladder target (reverse controls) (reverse idle) in
    there_and_back rungs ++ there_and_back (drop 1 rungs)

-- a flip of few controls stays, one of k more takes the first k - 2 idle lines
abbrev pub with_enough_idle : List ℕ → ℕ → List ℕ → List GateView
with_enough_idle controls target idle =
    if nat_le (length controls) 2 then flip_of controls target ∷ []
    else over_idle_lines controls target (take (length controls - 2) idle)

-- ---- a flip of four or more controls over one idle line (Lemma 7.3)

-- how many controls come first: half of them, rounded up
abbrev pub first_half : List ℕ → ℕ
first_half controls = length controls - length controls / 2

-- the flip of the idle line by the first controls, among the other lines of the gate
abbrev pub first_flips : ℕ → List ℕ → ℕ → ℕ → List GateView
first_flips n controls target idle =
    with_enough_idle (take (first_half controls) controls) idle
    (in_falling_order n (drop (first_half controls) controls ++ target ∷ []))

-- the flip of the target by the other controls and then the idle line, among the first controls
abbrev pub second_flips : ℕ → List ℕ → ℕ → ℕ → List GateView
second_flips n controls target idle =
    with_enough_idle (drop (first_half controls) controls ++ idle ∷ []) target
    (in_falling_order n (take (first_half controls) controls))

abbrev pub in_halves : ℕ → List ℕ → ℕ → ℕ → List GateView
in_halves n controls target idle =
    let once = second_flips n controls target idle ++ first_flips n controls target idle in
    once ++ once

-- ---- the gates in place of one

abbrev pub over_few_lines : ℕ → List ℕ → ℕ → List ℕ → Option (List GateView)
over_few_lines n controls target [] = None
over_few_lines n controls target (idle ∷ idles) = Some (in_halves n controls target idle)

-- a flip under positive controls, among n lines: none where it has three controls or more and no
-- line is idle
abbrev pub split_positive : ℕ → List ℕ → ℕ → Option (List GateView)
split_positive n controls target =
    let idle = idle_lines n (controls ++ target ∷ []) in
    if nat_le (length controls) 2 then Some (flip_of controls target ∷ [])
    else (if nat_le (length controls - 2) (length idle)
    then Some (over_idle_lines controls target (take (length controls - 2) idle))
    else over_few_lines n controls target idle)

abbrev pub between : List GateView → Option (List GateView) → Option (List GateView)
between outer None = None
between outer (Some inner) = Some (outer ++ inner ++ outer)

-- the gates behind those that are done
abbrev pub behind : List GateView → Option (List GateView) → Option (List GateView)
behind done None = None
behind done (Some gates) = Some (done ++ gates)

-- a flip of each line of a negative control, in order
abbrev pub flips_of_negatives : List Control → List GateView
flips_of_negatives [] = []
flips_of_negatives (control ∷ controls) =
    if control.positive then flips_of_negatives controls
    else flip_of [] control.line ∷ flips_of_negatives controls

-- a flip under any controls
abbrev pub split_flip : ℕ → List Control → ℕ → Option (List GateView)
split_flip n controls target =
    between (flips_of_negatives controls)
    (split_positive n (map (λ (control : Control). control.line) controls) target)

abbrev pub split_op : ℕ → List Control → Op → Option (List GateView)
split_op n controls (Flip target) = split_flip n controls target
split_op n controls (Swap first second) =
    between (flip_of (second ∷ []) first ∷ [])
    (split_flip n (controls ++ positive first ∷ []) second)

abbrev pub split_gate : ℕ → GateView → Option (List GateView)
split_gate n gate = split_op n gate.controls gate.op

-- ---- the gates in place of many

-- the gates of both, where there are both
abbrev pub joined : Option (List GateView) → Option (List GateView) → Option (List GateView)
joined None rest = None
joined (Some first) rest = behind first rest

-- the gates in place of each of them, in order; none where one of them has none
abbrev pub split_gates : ℕ → List GateView → Option (List GateView)
split_gates n [] = Some []
split_gates n (gate ∷ gates) = joined (split_gate n gate) (split_gates n gates)

-- these stand in place of the gates, and are within the limit
pub record IsSplitList (n limit : ℕ) (gates narrow : List GateView) : Type 0 where
  pub is : split_gates n gates ≡ Some narrow
  pub within : length narrow ≤ limit

-- there is a split list
pub record HasSplitList (n limit : ℕ) (gates : List GateView) : Type 0 where
  pub narrow : List GateView
  pub split : IsSplitList n limit gates narrow

-- the gates before this place have a split list, and with the one there they have none
pub record WantsIdle (n limit : ℕ) (gates : List GateView) (place : ℕ) : Type 0 where
  pub before : HasSplitList n limit (take place gates)
  pub none : split_gates n (take (place + 1) gates) ≡ None

-- the gates before some place have a split list, and with the one there theirs would pass the limit
pub record PassesLimit (n limit : ℕ) (gates : List GateView) : Type 0 where
  pub place : ℕ
  pub before : HasSplitList n limit (take place gates)
  pub over : List GateView
  pub is : split_gates n (take (place + 1) gates) ≡ Some over
  pub passes : limit < length over

-- what the split of the gates comes to
abbrev pub IsSplit : (n limit : ℕ) → List GateView → Result (List GateView) SplitFault → Type 0
IsSplit n limit gates (Ok narrow) = IsSplitList n limit gates narrow
IsSplit n limit gates (Err (NoIdle place)) = WantsIdle n limit gates place
IsSplit n limit gates (Err Gates) = PassesLimit n limit gates
IsSplit n limit gates (Err (Memory _)) = ⊥

-- the narrow circuit on n lines in place of wide gates, which does what they do; or exactly why
-- not, and want of memory only where there is a split list
pub record Splits (n most : ℕ) (wide : List GateView) (result : Result CircuitView SplitFault)
    : Type 0 where
  pub gates : IfOk result (λ narrow. IsSplitList n most wide narrow.gates)
  pub size : IfOk result (λ narrow.
      narrow ≡ record { lines = n; limit = most; gates = narrow.gates })
  pub map : IfOk result (λ narrow. (bits : List Bool) → length bits ≡ n
      → line_map narrow.gates bits ≡ line_map wide bits)
  pub no_idle : (gate : ℕ) → IsErrOf result (NoIdle gate) → WantsIdle n most wide gate
  pub over : IsErrOf result Gates → PassesLimit n most wide
  pub memory : IsErrOf result (Memory _) → HasSplitList n most wide
