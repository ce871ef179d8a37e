-- What the output lines hold before the gates, and how many of them have variables.
use Rattle.std.proofs.Common.{◌≡◌, ℕ, ◌+◌, ◌<◌, ◌≤◌, Bool, false, List, [], ◌++◌, length, take, drop, refl, sym, ap, ◌∙◌, arith}
use Rattle.std.proofs.Common.{length-append}
use Rattle.std.specs.Bool.{xor}
use Rattle.std.proofs.lemmas.Simd.{length-zip2}
use Rattle.std.proofs.lemmas.List.{get_or-take, get_or_append_left, length-replicate, length-take-le}
use Rattle.std.proofs.Math.Seq.{drop-append_seam, take-append_seam}
use Rattle.list_facts.specs.Bits.{bit_of, zeros}
use Rattle.circuit_plans.specs.declared.roles.Placing.{Placing}
use Rattle.circuit_plans.specs.declared.roles.Placing.TheVariants.{Added, InPlace}
use Rattle.circuit_plans.specs.declared.roles.Start.{Start}
use Rattle.circuit_plans.specs.declared.roles.Start.TheVariants.{Any, Zero}
use Rattle.circuit_plans.specs.Plans.{MayHold, added}
use Rattle.decision_diagram.specs.Diagrams.{Triple}
use Rattle.decision_diagram.specs.Growth.{StandsFor}
use Rattle.circuit_verify.specs.Comparisons.{Comparison, IsAdded, held_by, lines_for, output_variables, put_by}
use Rattle.circuit_verify.specs.Verdicts.{FillsInputs}
use Rattle.circuit_verify.specs.inside.Numbers.{AreNumbersOf, held_numbers}
use Rattle.circuit_verify.proofs.NumberLemmas.{numbers-drop, numbers-take, numbers-zeros}

-- no more than there are
pub few_variables : (placing : Placing) (lines : ℕ) → output_variables placing lines ≤ lines
few_variables (Added Any) lines = omega arith
few_variables (Added Zero) lines = omega arith
few_variables InPlace lines = omega arith

pub length-held_by : (placing : Placing) (lines more : ℕ) (behind : List Bool) → length behind ≡ output_variables placing lines + more
    → length (held_by placing lines behind) ≡ lines
length-held_by (Added Any) lines more behind size = length-take-le lines behind (omega (arith, size))
length-held_by (Added Zero) lines more behind size = length-replicate lines false
length-held_by InPlace lines more behind size = length-replicate lines false

pub held_may : (start : Start) (lines : ℕ) (behind : List Bool) → MayHold start (held_by (Added start) lines behind)
held_may Any lines behind = tt
held_may Zero lines behind = ap zeros (sym (length-replicate lines false))

-- ---- bits for the variables, by what the lines hold

abbrev pub given_by : Start → List Bool → List Bool
given_by Any held = held
given_by Zero held = []

pub length-given_by : (start : Start) (held : List Bool) → length (given_by start held) ≡ output_variables (Added start) (length held)
length-given_by Any held = refl
length-given_by Zero held = refl

pub held_back : (start : Start) (lines : ℕ) (held borrowed : List Bool) → length held ≡ lines → MayHold start held
    → held_by (Added start) lines (given_by start held ++ borrowed) ≡ held
held_back Any lines held borrowed size may = ap (λ (n : ℕ). take n (held ++ borrowed)) (sym size) ∙ take-append_seam held borrowed
held_back Zero lines held borrowed size may = ap zeros (sym size) ∙ sym may

pub borrowed_back : (start : Start) (lines : ℕ) (held borrowed : List Bool) → length held ≡ lines
    → drop (output_variables (Added start) lines) (given_by start held ++ borrowed) ≡ borrowed
borrowed_back Any lines held borrowed size = ap (λ (n : ℕ). drop n (held ++ borrowed)) (sym size) ∙ drop-append_seam held borrowed
borrowed_back Zero lines held borrowed size = refl

-- an output line that has a variable holds its bit
pub bit-held_by : (placing : Placing) (lines more k : ℕ) (behind rest : List Bool) → length behind ≡ output_variables placing lines + more
    → k < output_variables placing lines → bit_of (held_by placing lines behind ++ rest) k ≡ bit_of behind k
bit-held_by (Added Any) lines more k behind rest size low =
    get_or_append_left (take lines behind) rest false k (omega (arith, low, length-take-le lines behind (omega (arith, size))))
    ∙ get_or-take lines behind k false low
bit-held_by (Added Zero) lines more k behind rest size low = absurd (omega (arith, low))
bit-held_by InPlace lines more k behind rest size low = absurd (omega (arith, low))

-- ---- numbers

pub held_are : (q : Comparison) (nodes : List Triple) (placing : Placing) (lines never n : ℕ) (bits : List ℕ) → AreNumbersOf q nodes bits (λ b. b)
    → StandsFor nodes never (λ a. false)
    → AreNumbersOf q nodes (held_numbers placing lines never (drop n bits)) (λ b. held_by placing lines (drop n b))
held_are q nodes (Added Any) lines never n bits are stands =
    numbers-take q nodes lines (drop n bits) (λ b. drop n b) (numbers-drop q nodes n bits (λ b. b) are)
held_are q nodes (Added Zero) lines never n bits are stands = numbers-zeros q nodes never lines stands
held_are q nodes InPlace lines never n bits are stands = numbers-zeros q nodes never lines stands

-- ---- input lines and output lines together

-- where outputs are added
pub lines_added : (placing : Placing) (inputs outputs : ℕ) → IsAdded placing → lines_for placing inputs outputs ≡ outputs
lines_added (Added start) inputs outputs is = refl
lines_added InPlace inputs outputs is = absurd is

pub put_added : (placing : Placing) (input held outputs : List Bool) → IsAdded placing → put_by placing input held outputs ≡ input ++ added held outputs
put_added (Added start) input held outputs is = refl
put_added InPlace input held outputs is = absurd is

-- how many there are
pub length-put_by : (placing : Placing) (input held outputs : List Bool) (count : ℕ) → length outputs ≡ count
    → length held ≡ lines_for placing (length input) count → FillsInputs placing (length input) count
    → length (put_by placing input held outputs) ≡ length input + lines_for placing (length input) count
length-put_by (Added start) input held outputs count many wide fills =
    length-append input (added held outputs) ∙ ap (λ (n : ℕ). length input + n) (length-zip2 xor held outputs (wide ∙ sym many) ∙ wide)
length-put_by InPlace input held outputs count many wide fills = omega (arith, many, fills)
