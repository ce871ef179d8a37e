-- Copies of the outputs.
use Rattle.std.proofs.Common.{◌≡◌, ℕ, ◌+◌, ◌<◌, ◌≤◌, Bool, false, List, Option, [], ◌∷◌, ◌++◌, length, get_or, map, set, drop, Some, sum_by, refl, sym}
use Rattle.std.proofs.Common.{ap, ap₂, ◌∙◌, subst, arith, append_assoc, length-append}
use Rattle.std.specs.Bool.{xor}
use Rattle.std.specs.List.{AllByRecursion}
use Rattle.std.proofs.lemmas.List.{drop_more, get_or_at, set_at}
use Rattle.std.proofs.lemmas.List.Sums.{sum_by-append}
use Rattle.list_facts.specs.Bits.{bit_of}
use Rattle.list_facts.proofs.AllLemmas.{AllByRecursion-append, AllByRecursion-at}
use Rattle.list_facts.proofs.BitLemmas.{xor_swap}
use Rattle.bit_sums.specs.Sums.{SumView, bases_of}
use Rattle.gate_split.specs.Costs.{IsRoomyFlip}
use Rattle.circuit_plans.specs.declared.plan.TheConstants.{MOST_LINES}
use Rattle.circuit_plans.specs.Plans.{added}
use Rattle.mct_circuit.specs.Gates.{GateView, line_map}
use Rattle.mct_circuit.specs.Sizes.{weight_of}
use Rattle.mct_circuit.proofs.ReversalLemmas.{line_map-append}
use Rattle.sum_graph.specs.Graphs.{IsKnownSum, SumGraphView, sum_on, sum_outputs}
use Rattle.sum_toggles.specs.Toggles.{AreApart, base_line, sum_gates, toggle_weight}
use Rattle.sum_toggles.proofs.SumLemmas.{weight_sum}
use Rattle.held_nodes.specs.Held.{IsContent, held_line}
use Rattle.sum_graph.specs.Graphs.{first_work}
use Rattle.held_nodes.specs.Moves.{IsReadySum, copies_from}
use Rattle.mct_circuit.specs.Sizes.{weight_in}
use Rattle.held_nodes.specs.inside.Kept.{CanCopy, HasProducts}
use Rattle.held_nodes.proofs.ContentLemmas.{all_lines}
use Rattle.held_nodes.proofs.LineLemmas.{AreOnDifferent}
use Rattle.held_nodes.proofs.PlaceLemmas.{all_placed, apart_of, good_adds, good_bases, good_roomy, output_lines}

-- ---- the outputs that are copied

-- outputs that are known, and ready to be copied
pub record AreReady (s : SumGraphView) (lines : List (Option ℕ)) (work : ℕ) : Type 0 where
  pub known : AllByRecursion (IsKnownSum s.inputs (length s.nodes)) s.outputs
  pub ready : AllByRecursion (IsReadySum lines) s.outputs
  pub different : AreOnDifferent lines
  pub below : (j own : ℕ) → held_line lines j ≡ Some own → own < work
  pub few : first_work s + work ≤ MOST_LINES

can_copy : (n first work k : ℕ) (lines : List (Option ℕ)) (sums : List SumView) → AreOnDifferent lines
    → ((j own : ℕ) → held_line lines j ≡ Some own → own < work) → first + work ≤ MOST_LINES
    → AllByRecursion (IsKnownSum n k) sums → AllByRecursion (IsReadySum lines) sums → AllByRecursion (CanCopy first lines n) sums
can_copy n first work k lines [] different below few known ready = tt
can_copy n first work k lines (x ∷ xs) different below few known ready = (
  record {
    placed = all_placed first work lines (bases_of x) below few ready.0;
    apart = λ target le fits. apart_of n k (first + work) target lines (base_line first lines) (bases_of x)
        (output_lines n first work k target lines le fits different below) (good_bases n k lines x known.0 ready.0);
  },
  can_copy n first work k lines xs different below few known.1 ready.1,
)

-- the lines of what is copied are not those of the outputs
pub outputs_can : (s : SumGraphView) (lines : List (Option ℕ)) (work : ℕ) → AreReady s lines work
    → AllByRecursion (CanCopy (first_work s) lines s.inputs) s.outputs
outputs_can s lines work are =
    can_copy s.inputs (first_work s) work (length s.nodes) lines s.outputs are.different are.below are.few are.known are.ready

pub output_can : (inputs k : ℕ) (lines : List (Option ℕ)) (sums : List SumView) (x : SumView) → k < length sums → x ≡ get_or sums k x
    → AllByRecursion (CanCopy (inputs + length sums) lines inputs) sums → CanCopy (inputs + length sums) lines inputs x
output_can inputs k lines sums x low is can =
    subst (CanCopy (inputs + length sums) lines inputs) (sym is) (AllByRecursion-at (CanCopy (inputs + length sums) lines inputs) sums k x can low)

pub output_apart : (inputs k : ℕ) (lines : List (Option ℕ)) (sums : List SumView) (x : SumView) → k < length sums → x ≡ get_or sums k x
    → AllByRecursion (CanCopy (inputs + length sums) lines inputs) sums
    → AreApart (base_line (inputs + length sums) lines) (inputs + k) (bases_of x)
output_apart inputs k lines sums x low is can = (output_can inputs k lines sums x low is can).apart (inputs + k) (omega arith) (omega (arith, low))

-- ---- the gates of copies

pub copies_roomy : (n first work k target : ℕ) (lines : List (Option ℕ)) (sums : List SumView) → n ≤ target → target + length sums ≤ first
    → AreOnDifferent lines → ((j own : ℕ) → held_line lines j ≡ Some own → own < work) → AllByRecursion (IsKnownSum n k) sums
    → AllByRecursion (IsReadySum lines) sums → AllByRecursion HasProducts sums
    → AllByRecursion (IsRoomyFlip (first + work)) (copies_from first lines target sums)
copies_roomy n first work k target lines [] le fits different below known ready are = tt
copies_roomy n first work k target lines (x ∷ xs) le fits different below known ready are =
    AllByRecursion-append (IsRoomyFlip (first + work)) (sum_gates (base_line first lines) target x) (copies_from first lines (target + 1) xs)
    (good_roomy n k (first + work) target lines (base_line first lines) x
    (output_lines n first work k target lines le (omega (arith, fits)) different below) (good_bases n k lines x known.0 ready.0) are.0)
    (copies_roomy n first work k (target + 1) lines xs (omega (arith, le)) (omega (arith, fits)) different below known.1 ready.1 are.1)

-- the copies up to one output more
pub copies_more : (first : ℕ) (lines : List (Option ℕ)) (target k : ℕ) (sums : List SumView) (x : SumView) (before after whole : List GateView)
    → k < length sums → x ≡ get_or sums k x → after ≡ before ++ sum_gates (base_line first lines) (target + k) x
    → before ++ copies_from first lines (target + k) (drop k sums) ≡ whole
    → after ++ copies_from first lines (target + (k + 1)) (drop (k + 1) sums) ≡ whole
copies_more first lines target k sums x before after whole low is added done =
    let rest = drop (k + 1) sums in
    let copy = sum_gates (base_line first lines) (target + k) x in
    let place : target + (k + 1) ≡ target + k + 1 = omega arith in
    ap (λ (gates : List GateView). gates ++ copies_from first lines (target + (k + 1)) rest) added
    ∙ ap (λ (n : ℕ). (before ++ copy) ++ copies_from first lines n rest) place
    ∙ append_assoc before copy (copies_from first lines (target + k + 1) rest)
    ∙ ap (λ (y : SumView). before ++ (sum_gates (base_line first lines) (target + k) y ++ copies_from first lines (target + k + 1) rest)) is
    ∙ sym (ap (λ (xs : List SumView). before ++ copies_from first lines (target + k) xs) (drop_more sums k x low))
    ∙ done

-- the copies weigh what their sums do
pub weight-copies : (first : ℕ) (lines : List (Option ℕ)) (target : ℕ) (sums : List SumView) → AllByRecursion HasProducts sums
    → weight_in (copies_from first lines target sums) ≡ sum_by toggle_weight sums
weight-copies first lines target [] are = refl
weight-copies first lines target (x ∷ xs) are =
    sum_by-append weight_of (sum_gates (base_line first lines) target x) (copies_from first lines (target + 1) xs)
    ∙ ap₂ ◌+◌ (weight_sum (base_line first lines) target x are.0) (weight-copies first lines (target + 1) xs are.1)
    ∙ sym (sum_by-append toggle_weight (x ∷ []) xs ∙ omega arith)

-- ---- what copies do

-- a line among the outputs, and what stands before it and behind it
around : (input done rest content : List Bool) (b : Bool) → all_lines input (done ++ b ∷ rest) content ≡ (input ++ done) ++ b ∷ (rest ++ content)
around input done rest content b =
    ap (λ (bits : List Bool). input ++ bits) (append_assoc done (b ∷ rest) content) ∙ sym (append_assoc input done (b ∷ (rest ++ content)))

set_output : (input done rest content : List Bool) (b now : Bool) (target : ℕ) → target ≡ length input + length done
    → set (all_lines input (done ++ b ∷ rest) content) target now ≡ all_lines input (done ++ now ∷ rest) content
set_output input done rest content b now target e =
    let place : length (input ++ done) ≡ target = length-append input done ∙ sym e in
    ap (λ (bits : List Bool). set bits target now) (around input done rest content b)
    ∙ set_at (input ++ done) b (rest ++ content) now target place
    ∙ sym (around input done rest content now)

output_bit : (input done rest content : List Bool) (b : Bool) (target : ℕ) → target ≡ length input + length done
    → bit_of (all_lines input (done ++ b ∷ rest) content) target ≡ b
output_bit input done rest content b target e =
    let place : length (input ++ done) ≡ target = length-append input done ∙ sym e in
    ap (λ (bits : List Bool). bit_of bits target) (around input done rest content b)
    ∙ get_or_at (input ++ done) b (rest ++ content) false target place

copied_one : (s : SumGraphView) (lines : List (Option ℕ)) (work target : ℕ) (gates : List GateView) (input done rest content : List Bool) (b : Bool)
    (x : SumView)
    → length input ≡ s.inputs → length (done ++ b ∷ rest) ≡ length s.outputs → IsContent s lines work gates input content
    → target ≡ length input + length done → s.inputs ≤ target → target < first_work s → AreOnDifferent lines
    → ((j own : ℕ) → held_line lines j ≡ Some own → own < work)
    → IsKnownSum s.inputs (length s.nodes) x → IsReadySum lines x → HasProducts x
    → line_map (sum_gates (base_line (first_work s) lines) target x) (all_lines input (done ++ b ∷ rest) content)
    ≡ all_lines input (done ++ xor b (sum_on s.nodes input x) ∷ rest) content
copied_one s lines work target gates input done rest content b x size many is e le fits different below known ready are =
    let bits = all_lines input (done ++ b ∷ rest) content in
    let k = length s.nodes in
    let value = sum_on s.nodes input x in
    good_adds s lines work k target gates input (done ++ b ∷ rest) content x
    (output_lines s.inputs (first_work s) work k target lines le fits different below) (good_bases s.inputs k lines x known ready) are size many is
    ∙ ap (λ was. set bits target (xor value was)) (output_bit input done rest content b target e)
    ∙ ap (set bits target) (xor_swap value b)
    ∙ set_output input done rest content b (xor b value) target e

copied_from : (s : SumGraphView) (lines : List (Option ℕ)) (work target : ℕ) (gates : List GateView) (input done content held : List Bool) (sums : List SumView)
    → length input ≡ s.inputs → length held ≡ length sums → length done + length sums ≡ length s.outputs → IsContent s lines work gates input content
    → target ≡ length input + length done → AreOnDifferent lines → ((j own : ℕ) → held_line lines j ≡ Some own → own < work)
    → AllByRecursion (IsKnownSum s.inputs (length s.nodes)) sums → AllByRecursion (IsReadySum lines) sums → AllByRecursion HasProducts sums
    → line_map (copies_from (first_work s) lines target sums) (all_lines input (done ++ held) content)
    ≡ all_lines input (done ++ added held (map (sum_on s.nodes input) sums)) content
copied_from s lines work target gates input done content [] [] size same many is e different below known ready are = refl
copied_from s lines work target gates input done content (b ∷ rest) [] size same many is e different below known ready are = absurd (omega (arith, same))
copied_from s lines work target gates input done content [] (x ∷ xs) size same many is e different below known ready are = absurd (omega (arith, same))
copied_from s lines work target gates input done content (b ∷ rest) (x ∷ xs) size same many is e different below known ready are =
    let sum = xor b (sum_on s.nodes input x) in
    let others = copies_from (first_work s) lines (target + 1) xs in
    let whole : length (done ++ b ∷ rest) ≡ length s.outputs =
    (let all = length-append done (b ∷ rest) in omega (arith, all, same, many)) in
    let longer : length (done ++ sum ∷ []) ≡ length done + 1 = length-append done (sum ∷ []) in
    line_map-append (sum_gates (base_line (first_work s) lines) target x) others (all_lines input (done ++ b ∷ rest) content)
    ∙ ap (line_map others) (copied_one s lines work target gates input done rest content b x size whole is e (omega (arith, e, size))
    (omega (arith, e, size, many)) different below known.0 ready.0 are.0)
    ∙ ap (λ (outputs : List Bool). line_map others (all_lines input outputs content)) (sym (append_assoc done (sum ∷ []) rest))
    ∙ copied_from s lines work (target + 1) gates input (done ++ sum ∷ []) content rest xs size (omega (arith, same))
    (omega (arith, longer, many)) is (omega (arith, longer, e)) different below known.1 ready.1 are.1
    ∙ ap (λ (outputs : List Bool). all_lines input outputs content) (append_assoc done (sum ∷ []) (added rest (map (sum_on s.nodes input) xs)))

-- the copies add the outputs to what the output lines hold
pub copied : (s : SumGraphView) (lines : List (Option ℕ)) (work : ℕ) (gates : List GateView) (input held content : List Bool)
    → length input ≡ s.inputs → length held ≡ length s.outputs → IsContent s lines work gates input content → AreReady s lines work
    → AllByRecursion HasProducts s.outputs
    → line_map (copies_from (first_work s) lines s.inputs s.outputs) (all_lines input held content)
    ≡ all_lines input (added held (sum_outputs s input)) content
copied s lines work gates input held content size many is ready are =
    copied_from s lines work s.inputs gates input [] content held s.outputs size many (omega arith) is (omega (arith, size)) ready.different ready.below
    ready.known ready.ready are
