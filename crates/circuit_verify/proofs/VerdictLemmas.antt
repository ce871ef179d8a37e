-- What the numbers of the lines say of a circuit.
use Rattle.std.proofs.Common.{◌≡◌, ◌≢◌, ℕ, ◌+◌, ◌<◌, Bool, true, false, List, ◌++◌, length, map, take, drop, get_or, refl, sym, ap, ap₂, ◌∙◌, subst, arith}
use Rattle.std.proofs.Common.{IsFalse, IsTrue, ◌&&◌, append_assoc, length-append, sum}
use Rattle.std.specs.Bool.{xor}
use Rattle.std.proofs.lemmas.Bool.{true≢false}
use Rattle.std.proofs.lemmas.List.{get_or-map, get_or-take, length-drop, length-map, length-replicate, length-take-le}
use Rattle.std.proofs.Math.Seq.{drop-append_seam, take-append_seam}
use Rattle.list_facts.specs.Bits.{bit_of, zeros}
use Rattle.list_facts.proofs.BitLemmas.{xor_same}
use Rattle.decision_diagram.specs.Diagrams.{DiagramView, IsCanonical, IsNumber, Triple, function_of}
use Rattle.decision_diagram.proofs.DistinctLemmas.{distinct_functions}
use Rattle.decision_diagram.specs.Functions.{AreSame, Assignment, IsLeast, exclusive_or}
use Rattle.claim_check.specs.Variables.{AreVariables}
use Rattle.claim_check.proofs.VariableLemmas.{assignment_at, bits_of_assignment, placed_bits}
use Rattle.claim_check.proofs.VerdictLemmas.{least_on}
use Rattle.mct_circuit.specs.Gates.{AreGatesOn, CircuitView, GateView, line_map}
use Rattle.mct_circuit.proofs.ReversalLemmas.{length-line_map}
use Rattle.circuit_plans.specs.Plans.{added}
use Rattle.circuit_plans.specs.declared.roles.Placing.{Placing}
use Rattle.circuit_plans.specs.declared.roles.Placing.TheVariants.{Added, InPlace}
use Rattle.circuit_verify.specs.Comparisons.{Comparison, Agrees, AreBitsFor, Specification, beside, borrowed_bits, held_by, inputs_in, looked_by}
use Rattle.circuit_verify.specs.Comparisons.{looked_on, order_in, output_bits, output_lines, output_variables, start_on, variables_in, wanted_on, work_lines}
use Rattle.circuit_verify.specs.Verdicts.{AreLookedBits, DiffersFirst, FillsInputs, HasEnoughLines, HasEnoughOutputs, IsRight}
use Rattle.circuit_verify.specs.inside.Numbers.{AreLookedEnds, AreNumbersOf, DifferAt, IsLeastApart, bits_in, where_looked}
use Rattle.circuit_verify.proofs.HeldLemmas.{borrowed_back, given_by, held_back, length-given_by, length-held_by}
use Rattle.circuit_verify.proofs.LookedBitLemmas.{all_looked, always, bit_looked}
use Rattle.circuit_verify.proofs.NumberLemmas.{bit-at, length-bits_in, length-numbers}
use Rattle.circuit_verify.proofs.OrderLemmas.{ordered_in}

-- ---- how many lines

pub length-start_on : (q : Comparison) (bits : List Bool) → HasEnoughLines q → AreBitsFor q bits → length (start_on q bits) ≡ q.circuit.lines
length-start_on q bits enough size =
    let n : ℕ = inputs_in q in
    let v : ℕ = output_variables q.placing (output_lines q) in
    let w : ℕ = work_lines q in
    let behind : List Bool = drop n bits in
    let held : List Bool = output_bits q bits in
    let borrowed : List Bool = borrowed_bits q bits in
    let rest : length behind ≡ v + q.borrow = length-drop n bits ∙ omega (arith, size) in
    length-append (take n bits) (held ++ (zeros w ++ borrowed))
    ∙ omega (
      arith,
      length-take-le n bits (omega (arith, size)),
      length-append held (zeros w ++ borrowed),
      length-held_by q.placing (output_lines q) q.borrow behind rest,
      length-append (zeros w) borrowed,
      length-replicate w false,
      length-drop v behind,
      rest,
      enough,
    )

-- ---- where all numbers are the same

-- bits are those of their assignment
at_assignment : (q : Comparison) (bits : List Bool) → AreBitsFor q bits → bits_in q (assignment_at (ordered_in q) bits) ≡ bits
at_assignment q bits size = bits_of_assignment (ordered_in q) bits size

-- the same lines by other lists
same_lines : (gates : List GateView) (work : List Bool) (value : List Bool → List Bool) (i j h k b c : List Bool) → i ≡ j → h ≡ k → b ≡ c
    → line_map gates (i ++ (h ++ (work ++ b))) ≡ i ++ (added h (value i) ++ (work ++ b))
    → line_map gates (j ++ (k ++ (work ++ c))) ≡ j ++ (added k (value j) ++ (work ++ c))
same_lines gates work value i j h k b c one two three is =
    subst (λ (z : List Bool). line_map gates (z ++ (k ++ (work ++ c))) ≡ z ++ (added k (value z) ++ (work ++ c))) one
    (subst (λ (z : List Bool). line_map gates (i ++ (z ++ (work ++ c))) ≡ i ++ (added z (value i) ++ (work ++ c))) two
    (subst (λ (z : List Bool). line_map gates (i ++ (h ++ (work ++ z))) ≡ i ++ (added h (value i) ++ (work ++ z))) three is))

same_in_place : (gates : List GateView) (idle : List Bool) (value : List Bool → List Bool) (i j b c : List Bool) → i ≡ j → b ≡ c
    → line_map gates (i ++ (idle ++ b)) ≡ value i ++ b → line_map gates (j ++ (idle ++ c)) ≡ value j ++ c
same_in_place gates idle value i j b c one two is =
    subst (λ (z : List Bool). line_map gates (z ++ (idle ++ c)) ≡ value z ++ c) one
    (subst (λ (z : List Bool). line_map gates (i ++ (idle ++ z)) ≡ value i ++ z) two is)

-- where all lines end as they should wherever the input is looked at, the circuit agrees
abbrev EndsRight : Comparison → Type 0
EndsRight q = (bits : List Bool) → AreLookedBits q bits → line_map q.circuit.gates (start_on q bits) ≡ wanted_on q bits

agrees_by : (program premise : Specification) (circuit : CircuitView) (placing : Placing) (borrow : ℕ)
    → ((input : List Bool) → length (program.value input) ≡ program.outputs) → FillsInputs placing (sum program.params) program.outputs
    → EndsRight (beside program premise circuit placing borrow) → Agrees (beside program premise circuit placing borrow)
agrees_by program premise circuit (Added start) borrow many fills ended = record {
  size = λ input size. many input;
  adds = λ input held borrowed size seen wide may more.
      let q = beside program premise circuit (Added start) borrow in
      let n : ℕ = inputs_in q in
      let o : ℕ = program.outputs in
      let v : ℕ = output_variables (Added start) o in
      let given : List Bool = given_by start held in
      let bits : List Bool = input ++ (given ++ borrowed) in
      let count : length given ≡ v = length-given_by start held ∙ ap (output_variables (Added start)) wide in
      let are : AreBitsFor q bits = length-append input (given ++ borrowed) ∙ omega (arith, size, more, length-append given borrowed, count) in
      let front : take n bits ≡ input = ap (λ (n : ℕ). take n bits) (sym size) ∙ take-append_seam input (given ++ borrowed) in
      let back : drop n bits ≡ given ++ borrowed = ap (λ (n : ℕ). drop n bits) (sym size) ∙ drop-append_seam input (given ++ borrowed) in
      let outputs : output_bits q bits ≡ held = ap (held_by (Added start) o) back ∙ held_back start o held borrowed wide may in
      let others : borrowed_bits q bits ≡ borrowed = ap (drop v) back ∙ borrowed_back start o held borrowed wide in
      record {
        mapped = same_lines circuit.gates (zeros (work_lines q)) program.value (take n bits) input (output_bits q bits) held (borrowed_bits q bits)
            borrowed front outputs others
            (ended bits (are, ap (looked_by premise) front ∙ seen) ∙ append_assoc (take n bits) (added (output_bits q bits) (program.value (take n bits)))
            (zeros (work_lines q) ++ borrowed_bits q bits));
      };
}
agrees_by program premise circuit InPlace borrow many fills ended = record {
  size = λ input size. many input ∙ omega (arith, fills);
  replaces = λ input borrowed size seen more.
      let q = beside program premise circuit InPlace borrow in
      let n : ℕ = inputs_in q in
      let w : ℕ = work_lines q in
      let idle : List Bool = zeros (output_lines q) in
      let bits : List Bool = input ++ borrowed in
      let are : AreBitsFor q bits = length-append input borrowed ∙ omega (arith, size, more) in
      let front : take n bits ≡ input = ap (λ (n : ℕ). take n bits) (sym size) ∙ take-append_seam input borrowed in
      let back : drop n bits ≡ borrowed = ap (λ (n : ℕ). drop n bits) (sym size) ∙ drop-append_seam input borrowed in
      record {
        mapped = same_in_place circuit.gates idle program.value (take n bits) input (zeros w ++ drop n bits) (zeros w ++ borrowed) front
            (ap (λ (z : List Bool). zeros w ++ z) back) (ended bits (are, ap (looked_by premise) front ∙ seen));
      };
}

pub agrees_where : (q : Comparison) → ((input : List Bool) → length (q.program.value input) ≡ q.program.outputs) → HasEnoughOutputs q
    → EndsRight q → Agrees q
agrees_where q = agrees_by q.program q.premise q.circuit q.placing q.borrow

pub agrees : (q : Comparison) (nodes : List Triple) (now want : List ℕ)
    → ((input : List Bool) → length (q.program.value input) ≡ q.program.outputs) → HasEnoughOutputs q → AreLookedEnds q nodes now want → now ≡ want
    → Agrees q
agrees q nodes now want many enough ends same = agrees_where q many enough (λ bits are.
    let a : Assignment = assignment_at (ordered_in q) bits in
    let ended : map (where_looked q (bits_in q a)) (line_map q.circuit.gates (start_on q (bits_in q a)))
    ≡ map (where_looked q (bits_in q a)) (wanted_on q (bits_in q a)) =
    sym (ends.now_are.same a) ∙ ap (λ (ns : List ℕ). map (λ n. function_of nodes n a) ns) same ∙ ends.want_are.same a in
    let there : map (where_looked q bits) (line_map q.circuit.gates (start_on q bits)) ≡ map (where_looked q bits) (wanted_on q bits) =
    subst (λ (z : List Bool). map (where_looked q z) (line_map q.circuit.gates (start_on q z)) ≡ map (where_looked q z) (wanted_on q z))
    (at_assignment q bits are.0) ended in
    sym (all_looked q bits (line_map q.circuit.gates (start_on q bits)) are.1) ∙ there ∙ all_looked q bits (wanted_on q bits) are.1)

-- ---- where two numbers differ

xor_apart : (x y : Bool) → xor x y ≡ true → x ≡ y → ⊥
xor_apart x y apart same = true≢false (sym apart ∙ ap (λ z. xor z y) same ∙ xor_same y)

not_apart : (x y : Bool) → ¬ (xor x y ≡ true) → x ≡ y
unfolding mathlib.Core.Bool.xor
not_apart true true no_xor = refl
not_apart true false no_xor = absurd (no_xor refl)
not_apart false true no_xor = absurd (no_xor refl)
not_apart false false no_xor = refl

-- bits that differ where the input is looked at
seen_apart : (x y l : Bool) → xor (x && l) (y && l) ≡ true → (l ≡ true) × (x ≡ y → ⊥)
seen_apart x y l apart = (looked_there x y l apart, λ same. xor_apart (x && l) (y && l) apart (ap (λ z. z && l) same))
  where
    looked_there : (x y l : Bool) → xor (x && l) (y && l) ≡ true → l ≡ true
    looked_there x y true apart = refl
    looked_there true true false apart = absurd (xor_apart false false apart refl)
    looked_there true false false apart = absurd (xor_apart false false apart refl)
    looked_there false true false apart = absurd (xor_apart false false apart refl)
    looked_there false false false apart = absurd (xor_apart false false apart refl)

seen_same : (x y l : Bool) → ¬ (xor (x && l) (y && l) ≡ true) → l ≡ true → x ≡ y
seen_same x y l no_xor is =
    let same : (x && l) ≡ (y && l) = not_apart (x && l) (y && l) no_xor in
    sym (always x) ∙ ap (λ z. x && z) (sym is) ∙ same ∙ ap (λ z. y && z) is ∙ always y

-- the bit of a number of an end, where the input is looked at
end_bit : (q : Comparison) (nodes : List Triple) (numbers : List ℕ) (value : List Bool → List Bool) (line : ℕ) (a : Assignment) → line < length numbers
    → AreNumbersOf q nodes numbers (λ bits. map (where_looked q bits) (value bits))
    → function_of nodes (get_or numbers line 0) a ≡ where_looked q (bits_in q a) (bit_of (value (bits_in q a)) line)
end_bit q nodes numbers value line a inside are =
    bit-at nodes numbers line a inside ∙ ap (λ (z : List Bool). bit_of z line) (are.same a) ∙ bit_looked q (bits_in q a) (value (bits_in q a)) line

-- a line below the first that differs is right
right_before : (q : Comparison) (nodes : List Triple) (now want : List ℕ) → AreLookedEnds q nodes now want → length want ≡ length now → (line : ℕ)
    → DifferAt now want line → (earlier : ℕ) → earlier < line → IsRight q earlier
right_before q nodes now want ends size line differ earlier low = λ bits are.
    let a : Assignment = assignment_at (ordered_in q) bits in
    let same : get_or now earlier 0 ≡ get_or want earlier 0 =
    sym (get_or-take line now earlier 0 low) ∙ ap (λ (ns : List ℕ). get_or ns earlier 0) differ.same ∙ get_or-take line want earlier 0 low in
    let ended : where_looked q (bits_in q a) (bit_of (line_map q.circuit.gates (start_on q (bits_in q a))) earlier)
    ≡ where_looked q (bits_in q a) (bit_of (wanted_on q (bits_in q a)) earlier) =
    sym (end_bit q nodes now (λ z. line_map q.circuit.gates (start_on q z)) earlier a (omega (arith, low, differ.inside)) ends.now_are)
    ∙ ap (λ (n : ℕ). function_of nodes n a) same
    ∙ end_bit q nodes want (wanted_on q) earlier a (omega (arith, low, differ.inside, size)) ends.want_are in
    let x : Bool = bit_of (line_map q.circuit.gates (start_on q bits)) earlier in
    let y : Bool = bit_of (wanted_on q bits) earlier in
    let there : (x && looked_on q bits) ≡ (y && looked_on q bits) =
    subst (λ (z : List Bool). where_looked q z (bit_of (line_map q.circuit.gates (start_on q z)) earlier)
    ≡ where_looked q z (bit_of (wanted_on q z) earlier)) (at_assignment q bits are.0) ended in
    sym (always x) ∙ ap (λ z. x && z) (sym are.1) ∙ there ∙ ap (λ z. y && z) are.1 ∙ always y

pub differs : (q : Comparison) (nodes : List Triple) (now want variables : List ℕ) (line : ℕ) (bits : List Bool) → HasEnoughLines q
    → AreGatesOn q.circuit.lines q.circuit.gates → AreLookedEnds q nodes now want → length want ≡ length now → DifferAt now want line
    → AreVariables (variables_in q) (order_in q) variables
    → IsLeastApart (exclusive_or (function_of nodes (get_or now line 0)) (function_of nodes (get_or want line 0))) variables bits
    → DiffersFirst q line bits
differs q nodes now want variables line bits enough placed ends size differ are least =
    let a : Assignment = least.assignment in
    let x : List Bool → Bool = λ z. bit_of (line_map q.circuit.gates (start_on q z)) line in
    let y : List Bool → Bool = λ z. bit_of (wanted_on q z) line in
    let f : List Bool → Bool = λ z. xor (x z && looked_on q z) (y z && looked_on q z) in
    let same : AreSame (exclusive_or (function_of nodes (get_or now line 0)) (function_of nodes (get_or want line 0))) (λ v. f (bits_in q v)) = λ v.
    ap₂ xor (end_bit q nodes now (λ z. line_map q.circuit.gates (start_on q z)) line v differ.inside ends.now_are)
    (end_bit q nodes want (wanted_on q) line v (omega (arith, differ.inside, size)) ends.want_are) in
    let on = least_on (ordered_in q) f (exclusive_or (function_of nodes (get_or now line 0)) (function_of nodes (get_or want line 0))) true a same
    least.least in
    let seen = seen_apart (x (bits_in q a)) (y (bits_in q a)) (looked_on q (bits_in q a)) on.gives in
    let count : length bits ≡ variables_in q = ap length least.are ∙ length-map variables a ∙ are.size in
    let there : bits ≡ bits_in q a = placed_bits (ordered_in q) a (λ i. get_or variables i 0) bits count are.at
    (λ i low. ap (λ (z : List Bool). bit_of z i) least.are ∙ get_or-map a variables i 0 false (omega (arith, low, are.size))) in
    let start : List Bool = start_on q (bits_in q a) in
    let long : length start ≡ q.circuit.lines = length-start_on q (bits_in q a) enough (length-bits_in q a) in
    let ended : length (line_map q.circuit.gates start) ≡ length start =
    length-line_map q.circuit.gates start (subst (λ (n : ℕ). AreGatesOn n q.circuit.gates) (sym long) placed) in
    subst (DiffersFirst q line) (sym there) (record {
      in_range = omega (
        arith,
        differ.inside,
        ended,
        long,
        length-numbers q nodes now (λ z. map (where_looked q z) (line_map q.circuit.gates (start_on q z))) a ends.now_are,
        length-map (line_map q.circuit.gates start) (where_looked q (bits_in q a)),
      );
      before = right_before q nodes now want ends size line differ;
      are_bits = (on.are_bits, seen.0);
      differs = seen.1;
      least = λ other looks before. seen_same (x other) (y other) (looked_on q other) (on.least other looks.0 before) looks.1;
    })

-- two numbers that differ are found to differ
pub found_apart : (d : DiagramView) (f g : ℕ) (found : Bool) (a : Assignment) → IsCanonical d → IsNumber d.nodes f → IsNumber d.nodes g → f ≢ g
    → (IsTrue found → IsLeast (exclusive_or (function_of d.nodes f) (function_of d.nodes g)) true a)
    → (IsFalse found → AreSame (function_of d.nodes f) (function_of d.nodes g))
    → IsLeast (exclusive_or (function_of d.nodes f) (function_of d.nodes g)) true a
found_apart d f g true a canonical left right apart least none = least refl
found_apart d f g false a canonical left right apart least none =
    absurd (apart (distinct_functions d.vars d.nodes canonical.ordered f g left right (none refl)))
