-- The functions of the lines, gate by gate.
use Rattle.std.proofs.Common.{◌≡◌, ℕ, ◌+◌, ◌<◌, ◌≤◌, Bool, true, false, not, ◌&&◌, if◌then◌else◌, List, [], ◌∷◌, ◌++◌, length, take, set, get_or}
use Rattle.std.proofs.Common.{refl, sym, ap, ap₂, ◌∙◌, arith, Result}
use Rattle.std.specs.Bool.{xor}
use Rattle.std.specs.List.{AllByRecursion, list_all}
use Rattle.std.proofs.lemmas.Bool.{and_parts}
use Rattle.std.proofs.lemmas.List.{get_or-set_same, get_or_read, length-map, map-set, take_more}
use Rattle.list_facts.specs.Bits.{bit_of}
use Rattle.list_facts.proofs.AllLemmas.{AllByRecursion-set}
use Rattle.list_facts.proofs.BitLemmas.{xor_swap}
use Rattle.decision_diagram.specs.Diagrams.{DiagramView, IsNumber, Triple, function_of}
use Rattle.decision_diagram.specs.Functions.{AreSame, Assignment, flipped}
use Rattle.decision_diagram.specs.declared.node.DdFault.{DdFault}
use Rattle.decision_diagram.specs.Growth.{Computes, KeepsNodes, StandsFor}
use Rattle.decision_diagram.proofs.GrowthLemmas.{computes_same}
use Rattle.mct_circuit.specs.declared.gate.Control.{Control}
use Rattle.mct_circuit.specs.declared.gate.Op.{Op}
use Rattle.mct_circuit.specs.declared.gate.Op.TheVariants.{Flip}
use Rattle.mct_circuit.specs.Gates.{GateView, after_gate, is_met, line_map}
use Rattle.mct_circuit.proofs.FlipLemmas.{flip_sets}
use Rattle.mct_circuit.proofs.ReversalLemmas.{line_map-append}
use Rattle.circuit_verify.specs.Comparisons.{Comparison, start_on}
use Rattle.circuit_verify.specs.inside.Numbers.{AreKnown, AreNumbersOf, bits_in, bits_under, control_numbers, line_function_of}
use Rattle.circuit_verify.proofs.NumberLemmas.{bit-at, known-at, numbers-grown}

-- ---- controls

pub positive_met : (bits : List Bool) (control : Control) → control.positive ≡ true → is_met bits control ≡ bit_of bits control.line
positive_met bits control positive = ap (λ p. if p then bit_of bits control.line else not (bit_of bits control.line)) positive

-- all controls are met where both of their numbers have 1
pub controls_met : (table : List Triple) (lines : List ℕ) (always : ℕ) (a : Assignment) (controls : List Control) → length controls ≤ 2
    → list_all (λ (control : Control). control.positive) controls ≡ true
    → AllByRecursion (λ (control : Control). control.line < length lines) controls → function_of table always a ≡ true
    → list_all (is_met (bits_under table lines a)) controls
    ≡ (function_of table (control_numbers lines always controls).0 a && function_of table (control_numbers lines always controls).1 a)
controls_met table lines always a [] few positive inside is = sym (ap₂ ◌&&◌ is is)
controls_met table lines always a (c ∷ []) few positive inside is =
    let own = and_parts c.positive true positive in
    ap₂ ◌&&◌ (positive_met (bits_under table lines a) c own.0 ∙ sym (bit-at table lines c.line a inside.0)) (sym is)
controls_met table lines always a (c ∷ (d ∷ [])) few positive inside is =
    let own = and_parts c.positive (d.positive && true) positive in
    let other = and_parts d.positive true own.1 in
    let bits : List Bool = bits_under table lines a in
    ap₂ ◌&&◌ (positive_met bits c own.0 ∙ sym (bit-at table lines c.line a inside.0))
    (alone (is_met bits d) ∙ positive_met bits d other.0 ∙ sym (bit-at table lines d.line a inside.1.0))
  where
    alone : (b : Bool) → (b && true) ≡ b
    alone true = refl
    alone false = refl
controls_met table lines always a (c ∷ (d ∷ (e ∷ rest))) few positive inside is = absurd (omega (arith, few))

pub controls_known : (table : List Triple) (lines : List ℕ) (always : ℕ) (controls : List Control) → AreKnown table lines → IsNumber table always
    → AllByRecursion (λ (control : Control). control.line < length lines) controls
    → IsNumber table (control_numbers lines always controls).0 × IsNumber table (control_numbers lines always controls).1
controls_known table lines always [] known is inside = (is, is)
controls_known table lines always (c ∷ []) known is inside = (known-at table lines c.line known inside.0, is)
controls_known table lines always (c ∷ (d ∷ rest)) known is inside =
    (known-at table lines c.line known inside.0, known-at table lines d.line known inside.1.0)

-- ---- one gate

-- a flip sets its target
pub gate_sets : (gate : GateView) (target : ℕ) (bits : List Bool) → gate.op ≡ Flip target
    → after_gate gate bits ≡ set bits target (xor (list_all (is_met bits) gate.controls) (bit_of bits target))
gate_sets gate target bits is =
    ap (λ (op : Op). after_gate (record { controls = gate.controls; op = op }) bits) is ∙ flip_sets gate.controls target bits

pub flip_is : (table : List Triple) (lines : List ℕ) (gate : GateView) (target always : ℕ) → gate.op ≡ Flip target → target < length lines
    → length gate.controls ≤ 2 → list_all (λ (control : Control). control.positive) gate.controls ≡ true
    → AllByRecursion (λ (control : Control). control.line < length lines) gate.controls → StandsFor table always (λ a. true)
    → AreSame (flipped (function_of table (get_or lines target 0)) (function_of table (control_numbers lines always gate.controls).0)
    (function_of table (control_numbers lines always gate.controls).1)) (line_function_of table lines gate target)
flip_is table lines gate target always flips inside few positive placed is = λ a.
    let bits : List Bool = bits_under table lines a in
    let met : Bool = list_all (is_met bits) gate.controls in
    ap₂ xor (bit-at table lines target a inside) (sym (controls_met table lines always a gate.controls few positive placed (is.same a)))
    ∙ xor_swap (bit_of bits target) met
    ∙ sym (ap (λ (z : List Bool). bit_of z target) (gate_sets gate target bits flips)
    ∙ get_or-set_same bits target (xor met (bit_of bits target)) false (omega (arith, inside, length-map lines (λ n. function_of table n a))))

pub flip_made : (lines : List ℕ) (gate : GateView) (target always number left right : ℕ) (controls : List Control) (old new : DiagramView)
    (r : Result ℕ DdFault) → gate.op ≡ Flip target → target < length lines → length gate.controls ≤ 2
    → list_all (λ (control : Control). control.positive) gate.controls ≡ true
    → AllByRecursion (λ (control : Control). control.line < length lines) gate.controls → StandsFor old.nodes always (λ a. true)
    → number ≡ get_or lines target number → controls ≡ gate.controls → (left, right) ≡ control_numbers lines always controls
    → Computes (flipped (function_of old.nodes number) (function_of old.nodes left) (function_of old.nodes right)) old new r
    → Computes (line_function_of old.nodes lines gate target) old new r
flip_made lines gate target always number left right controls old new r flips inside few positive placed stands read are both made =
    let one : number ≡ get_or lines target 0 = get_or_read lines target number inside read 0 in
    let pair : (left, right) ≡ control_numbers lines always gate.controls = both ∙ ap (control_numbers lines always) are in
    let first : left ≡ (control_numbers lines always gate.controls).0 = ap (λ (p : ℕ × ℕ). p.0) pair in
    let second : right ≡ (control_numbers lines always gate.controls).1 = ap (λ (p : ℕ × ℕ). p.1) pair in
    computes_same (line_function_of old.nodes lines gate target)
    (flipped (function_of old.nodes number) (function_of old.nodes left) (function_of old.nodes right)) old new r
    (λ a. ap₂ xor (ap (λ n. function_of old.nodes n a) one)
    (ap₂ ◌&&◌ (ap (λ n. function_of old.nodes n a) first) (ap (λ n. function_of old.nodes n a) second))
    ∙ flip_is old.nodes lines gate target always flips inside few positive placed stands a) made

-- a flip changes nothing but its target
pub same_elsewhere : (gate : GateView) (target : ℕ) (bits : List Bool) → gate.op ≡ Flip target → target < length bits
    → set bits target (bit_of (after_gate gate bits) target) ≡ after_gate gate bits
same_elsewhere gate target bits is inside =
    let bit : Bool = xor (list_all (is_met bits) gate.controls) (bit_of bits target) in
    ap (λ (z : List Bool). set bits target (bit_of z target)) (gate_sets gate target bits is)
    ∙ ap (set bits target) (get_or-set_same bits target bit false inside) ∙ sym (gate_sets gate target bits is)

-- ---- one gate after another

pub line_map_next : (gates : List GateView) (k : ℕ) (gate : GateView) (bits : List Bool) → k < length gates → get_or gates k gate ≡ gate
    → line_map (take (k + 1) gates) bits ≡ after_gate gate (line_map (take k gates) bits)
line_map_next gates k gate bits inside at =
    ap (λ (gs : List GateView). line_map gs bits) (take_more gates k gate inside ∙ ap (λ g. take k gates ++ g ∷ []) at)
    ∙ line_map-append (take k gates) (gate ∷ []) bits

-- the numbers of the lines behind one more gate
pub lines_next : (q : Comparison) (old new : DiagramView) (lines : List ℕ) (k h target : ℕ) (gate : GateView) → k < length q.circuit.gates
    → get_or q.circuit.gates k gate ≡ gate → gate.op ≡ Flip target → target < length lines → KeepsNodes old new
    → StandsFor new.nodes h (line_function_of old.nodes lines gate target)
    → AreNumbersOf q old.nodes lines (λ bits. line_map (take k q.circuit.gates) (start_on q bits))
    → AreNumbersOf q new.nodes (set lines target h) (λ bits. line_map (take (k + 1) q.circuit.gates) (start_on q bits))
lines_next q old new lines k h target gate inside at flips low kept stands are =
    let grown = numbers-grown q old new kept lines (λ bits. line_map (take k q.circuit.gates) (start_on q bits)) are in
    record {
      known = AllByRecursion-set (IsNumber new.nodes) lines target h grown.known stands.known;
      same = λ a.
          let here : List Bool = line_map (take k q.circuit.gates) (start_on q (bits_in q a)) in
          let size : target < length here =
          omega (arith, low, length-map lines (λ n. function_of old.nodes n a), ap length (are.same a)) in
          map-set (λ n. function_of new.nodes n a) lines target h
          ∙ ap₂ (λ (z : List Bool) (b : Bool). set z target b) (grown.same a)
          (stands.same a ∙ ap (λ (z : List Bool). bit_of (after_gate gate z) target) (are.same a))
          ∙ same_elsewhere gate target here flips size
          ∙ sym (line_map_next q.circuit.gates k gate (start_on q (bits_in q a)) inside at);
    }
