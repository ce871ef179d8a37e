-- Gates on planes, a place at a time.
use Rattle.std.proofs.Common.{◌≡◌, ℕ, ◌+◌, ◌-◌, ◌^◌, ◌<◌, ◌≤◌, Bool, true, false, not, ◌&&◌, cond, List, [], ◌∷◌, ◌++◌, length, get_or, set, take, drop}
use Rattle.std.proofs.Common.{subst, bit_xor, refl, sym, ap, ◌∙◌, arith}
use Rattle.std.specs.Bool.{xor}
use Rattle.std.specs.List.{AllByRecursion, list_all}
use Rattle.std.proofs.lemmas.List.{get_or-map, length-map, map-set, take_more, take_all, drop_all, set-get_or}
use Rattle.std.proofs.lemmas.List.Folds.{list_all-append}
use Rattle.list_facts.specs.Bits.{bit_of}
use Rattle.list_facts.proofs.BitLemmas.{xor_swap}
use Rattle.mct_circuit.specs.declared.gate.Control.{Control}
use Rattle.mct_circuit.specs.declared.gate.Op.TheVariants.{Flip, Swap}
use Rattle.mct_circuit.specs.Gates.{AreGatesOn, GateView, is_met, after_op, line_map, lines_of}
use Rattle.mct_circuit.proofs.FlipLemmas.{flip_sets}
use Rattle.mct_circuit.proofs.ReversalLemmas.{swap_is}
use Rattle.mct_circuit.proofs.GateListLemmas.{line_map_more, lines_below}
use Rattle.circuit_sim.specs.Planes.{plane_bit, column, AreMapped}
use Rattle.circuit_sim.specs.inside.Masks.{IsMask, IsNarrowed, IsChosen}
use Rattle.circuit_sim.proofs.PlaneLemmas.{plane_bit-xor, plane_bit-ones}

-- ---- columns

pub bit_of-column : (planes : List ℕ) (line place : ℕ) → line < length planes → bit_of (column place planes) line ≡ plane_bit place (get_or planes line 0)
bit_of-column planes line place low = get_or-map (plane_bit place) planes line 0 false low

-- ---- the mask of the controls

pub mask_begun : (planes : List ℕ) → IsMask planes [] (2 ^ 64 - 1)
mask_begun planes = record { each = plane_bit-ones }

met_more : (tests : Bool) (positive : Bool) (at there : Bool) → at ≡ there
    → (tests && cond positive at (not at)) ≡ (tests && (cond positive there (not there) && true))
met_more true true true true e = refl
met_more true true false false e = refl
met_more true false true true e = refl
met_more true false false false e = refl
met_more false positive at there e = refl
met_more true positive true false e = absurd cc
met_more true positive false true e = absurd cc

pub mask_more : (planes : List ℕ) (controls : List Control) (i : ℕ) (d control : Control) (mask plane narrowed : ℕ) → i < length controls
    → control ≡ get_or controls i d → control.line < length planes → plane ≡ get_or planes control.line 0 → IsMask planes (take i controls) mask
    → IsNarrowed mask plane control.positive narrowed → IsMask planes (take (i + 1) controls) narrowed
mask_more planes controls i d control mask plane narrowed inside is low same masks step = record {
  each = λ place below.
      let bits = column place planes in
      let here : plane_bit place plane ≡ bit_of bits control.line = ap (plane_bit place) same ∙ sym (bit_of-column planes control.line place low) in
      step.each place
      ∙ ap (λ (b : Bool). b && cond control.positive (plane_bit place plane) (not (plane_bit place plane))) (masks.each place below)
      ∙ met_more (list_all (is_met bits) (take i controls)) control.positive (plane_bit place plane) (bit_of bits control.line) here
      ∙ sym (list_all-append (is_met bits) (take i controls) (control ∷ []))
      ∙ ap (λ (c : Control). list_all (is_met bits) (take i controls ++ c ∷ [])) is
      ∙ ap (list_all (is_met bits)) (sym (take_more controls i d inside));
}

pub mask_done : (planes : List ℕ) (controls : List Control) (i mask : ℕ) → length controls ≤ i → IsMask planes (take i controls) mask
    → IsMask planes controls mask
mask_done planes controls i mask over masks = rw (take_all i controls over) at masks

-- ---- one gate

pub flip_mapped : (gate : GateView) (planes : List ℕ) (target mask : ℕ) → gate.op ≡ Flip target → target < length planes
    → IsMask planes gate.controls mask → AreMapped (gate ∷ []) planes (set planes target (bit_xor (get_or planes target 0) mask))
flip_mapped gate planes target mask is low masks = record {
  each = λ place below.
      let bits = column place planes in
      let met = list_all (is_met bits) gate.controls in
      map-set (plane_bit place) planes target (bit_xor (get_or planes target 0) mask)
      ∙ ap (set bits target) (plane_bit-xor place (get_or planes target 0) mask
      ∙ xor_swap (plane_bit place (get_or planes target 0)) (plane_bit place mask)
      ∙ ap (λ (b : Bool). xor b (plane_bit place (get_or planes target 0))) (masks.each place below)
      ∙ ap (xor met) (sym (bit_of-column planes target place low)))
      ∙ sym (flip_sets gate.controls target bits)
      ∙ ap (λ op. cond met (after_op op bits) bits) (sym is);
}

swapped_if : (met : Bool) (bits : List Bool) (first second : ℕ) (at_first at_second : Bool) → first < length bits → second < length bits
    → at_first ≡ bit_of bits first → at_second ≡ bit_of bits second
    → set (set bits first (cond met at_second at_first)) second (cond met at_first at_second) ≡ cond met (after_op (Swap first second) bits) bits
swapped_if true bits first second at_first at_second low high e f = rw (e, f) (sym (swap_is bits first second low high))
swapped_if false bits first second at_first at_second low high e f = rw (e, f, set-get_or bits first false) (set-get_or bits second false)

pub swap_mapped : (gate : GateView) (planes : List ℕ) (first second mask there back : ℕ) → gate.op ≡ Swap first second → first < length planes
    → second < length planes → IsMask planes gate.controls mask → IsChosen mask (get_or planes second 0) (get_or planes first 0) there
    → IsChosen mask (get_or planes first 0) (get_or planes second 0) back → AreMapped (gate ∷ []) planes (set (set planes first there) second back)
swap_mapped gate planes first second mask there back is low high masks at_first at_second = record {
  each = λ place below.
      let bits = column place planes in
      let met = list_all (is_met bits) gate.controls in
      let long : length bits ≡ length planes = length-map planes (plane_bit place) in
      let one = plane_bit place (get_or planes first 0) in
      let other = plane_bit place (get_or planes second 0) in
      map-set (plane_bit place) (set planes first there) second back
      ∙ ap (λ (bs : List Bool). set bs second (plane_bit place back)) (map-set (plane_bit place) planes first there)
      ∙ ap (λ (b : Bool). set (set bits first b) second (plane_bit place back)) (at_first.each place
      ∙ ap (λ (m : Bool). cond m other one) (masks.each place below))
      ∙ ap (λ (b : Bool). set (set bits first (cond met other one)) second b) (at_second.each place
      ∙ ap (λ (m : Bool). cond m one other) (masks.each place below))
      ∙ swapped_if met bits first second one other (omega arith) (omega arith) (sym (bit_of-column planes first place low))
      (sym (bit_of-column planes second place high))
      ∙ ap (λ op. cond met (after_op op bits) bits) (sym is);
}

-- ---- gates one after another

-- the lines of the next gate are among as many planes as the circuit has lines
pub item_below : {n lines : ℕ} {gates items : List GateView} {i : ℕ} {gate : GateView} → AreGatesOn lines gates → items ≡ gates → i < length items
    → gate ≡ get_or items i gate → n ≡ lines → AllByRecursion (λ line. line < n) (lines_of gate)
item_below {items = items} {i = i} {gate = gate} placed same inside is as_many =
    rw as_many (lines_below _ items i gate (rw same placed) inside is)

-- what the gates that are left make of the planes is what all of them make of the planes at the start
pub record IsUnderway (gates : List GateView) (done : ℕ) (before now : List ℕ) : Type 0 where
  pub each : (place : ℕ) → place < 64 → line_map (drop done gates) (column place now) ≡ line_map gates (column place before)

pub gates_begun : (gates : List GateView) (planes : List ℕ) → IsUnderway gates 0 planes planes
gates_begun gates planes = record { each = λ place below. refl }

pub gates_more : (gates : List GateView) (done : ℕ) (gate : GateView) (before now next : List ℕ) → done < length gates → gate ≡ get_or gates done gate
    → IsUnderway gates done before now → AreMapped (gate ∷ []) now next → IsUnderway gates (done + 1) before next
gates_more gates done gate before now next inside is underway step = record {
  each = λ place below.
      ap (line_map (drop (done + 1) gates)) (step.each place below)
      ∙ line_map_more gates done gate (column place now) (line_map gates (column place before)) inside is (underway.each place below);
}

pub gates_done : (gates items : List GateView) (done : ℕ) (before now : List ℕ) → items ≡ gates → length items ≤ done
    → IsUnderway items done before now → AreMapped gates before now
gates_done gates items done before now same over underway = subst (λ gs. AreMapped gs before now) same (record {
  each = λ place below. ap (λ gs. line_map gs (column place now)) (sym (drop_all done items over)) ∙ underway.each place below;
})

pub ruleset walking = (gates_begun, gates_more, gates_done)
