-- Negative controls and swaps: what stands around a flip under positive controls.
use Rattle.std.proofs.Common.{◌≡◌, ◌≢◌, ℕ, ◌<◌, Bool, true, false, not, cond, Option, Some, None, List, [], ◌∷◌, ◌++◌, length, map}
use Rattle.std.proofs.Common.{refl, sym, ap, ◌∙◌, subst, arith}
use Rattle.std.specs.List.{AllByRecursion, list_all}
use Rattle.std.proofs.lemmas.List.{get_or-set_same, append_assoc, map-append}
use Rattle.std.proofs.lemmas.Option.{same_Some}
use Rattle.list_facts.proofs.AllLemmas.{AllByRecursion-append, AllByRecursion-left, AllByRecursion-right}
use Rattle.list_facts.proofs.OrderLemmas.{AreDifferent-left, AreDifferent-parts}
use Rattle.mct_circuit.specs.declared.gate.Control.{Control}
use Rattle.mct_circuit.specs.declared.gate.Op.{Op}
use Rattle.mct_circuit.specs.declared.gate.Op.TheVariants.{Flip, Swap}
use Rattle.mct_circuit.specs.Gates.{GateView, is_met, after_gate, line_map, flip_of, positive, IsGateOn, AreGatesOn, IsNarrow, AreNarrow}
use Rattle.list_facts.specs.Bits.{bit_of}
use Rattle.list_facts.specs.Lists.{AreDifferent}
use Rattle.mct_circuit.proofs.ReversalLemmas.{line_map-append, length-line_map}
use Rattle.gate_split.specs.Split.{Avoids}
use Rattle.gate_split.specs.Split.{flips_of_negatives, split_positive, between, split_flip, split_op, split_gate, split_gates}
use Rattle.gate_split.proofs.SplitListLemmas.{parts_of}
use Rattle.gate_split.proofs.FlipLemmas.{all_on, flip_when, flips_meet, flip-flip, length-flip, bit_of-flip, met_same, swap_by_flips, length-flip_of}
use Rattle.gate_split.proofs.LadderLemmas.{Avoids-flip, heads_apart}
use Rattle.gate_split.proofs.EffectLemmas.{Does, alone, gate_on, positive_does}

abbrev pub lines : List Control → List ℕ
lines controls = map (λ (control : Control). control.line) controls

-- ---- flips of the lines of negative controls

one_negative : (p : Bool) (l : ℕ) (rest : List GateView) (bits : List Bool)
    → line_map (cond p rest (flip_of [] l ∷ rest)) bits ≡ line_map rest (flip_when (not p) l bits)
one_negative true l rest bits = refl
one_negative false l rest bits = refl

negatives_step : (c : Control) (cs : List Control) (bits : List Bool) → line_map (flips_of_negatives (c ∷ cs)) bits
    ≡ line_map (flips_of_negatives cs) (flip_when (not c.positive) c.line bits)
negatives_step c cs bits = one_negative c.positive c.line (flips_of_negatives cs) bits

negatives_commute : (cs : List Control) (b : Bool) (t : ℕ) (bits : List Bool) → Avoids t (lines cs)
    → line_map (flips_of_negatives cs) (flip_when b t bits) ≡ flip_when b t (line_map (flips_of_negatives cs) bits)
negatives_commute [] b t bits d = refl
negatives_commute (c ∷ cs) b t bits d =
    let N : List Bool → List Bool = line_map (flips_of_negatives cs) in
    negatives_step c cs (flip_when b t bits) ∙ ap N (flips_meet (not c.positive) b c.line t bits (λ e. d.0 (sym e)))
    ∙ negatives_commute cs b t (flip_when (not c.positive) c.line bits) d.1
    ∙ ap (flip_when b t) (sym (negatives_step c cs bits))

length-negatives : (cs : List Control) (bits : List Bool) → length (line_map (flips_of_negatives cs) bits) ≡ length bits
length-negatives [] bits = refl
length-negatives (c ∷ cs) bits = ap length (negatives_step c cs bits) ∙ length-negatives cs (flip_when (not c.positive) c.line bits)
    ∙ length-flip (not c.positive) c.line bits

below_length : (bits changed : List Bool) (ls : List ℕ) → length changed ≡ length bits → AllByRecursion (λ l. l < length bits) ls
    → AllByRecursion (λ l. l < length changed) ls
below_length bits changed ls e r = rw e r

negatives_twice : (cs : List Control) (bits : List Bool) → AreDifferent (lines cs) → AllByRecursion (λ l. l < length bits) (lines cs)
    → line_map (flips_of_negatives cs) (line_map (flips_of_negatives cs) bits) ≡ bits
negatives_twice [] bits d r = refl
negatives_twice (c ∷ cs) bits d r =
    let N : List Bool → List Bool = line_map (flips_of_negatives cs) in
    let F : List Bool → List Bool = flip_when (not c.positive) c.line in
    let low = below_length bits (F bits) (lines cs) (length-flip (not c.positive) c.line bits) r.1 in
    ap (line_map (flips_of_negatives (c ∷ cs))) (negatives_step c cs bits) ∙ negatives_step c cs (N (F bits))
    ∙ negatives_commute cs (not c.positive) c.line (N (F bits)) d.0
    ∙ ap F (negatives_twice cs (F bits) d.1 low) ∙ flip-flip (not c.positive) c.line bits r.0

bit_behind : (cs : List Control) (bits : List Bool) (line : ℕ) → Avoids line (lines cs) → bit_of (line_map (flips_of_negatives cs) bits) line ≡ bit_of bits line
bit_behind [] bits line d = refl
bit_behind (c ∷ cs) bits line d =
    ap (λ b. bit_of b line) (negatives_step c cs bits) ∙ bit_behind cs (flip_when (not c.positive) c.line bits) line d.1
    ∙ bit_of-flip (not c.positive) c.line line bits (λ e. d.0 (sym e))

turned : (p : Bool) (l : ℕ) (bits : List Bool) → l < length bits → bit_of (flip_when (not p) l bits) l ≡ is_met bits (record { line = l; positive = p })
turned true l bits h = refl
turned false l bits h = get_or-set_same bits l (not (bit_of bits l)) false h

others_same : (b : Bool) (l : ℕ) (bits : List Bool) (cs : List Control) → Avoids l (lines cs)
    → AllByRecursion (λ (control : Control). bit_of (flip_when b l bits) control.line ≡ bit_of bits control.line) cs
others_same b l bits [] d = tt
others_same b l bits (c ∷ cs) d = (bit_of-flip b l c.line bits d.0, others_same b l bits cs d.1)

-- between these flips the controls are met where all their lines are 1
met_between : (cs : List Control) (bits : List Bool) → AreDifferent (lines cs) → AllByRecursion (λ l. l < length bits) (lines cs)
    → all_on (line_map (flips_of_negatives cs) bits) (lines cs) ≡ list_all (is_met bits) cs
met_between [] bits d r = refl
met_between (c ∷ cs) bits d r =
    let F : List Bool = flip_when (not c.positive) c.line bits in
    let low = below_length bits F (lines cs) (length-flip (not c.positive) c.line bits) r.1 in
    let here : bit_of (line_map (flips_of_negatives cs) F) c.line ≡ is_met bits c = bit_behind cs F c.line d.0 ∙ turned c.positive c.line bits r.0 in
    let rest : all_on (line_map (flips_of_negatives cs) F) (lines cs) ≡ list_all (is_met bits) cs = met_between cs F d.1 low
    ∙ met_same bits F cs (others_same (not c.positive) c.line bits cs d.0) in
    ap (λ b. all_on b (lines (c ∷ cs))) (negatives_step c cs bits) ∙ rw (here, rest) refl

placed_one : (n : ℕ) (p : Bool) (l : ℕ) (rest : List GateView) → l < n → AreGatesOn n rest → AreGatesOn n (cond p rest (flip_of [] l ∷ rest))
placed_one n true l rest h r = r
placed_one n false l rest h r = (gate_on n [] l (tt, tt) (h, tt), r)

narrow_one : (p : Bool) (l : ℕ) (rest : List GateView) → AreNarrow rest → AreNarrow (cond p rest (flip_of [] l ∷ rest))
narrow_one true l rest r = r
narrow_one false l rest r = (record { controls = []; target = l; few = omega arith; is_flip = refl }, r)

negatives_placed : (n : ℕ) (cs : List Control) → AllByRecursion (λ l. l < n) (lines cs) → AreGatesOn n (flips_of_negatives cs)
negatives_placed n [] r = tt
negatives_placed n (c ∷ cs) r = placed_one n c.positive c.line (flips_of_negatives cs) r.0 (negatives_placed n cs r.1)

negatives_narrow : (cs : List Control) → AreNarrow (flips_of_negatives cs)
negatives_narrow [] = tt
negatives_narrow (c ∷ cs) = narrow_one c.positive c.line (flips_of_negatives cs) (negatives_narrow cs)

pub surrounded : (n : ℕ) (outer inner : List GateView) → AreGatesOn n outer → AreGatesOn n inner → AreGatesOn n (outer ++ inner ++ outer)
surrounded n outer inner o i = AllByRecursion-append (IsGateOn n) (outer ++ inner) outer (AllByRecursion-append (IsGateOn n) outer inner o i) o

pub surrounded_narrow : (outer inner : List GateView) → AreNarrow outer → AreNarrow inner → AreNarrow (outer ++ inner ++ outer)
surrounded_narrow outer inner o i = AllByRecursion-append IsNarrow (outer ++ inner) outer (AllByRecursion-append IsNarrow outer inner o i) o

surrounded_map : (outer inner : List GateView) (bits : List Bool) → line_map (outer ++ inner ++ outer) bits
    ≡ line_map outer (line_map inner (line_map outer bits))
surrounded_map outer inner bits = line_map-append (outer ++ inner) outer bits ∙ ap (line_map outer) (line_map-append outer inner bits)

-- a flip under any controls
pub flip_does : (n : ℕ) (controls : List Control) (target : ℕ) (inner : List GateView) → IsGateOn n (record { controls = controls; op = Flip target })
    → Does n inner (flip_of (lines controls) target)
    → Does n (flips_of_negatives controls ++ inner ++ flips_of_negatives controls) (record { controls = controls; op = Flip target })
flip_does n controls target inner g d =
    let outer = flips_of_negatives controls in
    let different = AreDifferent-left (lines controls) (target ∷ []) g.different in
    let low = AllByRecursion-left (λ l. l < n) (lines controls) (target ∷ []) g.in_range in
    let parts = AreDifferent-parts (lines controls) (target ∷ []) g.different in
    let off : Avoids target (lines controls) = Avoids-flip target (lines controls) (heads_apart target [] (lines controls) parts.0) in
    record {
      placed = surrounded n outer inner (negatives_placed n controls low) d.placed;
      narrow = surrounded_narrow outer inner (negatives_narrow controls) d.narrow;
      effect = λ bits e.
          let N : List Bool → List Bool = line_map outer in
          let low_bits : AllByRecursion (λ l. l < length bits) (lines controls) = rw e low in
          surrounded_map outer inner bits ∙ ap N (d.effect (N bits) (length-negatives controls bits ∙ e))
          ∙ ap (λ b. N (flip_when b target (N bits))) (met_between controls bits different low_bits)
          ∙ negatives_commute controls (list_all (is_met bits) controls) target (N bits) off
          ∙ ap (flip_when (list_all (is_met bits) controls) target) (negatives_twice controls bits different low_bits);
    }

-- ---- swaps

pub swap_gate : (n : ℕ) (controls : List Control) (a b : ℕ) → IsGateOn n (record { controls = controls; op = Swap a b })
    → IsGateOn n (record { controls = controls ++ positive a ∷ []; op = Flip b })
swap_gate n controls a b g =
    let same : lines (controls ++ positive a ∷ []) ++ b ∷ [] ≡ lines controls ++ (a ∷ b ∷ []) =
    ap (λ ls. ls ++ b ∷ []) (map-append (λ (control : Control). control.line) controls (positive a ∷ []))
    ∙ append_assoc (lines controls) (a ∷ []) (b ∷ []) in
    record { different = rw same g.different; in_range = rw same g.in_range }

off_lines : (a : ℕ) (controls : List Control) (others : List ℕ) → AllByRecursion (λ x. Avoids x (a ∷ others)) (lines controls)
    → AllByRecursion (λ (control : Control). a ≢ control.line) controls
off_lines a [] others p = tt
off_lines a (c ∷ cs) others p = ((λ e. p.0.0 (sym e)), off_lines a cs others p.1)

off_second : (a b : ℕ) (controls : List Control) → AllByRecursion (λ x. Avoids x (a ∷ b ∷ [])) (lines controls)
    → AllByRecursion (λ (control : Control). b ≢ control.line) controls
off_second a b [] p = tt
off_second a b (c ∷ cs) p = ((λ e. p.0.1.0 (sym e)), off_second a b cs p.1)

pub swap_does : (n : ℕ) (controls : List Control) (a b : ℕ) (inner : List GateView) → IsGateOn n (record { controls = controls; op = Swap a b })
    → Does n inner (record { controls = controls ++ positive a ∷ []; op = Flip b })
    → Does n ((flip_of (b ∷ []) a ∷ []) ++ inner ++ (flip_of (b ∷ []) a ∷ [])) (record { controls = controls; op = Swap a b })
swap_does n controls a b inner g d =
    let parts = AreDifferent-parts (lines controls) (a ∷ b ∷ []) g.different in
    let low = AllByRecursion-right (λ l. l < n) (lines controls) (a ∷ b ∷ []) g.in_range in
    let apart : a ≢ b = parts.1.0.0 in
    let outer_gate : IsGateOn n (flip_of (b ∷ []) a) = gate_on n (b ∷ []) a (((λ e. apart (sym e)), tt), (tt, tt)) (low.1.0, (low.0, tt)) in
    let outer = alone n (b ∷ []) a outer_gate (omega arith) in
    record {
      placed = surrounded n (flip_of (b ∷ []) a ∷ []) inner outer.placed d.placed;
      narrow = surrounded_narrow (flip_of (b ∷ []) a ∷ []) inner outer.narrow d.narrow;
      effect = λ bits e.
          let one : List Bool = after_gate (flip_of (b ∷ []) a) bits in
          surrounded_map (flip_of (b ∷ []) a ∷ []) inner bits ∙ ap (after_gate (flip_of (b ∷ []) a)) (d.effect one (length-flip_of (b ∷ []) a bits ∙ e))
          ∙ swap_by_flips bits a b controls (rw e low.0) (rw e low.1.0) apart (off_lines a controls (b ∷ []) parts.0) (off_second a b controls parts.0);
    }

-- ---- one gate

between_some : (outer : List GateView) (o : Option (List GateView)) (gates : List GateView) → between outer o ≡ Some gates → (inner : List GateView)
    × (o ≡ Some inner) × (gates ≡ outer ++ inner ++ outer)
between_some outer None gates e = absurd (cc)
between_some outer (Some inner) gates e = (inner, refl, (let s : gates ≡ outer ++ inner ++ outer = cc in s))

pub lines_gate : (n : ℕ) (controls : List Control) (target : ℕ) → IsGateOn n (record { controls = controls; op = Flip target })
    → IsGateOn n (flip_of (lines controls) target)
lines_gate n controls target g = gate_on n (lines controls) target g.different g.in_range

flip_split_does : (n : ℕ) (controls : List Control) (target : ℕ) (gates : List GateView) → IsGateOn n (record { controls = controls; op = Flip target })
    → split_flip n controls target ≡ Some gates → Does n gates (record { controls = controls; op = Flip target })
flip_split_does n controls target gates g e =
    let s = between_some (flips_of_negatives controls) (split_positive n (lines controls) target) gates e in
    subst (λ (l : List GateView). Does n l (record { controls = controls; op = Flip target })) (sym s.2)
    (flip_does n controls target s.0 g (positive_does n (lines controls) target s.0 (lines_gate n controls target g) s.1))

op_split_does : (n : ℕ) (controls : List Control) (op : Op) (gates : List GateView) → IsGateOn n (record { controls = controls; op = op })
    → split_op n controls op ≡ Some gates → Does n gates (record { controls = controls; op = op })
op_split_does n controls (Flip t) gates g e = flip_split_does n controls t gates g e
op_split_does n controls (Swap a b) gates g e =
    let s = between_some (flip_of (b ∷ []) a ∷ []) (split_flip n (controls ++ positive a ∷ []) b) gates e in
    subst (λ (l : List GateView). Does n l (record { controls = controls; op = Swap a b })) (sym s.2)
    (swap_does n controls a b s.0 g (flip_split_does n (controls ++ positive a ∷ []) b s.0 (swap_gate n controls a b g) s.1))

pub split_gate_does : (n : ℕ) (gate : GateView) (gates : List GateView) → IsGateOn n gate → split_gate n gate ≡ Some gates → Does n gates gate
split_gate_does n gate gates g e = op_split_does n gate.controls gate.op gates g e

-- ---- many gates

pub record DoesAll (n : ℕ) (gates result : List GateView) : Type 0 where
  pub narrow : AreNarrow result
  pub placed : AreGatesOn n result
  pub effect : (bits : List Bool) → length bits ≡ n → line_map result bits ≡ line_map gates bits

pub split_gates_do : (n : ℕ) (gates result : List GateView) → AreGatesOn n gates → split_gates n gates ≡ Some result → DoesAll n gates result
split_gates_do n [] result g e = subst (DoesAll n []) (same_Some _ _ e) (record { narrow = tt; placed = tt; effect = λ bits long. refl })
split_gates_do n (x ∷ xs) result g e =
    let parts = parts_of (split_gate n x) (split_gates n xs) result e in
    let one = split_gate_does n x parts.first g.0 parts.first_is in
    let rest = split_gates_do n xs parts.rest g.1 parts.rest_is in
    subst (DoesAll n (x ∷ xs)) parts.all (record {
      narrow = AllByRecursion-append IsNarrow parts.first parts.rest one.narrow rest.narrow;
      placed = AllByRecursion-append (IsGateOn n) parts.first parts.rest one.placed rest.placed;
      effect = λ bits long.
          let behind : length (line_map parts.first bits) ≡ n = length-line_map parts.first bits (rw long one.placed) ∙ long in
          line_map-append parts.first parts.rest bits ∙ rest.effect (line_map parts.first bits) behind ∙ ap (line_map xs) (one.effect bits long);
    })
