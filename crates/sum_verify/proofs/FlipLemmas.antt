-- The forms of the lines, gate by gate.
use Rattle.std.proofs.Common.{◌≡◌, ℕ, ◌+◌, ◌<◌, ◌≤◌, Bool, true, false, ◌&&◌, List, [], ◌∷◌}
use Rattle.std.proofs.Common.{length, map, take, set, get_or, refl, sym, ap, ap₂, ◌∙◌, subst, arith}
use Rattle.std.specs.Bool.{xor}
use Rattle.std.specs.List.{AllByRecursion, list_all}
use Rattle.std.proofs.lemmas.Bool.{and_parts}
use Rattle.std.proofs.lemmas.List.{get_or-map, get_or-set_same, get_or_read, length-map, length-set, map-set, take_all}
use Rattle.list_facts.specs.Bits.{bit_of}
use Rattle.list_facts.proofs.AllLemmas.{AllByRecursion-at}
use Rattle.list_facts.proofs.BitLemmas.{xor_swap}
use Rattle.linear_forms.specs.Bases.{no_form}
use Rattle.linear_forms.specs.Forms.{FormView, IsSum, form_value}
use Rattle.product_sums.specs.Products.{Extends, IsDetermined, IsProduct, ProductsView}
use Rattle.mct_circuit.specs.declared.gate.Control.{Control}
use Rattle.mct_circuit.specs.declared.gate.Op.TheVariants.{Flip}
use Rattle.mct_circuit.specs.Gates.{GateView, IsGateOn, IsNarrow, after_gate, is_met, line_map, targets_of}
use Rattle.mct_circuit.proofs.GateListLemmas.{controls_below}
use Rattle.gate_split.proofs.PieceLemmas.{narrow_is_positive}
use Rattle.circuit_verify.specs.Comparisons.{Comparison, start_on}
use Rattle.circuit_verify.proofs.LineLemmas.{gate_sets, line_map_next, positive_met, same_elsewhere}
use Rattle.circuit_verify.proofs.StepLemmas.{target_inside}
use Rattle.sum_verify.specs.inside.Forms.{AreDetermined, AreFormsOf, IsFlipped, form_at}
use Rattle.sum_verify.proofs.FormLemmas.{forms_same, under_before}

-- ---- one gate

-- the bit of a line by its form
pub line_bit : (lines : List FormView) (i : ℕ) (atom : ℕ → Bool) → i < length lines
    → bit_of (map (form_value atom) lines) i ≡ form_value atom (form_at lines i)
line_bit lines i atom low = get_or-map (form_value atom) lines i no_form false low

-- the target behind a gate, where its controls are met by this bit
flips : (lines : List FormView) (gate : GateView) (target : ℕ) (atom : ℕ → Bool) (met : Bool) → gate.op ≡ Flip target → target < length lines
    → list_all (is_met (map (form_value atom) lines)) gate.controls ≡ met
    → bit_of (after_gate gate (map (form_value atom) lines)) target ≡ xor met (form_value atom (form_at lines target))
flips lines gate target atom met is low controls =
    let bits : List Bool = map (form_value atom) lines in
    ap (λ (z : List Bool). bit_of z target) (gate_sets gate target bits is)
    ∙ get_or-set_same bits target (xor (list_all (is_met bits) gate.controls) (bit_of bits target)) false
    (omega (arith, low, length-map lines (form_value atom)))
    ∙ ap₂ xor controls (line_bit lines target atom low)

met_by : (lines : List FormView) (control : Control) (atom : ℕ → Bool) → control.positive ≡ true → control.line < length lines
    → is_met (map (form_value atom) lines) control ≡ form_value atom (form_at lines control.line)
met_by lines control atom positive low = positive_met (map (form_value atom) lines) control positive ∙ line_bit lines control.line atom low

and_true : (b : Bool) → (b && true) ≡ b
and_true true = refl
and_true false = refl

-- a narrow gate whose target and controls are lines
pub record IsPlaced (lines : List FormView) (gate : GateView) (target : ℕ) (controls : List Control) : Type 0 where
  pub flips : gate.op ≡ Flip target
  pub target_in : target < length lines
  pub are : controls ≡ gate.controls
  pub positive : list_all (λ (control : Control). control.positive) gate.controls ≡ true
  pub controls_in : AllByRecursion (λ (control : Control). control.line < length lines) gate.controls

pub flipped_always : (t : ProductsView) (lines : List FormView) (gate : GateView) (target : ℕ) (f : FormView) → IsPlaced lines gate target []
    → ((atom : ℕ → Bool) → form_value atom f ≡ xor true (form_value atom (form_at lines target))) → IsFlipped t lines gate target f
flipped_always t lines gate target f placed is = record {
  same = λ atom respects.
      is atom
      ∙ sym (flips lines gate target atom true placed.flips placed.target_in
      (ap (list_all (is_met (map (form_value atom) lines))) (sym placed.are)));
}

pub flipped_by_one : (t : ProductsView) (lines : List FormView) (gate : GateView) (target : ℕ) (c : Control) (f : FormView)
    → IsPlaced lines gate target (c ∷ []) → IsSum (form_at lines target) (form_at lines c.line) f → IsFlipped t lines gate target f
flipped_by_one t lines gate target c f placed is =
    let inside = subst (AllByRecursion (λ (control : Control). control.line < length lines)) (sym placed.are) placed.controls_in in
    let positive = ap (list_all (λ (control : Control). control.positive)) placed.are ∙ placed.positive in
    record {
      same = λ atom respects.
          let bits : List Bool = map (form_value atom) lines in
          is atom
          ∙ xor_swap (form_value atom (form_at lines target)) (form_value atom (form_at lines c.line))
          ∙ sym (flips lines gate target atom (form_value atom (form_at lines c.line)) placed.flips placed.target_in
          (ap (list_all (is_met bits)) (sym placed.are) ∙ and_true (is_met bits c)
          ∙ met_by lines c atom (and_parts c.positive true positive).0 inside.0));
    }

pub flipped_by_two : (t : ProductsView) (lines : List FormView) (gate : GateView) (target : ℕ) (c d : Control) (product f : FormView)
    → IsPlaced lines gate target (c ∷ (d ∷ [])) → IsProduct t (form_at lines c.line) (form_at lines d.line) product
    → IsSum (form_at lines target) product f → IsFlipped t lines gate target f
flipped_by_two t lines gate target c d product f placed made is =
    let inside = subst (AllByRecursion (λ (control : Control). control.line < length lines)) (sym placed.are) placed.controls_in in
    let positive = ap (list_all (λ (control : Control). control.positive)) placed.are ∙ placed.positive in
    let own = and_parts c.positive (d.positive && true) positive in
    record {
      same = λ atom respects.
          let bits : List Bool = map (form_value atom) lines in
          let x : Bool = form_value atom (form_at lines c.line) in
          let y : Bool = form_value atom (form_at lines d.line) in
          is atom
          ∙ ap (xor (form_value atom (form_at lines target))) (made atom respects)
          ∙ xor_swap (form_value atom (form_at lines target)) (x && y)
          ∙ sym (flips lines gate target atom (x && y) placed.flips placed.target_in
          (ap (list_all (is_met bits)) (sym placed.are)
          ∙ ap₂ ◌&&◌ (met_by lines c atom own.0 inside.0)
          (and_true (is_met bits d) ∙ met_by lines d atom (and_parts d.positive true own.1).0 inside.1.0)));
    }

-- ---- by what was read

abbrev pub no_control : Control
no_control = record { line = 0; positive = false }

abbrev pub control_at : List Control → ℕ → Control
control_at controls i = get_or controls i no_control

no_controls : (cs : List Control) → length cs < 1 → cs ≡ []
no_controls [] few = refl
no_controls (c ∷ cs) few = absurd (omega (arith, few))

one_control : (cs : List Control) → 1 ≤ length cs → length cs < 2 → cs ≡ control_at cs 0 ∷ []
one_control [] some few = absurd (omega (arith, some))
one_control (c ∷ []) some few = refl
one_control (c ∷ (d ∷ cs)) some few = absurd (omega (arith, few))

two_controls : (cs : List Control) → 2 ≤ length cs → length cs ≤ 2 → cs ≡ control_at cs 0 ∷ (control_at cs 1 ∷ [])
two_controls [] some few = absurd (omega (arith, some))
two_controls (c ∷ []) some few = absurd (omega (arith, some))
two_controls (c ∷ (d ∷ [])) some few = refl
two_controls (c ∷ (d ∷ (e ∷ cs))) some few = absurd (omega (arith, few))

pub placed_by : (lines : List FormView) (gate : GateView) (target : ℕ) (cs : List Control) → IsNarrow gate → IsGateOn (length lines) gate
    → gate.op ≡ Flip target → cs ≡ gate.controls → IsPlaced lines gate target cs
placed_by lines gate target cs narrow on is are = record {
  flips = is;
  target_in = target_inside (length lines) gate target on is;
  are = are;
  positive = narrow_is_positive gate narrow;
  controls_in = controls_below (length lines) gate.controls (targets_of gate.op) on.in_range;
}

pub control_low : (lines : List FormView) (gate : GateView) (target i : ℕ) (cs : List Control) → IsPlaced lines gate target cs → i < length cs
    → (control_at cs i).line < length lines
control_low lines gate target i cs placed low =
    AllByRecursion-at (λ (control : Control). control.line < length lines) cs i no_control
    (subst (AllByRecursion (λ (control : Control). control.line < length lines)) (sym placed.are) placed.controls_in) low

read_line : (lines : List FormView) (i : ℕ) (x : FormView) → i < length lines → x ≡ get_or lines i x → x ≡ form_at lines i
read_line lines i x low read = get_or_read lines i x low read no_form

pub control_determined : (t : ProductsView) (lines : List FormView) (gate : GateView) (target i : ℕ) (cs : List Control) (x : FormView)
    → IsPlaced lines gate target cs → i < length cs → x ≡ get_or lines (control_at cs i).line x → AreDetermined t lines → IsDetermined t x
control_determined t lines gate target i cs x placed low read are =
    let inside = control_low lines gate target i cs placed low in
    subst (IsDetermined t) (sym (read_line lines (control_at cs i).line x inside read)) (are.each (control_at cs i).line inside)

pub always_read : (t : ProductsView) (lines : List FormView) (gate : GateView) (target : ℕ) (cs : List Control) (line f : FormView)
    → IsPlaced lines gate target cs → length cs < 1 → line ≡ get_or lines target line
    → ((atom : ℕ → Bool) → form_value atom f ≡ xor true (form_value atom line)) → IsFlipped t lines gate target f
always_read t lines gate target cs line f placed few read is =
    flipped_always t lines gate target f (subst (IsPlaced lines gate target) (no_controls cs few) placed) (λ atom.
    is atom ∙ ap (λ (g : FormView). xor true (form_value atom g)) (read_line lines target line placed.target_in read))

pub by_one_read : (t : ProductsView) (lines : List FormView) (gate : GateView) (target : ℕ) (cs : List Control) (line x f : FormView)
    → IsPlaced lines gate target cs → 1 ≤ length cs → length cs < 2 → line ≡ get_or lines target line → x ≡ get_or lines (control_at cs 0).line x
    → IsSum line x f → IsFlipped t lines gate target f
by_one_read t lines gate target cs line x f placed some few read read_x is =
    let c : Control = control_at cs 0 in
    let own = read_line lines target line placed.target_in read in
    let other = read_line lines c.line x (control_low lines gate target 0 cs placed (omega (arith, some))) read_x in
    flipped_by_one t lines gate target c f (subst (IsPlaced lines gate target) (one_control cs some few) placed) (λ atom.
    is atom ∙ ap₂ (λ (g h : FormView). xor (form_value atom g) (form_value atom h)) own other)

pub by_two_read : (t : ProductsView) (lines : List FormView) (gate : GateView) (target : ℕ) (cs : List Control) (line x y product f : FormView)
    → IsPlaced lines gate target cs → 2 ≤ length cs → length cs ≤ 2 → line ≡ get_or lines target line → x ≡ get_or lines (control_at cs 0).line x
    → y ≡ get_or lines (control_at cs 1).line y → IsProduct t x y product → IsSum line product f → IsFlipped t lines gate target f
by_two_read t lines gate target cs line x y product f placed some few read read_x read_y made is =
    let c : Control = control_at cs 0 in
    let d : Control = control_at cs 1 in
    let own = read_line lines target line placed.target_in read in
    let first = read_line lines c.line x (control_low lines gate target 0 cs placed (omega (arith, some))) read_x in
    let second = read_line lines d.line y (control_low lines gate target 1 cs placed (omega (arith, some))) read_y in
    flipped_by_two t lines gate target c d product f (subst (IsPlaced lines gate target) (two_controls cs some few) placed)
    (λ atom respects. made atom respects ∙ ap₂ (λ (g h : FormView). form_value atom g && form_value atom h) first second)
    (λ atom. is atom ∙ ap (λ (g : FormView). xor (form_value atom g) (form_value atom product)) own)

-- ---- one gate after another

pub lines_next : (q : Comparison) (old now : ProductsView) (lines : List FormView) (k target : ℕ) (f : FormView) (gate : GateView)
    → k < length q.circuit.gates → get_or q.circuit.gates k gate ≡ gate → gate.op ≡ Flip target → target < length lines → Extends old now
    → IsFlipped now lines gate target f
    → AreFormsOf q old q.circuit.lines lines (λ bits. line_map (take k q.circuit.gates) (start_on q bits))
    → AreFormsOf q now q.circuit.lines (set lines target f) (λ bits. line_map (take (k + 1) q.circuit.gates) (start_on q bits))
lines_next q old now lines k target f gate inside at is low more flipped are = record {
  one_each = length-set lines target f ∙ are.one_each;
  same = λ bits atom under.
      let here : List Bool = line_map (take k q.circuit.gates) (start_on q bits) in
      let held : map (form_value atom) lines ≡ here = are.same bits atom (under_before q old now bits atom more under) in
      let size : target < length here = omega (arith, low, length-map lines (form_value atom), ap length held) in
      map-set (form_value atom) lines target f
      ∙ ap₂ (λ (z : List Bool) (b : Bool). set z target b) held
      (flipped.same atom under.respects ∙ ap (λ (z : List Bool). bit_of (after_gate gate z) target) held)
      ∙ same_elsewhere gate target here is size
      ∙ sym (line_map_next q.circuit.gates k gate (start_on q bits) inside at);
}

pub all_gates : (q : Comparison) (t : ProductsView) (lines : List FormView) (k : ℕ) → length q.circuit.gates ≤ k
    → AreFormsOf q t q.circuit.lines lines (λ bits. line_map (take k q.circuit.gates) (start_on q bits))
    → AreFormsOf q t q.circuit.lines lines (λ bits. line_map q.circuit.gates (start_on q bits))
all_gates q t lines k most are =
    forms_same q t q.circuit.lines lines (λ bits. line_map (take k q.circuit.gates) (start_on q bits)) (λ bits. line_map q.circuit.gates (start_on q bits))
    (λ bits size. ap (λ (gs : List GateView). line_map gs (start_on q bits)) (take_all k q.circuit.gates most)) are
