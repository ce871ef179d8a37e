-- A line of gates as a whole.
use Rattle.std.proofs.Common.{◌≡◌, ℕ, ◌<◌, inl, inr, List, [], ◌∷◌, ◌++◌, length, Some, Ok, Err, refl, sym, ap, ◌∙◌, subst, arith, append_assoc, append-nil}
use Rattle.std.specs.List.{AllByRecursion, AllZip}
use Rattle.std.proofs.lemmas.Slice.Zip.{AllZip-long}
use Rattle.list_facts.specs.Lists.{AreApart, AreDifferent}
use Rattle.list_facts.proofs.AllLemmas.{AllByRecursion-append}
use Rattle.list_facts.proofs.OrderLemmas.{AreDifferent-left}
use Rattle.mct_circuit.specs.declared.gate.Control.{Control}
use Rattle.mct_circuit.specs.declared.gate.Op.{Op}
use Rattle.mct_circuit.specs.Gates.{GateView, targets_of, IsGateOn}
use Rattle.mct_circuit.specs.Sizes.{has_line}
use Rattle.circuit_plans.specs.declared.plan.TheConstants.{MOST_GATES}
use Rattle.real_format.specs.declared.gate.Shape.{Shape}
use Rattle.real_format.specs.declared.refusal.LineRefusal.TheVariants.{Limit}
use Rattle.real_format.specs.Real.{RealView, ReadsGate, NameLines, NamesLine, NamesControl, IsGateWord}
use Rattle.real_format.specs.Faults.{HasLongGate}
use Rattle.real_format.specs.inside.Reading.{and_then, lines_of_controls, controls_from, op_of, gate_of, shape_of}
use Rattle.real_format.proofs.InversionLemmas.{and_ok, same_ok, and_limit, ok_no_limit}
use Rattle.real_format.specs.Header.{AreNames}
use Rattle.real_format.proofs.ShapeLemmas.{shape, gate_word_is}
use Rattle.real_format.specs.inside.Stamps.{is_stamped, AreStamped}
use Rattle.real_format.proofs.StampLemmas.{op_of-stamped}
use Rattle.real_format.proofs.GateLemmas.{line_inside, controls_are, are_controls, controls_long, long_controls, IsTargets, op_is, is_op, op_long, long_op}

targets_so : (word : List ℕ) (controls targets : ℕ) → IsGateWord word controls targets → IsTargets targets
targets_so word controls targets is = elim is.known [ inl t ↦ inl t.1 | inr f ↦ inr f.1 ]

pub record IsGate (names : List (List ℕ)) (s : Shape) (words : List (List ℕ)) (gate : GateView) : Type 0 where
  pub control_words : List (List ℕ)
  pub target_words : List (List ℕ)
  pub parts : words ≡ control_words ++ target_words
  pub control_count : length control_words ≡ s.controls
  pub target_count : length target_words ≡ s.targets
  pub controls : AllZip (NamesControl names) control_words gate.controls
  pub targets : AllZip (NamesLine names) target_words (targets_of gate.op)
  pub placed : IsGateOn (length names) gate

pub gate_is : (names : List (List ℕ)) (s : Shape) (words : List (List ℕ)) (gate : GateView) → IsTargets s.targets → gate_of names s words ≡ Ok gate
    → IsGate names s words gate
gate_is names s words gate two e =
    let p = and_ok (controls_from names s.controls [] words) (λ read.
    and_then (op_of names s.targets (λ line. has_line line (lines_of_controls read.0)) read.1)
    (λ op. Ok (let g : GateView = record { controls = read.0; op = op } in g))) gate e in
    let q = and_ok (op_of names s.targets (λ line. has_line line (lines_of_controls p.0.0)) p.0.1)
    (λ op. Ok (let g : GateView = record { controls = p.0.0; op = op } in g)) gate p.2 in
    let c = controls_are names s.controls [] words p.0.0 p.0.1 p.1 in
    let o = op_is names s.targets (lines_of_controls p.0.0) p.0.1 q.0 q.1 in
    let made : GateView = record { controls = p.0.0; op = q.0 } in
    subst (IsGate names s words) (same_ok made gate q.2) (record {
      control_words = c.more_words;
      target_words = p.0.1;
      parts = c.parts;
      control_count = sym (AllZip-long (NamesControl names) c.more_words c.more c.named) ∙ ap length (sym c.is) ∙ c.count;
      target_count = o.count two;
      controls = subst (AllZip (NamesControl names) c.more_words) (sym c.is) c.named;
      targets = o.named;
      placed = record { different = o.different (c.different tt); in_range = o.inside (c.inside tt) };
    })

-- the gate of controls and an operation that were read
pub gate_made : (names : List (List ℕ)) (wanted targets : ℕ) (words rest : List (List ℕ)) (controls : List Control) (op : Op)
    → controls_from names wanted [] words ≡ Ok (controls, rest) → op_of names targets (λ line. has_line line (lines_of_controls controls)) rest ≡ Ok op
    → IsGateOn (length names) (let g : GateView = record { controls = controls; op = op } in g)
gate_made names wanted targets words rest controls op e f =
    let c = controls_are names wanted [] words controls rest e in
    let o = op_is names targets (lines_of_controls controls) rest op f in
    record { different = o.different (c.different tt); in_range = o.inside (c.inside tt) }

-- a gate whose controls and changed lines were read with stamps stands on the lines
pub gate_stands : (names : List (List ℕ)) (wanted targets : ℕ) (stamps : List ℕ) (stamp : ℕ) (words rest : List (List ℕ)) (controls : List Control) (op : Op)
    → length stamps ≡ length names → AreStamped stamps stamp (lines_of_controls controls) → controls_from names wanted [] words ≡ Ok (controls, rest)
    → op_of names targets (is_stamped stamps stamp) rest ≡ Ok op
    → IsGateOn (length names) (let g : GateView = record { controls = controls; op = op } in g)
gate_stands names wanted targets stamps stamp words rest controls op fit are read last =
    gate_made names wanted targets words rest controls op read
    (sym (op_of-stamped names targets stamps (lines_of_controls controls) stamp rest fit are) ∙ last)

lines_inside : (names : List (List ℕ)) (words : List (List ℕ)) (lines : List ℕ) → AreApart (λ one other. one ≡ other) names
    → AllZip (NamesLine names) words lines
    → AllByRecursion (λ line. line < length names) lines
lines_inside names [] [] apart named = tt
lines_inside names [] (l ∷ ls) apart named = absurd named
lines_inside names (w ∷ ws) [] apart named = absurd named
lines_inside names (w ∷ ws) (l ∷ ls) apart named = (line_inside names w l apart named.0, lines_inside names ws ls apart named.1)

controls_inside : (names : List (List ℕ)) (words : List (List ℕ)) (controls : List Control) → AreApart (λ one other. one ≡ other) names
    → AllZip (NamesControl names) words controls → AllByRecursion (λ line. line < length names) (lines_of_controls controls)
controls_inside names [] [] apart named = tt
controls_inside names [] (c ∷ cs) apart named = absurd named
controls_inside names (w ∷ ws) [] apart named = absurd named
controls_inside names (w ∷ ws) (c ∷ cs) apart named = (line_inside names named.0.name c.line apart named.0.named, controls_inside names ws cs apart named.1)

-- a gate that was read stands on the lines of the names
pub gate_on : (names : List (List ℕ)) (words : List (List ℕ)) (gate : GateView) → AreApart (λ one other. one ≡ other) names → ReadsGate names words gate
    → IsGateOn (length names) gate
gate_on names words gate apart r = record {
  different = r.good.different;
  in_range = AllByRecursion-append (λ line. line < length names) (lines_of_controls gate.controls) (targets_of gate.op)
      (controls_inside names r.control_words gate.controls apart r.good.controlled)
      (lines_inside names r.target_words (targets_of gate.op) apart r.good.targeted);
}

pub gate_read : (names : List (List ℕ)) (words : List (List ℕ)) (word : List ℕ) (s : Shape) (gate : GateView) → shape_of word ≡ Some s
    → gate_of names s words ≡ Ok gate
    → ReadsGate names (word ∷ words) gate
gate_read names words word s gate shaped e =
    let is = gate_word_is word s shaped in
    let g = gate_is names s words gate (targets_so word s.controls s.targets is) e in
    record {
      word = word;
      control_words = g.control_words;
      target_words = g.target_words;
      parts = ap (λ ws. word ∷ ws) g.parts;
      counted = subst (λ k. IsGateWord word k (length g.target_words)) (sym g.control_count)
          (subst (λ k. IsGateWord word s.controls k) (sym g.target_count) is);
      good = record { controlled = g.controls; targeted = g.targets; different = g.placed.different };
    }

pub read_gate : (names : List (List ℕ)) (control_words target_words : List (List ℕ)) (gate : GateView) → AreNames names
    → NameLines names control_words target_words gate.controls (targets_of gate.op)
    → gate_of names (shape (length control_words) (length target_words)) (control_words ++ target_words) ≡ Ok gate
read_gate names control_words target_words gate are good =
    let first = are_controls names (length control_words) [] gate.controls control_words target_words are good.controlled
    (AreDifferent-left (lines_of_controls gate.controls) (targets_of gate.op) good.different) (AllZip-long
    (NamesControl names) control_words gate.controls good.controlled) in
    let second = is_op names (length target_words) (lines_of_controls gate.controls) target_words gate.op are refl good.targeted good.different in
    ap (λ r. and_then r (λ (read : List Control × List (List ℕ)).
    and_then (op_of names (length target_words) (λ line. has_line line (lines_of_controls read.0)) read.1)
    (λ op. Ok (let g : GateView = record { controls = read.0; op = op } in g)))) first
    ∙ ap (λ r. and_then r (λ op. Ok (let g : GateView = record { controls = gate.controls; op = op } in g))) second

-- ---- limits

pub gate_long : (file : RealView) (words : List (List ℕ)) (word : List ℕ) (s : Shape) → length file.gates < MOST_GATES → shape_of word ≡ Some s
    → gate_of file.names s words ≡ Err Limit → HasLongGate file (word ∷ words)
gate_long file words word s room shaped e =
    let is = gate_word_is word s shaped in
    let two = targets_so word s.controls s.targets is in
    let names = file.names in
    elim (and_limit (controls_from names s.controls [] words) (λ read.
    and_then (op_of names s.targets (λ line. has_line line (lines_of_controls read.0)) read.1)
    (λ op. Ok (let g : GateView = record { controls = read.0; op = op } in g))) e) [
      | inl here ↦
          let l = controls_long names s.controls [] words (omega arith) here in
          let few : length l.at.good < s.controls =
          (let h = l.few in let k = AllZip-long (NamesControl names) l.at.good l.at.named l.at.are_named in omega arith) in
          record {
            word = word;
            control_words = l.at.good;
            target_words = [];
            name = l.at.name;
            rest = l.at.rest;
            wanted_controls = s.controls;
            wanted_targets = s.targets;
            controls = l.at.named;
            targets = [];
            room = room;
            words = ap (λ ws. word ∷ ws) (l.at.parts ∙ ap (λ front. front ++ l.at.name ∷ l.at.rest) (sym (append-nil l.at.good)));
            gate_word = is;
            few = omega arith;
            good = record {
              controlled = l.at.are_named;
              targeted = tt;
              different = subst AreDifferent (sym (append-nil (lines_of_controls l.at.named))) (l.different tt);
            };
            long = inl (refl, few, l.long_name);
          }
      | inr later ↦ elim (and_limit (op_of names s.targets (λ line. has_line line (lines_of_controls later.0.0)) later.0.1)
          (λ op. Ok (let g : GateView = record { controls = later.0.0; op = op } in g)) later.2) [
            | inr last ↦ ok_no_limit (let g : GateView = record { controls = later.0.0; op = last.0 } in g) last.2
            | inl here ↦
                let c = controls_are names s.controls [] words later.0.0 later.0.1 later.1 in
                let l = op_long names s.targets (lines_of_controls later.0.0) later.0.1 two here in
                let count : length c.more_words ≡ s.controls = sym (AllZip-long (NamesControl names) c.more_words c.more c.named) ∙ ap length (sym c.is)
                ∙ c.count in
                let few = l.few in
                record {
                  word = word;
                  control_words = c.more_words;
                  target_words = l.at.good;
                  name = l.at.name;
                  rest = l.at.rest;
                  wanted_controls = s.controls;
                  wanted_targets = s.targets;
                  controls = later.0.0;
                  targets = l.at.named;
                  room = room;
                  words = ap (λ ws. word ∷ ws)
                      (c.parts ∙ ap (λ back. c.more_words ++ back) l.at.parts ∙ sym (append_assoc c.more_words l.at.good (l.at.name ∷ l.at.rest)));
                  gate_word = is;
                  few = omega arith;
                  good = record {
                    controlled = subst (AllZip (NamesControl names) c.more_words) (sym c.is) c.named;
                    targeted = l.at.are_named;
                    different = l.different (c.different tt);
                  };
                  long = inr (count, l.long_name);
                }
          ]
    ]

pub long_gate : (file : RealView) (line : List (List ℕ)) → AreNames file.names → (h : HasLongGate file line)
    → gate_of file.names (shape h.wanted_controls h.wanted_targets) (h.control_words ++ h.target_words ++ h.name ∷ h.rest) ≡ Err Limit
long_gate file line are h = elim h.long [
  | inl early ↦
      let none : h.target_words ≡ [] = early.0 in
      let words : h.control_words ++ h.target_words ++ h.name ∷ h.rest ≡ h.control_words ++ h.name ∷ h.rest =
      ap (λ ws. (h.control_words ++ ws) ++ h.name ∷ h.rest) none ∙ ap (λ ws. ws ++ h.name ∷ h.rest) (append-nil h.control_words) in
      let few : length h.controls < h.wanted_controls = (let k = AllZip-long
      (NamesControl file.names) h.control_words h.controls h.good.controlled in let p = early.1 in omega arith) in
      ap (gate_of file.names (shape h.wanted_controls h.wanted_targets)) words
      ∙ ap (λ r. and_then r (λ (read : List Control × List (List ℕ)).
      and_then (op_of file.names h.wanted_targets (λ line. has_line line (lines_of_controls read.0)) read.1)
      (λ op. Ok (let g : GateView = record { controls = read.0; op = op } in g))))
      (long_controls file.names h.wanted_controls [] h.controls h.control_words h.name h.rest are h.good.controlled
      (AreDifferent-left (lines_of_controls h.controls) h.targets h.good.different) few early.2)
  | inr late ↦
      let count : length h.controls ≡ h.wanted_controls = AllZip-long (NamesControl file.names) h.control_words h.controls h.good.controlled ∙ late.0 in
      let whole = h.few in
      let few : length h.target_words < h.wanted_targets = (let p = late.0 in omega arith) in
      let words : h.control_words ++ h.target_words ++ h.name ∷ h.rest ≡ h.control_words ++ (h.target_words ++ h.name ∷ h.rest) =
      append_assoc h.control_words h.target_words (h.name ∷ h.rest) in
      ap (gate_of file.names (shape h.wanted_controls h.wanted_targets)) words
      ∙ ap (λ r. and_then r (λ (read : List Control × List (List ℕ)).
      and_then (op_of file.names h.wanted_targets (λ line. has_line line (lines_of_controls read.0)) read.1)
      (λ op. Ok (let g : GateView = record { controls = read.0; op = op } in g))))
      (are_controls file.names h.wanted_controls [] h.controls h.control_words (h.target_words ++ h.name ∷ h.rest) are h.good.controlled
      (AreDifferent-left (lines_of_controls h.controls) h.targets h.good.different) count)
      ∙ ap (λ r. and_then r (λ op. Ok (let g : GateView = record { controls = h.controls; op = op } in g)))
      (long_op file.names h.wanted_targets (lines_of_controls h.controls) h.target_words h.targets h.name h.rest are
      (targets_so h.word h.wanted_controls h.wanted_targets h.gate_word)
      few h.good.targeted h.good.different late.1)
]
