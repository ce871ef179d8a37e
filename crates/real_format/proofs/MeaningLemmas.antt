-- The text of a written file means the file.
use Rattle.std.proofs.Common.{◌≡◌, ℕ, ◌+◌, ◌<◌, ◌≤◌, Bool, true, false, List, [], ◌∷◌, ◌++◌, length, map, replicate, refl, sym, ap, ◌∙◌, subst, arith, inl, inr}
use Rattle.std.proofs.Common.{Some, None, codes, append_assoc, append-nil}
use Rattle.std.specs.List.{AllByRecursion, AllZip, list_all}
use Rattle.std.specs.Fmt.{decimal}
use Rattle.std.proofs.lemmas.Fmt.{decimal_is_IsNumeral, length-decimal-le}
use Rattle.std.proofs.lemmas.List.{length-map, length-append, length-replicate, map-append}
use Rattle.mct_circuit.specs.Gates.{GateView, lines_of, flip_of, positive, IsGateOn, AreGatesOn, IsNarrow, AreNarrow}
use Rattle.list_facts.proofs.AllLemmas.{AllByRecursion-append, AllByRecursion-left, AllByRecursion-right, AllByRecursion-map, AllByRecursion-weaker}
use Rattle.mct_circuit.proofs.ReversalLemmas.{lines_of-flip_of}
use Rattle.real_format.specs.Words.{is_word_byte, is_comment}
use Rattle.real_format.specs.declared.file.Mark.{Mark}
use Rattle.real_format.specs.declared.file.Mark.TheVariants.{Free, Zero, One}
use Rattle.real_format.specs.declared.header.Head.TheVariants.{Version, Lines, Names, Inputs, Outputs, Constants, Garbage}
use Rattle.real_format.specs.Header.{HeaderView, SaysMarks, constant_byte, garbage_byte, nothing_said}
use Rattle.real_format.specs.Real.{RealView, MeansFile, ReadsGate, NamesControl, Place, in_header, in_gates, at_end, LeadTo}
use Rattle.format_parts.specs.Readings.{nothing_left, one_more}
use Rattle.real_format.specs.Real.{says_more, begins_gates, adds_gate, ends_file}
use Rattle.circuit_plans.specs.Plans.{lines_in}
use Rattle.real_format.specs.Written.{names_by, header_lines, gate_words, file_lines, file_text}
use Rattle.real_format.specs.Compiled.{name_of_line, constants_of, CompiledHasMeaning}
use Rattle.real_format.specs.Converted.{numbered_name, ConvertedHasMeaning}
use Rattle.real_format.proofs.ReadingLemmas.{IsWord, words_of_lines}
use Rattle.real_format.proofs.MarkLemmas.{length-constants_of}
use Rattle.real_format.proofs.NameLemmas.{AreGood, good_by_role, good_by_number, names_are_words, IsWord-decimal, length-names_by, names_are_good}
use Rattle.real_format.proofs.NameLemmas.{name_at}

-- ---- words

-- a literal word is a word, by computing
literal : (word : List ℕ) → 0 < length word → list_all is_word_byte word ≡ true → is_comment word ≡ false → IsWord word
literal word some solid plain = record { some = some; solid = solid; plain = plain }

solid-constants : (marks : List Mark) → list_all is_word_byte (map constant_byte marks) ≡ true
solid-constants [] = refl
solid-constants (Free ∷ ms) = solid-constants ms
solid-constants (Zero ∷ ms) = solid-constants ms
solid-constants (One ∷ ms) = solid-constants ms

plain-constants : (marks : List Mark) → is_comment (map constant_byte marks) ≡ false
plain-constants [] = refl
plain-constants (Free ∷ ms) = refl
plain-constants (Zero ∷ ms) = refl
plain-constants (One ∷ ms) = refl

plain-garbage : (marks : List Bool) → is_comment (map garbage_byte marks) ≡ false
plain-garbage [] = refl
plain-garbage (true ∷ ms) = refl
plain-garbage (false ∷ ms) = refl

solid-garbage : (marks : List Bool) → list_all is_word_byte (map garbage_byte marks) ≡ true
solid-garbage [] = refl
solid-garbage (true ∷ ms) = solid-garbage ms
solid-garbage (false ∷ ms) = solid-garbage ms

header_is_words : (name : ℕ → List ℕ) (count : ℕ) (marks : List Mark) (useless : List Bool) → 1 ≤ count → count ≤ 16384 → AreGood name count
    → length marks ≡ count → length useless ≡ count → AllByRecursion (AllByRecursion IsWord) (header_lines name count marks useless)
header_is_words name count marks useless some few good marked uselessly =
    let names = names_are_words name count good in
    let constants : IsWord (map constant_byte marks) = record {
      some = omega (arith, length-map marks constant_byte, marked);
      solid = solid-constants marks;
      plain = plain-constants marks;
    } in
    let garbage : IsWord (map garbage_byte useless) = record {
      some = omega (arith, length-map useless garbage_byte, uselessly);
      solid = solid-garbage useless;
      plain = plain-garbage useless;
    } in (
      (literal _ (omega arith) refl refl, (literal _ (omega arith) refl refl, tt)),
      (
        (literal _ (omega arith) refl refl, (IsWord-decimal count (omega arith), tt)),
        (
          (literal _ (omega arith) refl refl, names),
          (
            (literal _ (omega arith) refl refl, names),
            (
              (literal _ (omega arith) refl refl, names),
              (
                (literal _ (omega arith) refl refl, (constants, tt)),
                (
                  (literal _ (omega arith) refl refl, (garbage, tt)),
                  ((literal _ (omega arith) refl refl, tt), tt),
                ),
              ),
            ),
          ),
        ),
      ),
    )

-- ---- gates

gate_is_words : (name : ℕ → List ℕ) (count : ℕ) (gate : GateView) → AreGood name count → IsGateOn count gate → length (lines_of gate) ≤ 3
    → AllByRecursion IsWord (gate_words name gate)
gate_is_words name count gate good on short =
    let digits = IsWord-decimal (length (lines_of gate)) (omega arith) in (
      record { some = omega arith; solid = digits.solid; plain = refl },
      AllByRecursion-map IsWord name (lines_of gate)
          (AllByRecursion-weaker (λ line. line < count) (λ line. IsWord (name line)) good.words (lines_of gate) on.in_range),
    )

length-narrow : (gate : GateView) → IsNarrow gate → length (lines_of gate) ≤ 3
length-narrow gate narrow =
    let lines : lines_of gate ≡ narrow.controls ++ narrow.target ∷ [] = ap lines_of narrow.is_flip ∙ lines_of-flip_of narrow.controls narrow.target in
    let few = narrow.few in
    let long : length (lines_of gate) ≡ length narrow.controls + 1 = ap length lines ∙ length-append narrow.controls (narrow.target ∷ []) in
    omega arith

gates_are_words : (name : ℕ → List ℕ) (count : ℕ) (gates : List GateView) → AreGood name count → AreGatesOn count gates → AreNarrow gates
    → AllByRecursion (AllByRecursion IsWord) (map (gate_words name) gates)
gates_are_words name count [] good on narrow = tt
gates_are_words name count (g ∷ gs) good on narrow =
    (gate_is_words name count g good on.0 (length-narrow g narrow.0), gates_are_words name count gs good on.1 narrow.1)

named_controls : (name : ℕ → List ℕ) (count : ℕ) (lines : List ℕ) → AllByRecursion (λ line. line < count) lines
    → AllZip (NamesControl (names_by name count)) (map name lines) (map positive lines)
named_controls name count [] h = tt
named_controls name count (l ∷ ls) h = (record { name = name l; signed = refl; named = name_at name count l h.0 }, named_controls name count ls h.1)

reads_flip : (name : ℕ → List ℕ) (count : ℕ) (controls : List ℕ) (target : ℕ) → length controls ≤ 2 → IsGateOn (count) (flip_of controls target)
    → ReadsGate (names_by name count) (gate_words name (flip_of controls target)) (flip_of controls target)
reads_flip name count controls target short on =
    let lines : lines_of (flip_of controls target) ≡ controls ++ target ∷ [] = lines_of-flip_of controls target in
    let long : length (lines_of (flip_of controls target)) ≡ length controls + 1 = ap length lines ∙ length-append controls (target ∷ []) in
    let number = decimal_is_IsNumeral (length (lines_of (flip_of controls target))) (omega arith) in
    let inside : AllByRecursion (λ line. line < count) (controls ++ target ∷ []) = subst (AllByRecursion
    (λ line. line < count)) lines on.in_range in
    record {
      word = 116 ∷ decimal (length (lines_of (flip_of controls target)));
      control_words = map (name) controls;
      target_words = name target ∷ [];
      parts = ap (λ ls. (116 ∷ decimal (length (lines_of (flip_of controls target)))) ∷ map (name) ls) lines
          ∙ ap (λ ws. (116 ∷ decimal (length (lines_of (flip_of controls target)))) ∷ ws) (map-append (name) controls (target ∷ []));
      counted = record {
        letter = 116;
        number = decimal (length (lines_of (flip_of controls target)));
        spelled = refl;
        known = inl (refl, refl);
        counted = record { digits = number.0; value = number.1 ∙ long ∙ ap (λ k. k + 1) (sym (length-map controls (name))) };
        few_digits = length-decimal-le 5 (length (lines_of (flip_of controls target))) (omega arith) (omega arith) (omega arith);
      };
      good = record {
        controlled = named_controls name count controls (AllByRecursion-left (λ line. line < count) controls (target ∷ []) inside);
        targeted = (name_at name count target (AllByRecursion-right (λ line. line < count) controls (target ∷ []) inside).0, tt);
        different = on.different;
      };
    }

reads_gate : (name : ℕ → List ℕ) (count : ℕ) (gate : GateView) → IsGateOn count gate → IsNarrow gate
    → ReadsGate (names_by name count) (gate_words name gate) gate
reads_gate name count gate on narrow =
    subst (λ g. ReadsGate (names_by name count) (gate_words name g) g) (sym narrow.is_flip)
    (reads_flip name count narrow.controls narrow.target narrow.few (subst (IsGateOn (count)) narrow.is_flip on))

-- ---- the file

abbrev file_of : (ℕ → List ℕ) → ℕ → List Mark → List Bool → List GateView → RealView
file_of name count marks useless gates = record { names = names_by name count; constants = marks; garbage = useless; gates = gates }

gates_lead : (name : ℕ → List ℕ) (count : ℕ) (marks : List Mark) (useless : List Bool) (done gates : List GateView) → length (done ++ gates) ≤ 4000000
    → AreGatesOn count gates → AreNarrow gates → LeadTo (map (gate_words name) gates ++ (codes ".end" ∷ []) ∷ [])
    (in_gates (file_of name count marks useless done)) (at_end (file_of name count marks useless (done ++ gates)))
gates_lead name count marks useless done [] few on narrow =
    subst (λ gs. LeadTo ((codes ".end" ∷ []) ∷ []) (in_gates (file_of name count marks useless done)) (at_end (file_of name count marks useless gs)))
    (sym (append-nil done)) (one_more (ends_file refl) nothing_left)
gates_lead name count marks useless done (g ∷ gs) few on narrow =
    let whole : (done ++ g ∷ []) ++ gs ≡ done ++ (g ∷ gs) = append_assoc done (g ∷ []) gs in
    let room : length done < 4000000 = omega (arith, length-append done (g ∷ gs)) in
    let later = gates_lead name count marks useless (done ++ g ∷ []) gs (subst (λ xs. length xs ≤ 4000000) (sym whole) few) on.1 narrow.1 in
    subst (λ xs. LeadTo (map (gate_words name) (g ∷ gs) ++ (codes ".end" ∷ []) ∷ []) (in_gates (file_of name count marks useless done))
    (at_end (file_of name count marks useless xs))) whole (one_more (adds_gate g (reads_gate name count g on.0 narrow.0) room) later)

says_marks : {M : Type 0} (byte_of : M → ℕ) (count : ℕ) (with_marks : List M → HeaderView) (marks : List M) → length marks ≡ count
    → SaysMarks byte_of None (Some count) with_marks (map byte_of marks ∷ []) (with_marks marks)
says_marks byte_of count with_marks marks fit = record { marks = marks; once = refl; counted = ap Some (sym fit); spelled = refl; adds = refl }

header_leads : (name : ℕ → List ℕ) (count : ℕ) (marks : List Mark) (useless : List Bool) (more : List (List (List ℕ))) (to : Place)
    → 1 ≤ count → count ≤ 16384 → AreGood name count → length marks ≡ count → length useless ≡ count
    → LeadTo more (in_gates (file_of name count marks useless [])) to
    → LeadTo (header_lines name count marks useless ++ more) (in_header nothing_said) to
header_leads name count marks useless more to some few good marked uselessly later =
    let number = decimal_is_IsNumeral count (omega arith) in
    let long = length-names_by name count in
    one_more (says_more Version (codes "2.0" ∷ []) refl (record { once = refl; known = inr refl; adds = refl }))
    (one_more (says_more Lines (decimal count ∷ []) refl (record {
      number = decimal count;
      count = count;
      once = refl;
      alone = refl;
      counted = record { digits = number.0; value = number.1 };
      some = some;
      few = few;
      adds = refl;
    }))
    (one_more (says_more Names (names_by name count) refl (record {
      once = refl;
      counted = ap Some (sym long);
      good = names_are_good name count good;
      adds = refl;
    }))
    (one_more (says_more Inputs (names_by name count) refl (record { once = refl; adds = refl }))
    (one_more (says_more Outputs (names_by name count) refl (record { once = refl; adds = refl }))
    (one_more (says_more Constants (map constant_byte marks ∷ []) refl (says_marks constant_byte count _ marks marked))
    (one_more (says_more Garbage (map garbage_byte useless ∷ []) refl (says_marks garbage_byte count _ useless uselessly))
    (one_more (begins_gates refl (record { names = refl; constants = refl; garbage = refl; gates = refl })) later)))))))

-- the law of every written file: narrow gates on lines with good names, and a mark of each kind for each line
meaning : (name : ℕ → List ℕ) (count : ℕ) (marks : List Mark) (useless : List Bool) (gates : List GateView) → 1 ≤ count → count ≤ 16384
    → AreGood name count → length marks ≡ count → length useless ≡ count → length gates ≤ 4000000 → AreGatesOn count gates → AreNarrow gates
    → MeansFile (file_text name count marks useless gates) (file_of name count marks useless gates)
meaning name count marks useless gates some few good marked uselessly few_gates on narrow =
    let words = words_of_lines (file_lines name count marks useless gates) (AllByRecursion-append (AllByRecursion IsWord)
    (header_lines name count marks useless) _ (header_is_words name count marks useless some few good marked uselessly)
    (AllByRecursion-append (AllByRecursion IsWord) (map (gate_words name) gates) _ (gates_are_words name count gates good on narrow)
    ((literal _ (omega arith) refl refl, tt), tt))) in
    record {
      read = subst (λ lines. LeadTo lines (in_header nothing_said) (at_end (file_of name count marks useless gates))) (sym words)
          (header_leads name count marks useless (map (gate_words name) gates ++ (codes ".end" ∷ []) ∷ []) (at_end (file_of name count marks useless gates))
          some few good marked uselessly (gates_lead name count marks useless [] gates few_gates on narrow));
    }

pub compiled_has_meaning : CompiledHasMeaning
compiled_has_meaning roles gates f = record {
  file = file_of (name_of_line roles) (lines_in roles) (constants_of roles) (replicate (lines_in roles) false) gates;
  meaning = meaning (name_of_line roles) (lines_in roles) (constants_of roles) (replicate (lines_in roles) false) gates f.some f.few (good_by_role roles f.few)
      (length-constants_of roles) (length-replicate (lines_in roles) false) f.few_gates f.placed f.narrow;
  roles_are = record { names = refl; constants = refl; garbage = refl };
  gates_are = refl;
}

pub converted_has_meaning : ConvertedHasMeaning
converted_has_meaning constants garbage gates fit f = record {
  file = file_of numbered_name (length constants) constants garbage gates;
  meaning = meaning numbered_name (length constants) constants garbage gates f.some f.few (good_by_number (length constants) f.few) refl fit f.few_gates
      f.placed f.narrow;
  names_are = refl;
  constants_are = refl;
  garbage_are = refl;
  gates_are = refl;
}
