-- The parts that the writer puts are the text of the file.
use Rattle.std.proofs.Common.{◌≡◌, ℕ, ◌+◌, List, [], ◌∷◌, ◌++◌, length, map, codes, sym, ap, ◌∙◌, append_assoc, append-nil}
use Rattle.std.specs.List.{flat_map}
use Rattle.std.specs.Fmt.{decimal}
use Rattle.std.proofs.lemmas.List.{length-append, length-map}
use Rattle.std.proofs.lemmas.List.Concat.{flat_map-append}
use Rattle.mct_circuit.specs.declared.gate.Control.{Control}
use Rattle.mct_circuit.specs.declared.gate.Op.TheVariants.{Flip}
use Rattle.mct_circuit.specs.Gates.{GateView, AreNarrow, lines_of, targets_of}
use Rattle.format_parts.specs.Flips.{controls_text, flip_text, gates_text}
use Rattle.revc_io.proofs.PieceLemmas.{bytes_are, joined_is}
use Rattle.format_parts.proofs.FlipLemmas.{gates_are_lines}
use Rattle.real_format.specs.Header.{constant_byte, garbage_byte}
use Rattle.real_format.specs.declared.labels.Labels.{Labels}
use Rattle.real_format.specs.inside.Labels.{count_of, name_by, all_names, constants_by, garbage_by}
use Rattle.real_format.specs.Written.{line_text, header_lines, gate_words, file_text}
use Rattle.real_format.specs.inside.Parts.{names_line_text, header_text, flip_texts}

-- ---- the header

-- the names of a line, each behind a space
names_line_is : (word : List ℕ) (names : List (List ℕ)) → line_text (word ∷ names) ≡ names_line_text word names
names_line_is word names = ap (λ (t : List ℕ). word ++ (t ++ 10 ∷ [])) (sym (joined_is (λ (w : List ℕ). 32 ∷ w) names))

-- the header's words, over any words; `space` and `feed` are one byte each
regroup : (space feed v w n d k ks g gs e put_k put_g : List ℕ) {names inputs outputs put_names put_inputs put_outputs : List ℕ}
    → names ≡ put_names → inputs ≡ put_inputs → outputs ≡ put_outputs → put_k ≡ ks → put_g ≡ gs
    → (v ++ (((space ++ w) ++ []) ++ feed)) ++ ((n ++ (((space ++ d) ++ []) ++ feed)) ++ (names ++ (inputs ++ (outputs
    ++ ((k ++ (((space ++ ks) ++ []) ++ feed)) ++ ((g ++ (((space ++ gs) ++ []) ++ feed)) ++ ((e ++ feed) ++ [])))))))
    ≡ ((((v ++ (space ++ w)) ++ feed) ++ (n ++ space)) ++ (d ++ feed)) ++ ((put_names ++ (put_inputs ++ put_outputs))
    ++ (((k ++ space) ++ (put_k ++ feed)) ++ (((g ++ space) ++ (put_g ++ feed)) ++ (e ++ feed))))
regroup space feed v w n d k ks g gs e put_k put_g of_names of_inputs of_outputs of_k of_g =
    rw (of_names, of_inputs, of_outputs, of_k, of_g) (simp (append_assoc, append-nil))

header_text_is : (labels : Labels)
    → flat_map line_text (header_lines (name_by labels) (count_of labels) (constants_by labels) (garbage_by labels)) ≡ header_text labels
header_text_is labels =
    let names = all_names labels in
    let constants = map constant_byte (constants_by labels) in
    let garbage = map garbage_byte (garbage_by labels) in
    regroup (32 ∷ []) (10 ∷ []) (codes ".version") (codes "2.0") (codes ".numvars") (decimal (count_of labels)) (codes ".constants") constants
    (codes ".garbage") garbage (codes ".begin") _ _ (names_line_is (codes ".variables") names) (names_line_is (codes ".inputs") names)
    (names_line_is (codes ".outputs") names) (bytes_are constants) (bytes_are garbage)

-- ---- the gates

spaced_lines : (name : ℕ → List ℕ) (controls : List Control) (target : ℕ)
    → flat_map (λ (w : List ℕ). 32 ∷ w) (map (name) (map (λ (control : Control). control.line) controls ++ target ∷ []))
    ≡ controls_text (flip_texts name) controls ++ (32 ∷ name target)
spaced_lines name [] target = append-nil (32 ∷ name target)
spaced_lines name (c ∷ cs) target =
    ap (λ (t : List ℕ). (32 ∷ name c.line) ++ t) (spaced_lines name cs target)
    ∙ sym (append_assoc (32 ∷ name c.line) (controls_text (flip_texts name) cs)
    (32 ∷ name target))

length-lines : (controls : List Control) (target : ℕ) → length (map (λ (control : Control). control.line) controls ++ target ∷ []) ≡ length controls + 1
length-lines controls target = length-append (map (λ (control : Control). control.line) controls) (target ∷ [])
    ∙ ap (λ (n : ℕ). n + 1) (length-map controls (λ (control : Control). control.line))

flip_text_is : (name : ℕ → List ℕ) (gate : GateView) (target : ℕ) → gate.op ≡ Flip target
    → flip_text (flip_texts name) gate.controls target ≡ line_text (gate_words name gate)
flip_text_is name gate target e =
    let lines : lines_of gate ≡ map (λ (control : Control). control.line) gate.controls ++ target ∷ [] =
    ap (λ op. map (λ (control : Control). control.line) gate.controls ++ targets_of op) e in
    sym (ap (λ ls. (116 ∷ decimal (length ls)) ++ (flat_map (λ (w : List ℕ). 32 ∷ w) (map (name) ls) ++ 10 ∷ [])) lines
    ∙ ap (λ (n : ℕ). (116 ∷ decimal n) ++ (flat_map (λ (w : List ℕ). 32 ∷ w)
    (map (name) (map (λ (control : Control). control.line) gate.controls ++ target ∷ [])) ++ 10 ∷ [])) (length-lines gate.controls target)
    ∙ ap (λ (t : List ℕ). (116 ∷ decimal (length gate.controls + 1)) ++ (t ++ 10 ∷ [])) (spaced_lines name gate.controls target)
    ∙ ap (λ (t : List ℕ). (116 ∷ decimal (length gate.controls + 1)) ++ t)
    (append_assoc (controls_text (flip_texts name) gate.controls) (32 ∷ name target) (10 ∷ [])))

-- ---- the whole text

pub text_is : (labels : Labels) (gates : List GateView) → AreNarrow gates
    → header_text labels ++ (gates_text (flip_texts (name_by labels)) gates ++ codes ".end\n")
    ≡ file_text (name_by labels) (count_of labels) (constants_by labels) (garbage_by labels) gates
text_is labels gates narrow =
    let name = name_by labels in
    let header = header_lines name (count_of labels) (constants_by labels) (garbage_by labels) in
    let words = map (gate_words name) gates in
    let end : List (List ℕ) = codes ".end" ∷ [] in
    sym (flat_map-append line_text header (words ++ end ∷ [])
    ∙ ap (λ (t : List ℕ). t ++ flat_map line_text (words ++ end ∷ [])) (header_text_is labels)
    ∙ ap (λ (t : List ℕ). header_text labels ++ t) (flat_map-append line_text words (end ∷ [])
    ∙ ap (λ (t : List ℕ). t ++ codes ".end\n") (sym (gates_are_lines (flip_texts name) line_text (gate_words name) (flip_text_is name) gates narrow))))
