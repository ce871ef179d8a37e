-- The parts that the writer puts are the text of the file.
use Rattle.std.proofs.Common.{◌≡◌, ℕ, Bool, true, false, cond, eqb, List, [], ◌∷◌, ◌++◌, length, map, codes, refl, sym, ap, ◌∙◌, append_assoc, append-nil}
use Rattle.std.specs.List.{flat_map, concat}
use Rattle.std.specs.Fmt.{decimal}
use Rattle.std.proofs.lemmas.List.{map-append}
use Rattle.std.proofs.lemmas.List.Concat.{flat_map-append}
use Rattle.std.proofs.lemmas.List.Folds.{concat-append}
use Rattle.mct_circuit.specs.declared.gate.Control.{Control}
use Rattle.mct_circuit.specs.declared.gate.Op.TheVariants.{Flip}
use Rattle.mct_circuit.specs.Gates.{GateView, AreNarrow, lines_of, targets_of}
use Rattle.format_parts.specs.Flips.{controls_text, flip_text, gates_text}
use Rattle.format_parts.proofs.FlipLemmas.{gates_are_lines}
use Rattle.circuit_plans.specs.declared.roles.Roles.{Roles}
use Rattle.circuit_plans.specs.declared.roles.Role.{Role}
use Rattle.circuit_plans.specs.declared.roles.Role.TheVariants.{Input, Output, Work, Borrowed}
use Rattle.qasm_format.specs.Statements.{Statement, Argument, argument_words, one_of, parted, words_of}
use Rattle.qasm_format.specs.declared.file.Register.{Register}
use Rattle.qasm_format.specs.Written.{gate_word, gate_statement, declaration, line_text, file_text}
use Rattle.qasm_format.specs.Compiled.{register_name, register_of, registers_of, argument_of}
use Rattle.qasm_format.specs.Converted.{kept_lines, added_register, converted_registers, converted_place}
use Rattle.qasm_format.specs.declared.naming.Naming.{Naming}
use Rattle.qasm_format.specs.declared.naming.Naming.TheVariants.{ByRole, ByNumber}
use Rattle.qasm_format.specs.inside.Naming.{registers_by, place_by}
use Rattle.qasm_format.specs.inside.Parts.{argument_text, declaration_text, digits_in, opened_in, register_text, role_registers_text, numbered_registers_text}
use Rattle.qasm_format.specs.inside.Parts.{head_text, header_text, flip_texts}
use Rattle.qasm_format.proofs.RoleLemmas.{one_register}

-- ---- places

-- over any bytes for the brackets
place_parts : (name left digits right end : List ℕ)
    → (name ++ left) ++ (digits ++ (right ++ end)) ≡ (name ++ (left ++ (digits ++ (right ++ [])))) ++ end
place_parts name left digits right end = simp (append-nil, append_assoc)

-- a place that is put by its parts, with what stands behind it
pub place_is : (place : Argument) (front digits back end : List ℕ) → front ≡ opened_in place → digits ≡ digits_in place
    → back ≡ codes "]" ++ end → front ++ (digits ++ back) ≡ argument_text place ++ end
place_is (one_of name number) front digits back end of_front of_digits of_back =
    rw (of_front, of_digits, of_back) (place_parts name (codes "[") number (codes "]") end)

-- ---- declarations

declaration_parts : (word space name left digits end feed : List ℕ)
    → word ++ (space ++ ((name ++ (left ++ (digits ++ end))) ++ feed)) ≡ (word ++ space) ++ ((name ++ left) ++ (digits ++ (end ++ feed)))
declaration_parts word space name left digits end feed = simp append_assoc

-- the line of a declaration
abbrev words_declared : Register → List (List ℕ)
words_declared register = words_of (declaration register)

declaration_text_is : (name : List ℕ) (size : ℕ) → line_text (words_declared (record { name = name; size = size })) ≡ declaration_text name size
declaration_text_is name size = declaration_parts (codes "qreg") (codes " ") name (codes "[") (decimal size) (codes "];") (codes "\n")

by_test : (role : Role) (size : ℕ) (none : Bool)
    → flat_map line_text (map words_declared (cond none [] (one_register role size))) ≡ cond none [] (declaration_text (register_name role) size)
by_test role size true = refl
by_test role size false =
    append-nil (line_text (words_declared (record { name = register_name role; size = size }))) ∙ declaration_text_is (register_name role) size

register_text_is : (role : Role) (size : ℕ) → flat_map line_text (map words_declared (register_of role size)) ≡ register_text (register_name role) size
register_text_is role size = by_test role size (eqb size 0)

joined : (xs ys : List Register) → flat_map line_text (map words_declared (xs ++ ys))
    ≡ flat_map line_text (map words_declared xs) ++ flat_map line_text (map words_declared ys)
joined xs ys = ap (flat_map line_text) (map-append words_declared xs ys) ∙ flat_map-append line_text (map words_declared xs) (map words_declared ys)

in_row : (i j o p w v b c : List ℕ) → i ≡ j → o ≡ p → w ≡ v → b ≡ c → i ++ (o ++ (w ++ b)) ≡ j ++ (p ++ (v ++ c))
in_row i j o p w v b c of_i of_o of_w of_b = rw (of_i, of_o, of_w, of_b) refl

registers_text_is : (roles : Roles) → flat_map line_text (map words_declared (registers_of roles)) ≡ role_registers_text roles
registers_text_is roles =
    let i = register_of Input roles.inputs in
    let o = register_of Output roles.outputs in
    let w = register_of Work roles.work in
    let b = register_of Borrowed roles.borrowed in
    joined i (o ++ (w ++ b)) ∙ ap (λ (t : List ℕ). flat_map line_text (map words_declared i) ++ t) (joined o (w ++ b)
    ∙ ap (λ (t : List ℕ). flat_map line_text (map words_declared o) ++ t) (joined w b))
    ∙ in_row _ _ _ _ _ _ _ _ (register_text_is Input roles.inputs) (register_text_is Output roles.outputs) (register_text_is Work roles.work)
    (register_text_is Borrowed roles.borrowed)

-- ---- a gate

more_arguments : (a b : Argument) (bs : List Argument)
    → concat (parted (a ∷ b ∷ bs)) ≡ (concat (argument_words a) ++ codes ",") ++ concat (parted (b ∷ bs))
more_arguments a b bs =
    concat-append (argument_words a) (codes "," ∷ parted (b ∷ bs)) ∙ sym (append_assoc (concat (argument_words a)) (codes ",") (concat (parted (b ∷ bs))))

arguments_text : (place : ℕ → Argument) (controls : List Control) (target : ℕ)
    → concat (parted (map place (map (λ (control : Control). control.line) controls ++ target ∷ [])))
    ≡ controls_text (flip_texts place) controls ++ argument_text (place target)
arguments_text place [] target = refl
arguments_text place (c ∷ []) target =
    more_arguments (place c.line) (place target) []
    ∙ ap (λ (t : List ℕ). t ++ argument_text (place target)) (sym (append-nil (argument_text (place c.line) ++ codes ",")))
arguments_text place (c ∷ d ∷ cs) target =
    let rest = map place (map (λ (control : Control). control.line) cs ++ target ∷ []) in
    more_arguments (place c.line) (place d.line) rest
    ∙ ap (λ (t : List ℕ). (argument_text (place c.line) ++ codes ",") ++ t) (arguments_text place (d ∷ cs) target)
    ∙ sym (append_assoc (argument_text (place c.line) ++ codes ",") (controls_text (flip_texts place) (d ∷ cs)) (argument_text (place target)))

gate_parts : (word space controls target end feed : List ℕ)
    → (word ++ space) ++ (controls ++ (target ++ (end ++ feed))) ≡ word ++ (space ++ (((controls ++ target) ++ end) ++ feed))
gate_parts word space controls target end feed = simp append_assoc

flip_text_is : (place : ℕ → Argument) (gate : GateView) (target : ℕ) → gate.op ≡ Flip target
    → flip_text (flip_texts place) gate.controls target ≡ line_text (words_of (gate_statement place gate))
flip_text_is place gate target e =
    let lines : lines_of gate ≡ map (λ (control : Control). control.line) gate.controls ++ target ∷ [] =
    ap (λ op. map (λ (control : Control). control.line) gate.controls ++ targets_of op) e in
    let arguments : concat (parted (map place (lines_of gate)) ++ codes ";" ∷ []) ≡
    (controls_text (flip_texts place) gate.controls ++ argument_text (place target)) ++ codes ";" =
    concat-append (parted (map place (lines_of gate))) (codes ";" ∷ [])
    ∙ ap (λ ls. concat (parted (map place ls)) ++ codes ";") lines
    ∙ ap (λ (t : List ℕ). t ++ codes ";") (arguments_text place gate.controls target) in
    gate_parts (gate_word (length gate.controls)) (codes " ") (controls_text (flip_texts place) gate.controls) (argument_text (place target)) (codes ";")
    (codes "\n")
    ∙ ap (λ (t : List ℕ). gate_word (length gate.controls) ++ (codes " " ++ (t ++ codes "\n"))) (sym arguments)

-- ---- registers and gates

words_mapped : {X : Type 0} (f : X → Statement) (xs : List X) → map words_of (map f xs) ≡ map (λ x. words_of (f x)) xs
words_mapped f [] = refl
words_mapped f (x ∷ xs) = ap (λ rest. words_of (f x) ∷ rest) (words_mapped f xs)

-- the registers and the gates, behind the include
body_is : (registers : List Register) (place : ℕ → Argument) (gates : List GateView)
    → AreNarrow gates → flat_map line_text (map words_of (map declaration registers ++ map (gate_statement place) gates))
    ≡ flat_map line_text (map words_declared registers) ++ gates_text (flip_texts place) gates
body_is registers place gates narrow =
    ap (flat_map line_text) (map-append words_of (map declaration registers) (map (gate_statement place) gates)
    ∙ ap (λ ls. ls ++ map words_of (map (gate_statement place) gates)) (words_mapped declaration registers)
    ∙ ap (λ ls. map words_declared registers ++ ls) (words_mapped (gate_statement place) gates))
    ∙ flat_map-append line_text (map words_declared registers) (map (λ gate. words_of (gate_statement place gate)) gates)
    ∙ ap (λ (t : List ℕ). flat_map line_text (map words_declared registers) ++ t)
    (sym (gates_are_lines (flip_texts place) line_text (λ gate. words_of (gate_statement place gate)) (flip_text_is place) gates narrow))

file_text_is : (registers : List Register) (place : ℕ → Argument) (gates : List GateView) (text : List ℕ) → AreNarrow gates
    → flat_map line_text (map words_declared registers) ≡ text → (head_text ++ text) ++ gates_text (flip_texts place) gates ≡ file_text registers place gates
file_text_is registers place gates text narrow e =
    append_assoc head_text text (gates_text (flip_texts place) gates)
    ∙ sym (ap (λ (t : List ℕ). head_text ++ t) (body_is registers place gates narrow ∙ ap (λ (t : List ℕ). t ++ gates_text (flip_texts place) gates) e))

-- ---- numbered lines

added_text_is : (added : Bool) → flat_map line_text (map words_declared (added_register added)) ≡ register_text (codes "dirty") (cond added 1 0)
added_text_is true = append-nil (line_text (words_declared (record { name = codes "dirty"; size = 1 }))) ∙ declaration_text_is (codes "dirty") 1
added_text_is false = refl

numbered_registers_text_is : (count : ℕ) (added : Bool)
    → flat_map line_text (map words_declared (converted_registers count added)) ≡ numbered_registers_text count added
numbered_registers_text_is count added =
    ap (λ (t : List ℕ). t ++ flat_map line_text (map words_declared (added_register added))) (declaration_text_is (codes "q") (kept_lines count added))
    ∙ ap (λ (t : List ℕ). declaration_text (codes "q") (kept_lines count added) ++ t) (added_text_is added)

-- ---- the whole text

pub text_is : (naming : Naming) (gates : List GateView) → AreNarrow gates
    → header_text naming ++ (gates_text (flip_texts (place_by naming)) gates ++ []) ≡ file_text (registers_by naming) (place_by naming) gates
text_is naming gates narrow =
    ap (λ (t : List ℕ). header_text naming ++ t) (append-nil (gates_text (flip_texts (place_by naming)) gates)) ∙ by naming
  where
    by : (naming : Naming) → header_text naming ++ gates_text (flip_texts (place_by naming)) gates ≡ file_text (registers_by naming) (place_by naming) gates
    by (ByRole roles) =
        file_text_is (registers_of roles) (argument_of roles) gates (role_registers_text roles) narrow (registers_text_is roles)
    by (ByNumber count added) =
        file_text_is (converted_registers count added) (converted_place count added) gates (numbered_registers_text count added) narrow
        (numbered_registers_text_is count added)
