-- The reader as functions on lists of words: what each line adds, and what the lines that are left
-- give.
use Rattle.std.specs.Prelude.{◌==◌, ℕ, ◌+◌, ◌-◌, nat_lt, nat_le, Bool, true, false, not, ◌&&◌, ◌||◌, if◌then◌else◌, List, [], ◌∷◌, ◌++◌, length, map, replicate}
use Rattle.std.specs.Prelude.{codes, drop, position, ◌≡◌, Option, Some, None, unwrap_or, Result, Ok, Err}
use Rattle.std.specs.Option.{is_some}
use Rattle.std.specs.List.{find, list_all}
use Rattle.format_parts.specs.Names.{has_word}
use Rattle.std.specs.Char.{is_ascii_digit}
use Rattle.std.specs.Str.{bytes_eq}
use Rattle.std.specs.Str.Parse.{digits_value}
use Rattle.mct_circuit.specs.declared.gate.Control.{Control}
use Rattle.mct_circuit.specs.declared.gate.Op.{Op}
use Rattle.mct_circuit.specs.declared.gate.Op.TheVariants.{Flip, Swap}
use Rattle.mct_circuit.specs.Gates.{GateView}
use Rattle.mct_circuit.specs.Sizes.{has_line}
use Rattle.circuit_plans.specs.declared.plan.TheConstants.{MOST_LINES, MOST_GATES}
use Rattle.revc_base.specs.declared.limits.TheConstants.{MOST_NAME_BYTES}
use Rattle.real_format.specs.declared.file.Mark.{Mark}
use Rattle.real_format.specs.declared.file.Mark.TheVariants.{Free, Zero, One}
use Rattle.real_format.specs.declared.file.RealFault.{RealFault}
use Rattle.real_format.specs.declared.file.RealFault.TheVariants as faults
use Rattle.real_format.specs.declared.header.Head.{Head}
use Rattle.real_format.specs.declared.header.Head.TheVariants as heads
use Rattle.real_format.specs.declared.gate.Shape.{Shape}
use Rattle.real_format.specs.declared.refusal.LineRefusal.{LineRefusal}
use Rattle.real_format.specs.declared.refusal.LineRefusal.TheVariants.{Form, Limit, Memory}
use Rattle.real_format.specs.Header.{HeaderView, with_constants, with_garbage, spelling_of}
use Rattle.real_format.specs.Real.{RealView, Place, in_header, in_gates, at_end}

-- ---- outcomes

-- go on with what was made, or stop with the refusal
abbrev pub and_then : {A B : Type 0} → Result A LineRefusal → (A → Result B LineRefusal)
    → Result B LineRefusal
and_then (Ok a) f = f a
and_then (Err e) f = Err e

-- go on with what is there, or refuse the form
abbrev pub or_form : {A B : Type 0} → Option A → (A → Result B LineRefusal) → Result B LineRefusal
or_form (Some a) f = f a
or_form None f = Err Form

-- the refusal is the text's, or want of memory, which says nothing of the text
abbrev pub Refuses : {A : Type 0} → Result A LineRefusal → LineRefusal → Type 0
Refuses said Form = said ≡ Err Form
Refuses said Limit = said ≡ Err Limit
Refuses said (Memory _) = Unit {0}

-- ---- words

abbrev pub is_nil : {A : Type 0} → List A → Bool
is_nil [] = true
is_nil (x ∷ xs) = false

-- the one word of a list
abbrev pub single : List (List ℕ) → Option (List ℕ)
single [] = None
single (word ∷ []) = Some word
single (word ∷ other ∷ words) = None

abbrev pub number_of : List ℕ → Option ℕ
number_of word =
    if not (is_nil word) && list_all is_ascii_digit word then Some (digits_value 10 word) else None

-- there is a first byte, and it is no sign and no `#`
abbrev pub begins_name : List ℕ → Bool
begins_name [] = false
begins_name (b ∷ bs) = not (b == 45 || b == 35)

abbrev pub has_sign : List ℕ → Bool
has_sign [] = false
has_sign (b ∷ bs) = b == 45

abbrev pub is_long : List ℕ → Bool
is_long word = nat_lt MOST_NAME_BYTES (length word)

-- ---- the header

abbrev pub is_version : List ℕ → Bool
is_version word = bytes_eq word (codes "1.0") || bytes_eq word (codes "2.0")

abbrev pub add_version : HeaderView → List (List ℕ) → Result HeaderView LineRefusal
add_version said words =
    if said.version then Err Form
    else or_form (single words) (λ word. if is_version word then Ok (record said { version = true })
    else Err Form)

abbrev pub counted : ℕ → List (List ℕ) → Result ℕ LineRefusal
counted n rest =
    if n == 0 then Err Form
    else (if nat_lt MOST_LINES n then Err Limit
    else (if is_nil rest then Ok n
    else Err Form))

abbrev pub count_of : List (List ℕ) → Result ℕ LineRefusal
count_of [] = Err Form
count_of (word ∷ rest) = or_form (number_of word) (λ n. counted n rest)

abbrev pub add_lines : HeaderView → List (List ℕ) → Result HeaderView LineRefusal
add_lines said words =
    if is_some said.lines then Err Form
    else and_then (count_of words) (λ n. Ok (record said { lines = Some n }))

-- the names with one more
abbrev pub more_names : List (List ℕ) → List ℕ → Result (List (List ℕ)) LineRefusal
more_names names word =
    if not (begins_name word) then Err Form
    else (if is_long word then Err Limit
    else (if has_word names word then Err Form
    else Ok (names ++ word ∷ [])))

-- n names: those that were read and those that are left
abbrev pub names_from : ℕ → List (List ℕ) → List (List ℕ) → Result (List (List ℕ)) LineRefusal
names_from n names [] = if length names == n then Ok names else Err Form
names_from n names (word ∷ words) =
    if length names == n then Err Form
    else and_then (more_names names word) (λ more. names_from n more words)

abbrev pub add_names : HeaderView → List (List ℕ) → Result HeaderView LineRefusal
add_names said words =
    if is_some said.names then Err Form
    else or_form said.lines (λ n. and_then (names_from n [] words)
    (λ names. Ok (record said { names = Some names })))

abbrev pub constant_of : ℕ → Option Mark
constant_of b =
    if b == 45 then Some Free
    else (if b == 48 then Some Zero
    else (if b == 49 then Some One
    else None))

abbrev pub garbage_of : ℕ → Option Bool
garbage_of b = if b == 45 then Some false else (if b == 49 then Some true else None)

-- the marks that were read and those of the bytes that are left
abbrev pub marks_from : {M : Type 0} → (ℕ → Option M) → List M → List ℕ
    → Result (List M) LineRefusal
marks_from f marks [] = Ok marks
marks_from f marks (b ∷ bs) = or_form (f b) (λ mark. marks_from f (marks ++ mark ∷ []) bs)

-- n marks, the one word of a list
abbrev pub marks_of : {M : Type 0} → (ℕ → Option M) → ℕ → List (List ℕ)
    → Result (List M) LineRefusal
marks_of f n words =
    or_form (single words) (λ word. if length word == n then marks_from f [] word else Err Form)

-- the marks of all lines, once, and behind the number of lines
abbrev pub new_marks : {M : Type 0} → (ℕ → Option M) → Bool → Option ℕ → List (List ℕ)
    → Result (List M) LineRefusal
new_marks f said lines words =
    if said then Err Form else or_form lines (λ n. marks_of f n words)

-- these are the new marks
abbrev pub AddsMarks : {M : Type 0} → Result (List M) LineRefusal → Option (List M) → Type 0
AddsMarks said None = ⊥
AddsMarks said (Some marks) = said ≡ Ok marks

abbrev pub add_marks : {M : Type 0} → (ℕ → Option M) → (old : Option (List M)) → Option ℕ
    → (with_marks : List M → HeaderView) → List (List ℕ) → Result HeaderView LineRefusal
add_marks f old lines with_marks words =
    and_then (new_marks f (is_some old) lines words) (λ marks. Ok (with_marks marks))

-- what may be said once, and the header with it
abbrev pub say_once : (old : Bool) → HeaderView → Result HeaderView LineRefusal
say_once old after = if old then Err Form else Ok after

abbrev pub add : Head → HeaderView → List (List ℕ) → Result HeaderView LineRefusal
add heads.Version said words = add_version said words
add heads.Lines said words = add_lines said words
add heads.Names said words = add_names said words
add heads.Inputs said words = say_once said.inputs (record said { inputs = true })
add heads.Outputs said words = say_once said.outputs (record said { outputs = true })
add heads.InputBus said words = Ok said
add heads.OutputBus said words = Ok said
add heads.Constants said words =
    add_marks constant_of said.constants said.lines (with_constants said) words
add heads.Garbage said words =
    add_marks garbage_of said.garbage said.lines (with_garbage said) words

abbrev pub all_heads : List Head
all_heads =
    heads.Version ∷ heads.Lines ∷ heads.Names ∷ heads.Inputs ∷ heads.Outputs ∷ heads.InputBus
    ∷ heads.OutputBus ∷ heads.Constants ∷ heads.Garbage ∷ []

-- the kind of a line that begins with this word
abbrev pub head_of : List ℕ → Option Head
head_of word = find (λ head. bytes_eq (spelling_of head) word) all_heads

-- the file of a header with these names, without its gates
abbrev pub file_of : HeaderView → List (List ℕ) → RealView
file_of said names = record {
  names = names;
  constants = unwrap_or said.constants (replicate (length names) Free);
  garbage = unwrap_or said.garbage (replicate (length names) false);
  gates = [];
}

abbrev pub begin_gates : HeaderView → List ℕ → List (List ℕ) → Result Place LineRefusal
begin_gates said word words =
    if bytes_eq word (codes ".begin") && is_nil words
    then or_form said.names (λ names. Ok (in_gates (file_of said names))) else Err Form

abbrev pub headed : Option Head → HeaderView → List ℕ → List (List ℕ) → Result Place LineRefusal
headed (Some head) said word words = and_then (add head said words) (λ after. Ok (in_header after))
headed None said word words = begin_gates said word words

abbrev pub header_line : HeaderView → List (List ℕ) → Result Place LineRefusal
header_line said [] = Ok (in_header said)
header_line said (word ∷ words) = headed (head_of word) said word words

-- ---- gates

-- how many lines a gate of this letter changes
abbrev pub targets_in : ℕ → Option ℕ
targets_in letter = if letter == 116 then Some 1 else (if letter == 102 then Some 2 else None)

abbrev pub shape_of_count : ℕ → Option ℕ → Option Shape
shape_of_count targets None = None
shape_of_count targets (Some n) =
    if nat_le targets n then Some (record { controls = n - targets; targets = targets }) else None

abbrev pub shape_of_digits : Option ℕ → List ℕ → Option Shape
shape_of_digits None digits = None
shape_of_digits (Some targets) digits =
    if nat_le (length digits) 5 then shape_of_count targets (number_of digits) else None

-- what the word of a gate says
abbrev pub shape_of : List ℕ → Option Shape
shape_of [] = None
shape_of (letter ∷ digits) = shape_of_digits (targets_in letter) digits

-- the line of a name, which is none of those that the gate has
abbrev pub line_of : List (List ℕ) → (ℕ → Bool) → List ℕ → Result ℕ LineRefusal
line_of names has word =
    if not (begins_name word) then Err Form
    else (if is_long word then Err Limit
    else or_form (position (bytes_eq word) names) (λ line. if has line then Err Form else Ok line))

abbrev pub lines_of_controls : List Control → List ℕ
lines_of_controls controls = map (λ (control : Control). control.line) controls

abbrev pub control_on : Bool → ℕ → Control
control_on positive line = record { line = line; positive = positive }

abbrev pub control_of : List (List ℕ) → (ℕ → Bool) → List ℕ → Result Control LineRefusal
control_of names has word =
    if has_sign word
    then and_then (line_of names has (drop 1 word)) (λ line. Ok (control_on false line))
    else and_then (line_of names has word) (λ line. Ok (control_on true line))

-- so many controls, those that were read and those that are left, and the words behind them
abbrev pub controls_from : List (List ℕ) → ℕ → List Control → List (List ℕ)
    → Result (List Control × List (List ℕ)) LineRefusal
controls_from names wanted controls [] =
    if length controls == wanted then Ok (controls, []) else Err Form
controls_from names wanted controls (word ∷ words) =
    if length controls == wanted then Ok (controls, word ∷ words)
    else and_then (control_of names (λ line. has_line line (lines_of_controls controls)) word)
    (λ control. controls_from names wanted (controls ++ control ∷ []) words)

abbrev pub target_of : List (List ℕ) → (ℕ → Bool) → List (List ℕ)
    → Result (ℕ × List (List ℕ)) LineRefusal
target_of names has [] = Err Form
target_of names has (word ∷ words) = and_then (line_of names has word) (λ line. Ok (line, words))

-- the operation, where no words are left behind it
abbrev pub alone : Op → List (List ℕ) → Result Op LineRefusal
alone op words = if is_nil words then Ok op else Err Form

abbrev pub op_of : List (List ℕ) → ℕ → (ℕ → Bool) → List (List ℕ) → Result Op LineRefusal
op_of names targets has words =
    and_then (target_of names has words) (λ first.
    if targets == 1 then alone (Flip first.0) first.1
    else and_then (target_of names (λ line. has line || line == first.0) first.1)
    (λ second. alone (Swap first.0 second.0) second.1))

abbrev pub gate_of : List (List ℕ) → Shape → List (List ℕ) → Result GateView LineRefusal
gate_of names shape words =
    and_then (controls_from names shape.controls [] words) (λ read.
    and_then (op_of names shape.targets (λ line. has_line line (lines_of_controls read.0)) read.1)
    (λ op. Ok (record { controls = read.0; op = op })))

-- the gates with one more
abbrev pub more_gates : List (List ℕ) → List GateView → Shape → List (List ℕ)
    → Result (List GateView) LineRefusal
more_gates names gates shape words =
    if length gates == MOST_GATES then Err Limit
    else and_then (gate_of names shape words) (λ gate. Ok (gates ++ gate ∷ []))

abbrev pub with_gate : RealView → GateView → Place
with_gate file gate = in_gates (record file { gates = file.gates ++ gate ∷ [] })

abbrev pub add_gate : RealView → Shape → List (List ℕ) → Result Place LineRefusal
add_gate file shape words =
    if length file.gates == MOST_GATES then Err Limit
    else and_then (gate_of file.names shape words) (λ gate. Ok (with_gate file gate))

abbrev pub end_gates : RealView → List (List ℕ) → Result Place LineRefusal
end_gates file words = if is_nil words then Ok (at_end file) else Err Form

abbrev pub gates_line : RealView → List (List ℕ) → Result Place LineRefusal
gates_line file [] = Ok (in_gates file)
gates_line file (word ∷ words) =
    if bytes_eq word (codes ".end") then end_gates file words
    else or_form (shape_of word) (λ shape. add_gate file shape words)

-- ---- lines

abbrev pub after_line : Place → List (List ℕ) → Result Place LineRefusal
after_line (in_header said) words = header_line said words
after_line (in_gates file) words = gates_line file words
after_line (at_end file) words = if is_nil words then Ok (at_end file) else Err Form

-- what is said of the line with this number
abbrev pub fault_at : ℕ → LineRefusal → RealFault
fault_at number Form = faults.Line number
fault_at number Limit = faults.Limit number
fault_at number (Memory _) = faults.Memory _

-- the text's fault; no line is refused for want of memory
abbrev pub text_fault : ℕ → LineRefusal → RealFault
text_fault number Form = faults.Line number
text_fault number Limit = faults.Limit number
text_fault number (Memory _) = faults.Line number

-- what comes of a text that ends here, where the next line would have this number
abbrev pub verdict_at_last : Place → ℕ → Result RealView RealFault
verdict_at_last (in_header said) number = Err (faults.Line number)
verdict_at_last (in_gates file) number = Err (faults.Line number)
verdict_at_last (at_end file) number = Ok file

abbrev pub verdict_after : Result Place LineRefusal → ℕ → (Place → Result RealView RealFault)
    → Result RealView RealFault
verdict_after (Ok place) number f = f place
verdict_after (Err e) number f = Err (text_fault number e)

-- what comes of the lines that are left, the first of which has this number
abbrev pub verdict : Place → ℕ → List (List (List ℕ)) → Result RealView RealFault
verdict place number [] = verdict_at_last place number
verdict place number (line ∷ lines) =
    verdict_after (after_line place line) number (λ next. verdict next (number + 1) lines)

-- the fault is that of the verdict, or want of memory
abbrev pub IsFaultOf : Result RealView RealFault → RealFault → Type 0
IsFaultOf said (faults.Line number) = said ≡ Err (faults.Line number)
IsFaultOf said (faults.Limit number) = said ≡ Err (faults.Limit number)
IsFaultOf said (faults.Memory _) = Unit {0}
