-- The words of `run` one after another, and the bits of the lines before and behind the circuit.
use Rattle.std.proofs.Common.{◌≡◌, ℕ, zero, suc, ◌+◌, ◌==◌, ◌<◌, ◌≤◌, Bool, true, false, List, [], ◌∷◌, ◌++◌, length, map, take, drop, get_or, string_bytes}
use Rattle.std.proofs.Common.{Global, cond, refl, sym, ap, ◌∙◌, subst, arith, append_assoc, append-nil}
use Rattle.std.specs.Prelude.{slice_index_or, IsTrue, Result, Ok, Err}
use Rattle.std.specs.Result.{IfOk, IfErr, OnOk}
use mir.Val.{bool_byte}
use Rattle.std.specs.Global.{Vec}
use Rattle.std.specs.List.{flat_map}
use Rattle.std.specs.declared.string.String.{String}
use Rattle.std.proofs.lemmas.List.{drop_all, get_or-map, length-map, map-append, take_all, take_more}
use Rattle.std.proofs.lemmas.List.Folds.{flat_map-map}
use Rattle.std.proofs.lemmas.Simd.{map-map}
use Rattle.circuit_sim.specs.Rows.{contents}
use Rattle.list_facts.proofs.AllLemmas.{AllByRecursion-append}
use Rattle.list_facts.proofs.CutLemmas.{cut_at, length-take_below}
use Rattle.mct_circuit.specs.Gates.{GateView, line_map}
use Rattle.real_format.specs.declared.file.Mark.{Mark}
use Rattle.real_format.specs.declared.file.Mark.TheVariants.{Free, Zero, One}
use Rattle.circuit_commands.specs.Circuits.{ReadCircuit, Means}
use Rattle.circuit_commands.specs.Outcomes.{IsRunFault, IsWordsFault}
use Rattle.command_answers.specs.BitWords.{IsInputWord, bits_of}
use Rattle.command_answers.specs.Lines.{bits_text}
use Rattle.command_answers.specs.declared.fault.Fault.{Fault}
use Rattle.command_answers.specs.declared.fault.Fault.TheVariants as faults
use Rattle.revc_words.specs.declared.order.Format.{Format}
use Rattle.circuit_commands.specs.Run.{AreInputs, IsFirstUnfit, IsRun, free_lines, given_by, is_free, kept, runs_text, started}
use Rattle.circuit_commands.specs.inside.Started.{first_bit, rest_bits}

-- ---- the words

-- the words before, the word at a place, and those behind it
word_at : (words : List (String Global)) (place : ℕ) (word : String Global) (text : List ℕ) → place < length words → word ≡ slice_index_or words place word
    → text ≡ string_bytes word
    → map string_bytes words ≡ take place (map string_bytes words) ++ text ∷ drop (place + 1) (map string_bytes words)
word_at words place word text lt is same =
    let all = map string_bytes words in
    let here : get_or all place text ≡ text = get_or-map string_bytes words place word text lt ∙ ap string_bytes (sym is) ∙ sym same in
    let next : suc place ≡ place + 1 = omega arith in
    cut_at all place text (omega (arith, length-map words string_bytes, lt))
    ∙ ap (λ (t : List ℕ). take place all ++ t ∷ drop (suc place) all) here
    ∙ ap (λ n. take place all ++ text ∷ drop n all) next

take_next : {A : Type 0} (xs : List A) (place : ℕ) (x : A) (rest : List A) → place < length xs → xs ≡ take place xs ++ x ∷ rest
    → take (place + 1) xs ≡ take place xs ++ x ∷ []
take_next [] place x rest lt cut = absurd (omega (arith, lt))
take_next (y ∷ ys) zero x rest lt cut = cc
take_next (y ∷ ys) (suc place) x rest lt cut =
    let tails : ys ≡ take place ys ++ x ∷ rest = cc in
    let next : suc place + 1 ≡ suc (place + 1) = omega arith in
    rw next (ap (λ zs. y ∷ zs) (take_next ys place x rest (omega (arith, lt)) tails))

pub checked_more : (circuit : ReadCircuit) (words : List (String Global)) (place : ℕ) (word : String Global) (text : List ℕ) → place < length words
    → word ≡ slice_index_or words place word → text ≡ string_bytes word → AreInputs circuit (take place (map string_bytes words))
    → IsInputWord (free_lines circuit.constants) text → AreInputs circuit (take (place + 1) (map string_bytes words))
checked_more circuit words place word text lt is same fit one =
    let all = map string_bytes words in
    let cut = word_at words place word text lt is same in
    subst (AreInputs circuit) (sym (take_next all place text (drop (place + 1) all) (omega (arith, length-map words string_bytes, lt)) cut))
    (AllByRecursion-append (IsInputWord (free_lines circuit.constants)) (take place all) (text ∷ []) fit (one, tt))

pub unfit_at : (circuit : ReadCircuit) (words : List (String Global)) (place : ℕ) (word : String Global) (text : List ℕ) → place < length words
    → word ≡ slice_index_or words place word → text ≡ string_bytes word → AreInputs circuit (take place (map string_bytes words))
    → ¬ IsInputWord (free_lines circuit.constants) text → IsFirstUnfit circuit (map string_bytes words) (place + 1)
unfit_at circuit words place word text lt is same fit unfit =
    let all = map string_bytes words in
    record {
      before = take place all;
      word = text;
      behind = drop (place + 1) all;
      cut = word_at words place word text lt is same;
      count = ap (λ n. n + 1) (sym (length-take_below all place (omega (arith, length-map words string_bytes, lt))));
      fit = fit;
      unfit = unfit;
    }

pub checked_all : (circuit : ReadCircuit) (words : List (String Global)) (place : ℕ) → length words ≤ place
    → AreInputs circuit (take place (map string_bytes words)) → AreInputs circuit (map string_bytes words)
checked_all circuit words place over fit =
    subst (AreInputs circuit) (take_all place (map string_bytes words) (omega (arith, length-map words string_bytes, over))) fit

-- a word that is refused is no input, and one that is not is one
pub refused_word : (circuit : ReadCircuit) (inputs : ℕ) (text : List ℕ) (result : Bool) → inputs ≡ free_lines circuit.constants
    → (IsTrue result → IsInputWord inputs text) × (IsInputWord inputs text → IsTrue result) → result ≡ false
    → ¬ IsInputWord (free_lines circuit.constants) text
refused_word circuit inputs text result same tells fails = λ fits. apart (subst IsTrue fails (tells.1 (subst (λ n. IsInputWord n text) (sym same) fits)))
  where
    apart : IsTrue false → ⊥
    apart e = absurd cc

pub accepted_word : (circuit : ReadCircuit) (inputs : ℕ) (text : List ℕ) (result : Bool) → inputs ≡ free_lines circuit.constants
    → (IsTrue result → IsInputWord inputs text) × (IsInputWord inputs text → IsTrue result) → result ≡ true
    → IsInputWord (free_lines circuit.constants) text
accepted_word circuit inputs text result same tells passes = subst (λ n. IsInputWord n text) same (tells.0 (subst IsTrue (sym passes) refl))

-- ---- the bits with which lines start

pub started_first : (mark : Mark) (marks : List Mark) (bits : List Bool)
    → started (mark ∷ marks) bits ≡ first_bit mark bits ∷ started marks (rest_bits mark bits)
started_first Zero marks bits = refl
started_first One marks bits = refl
started_first Free marks [] = refl
started_first Free marks (bit ∷ bits) = refl

-- a digit at a place is the first bit that is left there
pub first_here : (digits : List ℕ) (place digit : ℕ) → place < length digits → digit ≡ get_or digits place digit
    → first_bit Free (drop place (bits_of digits)) ≡ (digit == 49)
first_here [] place digit lt e = absurd (omega (arith, lt))
first_here (d ∷ ds) zero digit lt e = ap (λ n. n == 49) (sym e)
first_here (d ∷ ds) (suc place) digit lt e = first_here ds place digit (omega (arith, lt)) e

pub first_none : (digits : List ℕ) (place : ℕ) → length digits ≤ place → first_bit Free (drop place (bits_of digits)) ≡ false
first_none [] zero le = refl
first_none [] (suc place) le = refl
first_none (d ∷ ds) zero le = absurd (omega (arith, le))
first_none (d ∷ ds) (suc place) le = first_none ds place (omega (arith, le))

-- ---- loops: what was made, and what is left

pub starts_more : (marks : List Mark) (digits now lines : List Bool) (at next step : ℕ) (mark : Mark) → drop at marks ≡ mark ∷ drop (at + 1) marks
    → lines ++ started (drop at marks) (drop next digits) ≡ started marks digits → now ≡ lines ++ first_bit mark (drop next digits) ∷ []
    → drop step digits ≡ rest_bits mark (drop next digits) → now ++ started (drop (at + 1) marks) (drop step digits) ≡ started marks digits
starts_more marks digits now lines at next step mark here inv pushed stepped =
    let rest = started (drop (at + 1) marks) (rest_bits mark (drop next digits)) in
    ap (λ (ls : List Bool). ls ++ started (drop (at + 1) marks) (drop step digits)) pushed
    ∙ ap (λ (bits : List Bool). (lines ++ first_bit mark (drop next digits) ∷ []) ++ started (drop (at + 1) marks) bits) stepped
    ∙ append_assoc lines (first_bit mark (drop next digits) ∷ []) rest
    ∙ ap (λ (ls : List Bool). lines ++ ls) (sym (started_first mark (drop (at + 1) marks) (drop next digits)))
    ∙ ap (λ (ms : List Mark). lines ++ started ms (drop next digits)) (sym here)
    ∙ inv

-- the bits that are left behind a mark
rest_left : (mark : Mark) (digits : List Bool) (next : ℕ) → drop (next + bool_byte (is_free mark)) digits ≡ rest_bits mark (drop next digits)
rest_left Zero digits next = let same : next + 0 ≡ next = omega arith in ap (λ n. drop n digits) same
rest_left One digits next = let same : next + 0 ≡ next = omega arith in ap (λ n. drop n digits) same
rest_left Free [] zero = refl
rest_left Free [] (suc next) = none_left next
  where
    none_left : (next : ℕ) → drop (suc next + 1) [] ≡ rest_bits Free (drop (suc next) [])
    none_left next = drop_all (suc next + 1) [] (omega arith)
rest_left Free (d ∷ ds) zero = refl
rest_left Free (d ∷ ds) (suc next) =
    let later : suc next + 1 ≡ suc (next + 1) = omega arith in
    ap (λ n. drop n (d ∷ ds)) later ∙ rest_left Free ds next

pub step_below : (more : ℕ) (free : Bool) → more ≡ bool_byte free → more ≤ 1
step_below more true e = omega (arith, e)
step_below more false e = omega (arith, e)

pub stepped : (mark : Mark) (digits : List Bool) (next more : ℕ) (free : Bool) → more ≡ bool_byte free → free ≡ is_free mark
    → drop (next + more) digits ≡ rest_bits mark (drop next digits)
stepped mark digits next more free one is = ap (λ k. drop (next + k) digits) (one ∙ ap bool_byte is) ∙ rest_left mark digits next

pub starts_all : (marks : List Mark) (digits lines : List Bool) (at next : ℕ) → length marks ≤ at
    → lines ++ started (drop at marks) (drop next digits) ≡ started marks digits → lines ≡ started marks digits
starts_all marks digits lines at next over inv =
    sym (append-nil lines) ∙ ap (λ (ms : List Mark). lines ++ started ms (drop next digits)) (sym (drop_all at marks over)) ∙ inv

kept_first : (useless : Bool) (garbage : List Bool) (bit : Bool) (bits : List Bool) → kept (useless ∷ garbage) (bit ∷ bits)
    ≡ cond useless [] (bit ∷ []) ++ kept garbage bits
kept_first true garbage bit bits = refl
kept_first false garbage bit bits = refl

pub keeps_more : (garbage lines now bits : List Bool) (at : ℕ) (useless bit : Bool)
    → drop at garbage ≡ useless ∷ drop (at + 1) garbage → drop at lines ≡ bit ∷ drop (at + 1) lines
    → bits ++ kept (drop at garbage) (drop at lines) ≡ kept garbage lines
    → now ≡ bits ++ cond useless [] (bit ∷ []) → now ++ kept (drop (at + 1) garbage) (drop (at + 1) lines) ≡ kept garbage lines
keeps_more garbage lines now bits at useless bit left right inv pushed =
    let rest = kept (drop (at + 1) garbage) (drop (at + 1) lines) in
    ap (λ (bs : List Bool). bs ++ rest) pushed ∙ append_assoc bits (cond useless [] (bit ∷ [])) rest
    ∙ ap (λ (bs : List Bool). bits ++ bs) (sym (kept_first useless (drop (at + 1) garbage) bit (drop (at + 1) lines)))
    ∙ ap (λ (g : List Bool). bits ++ kept g (bit ∷ drop (at + 1) lines)) (sym left)
    ∙ ap (λ (l : List Bool). bits ++ kept (drop at garbage) l) (sym right)
    ∙ inv

pub keeps_all : (garbage lines bits : List Bool) (at : ℕ) → length lines ≤ at → length lines ≡ length garbage
    → bits ++ kept (drop at garbage) (drop at lines) ≡ kept garbage lines → bits ≡ kept garbage lines
keeps_all garbage lines bits at over same inv =
    sym (append-nil bits) ∙ ap (λ (g : List Bool). bits ++ kept g (drop at lines)) (sym (drop_all at garbage (omega (arith, over, same)))) ∙ inv

-- ---- all words

-- a row more starts on a word
pub started_more : (marks : List Mark) (words : List (String Global)) (rows : List (Vec Bool)) (row : Vec Bool) (at : ℕ) (word : String Global)
    (text : List ℕ) → at < length words → word ≡ slice_index_or words at word → text ≡ string_bytes word → row.items ≡ started marks (bits_of text)
    → contents rows ≡ map (λ (w : List ℕ). started marks (bits_of w)) (take at (map string_bytes words))
    → contents (rows ++ row ∷ []) ≡ map (λ (w : List ℕ). started marks (bits_of w)) (take (at + 1) (map string_bytes words))
started_more marks words rows row at word text lt is same starts inv =
    let all = map string_bytes words in
    let start = λ (w : List ℕ). started marks (bits_of w) in
    map-append (λ (r : Vec Bool). r.items) rows (row ∷ [])
    ∙ ap (λ (bs : List (List Bool)). bs ++ row.items ∷ []) inv
    ∙ ap (λ (b : List Bool). map start (take at all) ++ b ∷ []) starts
    ∙ sym (map-append start (take at all) (text ∷ []))
    ∙ ap (map start) (sym (take_next all at text (drop (at + 1) all) (omega (arith, length-map words string_bytes, lt))
    (word_at words at word text lt is same)))

-- the bits that are of use in a row more
pub kept_more : (garbage : List Bool) (rows : List (Vec Bool)) (row : Vec Bool) (at : ℕ) (lines : List (List Bool)) (bits : List Bool) → at < length rows
    → row ≡ slice_index_or rows at row → bits ≡ kept garbage row.items → lines ≡ map (kept garbage) (take at (contents rows))
    → lines ++ bits ∷ [] ≡ map (kept garbage) (take (at + 1) (contents rows))
kept_more garbage rows row at lines bits lt is keeps inv =
    let all = contents rows in
    let items = λ (r : Vec Bool). r.items in
    let here : get_or all at [] ≡ row.items = get_or-map items rows at row [] lt ∙ ap items (sym is) in
    ap (λ (ls : List (List Bool)). ls ++ bits ∷ []) inv
    ∙ ap (λ (b : List Bool). map (kept garbage) (take at all) ++ b ∷ []) (keeps ∙ ap (kept garbage) (sym here))
    ∙ sym (map-append (kept garbage) (take at all) (get_or all at [] ∷ []))
    ∙ ap (map (kept garbage)) (sym (take_more all at [] (omega (arith, length-map rows items, lt))))

-- rows that start on the words, go through the circuit and are kept give the text
pub all_given : (circuit : ReadCircuit) (words : List (List ℕ)) (marks : List Mark) (gates : List GateView) (garbage : List Bool)
    (before behind lines : List (List Bool)) → marks ≡ circuit.constants → gates ≡ circuit.gates → garbage ≡ circuit.garbage
    → before ≡ map (λ (w : List ℕ). started marks (bits_of w)) words → behind ≡ map (line_map gates) before
    → lines ≡ map (kept garbage) behind → flat_map bits_text lines ≡ runs_text circuit words
all_given circuit words marks gates garbage before behind lines same_marks same_gates same_garbage starts runs keeps =
    let start = λ (w : List ℕ). started circuit.constants (bits_of w) in
    let run = line_map circuit.gates in
    let started_so : before ≡ map start words = starts ∙ ap (λ (ms : List Mark). map (λ (w : List ℕ). started ms (bits_of w)) words) same_marks in
    let run_so : behind ≡ map run before = runs ∙ ap (λ (gs : List GateView). map (line_map gs) before) same_gates in
    let kept_so : lines ≡ map (kept circuit.garbage) behind = keeps ∙ ap (λ (g : List Bool). map (kept g) behind) same_garbage in
    ap (flat_map bits_text) (kept_so
    ∙ ap (map (kept circuit.garbage)) (run_so ∙ ap (map run) started_so ∙ map-map run start words)
    ∙ map-map (kept circuit.garbage) (λ (w : List ℕ). run (start w)) words)
    ∙ flat_map-map bits_text (given_by circuit) words

-- ---- as many lines behind as before

pub length-started : (marks : List Mark) (bits : List Bool) → length (started marks bits) ≡ length marks
length-started [] bits = refl
length-started (Zero ∷ marks) bits = ap suc (length-started marks bits)
length-started (One ∷ marks) bits = ap suc (length-started marks bits)
length-started (Free ∷ marks) [] = ap suc (length-started marks [])
length-started (Free ∷ marks) (bit ∷ bits) = ap suc (length-started marks bits)

-- ---- from a circuit to its text

pub run_of : {T E : Type 0} (from : Format) (words : List (List ℕ)) (text : List ℕ) (circuit : ReadCircuit) (text_of : T → List ℕ) (r : Result T E)
    → Means from text circuit → OnOk r (AreInputs circuit words) → IfOk r (λ lines. text_of lines ≡ runs_text circuit words)
    → IfOk r (λ lines. IsRun from words text (text_of lines))
run_of from words text circuit text_of (Ok lines) means fit is = record { circuit = circuit; means = means; fit = fit; lines = is }
run_of from words text circuit text_of (Err fault) means fit is = tt

pub run_stops : {T : Type 0} (from : Format) (words : List (List ℕ)) (text : List ℕ) (circuit : ReadCircuit) (r : Result T Fault) → Means from text circuit
    → IfErr r (IsWordsFault circuit words) → IfErr r (IsRunFault from words text)
run_stops from words text circuit (Ok lines) means h = tt
run_stops from words text circuit (Err (faults.BadBits number)) means h = record { circuit = circuit; means = means; first = h }
run_stops from words text circuit (Err (faults.Memory _)) means h = tt
run_stops from words text circuit (Err fault) means h = absurd h
