-- What a line adds, as the reader's functions give it, is where it leads.
use Rattle.std.proofs.Common.{◌≡◌, ℕ, ◌<◌, ◌≤◌, Bool, true, false, ◌&&◌, if◌then◌else◌, eqb, ◌⊎◌, inl, inr, List, [], ◌∷◌, ◌++◌, length, replicate, codes}
use Rattle.std.proofs.Common.{Option, Some, None, IfSome, unwrap_or, Ok, Err, refl, sym, ap, ◌∙◌, subst, arith}
use Rattle.std.specs.List.{AllByRecursion, find}
use Rattle.std.specs.Str.{bytes_eq}
use Rattle.std.proofs.lemmas.Bool.{ne_eqb, eq-eqb, eqb-true, eqb-false, and_parts}
use Rattle.std.proofs.lemmas.List.{length-append, length-replicate}
use Rattle.list_facts.specs.Lists.{AreApart}
use Rattle.list_facts.proofs.AllLemmas.{AllByRecursion-append}
use Rattle.mct_circuit.specs.Gates.{GateView, IsGateOn, AreGatesOn}
use Rattle.circuit_plans.specs.declared.plan.TheConstants.{MOST_LINES, MOST_GATES}
use Rattle.real_format.specs.declared.file.Mark.TheVariants.{Free}
use Rattle.real_format.specs.declared.header.Head.{Head}
use Rattle.real_format.specs.declared.header.Head.TheVariants as heads
use Rattle.real_format.specs.declared.refusal.LineRefusal.TheVariants.{Form, Limit}
use Rattle.real_format.specs.Header.{HeaderView, IsName, AreNames, spelling_of}
use Rattle.real_format.specs.Real.{RealView, Place, in_header, in_gates, at_end, Leads, says_nothing, says_more, begins_gates, adds_gate, ends_file, Begins}
use Rattle.real_format.specs.Real.{ReadsGate, IsGateWord, IsFile}
use Rattle.real_format.specs.Faults.{PassesLimit, HasManyLines, HasLongName, HasManyGates, HasLongGate}
use Rattle.real_format.specs.inside.Says.{IsSound}
use Rattle.real_format.specs.inside.Reading.{and_then, or_form, is_nil, head_of, all_heads, add, headed, begin_gates, file_of, shape_of, gate_of, add_gate}
use Rattle.real_format.specs.inside.Reading.{with_gate, end_gates, gates_line, after_line}
use Rattle.real_format.proofs.InversionLemmas.{else_ok, then_ok, and_ok, or_ok, same_ok, limit_else, then_limit, and_limit, or_limit, ok_no_limit}
use Rattle.real_format.proofs.HeaderLemmas.{same_word, nil_is}
use Rattle.real_format.proofs.SaysLemmas.{says_so, so_says, limit_so, limit_lines, limit_names, sound_so}
use Rattle.real_format.proofs.ShapeLemmas.{shape, gate_word_is, is_gate_word}
use Rattle.real_format.proofs.GateLemmas.{pick_then, pick_else}
use Rattle.real_format.proofs.GateLineLemmas.{gate_on, gate_read, read_gate, gate_long, long_gate}

names_are : (file : RealView) → IsFile file → AreNames file.names
names_are file is = record { named = is.named; different = is.different }

-- what a place holds fits
abbrev pub IsFit : Place → Type 0
IsFit (in_header said) = IsSound said
IsFit (in_gates file) = IsFile file
IsFit (at_end file) = IsFile file

-- ---- first words

find_passes : {A : Type 0} (p : A → Bool) (xs : List A) (x : A) → find p xs ≡ Some x → p x ≡ true
find_passes p [] x e = absurd (cc)
find_passes p (y ∷ ys) x e = by (p y) refl e (find_passes p ys x)
  where
    by : (t : Bool) → p y ≡ t → (if t then Some y else find p ys) ≡ Some x → (find p ys ≡ Some x → p x ≡ true) → p x ≡ true
    by true q f rest = let same : y ≡ x = cc in ap p (sym same) ∙ q
    by false q f rest = rest f

head_is : (word : List ℕ) (head : Head) → head_of word ≡ Some head → word ≡ spelling_of head
head_is word head e = sym (same_word (spelling_of head) word (find_passes (λ h. bytes_eq (spelling_of h) word) all_heads head e))

is_head : (head : Head) → head_of (spelling_of head) ≡ Some head
is_head heads.Version = refl
is_head heads.Lines = refl
is_head heads.Names = refl
is_head heads.Inputs = refl
is_head heads.Outputs = refl
is_head heads.InputBus = refl
is_head heads.OutputBus = refl
is_head heads.Constants = refl
is_head heads.Garbage = refl

-- ---- a line that goes on

pub begins_so : (said : HeaderView) (names : List (List ℕ)) → said.names ≡ Some names → Begins said (file_of said names)
begins_so said names e = record { names = e; constants = refl; garbage = refl; gates = refl }

begin_leads : (said : HeaderView) (word : List ℕ) (words : List (List ℕ)) (next : Place) → begin_gates said word words ≡ Ok next
    → Leads (word ∷ words) (in_header said) next
begin_leads said word words next e =
    let p = then_ok (bytes_eq word (codes ".begin") && is_nil words) Form (or_form said.names (λ names. Ok (in_gates (file_of said names)))) next e in
    let parts = and_parts (bytes_eq word (codes ".begin")) (is_nil words) p.0 in
    let q = or_ok said.names (λ names. Ok (in_gates (file_of said names))) next p.1 in
    let line : word ∷ words ≡ codes ".begin" ∷ [] = ap (λ w. w ∷ words) (same_word word (codes ".begin") parts.0)
    ∙ ap (λ ws. codes ".begin" ∷ ws) (nil_is words parts.1) in
    subst (Leads (word ∷ words) (in_header said)) (same_ok (in_gates (file_of said q.0)) next q.2) (begins_gates line (begins_so said q.0 q.1))

header_leads : (said : HeaderView) (word : List ℕ) (words : List (List ℕ)) (next : Place) (r : Option Head) → head_of word ≡ r
    → headed r said word words ≡ Ok next
    → Leads (word ∷ words) (in_header said) next
header_leads said word words next None h e = begin_leads said word words next e
header_leads said word words next (Some head) h e =
    let p = and_ok (add head said words) (λ after. Ok (in_header after)) next e in
    subst (Leads (word ∷ words) (in_header said)) (same_ok (in_header p.0) next p.2)
    (says_more head words (ap (λ w. w ∷ words) (head_is word head h)) (says_so head said words p.0 p.1))

gates_lead : (file : RealView) (word : List ℕ) (words : List (List ℕ)) (next : Place) (t : Bool) → length file.gates ≤ MOST_GATES
    → bytes_eq word (codes ".end") ≡ t
    → (if t then end_gates file words else or_form (shape_of word) (λ s. add_gate file s words)) ≡ Ok next → Leads (word ∷ words) (in_gates file) next
gates_lead file word words next true few h e =
    let p = then_ok (is_nil words) Form (Ok (at_end file)) next e in
    let line : word ∷ words ≡ codes ".end" ∷ [] = ap (λ w. w ∷ words) (same_word word (codes ".end") h) ∙ ap (λ ws. codes ".end" ∷ ws) (nil_is words p.0) in
    subst (Leads (word ∷ words) (in_gates file)) (same_ok (at_end file) next p.1) (ends_file line)
gates_lead file word words next false few h e =
    let p = or_ok (shape_of word) (λ s. add_gate file s words) next e in
    let q = else_ok (eqb (length file.gates) MOST_GATES) Limit (and_then (gate_of file.names p.0 words) (λ g. Ok (with_gate file g))) next p.2 in
    let r = and_ok (gate_of file.names p.0 words) (λ g. Ok (with_gate file g)) next q.1 in
    let other = eqb-false (length file.gates) MOST_GATES q.0 in
    let room : length file.gates < MOST_GATES = grind (arith, other) in
    subst (Leads (word ∷ words) (in_gates file)) (same_ok (with_gate file r.0) next r.2)
    (adds_gate r.0 (gate_read file.names words word p.0 r.0 p.1 r.1) room)

pub leads_so : (place next : Place) (line : List (List ℕ)) → IsFit place → after_line place line ≡ Ok next → Leads line place next
leads_so (in_header said) next [] room e = subst (Leads [] (in_header said)) (same_ok (in_header said) next e) (says_nothing refl)
leads_so (in_header said) next (w ∷ ws) room e = header_leads said w ws next (head_of w) refl e
leads_so (in_gates file) next [] room e = subst (Leads [] (in_gates file)) (same_ok (in_gates file) next e) (says_nothing refl)
leads_so (in_gates file) next (w ∷ ws) room e = gates_lead file w ws next (bytes_eq w (codes ".end")) room.few_gates refl e
leads_so (at_end file) next [] room e = subst (Leads [] (at_end file)) (same_ok (at_end file) next e) (says_nothing refl)
leads_so (at_end file) next (w ∷ ws) room e = absurd (cc)

-- ---- a line that leads on

nothing_said_so : (place : Place) → after_line place [] ≡ Ok place
nothing_said_so (in_header said) = refl
nothing_said_so (in_gates file) = refl
nothing_said_so (at_end file) = refl

file_is : (said : HeaderView) (file : RealView) → Begins said file → file_of said file.names ≡ file
file_is said file b =
    ap (λ ms. let f : RealView = record {
      names = file.names;
      constants = ms;
      garbage = unwrap_or said.garbage (replicate (length file.names) false);
      gates = [];
    } in f) (sym b.constants)
    ∙ ap (λ ms. let f : RealView = record { names = file.names; constants = file.constants; garbage = ms; gates = [] } in f) (sym b.garbage)
    ∙ ap (λ gs. let f : RealView = record { names = file.names; constants = file.constants; garbage = file.garbage; gates = gs } in f) (sym b.gates)

no_end_word : (word : List ℕ) (controls targets : ℕ) → IsGateWord word controls targets → bytes_eq word (codes ".end") ≡ false
no_end_word word controls targets is =
    ap (λ w. bytes_eq w (codes ".end")) is.spelled
    ∙ elim is.known [
      | inl t ↦ ap (λ l. bytes_eq (l ∷ is.number) (codes ".end")) t.0
      | inr f ↦ ap (λ l. bytes_eq (l ∷ is.number) (codes ".end")) f.0
    ]

gate_so : (file : RealView) (line : List (List ℕ)) (read : GateView) → AreNames file.names → length file.gates < MOST_GATES → ReadsGate file.names line read
    → gates_line file line ≡ Ok (with_gate file read)
gate_so file line read are room r =
    let words = r.control_words ++ r.target_words in
    let s = shape (length r.control_words) (length r.target_words) in
    ap (gates_line file) r.parts
    ∙ pick_else (bytes_eq r.word (codes ".end")) (end_gates file words) (or_form (shape_of r.word) (λ k. add_gate file k words))
    (no_end_word r.word (length r.control_words) (length r.target_words) r.counted)
    ∙ ap (λ o. or_form o (λ k. add_gate file k words)) (is_gate_word r.word (length r.control_words) (length r.target_words) r.counted)
    ∙ pick_else (eqb (length file.gates) MOST_GATES) (Err Limit) (and_then (gate_of file.names s words) (λ g. Ok (with_gate file g)))
    (ne_eqb (length file.gates) MOST_GATES (λ e. omega arith))
    ∙ ap (λ g. and_then g (λ g. Ok (with_gate file g))) (read_gate file.names r.control_words r.target_words read are r.good)

pub reads_so : (place next : Place) (line : List (List ℕ)) → IsFit place → Leads line place next → after_line place line ≡ Ok next
reads_so place next line fit (says_nothing e) = ap (after_line place) e ∙ nothing_said_so place
reads_so place next line fit (says_more {said} {after} head words e says) =
    ap (after_line (in_header said)) e ∙ ap (λ h. headed h said (spelling_of head) words) (is_head head)
    ∙ ap (λ r. and_then r (λ a. Ok (in_header a))) (so_says head said words after says)
reads_so place next line fit (begins_gates {said} {file} e b) =
    ap (after_line (in_header said)) e ∙ ap (λ o. or_form o (λ names. Ok (in_gates (file_of said names)))) b.names
    ∙ ap (λ f. Ok (in_gates f)) (file_is said file b)
reads_so place next line fit (adds_gate {file} read r room) = gate_so file line read (names_are file fit) room r
reads_so place next line fit (ends_file {file} e) = ap (after_line (in_gates file)) e

marks_fit : {M : Type 0} (o : Option (List M)) (lines : Option ℕ) (n : ℕ) (d : M) → lines ≡ Some n → IfSome o (λ marks. lines ≡ Some (length marks))
    → length (unwrap_or o (replicate n d)) ≡ n
marks_fit None lines n d e h = length-replicate n d
marks_fit (Some marks) lines n d e h = let both : Some (length marks) ≡ Some n = sym h ∙ e in cc

pub file_begins : (said : HeaderView) (file : RealView) → IsSound said → Begins said file → IsFile file
file_begins said file sound b =
    let lines : said.lines ≡ Some (length file.names) = subst (λ o. IfSome o (λ names. said.lines ≡ Some (length names))) b.names sound.counted in
    record {
      some = subst (λ o. IfSome o (λ n. 1 ≤ n)) lines sound.some;
      few = subst (λ o. IfSome o (λ n. n ≤ MOST_LINES)) lines sound.few;
      named = subst (λ o. IfSome o (AllByRecursion IsName)) b.names sound.named;
      different = subst (λ o. IfSome o (AreApart (λ one other. one ≡ other))) b.names sound.different;
      constants = ap length b.constants ∙ marks_fit said.constants said.lines (length file.names) Free lines sound.constants;
      garbage = ap length b.garbage ∙ marks_fit said.garbage said.lines (length file.names) false lines sound.garbage;
      few_gates = subst (λ gs. length gs ≤ MOST_GATES) (sym b.gates) (omega arith);
      placed = subst (AreGatesOn (length file.names)) (sym b.gates) tt;
    }

pub fit_next : (place next : Place) (line : List (List ℕ)) → IsFit place → Leads line place next → IsFit next
fit_next place next line fit (says_nothing e) = fit
fit_next place next line fit (says_more {said} {after} head words e says) = sound_so head said words after fit says
fit_next place next line fit (begins_gates {said} {file} e b) = file_begins said file fit b
fit_next place next line fit (adds_gate {file} read r room) = record {
  some = fit.some;
  few = fit.few;
  named = fit.named;
  different = fit.different;
  constants = fit.constants;
  garbage = fit.garbage;
  few_gates = omega (arith, length-append file.gates (read ∷ []));
  placed = AllByRecursion-append (IsGateOn (length file.names)) file.gates (read ∷ []) fit.placed (gate_on file.names line read fit.different r, tt);
}
fit_next place next line fit (ends_file e) = fit

-- ---- limits

header_limit : (said : HeaderView) (word : List ℕ) (words : List (List ℕ)) (r : Option Head) → head_of word ≡ r → headed r said word words ≡ Err Limit
    → HasManyLines said (word ∷ words) ⊎ HasLongName said (word ∷ words)
header_limit said word words None h e =
    let p = then_limit (bytes_eq word (codes ".begin") && is_nil words) (or_form said.names (λ names. Ok (in_gates (file_of said names)))) e in
    let q = or_limit said.names (λ names. Ok (in_gates (file_of said names))) p.1 in
    ok_no_limit (in_gates (file_of said q.0)) q.2
header_limit said word words (Some head) h e = elim (and_limit (add head said words) (λ after. Ok (in_header after)) e) [
  | inl here ↦ subst (λ w. HasManyLines said (w ∷ words) ⊎ HasLongName said (w ∷ words)) (sym (head_is word head h)) (limit_so head said words here)
  | inr later ↦ ok_no_limit (in_header later.0) later.2
]

gates_limit : (file : RealView) (word : List ℕ) (words : List (List ℕ)) (t : Bool) → length file.gates ≤ MOST_GATES
    → (if t then end_gates file words else or_form (shape_of word) (λ s. add_gate file s words)) ≡ Err Limit
    → HasManyGates file (word ∷ words) ⊎ HasLongGate file (word ∷ words)
gates_limit file word words true few e = let p = then_limit (is_nil words) (Ok (at_end file)) e in ok_no_limit (at_end file) p.1
gates_limit file word words false few e =
    let p = or_limit (shape_of word) (λ s. add_gate file s words) e in
    elim (limit_else (eqb (length file.gates) MOST_GATES) (and_then (gate_of file.names p.0 words) (λ g. Ok (with_gate file g))) p.2) [
      | inl full ↦ inl (record {
        word = word;
        rest = words;
        controls = p.0.controls;
        targets = p.0.targets;
        words = refl;
        gate_word = gate_word_is word p.0 p.1;
        full = eqb-true (length file.gates) MOST_GATES full;
      })
      | inr q ↦
          let other = eqb-false (length file.gates) MOST_GATES q.0 in
          let room : length file.gates < MOST_GATES = grind (arith, other) in
          elim (and_limit (gate_of file.names p.0 words) (λ g. Ok (with_gate file g)) q.1) [
            | inl here ↦ inr (gate_long file words word p.0 room p.1 here)
            | inr later ↦ ok_no_limit (with_gate file later.0) later.2
          ]
    ]

pub limit_line : (place : Place) (line : List (List ℕ)) → IsFit place → after_line place line ≡ Err Limit → PassesLimit place line
limit_line (in_header said) [] fit e = ok_no_limit (in_header said) e
limit_line (in_header said) (w ∷ ws) fit e = header_limit said w ws (head_of w) refl e
limit_line (in_gates file) [] fit e = ok_no_limit (in_gates file) e
limit_line (in_gates file) (w ∷ ws) fit e = gates_limit file w ws (bytes_eq w (codes ".end")) fit.few_gates e
limit_line (at_end file) [] fit e = ok_no_limit (at_end file) e
limit_line (at_end file) (w ∷ ws) fit e = absurd (cc)

pub line_limit : (place : Place) (line : List (List ℕ)) → IsFit place → PassesLimit place line → after_line place line ≡ Err Limit
line_limit (in_header said) line fit (inl m) =
    ap (after_line (in_header said)) m.words
    ∙ ap (λ r. and_then r (λ a. Ok (in_header a))) (limit_lines said m.number m.rest m.count m.once m.counted m.many)
line_limit (in_header said) line fit (inr m) =
    ap (after_line (in_header said)) m.words
    ∙ ap (λ r. and_then r (λ a. Ok (in_header a))) (limit_names said m.names m.name m.rest m.count m.once m.counted m.good m.wanted m.long)
line_limit (in_gates file) line fit (inl m) =
    ap (gates_line file) m.words
    ∙ pick_else (bytes_eq m.word (codes ".end")) (end_gates file m.rest) (or_form (shape_of m.word) (λ k. add_gate file k m.rest))
    (no_end_word m.word m.controls m.targets m.gate_word)
    ∙ ap (λ o. or_form o (λ k. add_gate file k m.rest)) (is_gate_word m.word m.controls m.targets m.gate_word)
    ∙ pick_then (eqb (length file.gates) MOST_GATES) (Err Limit) (and_then (gate_of file.names (shape m.controls m.targets) m.rest) (λ g. Ok
    (with_gate file g)))
    (eq-eqb (length file.gates) MOST_GATES m.full)
line_limit (in_gates file) line fit (inr m) =
    let words = m.control_words ++ m.target_words ++ m.name ∷ m.rest in
    let room = m.room in
    ap (gates_line file) m.words
    ∙ pick_else (bytes_eq m.word (codes ".end")) (end_gates file words) (or_form (shape_of m.word) (λ k. add_gate file k words))
    (no_end_word m.word m.wanted_controls m.wanted_targets m.gate_word)
    ∙ ap (λ o. or_form o (λ k. add_gate file k words)) (is_gate_word m.word m.wanted_controls m.wanted_targets m.gate_word)
    ∙ pick_else (eqb (length file.gates) MOST_GATES) (Err Limit) (and_then (gate_of file.names (shape m.wanted_controls m.wanted_targets) words)
    (λ g. Ok (with_gate file g))) (ne_eqb (length file.gates) MOST_GATES (λ e. omega arith))
    ∙ ap (λ g. and_then g (λ g. Ok (with_gate file g))) (long_gate file line (names_are file fit) m)
line_limit (at_end file) line fit p = absurd p
