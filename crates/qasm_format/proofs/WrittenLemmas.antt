-- The text of registers and narrow gates, each statement in a line of its own, means their file.
use Rattle.std.proofs.Common.{◌≡◌, ℕ, ◌+◌, ◌<◌, ◌≤◌, true, inl, inr, List, [], ◌∷◌, ◌++◌, length, map, codes, refl, sym, ap, ◌∙◌, subst, arith, append_assoc}
use Rattle.std.proofs.Common.{append-nil}
use Rattle.std.specs.List.{AllByRecursion, flat_map}
use Rattle.std.specs.Fmt.{decimal}
use Rattle.std.proofs.lemmas.List.{length-map, length-append, map-append}
use Rattle.std.proofs.lemmas.Grind.{flat_map-append}
use Rattle.list_facts.specs.Lists.{IsAmong}
use Rattle.list_facts.proofs.AllLemmas.{AllByRecursion-append, AllByRecursion-map, AllByRecursion-weaker, AllByRecursion-both}
use Rattle.list_facts.proofs.AmongLemmas.{among_append}
use Rattle.mct_circuit.specs.Gates.{GateView, lines_of, flip_of, positive, IsGateOn, AreGatesOn, IsNarrow, AreNarrow}
use Rattle.mct_circuit.proofs.ReversalLemmas.{lines_of-flip_of}
use Rattle.qasm_format.specs.declared.file.Register.{Register}
use Rattle.qasm_format.specs.declared.spots.Spot.{Spot}
use Rattle.qasm_format.specs.declared.spots.Spot.TheVariants.{Line}
use Rattle.qasm_format.specs.declared.words.RegisterKind.TheVariants.{Qubits}
use Rattle.qasm_format.specs.declared.words.Use.{Use}
use Rattle.qasm_format.specs.declared.words.Use.TheVariants.{Flip}
use Rattle.text_places.specs.Places.{place_after, start}
use Rattle.qasm_format.specs.Statements.{Argument, one_of, includes, bracketed, argument_words, parted, words_of, head_words}
use Rattle.qasm_format.specs.Registers.{IsName, IsLaid, IsRegister, HaveDifferentNames, lines_of_all, line_at, HasSize}
use Rattle.qasm_format.specs.Stages.{Said, starts, head, nothing_said, wants_argument, behind_argument, IsUseWord, StandForGates, LeadTo}
use Rattle.format_parts.specs.Readings.{nothing_left, one_more}
use Rattle.qasm_format.specs.Qasm.{MeansFile}
use Rattle.qasm_format.specs.Written.{gate_word, gate_statement, declaration, file_statements, file_text}
use Rattle.qasm_format.proofs.CutLemmas.{AreCut, AreCut-append, AreCut-bracketed, AreCut-semicolon, AreCut-include, AreCut-parted, IsCutLine, is_cut_line}
use Rattle.qasm_format.proofs.CutLemmas.{cut_file}
use Rattle.qasm_format.proofs.WordLemmas.{is_number-decimal, IsNumber-decimal, is_identifier-gate_word, known_word}
use Rattle.qasm_format.proofs.RegisterLemmas.{lines_of_all-append}
use Rattle.qasm_format.proofs.ReadingLemmas.{leads_then}

-- ---- the text

-- the argument is the place of a line, by the number that it has in its register
pub record IsPlaceOf (registers : List Register) (argument : Argument) (line : ℕ) : Type 0 where
  pub name : List ℕ
  pub first : ℕ
  pub size : ℕ
  pub number : ℕ
  pub spelled : argument ≡ one_of name (decimal number)
  pub named : IsName name
  pub laid : IsLaid registers name first size
  pub inside : number < size
  pub small : number ≤ 16384
  pub place : first + number ≡ line

-- the argument of each line
pub record HasPlaces (registers : List Register) (argument : ℕ → Argument) : Type 0 where
  pub says : (line : ℕ) → line < lines_of_all registers → IsPlaceOf registers (argument line) line

-- ---- tokens

declarations_are_cut : (registers : List Register) → AllByRecursion IsRegister registers → lines_of_all registers ≤ 16384
    → AllByRecursion (λ s. IsCutLine (words_of s)) (map declaration registers)
declarations_are_cut [] good few = tt
declarations_are_cut (r ∷ rs) good few = (
  is_cut_line (codes "qreg") (bracketed r.name (decimal r.size) ++ codes ";" ∷ []) refl
      (AreCut-append (bracketed r.name (decimal r.size)) (codes ";" ∷ [])
      (AreCut-bracketed r.name (decimal r.size) good.0.named.spelled (is_number-decimal r.size (omega arith))) AreCut-semicolon),
  declarations_are_cut rs good.1 (omega arith),
)

argument_is_cut : (registers : List Register) (argument : Argument) (line : ℕ) → IsPlaceOf registers argument line → AreCut (argument_words argument)
argument_is_cut registers argument line h =
    let small = h.small in
    subst (λ (a : Argument). AreCut (argument_words a)) (sym h.spelled)
    (AreCut-bracketed h.name (decimal h.number) h.named.spelled (is_number-decimal h.number (omega (arith, small))))

gates_are_cut : (registers : List Register) (argument : ℕ → Argument) (gates : List GateView) → HasPlaces registers argument
    → AreGatesOn (lines_of_all registers) gates → AllByRecursion (λ s. IsCutLine (words_of s)) (map (gate_statement argument) gates)
gates_are_cut registers argument [] places on = tt
gates_are_cut registers argument (g ∷ gs) places on = (
  is_cut_line (gate_word (length g.controls)) (parted (map argument (lines_of g)) ++ codes ";" ∷ []) (is_identifier-gate_word (length g.controls))
      (AreCut-append (parted (map argument (lines_of g))) (codes ";" ∷ [])
      (AreCut-parted (map argument (lines_of g)) (AllByRecursion-map (λ a. AreCut (argument_words a)) argument (lines_of g)
      (AllByRecursion-weaker (λ line. line < lines_of_all registers) (λ line. AreCut (argument_words (argument line)))
      (λ line low. argument_is_cut registers (argument line) line (places.says line low)) (lines_of g) on.0.in_range)))
      AreCut-semicolon),
  gates_are_cut registers argument gs places on.1,
)

-- ---- declarations

abbrev said_with : List (List ℕ) → List Register → List GateView → Said
said_with names registers gates = record { included = true; names = names; registers = registers; gates = gates }

declaration_leads : (names : List (List ℕ)) (done : List Register) (register : Register) → IsRegister register → ¬ IsAmong register.name names
    → lines_of_all done + register.size ≤ 16384
    → LeadTo (words_of (declaration register)) (starts (said_with names done []))
    (starts (said_with (names ++ register.name ∷ []) (done ++ register ∷ []) []))
declaration_leads names done register good fresh room =
    one_more (inr (inl (record { kind = Qubits; spelled = refl; leads = refl }))) (one_more (record { named = good.named; fresh = fresh; leads = refl })
    (one_more (refl, refl) (one_more (record {
      size = register.size;
      number = IsNumber-decimal register.size (omega arith);
      some = good.some;
      room = room;
      leads = refl;
    }) (one_more (refl, refl) (one_more (refl, refl) nothing_left)))))

-- the names behind these registers
pub record Declares (names : List (List ℕ)) (done registers all : List Register) : Type 0 where
  after : List (List ℕ)
  leads : LeadTo (flat_map words_of (map declaration registers)) (starts (said_with names done [])) (starts (said_with after all []))

still_fresh : (names : List (List ℕ)) (name : List ℕ) (registers : List Register) → AllByRecursion (λ r. ¬ IsAmong r.name names) registers
    → AllByRecursion (λ r. ¬ (name ≡ r.name)) registers → AllByRecursion (λ r. ¬ IsAmong r.name (names ++ name ∷ [])) registers
still_fresh names name registers fresh other =
    AllByRecursion-both (λ r. ¬ IsAmong r.name names) (λ r. ¬ (name ≡ r.name)) (λ r. ¬ IsAmong r.name (names ++ name ∷ []))
    (λ r no_name no_equal among. elim (among_append r.name names (name ∷ []) among) [
      | inl k ↦ no_name k
      | inr k ↦ one_name r.name name no_equal k
    ]) registers fresh other
  where
    one_name : (n m : List ℕ) → ¬ (m ≡ n) → IsAmong n (m ∷ []) → ⊥
    one_name n m apart (inl e) = apart (sym e)
    one_name n m apart (inr k) = k

declarations_lead : (names : List (List ℕ)) (done registers all : List Register) → done ++ registers ≡ all → AllByRecursion IsRegister registers
    → HaveDifferentNames registers → AllByRecursion (λ r. ¬ IsAmong r.name names) registers → lines_of_all all ≤ 16384
    → Declares names done registers all
declarations_lead names done [] all parts good different fresh few = record {
  after = names;
  leads = subst (λ (rs : List Register). LeadTo [] (starts (said_with names done [])) (starts (said_with names rs [])))
      (sym (append-nil done) ∙ parts) nothing_left;
}
declarations_lead names done (r ∷ rs) all parts good different fresh few =
    let count = ap lines_of_all parts in
    let lines = lines_of_all-append done (r ∷ rs) in
    let more = declarations_lead (names ++ r.name ∷ []) (done ++ r ∷ []) rs all (append_assoc done (r ∷ []) rs ∙ parts) good.1 different.1
    (still_fresh names r.name rs fresh.1 different.0) few in
    record {
      after = more.after;
      leads = leads_then (declaration_leads names done r good.0 fresh.0 (omega arith)) more.leads;
    }

-- ---- gates

-- an argument leads to what stands behind it
argument_leads : (usage : Use) (spots : List Spot) (said : Said) (argument : Argument) (line : ℕ) → IsPlaceOf said.registers argument line
    → LeadTo (argument_words argument) (wants_argument usage spots said) (behind_argument usage (spots ++ Line line ∷ []) said)
argument_leads usage spots said argument line h =
    subst (λ (a : Argument). LeadTo (argument_words a) (wants_argument usage spots said) (behind_argument usage (spots ++ Line line ∷ []) said))
    (sym h.spelled)
    (subst (λ (n : ℕ). LeadTo (bracketed h.name (decimal h.number)) (wants_argument usage spots said)
    (behind_argument usage (spots ++ Line n ∷ []) said)) h.place
    (one_more (record {
      first = h.first;
      size = h.size;
      spelled = h.named.spelled;
      few = h.named.few;
      laid = h.laid;
      leads = refl;
    }) (one_more (inl (refl, refl)) (one_more (record {
      index = h.number;
      number = IsNumber-decimal h.number h.small;
      inside = h.inside;
      leads = refl;
    }) (one_more (refl, refl) nothing_left)))))

arguments_lead : (controls : ℕ) (spots : List Spot) (said : Said) (argument : ℕ → Argument) (line : ℕ) (lines : List ℕ)
    → HasPlaces said.registers argument → AllByRecursion (λ l. l < lines_of_all said.registers) (line ∷ lines)
    → length spots + length lines ≤ controls
    → LeadTo (parted (map argument (line ∷ lines))) (wants_argument (Flip controls) spots said)
    (behind_argument (Flip controls) (spots ++ map Line (line ∷ lines)) said)
arguments_lead controls spots said argument line [] places below few =
    argument_leads (Flip controls) spots said (argument line) line (places.says line below.0)
arguments_lead controls spots said argument line (l ∷ ls) places below few =
    let long = length-append spots (Line line ∷ []) in
    let more = arguments_lead controls (spots ++ Line line ∷ []) said argument l ls places below.1 (omega arith) in
    leads_then (argument_leads (Flip controls) spots said (argument line) line (places.says line below.0))
    (one_more (inl (refl, omega arith, refl))
    (subst (λ (ss : List Spot). LeadTo (parted (map argument (l ∷ ls))) (wants_argument (Flip controls) (spots ++ Line line ∷ []) said)
    (behind_argument (Flip controls) ss said)) (append_assoc spots (Line line ∷ []) (map Line (l ∷ ls))) more))

one_each : (lines : List ℕ) → AllByRecursion (HasSize 1) (map Line lines)
one_each [] = tt
one_each (l ∷ ls) = (tt, one_each ls)

same_lines : (lines : List ℕ) → map (line_at 0) (map Line lines) ≡ lines
same_lines [] = refl
same_lines (l ∷ ls) = ap (λ rest. l ∷ rest) (same_lines ls)

flip_stands : (controls : List ℕ) (target n : ℕ) (spots : List Spot) → IsGateOn n (flip_of controls target)
    → spots ≡ map Line (lines_of (flip_of controls target)) → StandForGates (length controls) spots (flip_of controls target ∷ [])
flip_stands controls target n spots on are = record {
  controlling = map Line controls;
  target = Line target;
  count = 1;
  parts = are ∙ ap (map Line) (lines_of-flip_of controls target) ∙ map-append Line controls (target ∷ []);
  counted = length-map controls Line;
  spread = record {
    shared = subst (AllByRecursion (HasSize 1)) (sym are) (one_each (lines_of (flip_of controls target)));
    alone = λ all. refl;
  };
  are = ap (λ ls. flip_of ls target ∷ []) (sym (same_lines controls));
  different = (on.different, tt);
}

lines_lead : (controls n : ℕ) (said : Said) (argument : ℕ → Argument) (lines : List ℕ) → HasPlaces said.registers argument
    → AllByRecursion (λ l. l < lines_of_all said.registers) lines → length lines ≡ controls + 1
    → LeadTo (parted (map argument lines)) (wants_argument (Flip controls) [] said) (behind_argument (Flip controls) (map Line lines) said)
lines_lead controls n said argument [] places below count = absurd (omega arith)
lines_lead controls n said argument (l ∷ ls) places below count = arguments_lead controls [] said argument l ls places below (omega arith)

flip_leads : (names : List (List ℕ)) (registers : List Register) (argument : ℕ → Argument) (done : List GateView) (controls : List ℕ) (target : ℕ)
    → HasPlaces registers argument → IsGateOn (lines_of_all registers) (flip_of controls target) → length controls ≤ 2 → length done + 1 ≤ 4000000
    → LeadTo (words_of (gate_statement argument (flip_of controls target))) (starts (said_with names registers done))
    (starts (said_with names registers (done ++ flip_of controls target ∷ [])))
flip_leads names registers argument done controls target places on short room =
    let gate = flip_of controls target in
    let said = said_with names registers done in
    let long : length (map positive controls) ≡ length controls = length-map controls positive in
    let lines = lines_of-flip_of controls target in
    let all : length (lines_of (flip_of controls target)) ≡ length controls + 1 = ap length lines ∙ length-append controls (target ∷ []) in
    one_more (inr (inr (record {
      usage = Flip (length controls);
      spelled = subst (λ (n : ℕ). IsUseWord (gate_word n) true (Flip (length controls))) (sym long) (known_word (length controls) short);
      leads = refl;
    })))
    (leads_then (lines_lead (length controls) 0 (said_with names registers done) argument (lines_of (flip_of controls target)) places on.in_range all)
    (one_more (inr (
      refl,
      (
        said_with names registers (done ++ flip_of controls target ∷ []),
        (flip_of controls target ∷ [], flip_stands controls target (lines_of_all registers) _ on refl, room, refl),
        refl,
      ),
    )) nothing_left))

gate_leads : (names : List (List ℕ)) (registers : List Register) (argument : ℕ → Argument) (done : List GateView) (gate : GateView)
    → HasPlaces registers argument → IsGateOn (lines_of_all registers) gate → IsNarrow gate → length done + 1 ≤ 4000000
    → LeadTo (words_of (gate_statement argument gate)) (starts (said_with names registers done)) (starts (said_with names registers (done ++ gate ∷ [])))
gate_leads names registers argument done gate places on narrow room =
    subst (λ (g : GateView). LeadTo (words_of (gate_statement argument g)) (starts (said_with names registers done))
    (starts (said_with names registers (done ++ g ∷ [])))) (sym narrow.is_flip)
    (flip_leads names registers argument done narrow.controls narrow.target places
    (subst (IsGateOn (lines_of_all registers)) narrow.is_flip on) narrow.few room)

gates_lead : (names : List (List ℕ)) (registers : List Register) (argument : ℕ → Argument) (done gates all : List GateView) → done ++ gates ≡ all
    → HasPlaces registers argument → AreGatesOn (lines_of_all registers) gates → AreNarrow gates → length all ≤ 4000000
    → LeadTo (flat_map words_of (map (gate_statement argument) gates)) (starts (said_with names registers done)) (starts (said_with names registers all))
gates_lead names registers argument done [] all parts places on narrow few =
    subst (λ (gs : List GateView). LeadTo [] (starts (said_with names registers done)) (starts (said_with names registers gs)))
    (sym (append-nil done) ∙ parts) nothing_left
gates_lead names registers argument done (g ∷ gs) all parts places on narrow few =
    let long = sym (ap length parts) ∙ length-append done (g ∷ gs) in
    leads_then (gate_leads names registers argument done g places on.0 narrow.0 (omega arith))
    (gates_lead names registers argument (done ++ g ∷ []) gs all (append_assoc done (g ∷ []) gs ∙ parts) places on.1 narrow.1 few)

-- ---- the file

none_known : (registers : List Register) → AllByRecursion (λ r. ¬ IsAmong r.name []) registers
none_known [] = tt
none_known (r ∷ rs) = ((λ k. k), none_known rs)

head_leads : LeadTo head_words head (starts nothing_said)
head_leads = one_more (refl, refl) (one_more (refl, refl) (one_more (refl, refl) nothing_left))

include_leads : LeadTo (words_of includes) (starts nothing_said) (starts (said_with [] [] []))
include_leads = one_more (inl (record { spelled = refl; once = refl; leads = refl })) (one_more (refl, refl) (one_more (refl, refl) nothing_left))

-- The text of good registers of different names and of narrow gates on their lines means the file of these.
pub written_file : (registers : List Register) (argument : ℕ → Argument) (gates : List GateView) → AllByRecursion IsRegister registers
    → HaveDifferentNames registers → 1 ≤ lines_of_all registers → lines_of_all registers ≤ 16384 → HasPlaces registers argument
    → length gates ≤ 4000000 → AreGatesOn (lines_of_all registers) gates → AreNarrow gates
    → MeansFile (file_text registers argument gates) (record { registers = registers; gates = gates })
written_file registers argument gates good different some few places few_gates on narrow =
    let text : List ℕ = file_text registers argument gates in
    let declares = declarations_lead [] [] registers registers refl good different (none_known registers) few in
    let tokens = cut_file (file_statements registers argument gates) (
      is_cut_line (codes "include") (codes "\"qelib1.inc\"" ∷ codes ";" ∷ []) refl AreCut-include,
      AllByRecursion-append (λ s. IsCutLine (words_of s)) (map declaration registers) (map (gate_statement argument) gates)
          (declarations_are_cut registers good few) (gates_are_cut registers argument gates places on),
    ) in
    record {
      last = record { at = place_after start text; bytes = [] };
      said = said_with declares.after registers gates;
      reads = record {
        tokens = head_words ++ flat_map words_of (file_statements registers argument gates);
        moves = record { front = text; parts = sym (append-nil text); place = refl; cuts = tokens };
        lead = leads_then head_leads (leads_then include_leads
            (subst (λ (ts : List (List ℕ)). LeadTo ts (starts (said_with [] [] [])) (starts (said_with declares.after registers gates)))
            (sym (flat_map-append words_of (map declaration registers) (map (gate_statement argument) gates)))
            (leads_then declares.leads (gates_lead declares.after registers argument [] gates gates refl places on narrow few_gates))));
      };
      ended = refl;
      registers = refl;
      gates = refl;
      some = some;
    }
