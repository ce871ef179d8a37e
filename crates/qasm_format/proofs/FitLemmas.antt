-- What was said fits wherever a text comes to, and each token leads from there to one stage at most.
use Rattle.std.proofs.Common.{◌≡◌, ℕ, ◌+◌, ◌<◌, ◌≤◌, Bool, true, false, inl, inr, List, [], ◌∷◌, ◌++◌, length, map, get_or, codes, None, refl, sym, ap, ◌∙◌}
use Rattle.std.proofs.Common.{subst, arith}
use Rattle.std.specs.List.{AllByRecursion, range_with_len}
use Rattle.std.proofs.lemmas.Option.{none-some, same_Some}
use Rattle.std.proofs.lemmas.List.{length-append, same_from_push}
use Rattle.list_facts.specs.Lists.{IsAmong}
use Rattle.list_facts.proofs.AllLemmas.{AllByRecursion-push, AllByRecursion-append, AllByRecursion-weaker, AllByRecursion-right, AllByRecursion-range}
use Rattle.list_facts.proofs.AmongLemmas.{among_left, among_right}
use Rattle.mct_circuit.specs.Gates.{GateView, HasDifferentLines, IsGateOn, AreGatesOn}
use Rattle.qasm_format.specs.declared.file.Register.{Register}
use Rattle.qasm_format.specs.declared.words.RegisterKind.{RegisterKind}
use Rattle.qasm_format.specs.declared.words.RegisterKind.TheVariants.{Qubits, Bits}
use Rattle.qasm_format.specs.declared.words.Use.{Use}
use Rattle.qasm_format.specs.declared.words.Use.TheVariants.{Barrier, Flip}
use Rattle.qasm_format.specs.declared.spots.Spot.{Spot}
use Rattle.qasm_format.specs.declared.spots.Spot.TheVariants.{Line, Whole}
use Rattle.qasm_format.specs.Registers.{IsName, IsLaid, IsRegister, HaveDifferentNames, lines_of_all}
use Rattle.qasm_format.specs.Stages.{Said, Stage, starts, wants, wants_name, wants_size, wants_argument, behind_name, wants_index, behind_argument, kind_word}
use Rattle.qasm_format.specs.Stages.{kind_registers, declared, HasRoom, IsUseWord, gate_at, StandForGates, Ends, Closes, Leads, LeadTo}
use Rattle.format_parts.specs.Readings.{nothing_left, one_more}
use Rattle.qasm_format.specs.inside.Tests.{kind_of, use_of}
use Rattle.qasm_format.specs.inside.Says.{SpotBelow}
use Rattle.qasm_format.proofs.RegisterLemmas.{lines_of_all-append}
use Rattle.qasm_format.proofs.DeclaredLemmas.{laid_within}
use Rattle.qasm_format.proofs.DeclarationLemmas.{gates_stay_on}
use Rattle.qasm_format.proofs.StageLemmas.{comma_or_end}
use Rattle.qasm_format.proofs.StatementLemmas.{kind_there, use_there}
use Rattle.qasm_format.proofs.SpreadLemmas.{one_count, gate_on, gate_there, lines_are_different}

-- ---- what was said

-- registers of different names among the names, and gates on their lines, within the limits
pub record Fits (names : List (List ℕ)) (registers : List Register) (gates : List GateView) : Type 0 where
  pub good : AllByRecursion IsRegister registers
  pub different : HaveDifferentNames registers
  pub known : AllByRecursion (λ register. IsAmong register.name names) registers
  pub few : lines_of_all registers ≤ 16384
  pub few_gates : length gates ≤ 4000000
  pub placed : AreGatesOn (lines_of_all registers) gates

pub nothing_fits : Fits [] [] []
nothing_fits = record { good = tt; different = tt; known = tt; few = omega arith; few_gates = omega arith; placed = tt }

apart_push : (registers : List Register) (register : Register) → HaveDifferentNames registers
    → AllByRecursion (λ other. ¬ (other.name ≡ register.name)) registers → HaveDifferentNames (registers ++ register ∷ [])
apart_push [] register apart all = (tt, tt)
apart_push (r ∷ rs) register apart all =
    (AllByRecursion-push (λ y. ¬ (r.name ≡ y.name)) rs register apart.0 all.0, apart_push rs register apart.1 all.1)

none_named : (names : List (List ℕ)) (registers : List Register) (name : List ℕ) → ¬ IsAmong name names
    → AllByRecursion (λ register. IsAmong register.name names) registers → AllByRecursion (λ other. ¬ (other.name ≡ name)) registers
none_named names registers name fresh known =
    AllByRecursion-weaker (λ register. IsAmong register.name names) (λ other. ¬ (other.name ≡ name))
    (λ register among same. fresh (subst (λ (n : List ℕ). IsAmong n names) same among)) registers known

more_names : (names : List (List ℕ)) (name : List ℕ) (registers : List Register) → AllByRecursion (λ register. IsAmong register.name names) registers
    → AllByRecursion (λ register. IsAmong register.name (names ++ name ∷ [])) registers
more_names names name registers known =
    AllByRecursion-weaker (λ register. IsAmong register.name names) (λ register. IsAmong register.name (names ++ name ∷ []))
    (λ register among. among_left register.name names (name ∷ []) among) registers known

pub declared_fits : (kind : RegisterKind) (name : List ℕ) (size : ℕ) (names : List (List ℕ)) (registers : List Register) (gates : List GateView)
    → Fits names registers gates → IsName name → ¬ IsAmong name names → 1 ≤ size → HasRoom kind size (lines_of_all registers)
    → Fits (names ++ name ∷ []) (kind_registers kind name size registers) gates
declared_fits Bits name size names registers gates fits named fresh some room = record {
  good = fits.good;
  different = fits.different;
  known = more_names names name registers fits.known;
  few = fits.few;
  few_gates = fits.few_gates;
  placed = fits.placed;
}
declared_fits Qubits name size names registers gates fits named fresh some room =
    let register : Register = record { name = name; size = size } in
    let all = lines_of_all-append registers (record { name = name; size = size } ∷ []) in
    record {
      good = AllByRecursion-push IsRegister registers (record { name = name; size = size }) fits.good (record { named = named; some = some });
      different = apart_push registers (record { name = name; size = size }) fits.different (none_named names registers name fresh fits.known);
      known = AllByRecursion-push (λ r. IsAmong r.name (names ++ name ∷ [])) registers (record { name = name; size = size })
          (more_names names name registers fits.known) (among_right name names (name ∷ []) (inl refl));
      few = omega arith;
      few_gates = fits.few_gates;
      placed = gates_stay_on Qubits name size registers gates fits.placed;
    }

-- ---- the gates of arguments

stand_different : (n i : ℕ) (spots : List Spot) (gates : List GateView) → (h : StandForGates n spots gates) → i < h.count
    → HasDifferentLines (gate_at h.controlling h.target i)
stand_different n i spots gates h low =
    gate_there h.controlling h.target h.count i low (subst (AllByRecursion HasDifferentLines) h.are h.different)

stand_on : (n lines : ℕ) (spots : List Spot) (gates : List GateView) → StandForGates n spots gates → AllByRecursion (SpotBelow lines) spots
    → AreGatesOn lines gates
stand_on n lines spots gates h below =
    subst (AreGatesOn lines) (sym h.are) (AllByRecursion-range (IsGateOn lines) (gate_at h.controlling h.target) 0 h.count
    (λ i from low. gate_on h.controlling h.target spots lines h.count i h.parts (omega (arith, low)) h.spread below
    (lines_are_different h.controlling h.target spots i h.parts (stand_different n i spots gates h (omega (arith, low))))))

pub stand_same : (n : ℕ) (spots : List Spot) (gates others : List GateView) → StandForGates n spots gates → StandForGates n spots others → gates ≡ others
stand_same n spots gates others h k =
    let parts = same_from_push h.controlling k.controlling h.target k.target (sym h.parts ∙ k.parts) in
    let count = one_count spots h.count k.count h.spread k.spread in
    h.are ∙ ap (λ (cs : List Spot). map (gate_at cs h.target) (range_with_len 0 h.count)) parts.0
    ∙ ap (λ (t : Spot). map (gate_at k.controlling t) (range_with_len 0 h.count)) parts.1
    ∙ ap (λ (c : ℕ). map (gate_at k.controlling k.target) (range_with_len 0 c)) count ∙ sym k.are

-- ---- stages

abbrev pub FitsSaid : Said → Type 0
FitsSaid said = Fits said.names said.registers said.gates

abbrev pub AreBelow : Said → List Spot → Type 0
AreBelow said spots = AllByRecursion (SpotBelow (lines_of_all said.registers)) spots

-- what was said fits, the name is a new one, and the arguments are lines of the registers
abbrev pub IsFit : Stage → Type 0
IsFit (starts said) = FitsSaid said
IsFit (wants wanted after) = IsFit after
IsFit (wants_name kind said) = FitsSaid said
IsFit (wants_size kind name said) = IsName name × (¬ IsAmong name said.names) × FitsSaid said
IsFit (wants_argument usage spots said) = AreBelow said spots × FitsSaid said
IsFit (behind_name usage spots first size said) =
    (first + size ≤ lines_of_all said.registers) × AreBelow said spots × FitsSaid said
IsFit (wants_index usage spots first size said) =
    (first + size ≤ lines_of_all said.registers) × AreBelow said spots × FitsSaid said
IsFit (behind_argument usage spots said) = AreBelow said spots × FitsSaid said

ends_fit : (usage : Use) (spots : List Spot) (said after : Said) → AreBelow said spots → FitsSaid said → Ends usage spots said after → FitsSaid after
ends_fit Barrier spots said after below fits same = subst FitsSaid (sym same) fits
ends_fit (Flip n) spots said after below fits (gates, stand, few, same) =
    subst FitsSaid (sym same) (record {
      good = fits.good;
      different = fits.different;
      known = fits.known;
      few = fits.few;
      few_gates = let long = length-append said.gates gates in omega arith;
      placed = AllByRecursion-append (IsGateOn (lines_of_all said.registers)) said.gates gates fits.placed
          (stand_on n (lines_of_all said.registers) spots gates stand below);
    })

closes_fit : (word : List ℕ) (usage : Use) (spots : List Spot) (said : Said) (next : Stage) → AreBelow said spots → FitsSaid said
    → Closes word usage spots said next → IsFit next
closes_fit word usage spots said next below fits (inl (comma, more, same)) = subst IsFit (sym same) (below, fits)
closes_fit word usage spots said next below fits (inr (semicolon, (after, ends, same))) =
    subst IsFit (sym same) (ends_fit usage spots said after below fits ends)

pub fit_next : (word : List ℕ) (from next : Stage) → IsFit from → Leads word from next → IsFit next
fit_next word (starts said) next fit (inl h) = subst IsFit (sym h.leads) (record {
  good = fit.good;
  different = fit.different;
  known = fit.known;
  few = fit.few;
  few_gates = fit.few_gates;
  placed = fit.placed;
})
fit_next word (starts said) next fit (inr (inl h)) = subst IsFit (sym h.leads) fit
fit_next word (starts said) next fit (inr (inr h)) = subst IsFit (sym h.leads) (tt, fit)
fit_next word (wants wanted after) next fit h = subst IsFit (sym h.1) fit
fit_next word (wants_name kind said) next fit h = subst IsFit (sym h.leads) (h.named, h.fresh, fit)
fit_next word (wants_size kind name said) next fit h =
    subst IsFit (sym h.leads) (declared_fits kind name h.size said.names said.registers said.gates fit.2 fit.0 fit.1 h.some h.room)
fit_next word (wants_argument usage spots said) next fit h =
    subst IsFit (sym h.leads) (laid_within said.registers word h.first h.size h.laid, fit.0, fit.1)
fit_next word (behind_name usage spots first size said) next fit (inl h) = subst IsFit (sym h.1) fit
fit_next word (behind_name usage spots first size said) next fit (inr h) =
    closes_fit word usage (spots ++ Whole first size ∷ []) said next
    (AllByRecursion-push (SpotBelow (lines_of_all said.registers)) spots (Whole first size) fit.1 fit.0) fit.2 h
fit_next word (wants_index usage spots first size said) next fit h =
    let inside = h.inside in
    let room = fit.0 in
    subst IsFit (sym h.leads)
    (AllByRecursion-push (SpotBelow (lines_of_all said.registers)) spots (Line (first + h.index)) fit.1 (omega arith), fit.2)
fit_next word (behind_argument usage spots said) next fit h = closes_fit word usage spots said next fit.0 fit.1 h

pub fit_after : {words : List (List ℕ)} {from to : Stage} → IsFit from → LeadTo words from to → IsFit to
fit_after fit nothing_left = fit
fit_after fit (one_more {item = word} {from = here} {next} leads more) = fit_after (fit_next word here next fit leads) more

-- ---- one stage at most

laid_apart : (one : Register) (before : List Register) (other : Register) (behind : List Register)
    → AllByRecursion (λ y. ¬ (one.name ≡ y.name)) (before ++ other ∷ behind) → one.name ≡ other.name → ⊥
laid_apart one before other behind all same =
    (AllByRecursion-right (λ y. ¬ (one.name ≡ y.name)) before (other ∷ behind) all).0 same

laid_same : (before before' : List Register) (one one' : Register) (behind behind' : List Register)
    → HaveDifferentNames (before ++ one ∷ behind) → before ++ one ∷ behind ≡ before' ++ one' ∷ behind' → one.name ≡ one'.name
    → (before ≡ before') × (one ≡ one')
laid_same [] [] one one' behind behind' apart e same = (refl, cc)
laid_same [] (b ∷ bs) one one' behind behind' apart e same =
    let rest : behind ≡ bs ++ one' ∷ behind' = cc in
    absurd (laid_apart one bs one' behind' (subst (AllByRecursion (λ y. ¬ (one.name ≡ y.name))) rest apart.0) same)
laid_same (a ∷ as_one) [] one one' behind behind' apart e same =
    let first : a ≡ one' = cc in
    absurd (laid_apart a as_one one behind apart.0 (ap (λ (r : Register). r.name) first ∙ sym same))
laid_same (a ∷ as_one) (b ∷ bs) one one' behind behind' apart e same =
    let first : a ≡ b = cc in
    let rest : as_one ++ one ∷ behind ≡ bs ++ one' ∷ behind' = cc in
    let more = laid_same as_one bs one one' behind behind' apart.1 rest same in
    (ap (λ (r : Register). r ∷ as_one) first ∙ ap (λ (rs : List Register). b ∷ rs) more.0, more.1)

pub one_laid : (registers : List Register) (name : List ℕ) (first size first' size' : ℕ) → HaveDifferentNames registers
    → IsLaid registers name first size → IsLaid registers name first' size' → (first ≡ first') × (size ≡ size')
one_laid registers name first size first' size' apart h k =
    let both = laid_same h.before k.before (record { name = name; size = size }) (record { name = name; size = size' }) h.behind k.behind
    (subst HaveDifferentNames h.among apart) (sym h.among ∙ k.among) refl in
    (h.place ∙ ap lines_of_all both.0 ∙ sym k.place, ap (λ (r : Register). r.size) both.1)

include_is_no_use : (included : Bool) → use_of (codes "include") included ≡ None
include_is_no_use true = refl
include_is_no_use false = refl

kind_is_no_use : (kind : RegisterKind) (included : Bool) → use_of (kind_word kind) included ≡ None
kind_is_no_use Qubits true = refl
kind_is_no_use Qubits false = refl
kind_is_no_use Bits true = refl
kind_is_no_use Bits false = refl

no_use_word : (word : List ℕ) (included : Bool) (usage : Use) → use_of word included ≡ None → IsUseWord word included usage → ⊥
no_use_word word included usage none spelled = none-some usage (sym none ∙ use_there word included usage spelled)

one_kind : (word : List ℕ) (kind other : RegisterKind) → word ≡ kind_word kind → word ≡ kind_word other → kind ≡ other
one_kind word kind other h k = same_Some kind other (sym (kind_there kind) ∙ ap kind_of (sym h ∙ k) ∙ kind_there other)

one_use : (word : List ℕ) (included : Bool) (usage other : Use) → IsUseWord word included usage → IsUseWord word included other → usage ≡ other
one_use word included usage other h k = same_Some usage other (sym (use_there word included usage h) ∙ use_there word included other k)

ends_same : (usage : Use) (spots : List Spot) (said a b : Said) → Ends usage spots said a → Ends usage spots said b → a ≡ b
ends_same Barrier spots said a b h k = h ∙ sym k
ends_same (Flip n) spots said a b (gates, stand, few, same) (gates', stand', few', same') =
    same ∙ ap (λ (gs : List GateView). record said { gates = said.gates ++ gs }) (stand_same n spots gates gates' stand stand') ∙ sym same'

closes_same : (word : List ℕ) (usage : Use) (spots : List Spot) (said : Said) (a b : Stage) → Closes word usage spots said a
    → Closes word usage spots said b → a ≡ b
closes_same word usage spots said a b (inl h) (inl k) = h.2 ∙ sym k.2
closes_same word usage spots said a b (inl h) (inr k) = absurd (comma_or_end word h.0 k.0)
closes_same word usage spots said a b (inr h) (inl k) = absurd (comma_or_end word k.0 h.0)
closes_same word usage spots said a b (inr (semicolon, (after, ends, same))) (inr (semicolon', (after', ends', same'))) =
    same ∙ ap starts (ends_same usage spots said after after' ends ends') ∙ sym same'

bracket_closes : (word : List ℕ) (usage : Use) (spots : List Spot) (said : Said) (next : Stage) → word ≡ codes "[" → Closes word usage spots said next → ⊥
bracket_closes word usage spots said next same (inl h) = let first = ap (λ (w : List ℕ). get_or w 0 0) (sym same ∙ h.0) in absurd (omega arith)
bracket_closes word usage spots said next same (inr h) = let first = ap (λ (w : List ℕ). get_or w 0 0) (sym same ∙ h.0) in absurd (omega arith)

starts_same : (word : List ℕ) (said : Said) (a b : Stage) → Leads word (starts said) a → Leads word (starts said) b → a ≡ b
starts_same word said a b (inl h) (inl k) = h.leads ∙ sym k.leads
starts_same word said a b (inl h) (inr (inl k)) = absurd (none-some k.kind (ap kind_of (sym h.spelled ∙ k.spelled) ∙ kind_there k.kind))
starts_same word said a b (inl h) (inr (inr k)) =
    absurd (no_use_word word said.included k.usage (ap (λ w. use_of w said.included) h.spelled ∙ include_is_no_use said.included) k.spelled)
starts_same word said a b (inr (inl h)) (inl k) = absurd (none-some h.kind (ap kind_of (sym k.spelled ∙ h.spelled) ∙ kind_there h.kind))
starts_same word said a b (inr (inl h)) (inr (inl k)) =
    h.leads ∙ ap (λ (kind : RegisterKind). wants_name kind said) (one_kind word h.kind k.kind h.spelled k.spelled) ∙ sym k.leads
starts_same word said a b (inr (inl h)) (inr (inr k)) =
    absurd (no_use_word word said.included k.usage (ap (λ w. use_of w said.included) h.spelled ∙ kind_is_no_use h.kind said.included) k.spelled)
starts_same word said a b (inr (inr h)) (inl k) =
    absurd (no_use_word word said.included h.usage (ap (λ w. use_of w said.included) k.spelled ∙ include_is_no_use said.included) h.spelled)
starts_same word said a b (inr (inr h)) (inr (inl k)) =
    absurd (no_use_word word said.included h.usage (ap (λ w. use_of w said.included) k.spelled ∙ kind_is_no_use k.kind said.included) h.spelled)
starts_same word said a b (inr (inr h)) (inr (inr k)) =
    h.leads ∙ ap (λ (usage : Use). wants_argument usage [] said) (one_use word said.included h.usage k.usage h.spelled k.spelled) ∙ sym k.leads

pub leads_same : (word : List ℕ) (from a b : Stage) → IsFit from → Leads word from a → Leads word from b → a ≡ b
leads_same word (starts said) a b fit h k = starts_same word said a b h k
leads_same word (wants wanted after) a b fit h k = h.1 ∙ sym k.1
leads_same word (wants_name kind said) a b fit h k = h.leads ∙ sym k.leads
leads_same word (wants_size kind name said) a b fit h k =
    h.leads ∙ ap (λ (n : ℕ). wants (codes "]") (wants (codes ";") (starts (declared kind name n said)))) (sym h.number.value ∙ k.number.value)
    ∙ sym k.leads
leads_same word (wants_argument usage spots said) a b fit h k =
    let same = one_laid said.registers word h.first h.size k.first k.size fit.1.different h.laid k.laid in
    h.leads ∙ ap (λ (n : ℕ). behind_name usage spots n h.size said) same.0 ∙ ap (λ (n : ℕ). behind_name usage spots k.first n said) same.1
    ∙ sym k.leads
leads_same word (behind_name usage spots first size said) a b fit (inl h) (inl k) = h.1 ∙ sym k.1
leads_same word (behind_name usage spots first size said) a b fit (inl h) (inr k) = absurd (bracket_closes word usage _ said b h.0 k)
leads_same word (behind_name usage spots first size said) a b fit (inr h) (inl k) = absurd (bracket_closes word usage _ said a k.0 h)
leads_same word (behind_name usage spots first size said) a b fit (inr h) (inr k) = closes_same word usage _ said a b h k
leads_same word (wants_index usage spots first size said) a b fit h k =
    h.leads ∙ ap (λ (n : ℕ). wants (codes "]") (behind_argument usage (spots ++ Line (first + n) ∷ []) said)) (sym h.number.value ∙ k.number.value)
    ∙ sym k.leads
leads_same word (behind_argument usage spots said) a b fit h k = closes_same word usage spots said a b h k
