-- A text has one reading: it means at most one file, or has at most one fault.
use Rattle.std.proofs.Common.{◌≡◌, ℕ, ◌<◌, inl, List, [], ◌∷◌, ◌++◌, length, refl, sym, ap, ◌∙◌, subst, arith}
use Rattle.mct_circuit.specs.Gates.{GateView}
use Rattle.revc_base.specs.declared.place.Place.{Place}
use Rattle.qasm_format.specs.declared.file.Register.{Register}
use Rattle.qasm_format.specs.declared.file.QasmFault.{QasmFault}
use Rattle.qasm_format.specs.declared.file.QasmFault.TheVariants.{Token, Limit, Memory}
use Rattle.qasm_lexer.specs.Tokens.{BeginsWith, Left, Moves, whole}
use Rattle.qasm_format.specs.Stages.{Said, Stage, starts, head, nothing_said, Leads, LeadTo, PassesLimit, MayEnd}
use Rattle.qasm_format.specs.Faults.{StopsAt, IsTextFault}
use Rattle.format_parts.specs.Readings.{OneReading, nothing_left, one_more}
use Rattle.qasm_format.specs.Qasm.{QasmView, MeansFile, IsFile, MeaningsAreFiles}
use Rattle.qasm_lexer.proofs.CutLemmas.{Meet, at_one, goes_on, falls_short, moves_meet, moves_end_same}
use Rattle.qasm_format.proofs.FitLemmas.{IsFit, nothing_fits, fit_next, fit_after, leads_same}

-- the token there leads nowhere, or is the end of the text
abbrev Halts : List ℕ → Stage → Type 0
Halts word stage = 0 < length word → (to : Stage) → ¬ Leads word stage to

-- one list of tokens leads to one stage
one_stage : {tokens : List (List ℕ)} {from stage other : Stage} → LeadTo tokens from stage → LeadTo tokens from other → IsFit from → stage ≡ other
one_stage nothing_left nothing_left fit = refl
one_stage {from} {other} (one_more {item = word} {next = to} leads later) (one_more {items = rest} {next = to'} leads' later') fit =
    one_stage later (subst (λ (s : Stage). LeadTo rest s other) (leads_same word from to' to fit leads' leads) later') (fit_next word from to fit leads)

-- tokens that go on lead on
leads_on : {tokens : List (List ℕ)} {from stage other : Stage} (word : List ℕ) (more : List (List ℕ)) → LeadTo tokens from stage
    → LeadTo (tokens ++ word ∷ more) from other → IsFit from → (to : Stage) × Leads word stage to
leads_on word more nothing_left (one_more {next = to} leads later) fit = (to, leads)
leads_on {from} {other} word more (one_more {item = first} {items = words} {next = to} leads later) (one_more {next = to'} leads' later') fit =
    leads_on word more later
    (subst (λ (s : Stage). LeadTo (words ++ word ∷ more) s other) (leads_same first from to' to fit leads' leads) later')
    (fit_next first from to fit leads)

-- ---- ends of a text

record IsEnd (text : List ℕ) (mid : Left) (word : List ℕ) (stage : Stage) : Type 0 where
  tokens : List (List ℕ)
  moves : Moves (whole text) mid tokens
  lead : LeadTo tokens head stage
  begins : BeginsWith mid.bytes word
  halts : Halts word stage

stop_end : {text word : List ℕ} {at : Place} {stage : Stage} → (h : StopsAt (whole text) head at word stage) → IsEnd text h.mid word stage
stop_end h = record {
  tokens = h.reads.tokens;
  moves = h.reads.moves;
  lead = h.reads.lead;
  begins = h.begins;
  halts = λ some to. h.nowhere to;
}

file_end : {text : List ℕ} {file : QasmView} → (h : MeansFile text file) → IsEnd text h.last [] (starts h.said)
file_end h = record {
  tokens = h.reads.tokens;
  moves = h.reads.moves;
  lead = h.reads.lead;
  begins = inl (refl, h.ended);
  halts = λ some to. absurd (omega arith);
}

head_fits : IsFit head
head_fits = nothing_fits

record SameEnd (left other : Left) (stage stage' : Stage) (word word' : List ℕ) : Type 0 where
  place : left.at ≡ other.at
  stage_same : stage ≡ stage'
  word_same : word ≡ word'

meet_so : {text word word' : List ℕ} {mid mid' : Left} {stage stage' : Stage} (h : IsEnd text mid word stage) (k : IsEnd text mid' word' stage')
    → Meet h.tokens word mid.bytes k.tokens word' mid'.bytes → SameEnd mid mid' stage stage' word word'
meet_so {text} {mid} {mid'} {stage' = other} h k (at_one same here left) = record {
  place = ap (λ (l : Left). l.at) (moves_end_same (whole text) mid mid' h.tokens k.tokens h.moves k.moves left);
  stage_same = one_stage h.lead (subst (λ (ts : List (List ℕ)). LeadTo ts head other) (sym same) k.lead) head_fits;
  word_same = here;
}
meet_so {word} {stage' = other} h k (goes_on more some same) =
    let on = leads_on word more h.lead (subst (λ (ts : List (List ℕ)). LeadTo ts head other) same k.lead) head_fits in absurd (h.halts some on.0 on.1)
meet_so {word' = other} {stage} h k (falls_short more some same) =
    let on = leads_on other more k.lead (subst (λ (ts : List (List ℕ)). LeadTo ts head stage) same h.lead) head_fits in absurd (k.halts some on.0 on.1)

ends_meet : {text word word' : List ℕ} {mid mid' : Left} {stage stage' : Stage} → IsEnd text mid word stage → IsEnd text mid' word' stage'
    → SameEnd mid mid' stage stage' word word'
ends_meet {text} {word} {word'} {mid} {mid'} h k =
    meet_so h k (moves_meet (whole text) mid mid' h.tokens word k.tokens word' h.moves h.begins k.moves k.begins)

abbrev said_in : Stage → Said
said_in (starts said) = said
said_in other = nothing_said

one_meaning : (text : List ℕ) (file other : QasmView) → MeansFile text file → MeansFile text other → file ≡ other
one_meaning text file other h k =
    let said : h.said ≡ k.said = ap said_in (ends_meet (file_end h) (file_end k)).stage_same in
    let registers = h.registers ∙ ap (λ (s : Said). s.registers) said ∙ sym k.registers in
    let gates = h.gates ∙ ap (λ (s : Said). s.gates) said ∙ sym k.gates in
    ap (λ (rs : List Register). record { registers = rs; gates = file.gates }) registers
    ∙ ap (λ (gs : List GateView). record { registers = other.registers; gates = gs }) gates

never_both_so : {text word : List ℕ} {file : QasmView} {at : Place} {stage : Stage} → MeansFile text file → StopsAt (whole text) head at word stage → ⊥
never_both_so h k =
    let same = ends_meet (file_end h) (stop_end k) in
    k.open_stage (sym same.word_same) (subst MayEnd same.stage_same h.some)

never_both : (text : List ℕ) (file : QasmView) (fault : QasmFault) → MeansFile text file → IsTextFault text fault → ⊥
never_both text file (Token at) h k = never_both_so h k.stops
never_both text file (Limit at) h k = never_both_so h k.stops
never_both text file (Memory _) h k = k

places_meet : {text word word' : List ℕ} {at at' : Place} {stage stage' : Stage} → StopsAt (whole text) head at word stage
    → StopsAt (whole text) head at' word' stage' → at ≡ at'
places_meet h k = h.place ∙ (ends_meet (stop_end h) (stop_end k)).place ∙ sym k.place

limits_meet : {text word word' : List ℕ} {at at' : Place} {stage stage' : Stage} → StopsAt (whole text) head at word stage
    → StopsAt (whole text) head at' word' stage' → PassesLimit word' stage' → PassesLimit word stage
limits_meet {word} {stage' = other} h k limit =
    let same = ends_meet (stop_end h) (stop_end k) in
    subst (PassesLimit word) (sym same.stage_same) (subst (λ (w : List ℕ). PassesLimit w other) (sym same.word_same) limit)

one_fault : (text : List ℕ) (fault other : QasmFault) → IsTextFault text fault → IsTextFault text other → fault ≡ other
one_fault text (Token at) (Token at') h k = ap (λ (p : Place). Token p) (places_meet h.stops k.stops)
one_fault text (Token at) (Limit at') h k = absurd (h.form (limits_meet h.stops k.stops k.limit))
one_fault text (Limit at) (Token at') h k = absurd (k.form (limits_meet k.stops h.stops h.limit))
one_fault text (Limit at) (Limit at') h k = ap (λ (p : Place). Limit p) (places_meet h.stops k.stops)
one_fault text (Memory _) other h k = absurd h
one_fault text (Token at) (Memory _) h k = absurd k
one_fault text (Limit at) (Memory _) h k = absurd k

pub one_reading : OneReading MeansFile IsTextFault
one_reading text = record { one_meaning = one_meaning text; one_fault = one_fault text; never_both = never_both text }

-- ---- files

pub meanings_are_files : MeaningsAreFiles
meanings_are_files text file h =
    let fits = fit_after head_fits h.reads.lead in
    subst IsFile (sym (ap (λ (rs : List Register). record { registers = rs; gates = file.gates }) h.registers
    ∙ ap (λ (gs : List GateView). record { registers = h.said.registers; gates = gs }) h.gates)) (record {
      some = h.some;
      few = fits.few;
      good = fits.good;
      different = fits.different;
      few_gates = fits.few_gates;
      placed = fits.placed;
    })
