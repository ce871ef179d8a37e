-- Readings of a text, one after another, and where they stop.
use Rattle.std.proofs.Common.{◌≡◌, ℕ, ◌<◌, List, [], ◌∷◌, ◌++◌, length, refl, sym, ◌∙◌, subst, true, false}
use Rattle.std.proofs.lemmas.Bool.{false≢true}
use Rattle.std.specs.Str.{bytes_eq}
use Rattle.std.proofs.lemmas.Slice.Eq.{bytes_eq-Decides}
use Rattle.revc_base.specs.declared.place.Place.{Place}
use Rattle.qasm_format.specs.declared.file.QasmFault.{QasmFault}
use Rattle.qasm_format.specs.declared.file.QasmFault.TheVariants.{Token, Limit, Memory}
use Rattle.qasm_lexer.specs.Tokens.{Left}
use Rattle.qasm_format.specs.Stages.{Stage, wants, Leads, LeadTo, PassesLimit, MayEnd}
use Rattle.format_parts.specs.Readings.{nothing_left, one_more}
use Rattle.qasm_format.specs.Qasm.{Reads}
use Rattle.qasm_format.specs.Faults.{StopsAt, BreaksRule, BreaksLimit, IsStop}
use Rattle.qasm_lexer.specs.Tokens.{Takes}
use Rattle.qasm_format.specs.inside.Says.{ReadsWord, StopsAtWord}
use Rattle.qasm_lexer.proofs.MoveLemmas.{moves_none, moves_then}

pub leads_then : {words others : List (List ℕ)} {from next to : Stage} → LeadTo words from next → LeadTo others next to → LeadTo (words ++ others) from to
leads_then nothing_left k = k
leads_then (one_more leads more) k = one_more leads (leads_then more k)

pub reads_none : (left : Left) (stage : Stage) → Reads left left stage stage
reads_none left stage = record { tokens = []; moves = moves_none left; lead = nothing_left }

pub reads_then : {old mid new : Left} {from next to : Stage} → Reads old mid from next → Reads mid new next to → Reads old new from to
reads_then h k = record { tokens = h.tokens ++ k.tokens; moves = moves_then h.moves k.moves; lead = leads_then h.lead k.lead }

-- the token at the front leads on
pub reads_next : {old new : Left} {word : List ℕ} {at : Place} (from to : Stage) → Takes old new word at → 0 < length word → Leads word from to
    → Reads old new from to
reads_next {word = word} from to takes some leads = record { tokens = word ∷ []; moves = takes.taken some; lead = one_more leads nothing_left }

-- the token at the front leads nowhere
stops_next : {old new : Left} {word : List ℕ} {at : Place} (from : Stage) → Takes old new word at → ((to : Stage) → ¬ Leads word from to)
    → (word ≡ [] → ¬ MayEnd from) → StopsAt old from at word from
stops_next from takes nowhere open_stage = record {
  mid = takes.mid;
  reads = record { tokens = []; moves = takes.gaps; lead = nothing_left };
  place = takes.place;
  begins = takes.begins;
  nowhere = nowhere;
  open_stage = open_stage;
}

pub breaks_rule : {old new : Left} {word : List ℕ} {at : Place} (from : Stage) → Takes old new word at → ((to : Stage) → ¬ Leads word from to)
    → (word ≡ [] → ¬ MayEnd from) → ¬ PassesLimit word from → BreaksRule old from at
breaks_rule {word = word} from takes nowhere open_stage form =
    record { word = word; stage = from; stops = stops_next from takes nowhere open_stage; form = form }

pub breaks_limit : {old new : Left} {word : List ℕ} {at : Place} (from : Stage) → Takes old new word at → ((to : Stage) → ¬ Leads word from to)
    → (word ≡ [] → ¬ MayEnd from) → PassesLimit word from → BreaksLimit old from at
breaks_limit {word = word} from takes nowhere open_stage limit =
    record { word = word; stage = from; stops = stops_next from takes nowhere open_stage; limit = limit }

stops_behind : {old mid : Left} {from next : Stage} {at : Place} {word : List ℕ} {stage : Stage} → Reads old mid from next
    → StopsAt mid next at word stage → StopsAt old from at word stage
stops_behind h k = record {
  mid = k.mid;
  reads = reads_then h k.reads;
  place = k.place;
  begins = k.begins;
  nowhere = k.nowhere;
  open_stage = k.open_stage;
}

-- what stops behind a reading stops it
pub stops_later : {old mid : Left} {from next : Stage} (fault : QasmFault) → Reads old mid from next → IsStop mid next fault → IsStop old from fault
stops_later (Token at) h k = record { word = k.word; stage = k.stage; stops = stops_behind h k.stops; form = k.form }
stops_later (Limit at) h k = record { word = k.word; stage = k.stage; stops = stops_behind h k.stops; limit = k.limit }
stops_later (Memory _) h k = tt

-- ---- a word that is wanted

pub reads_word : {old new : Left} {word : List ℕ} {at : Place} (wanted : List ℕ) → Takes old new word at → 0 < length wanted → word ≡ wanted
    → ReadsWord old new wanted
reads_word {word = word} wanted takes some same = record {
  says = λ after. reads_next (wants wanted after) after takes (subst (λ (w : List ℕ). 0 < length w) (sym same) some) (same, refl);
}

pub stops_at_word : {old new : Left} {word : List ℕ} {at : Place} (wanted : List ℕ) → Takes old new word at → ¬ (word ≡ wanted)
    → StopsAtWord old wanted (Token at)
stops_at_word wanted takes other = record {
  says = λ after. breaks_rule (wants wanted after) takes (λ to leads. other leads.0) (λ e may. may) (λ limit. limit);
}

-- ---- equal words

pub same_word : (word other : List ℕ) → bytes_eq word other ≡ true → word ≡ other
same_word word other e = (bytes_eq-Decides word other).0 e

pub other_word : (word other : List ℕ) → bytes_eq word other ≡ false → ¬ (word ≡ other)
other_word word other e same = false≢true (sym e ∙ (bytes_eq-Decides word other).1 same)
