-- The verdict on the lines of a text is its meaning or its fault.
use Rattle.std.proofs.Common.{◌≡◌, ℕ, ◌+◌, ◌⊎◌, inl, inr, List, [], ◌∷◌, ◌++◌, length, Result, Ok, Err, refl, sym, ap, ◌∙◌, subst, arith, add-zero, append-nil}
use Rattle.real_format.specs.declared.file.RealFault.{RealFault}
use Rattle.real_format.specs.declared.file.RealFault.TheVariants as faults
use Rattle.real_format.specs.declared.refusal.LineRefusal.{LineRefusal}
use Rattle.real_format.specs.declared.refusal.LineRefusal.TheVariants.{Form, Limit, Memory}
use Rattle.real_format.specs.Words.{said_lines}
use Rattle.real_format.specs.Header.{nothing_said}
use Rattle.real_format.specs.Real.{RealView, MeansFile, MeaningsAreFiles, Place, in_header, in_gates, at_end, Leads, LeadTo}
use Rattle.real_format.specs.Faults.{PassesLimit, IsBadLine, HasNoEnd, BreaksForm, BreaksLimit, IsTextFault, IsRealFault}
use Rattle.format_parts.specs.Readings.{OneReading, SomeReading, nothing_left, one_more}
use Rattle.real_format.specs.inside.Reading.{after_line, text_fault, verdict, verdict_after, verdict_at_last, IsFaultOf}
use Rattle.real_format.specs.inside.Says.{IsSound}
use Rattle.real_format.proofs.LineLemmas.{IsFit, leads_so, reads_so, fit_next, limit_line, line_limit}

-- ---- a meaning

-- lines that lead on pass the verdict on
pub passed : (place to : Place) (lines more : List (List (List ℕ))) (k : ℕ) → IsFit place → LeadTo lines place to
    → (verdict place k (lines ++ more) ≡ verdict to (k + length lines) more) × IsFit to
passed place to lines more k fit (nothing_left {place = here}) = (ap (λ n. verdict here n more) (sym (add-zero k)), fit)
passed place to lines more k fit (one_more {item = line} {items = rest} {from} {next} {to = last} leads later) =
    let on = passed next last rest more (k + 1) (fit_next from next line fit leads) later in
    let count : k + 1 + length rest ≡ k + length (line ∷ rest) = omega arith in (
      ap (λ r. verdict_after r k (λ p. verdict p (k + 1) (rest ++ more))) (reads_so from next line fit leads) ∙ on.0 ∙ ap (λ n. verdict last n more) count,
      on.1,
    )

lead_so : (place : Place) (k : ℕ) (lines : List (List (List ℕ))) (file : RealView) → IsFit place → verdict place k lines ≡ Ok file
    → LeadTo lines place (at_end file)
lead_so (in_header said) k [] file fit e = absurd (cc)
lead_so (in_gates other) k [] file fit e = absurd (cc)
lead_so (at_end other) k [] file fit e = let same : other ≡ file = cc in subst (λ f. LeadTo [] (at_end other) (at_end f)) same nothing_left
lead_so place k (l ∷ ls) file fit e = by (after_line place l) refl e (λ next. lead_so next (k + 1) ls file)
  where
    by : (r : Result Place LineRefusal) → after_line place l ≡ r → verdict_after r k (λ p. verdict p (k + 1) ls) ≡ Ok file
        → ((next : Place) → IsFit next → verdict next (k + 1) ls ≡ Ok file → LeadTo ls next (at_end file)) → LeadTo (l ∷ ls) place (at_end file)
    by (Ok next) q f again =
        let leads = leads_so place next l fit q in
        one_more leads (again next (fit_next place next l fit leads) f)
    by (Err r) q f again = absurd (cc)

-- ---- a fault

-- the first line that leads nowhere, and the kind of it
record HasFault (place : Place) (k : ℕ) (lines : List (List (List ℕ))) (r : LineRefusal) (number : ℕ) : Type 0 where
  at : Place
  line : List (List ℕ)
  before : List (List (List ℕ))
  behind : List (List (List ℕ))
  cut : lines ≡ before ++ line ∷ behind
  count : number ≡ k + length before
  leads : LeadTo before place at
  refused : after_line at line ≡ Err r
  fit : IsFit at

-- no line leads nowhere, and there is no end
record HasNone (place : Place) (k : ℕ) (lines : List (List (List ℕ))) (number : ℕ) : Type 0 where
  at : Place
  count : number ≡ k + length lines
  leads : LeadTo lines place at
  open_place : (file : RealView) → ¬ (at ≡ at_end file)

abbrev Ends : Place → ℕ → List (List (List ℕ)) → RealFault → Type 0
Ends place k lines fault = ((r : LineRefusal) × (number : ℕ) × (fault ≡ text_fault number r) × HasFault place k lines r number)
    ⊎ ((number : ℕ) × (fault ≡ faults.Line number) × HasNone place k lines number)

no_end_header : (said : _) (file : RealView) → ¬ (in_header said ≡ at_end file)
no_end_header said file e = cc

no_end_gates : (other file : RealView) → ¬ (in_gates other ≡ at_end file)
no_end_gates other file e = cc

fault_so : (place : Place) (k : ℕ) (lines : List (List (List ℕ))) (fault : RealFault) → IsFit place → verdict place k lines ≡ Err fault
    → Ends place k lines fault
fault_so (in_header said) k [] fault fit e =
    let same : faults.Line k ≡ fault = cc in
    inr (k, sym same, record { at = in_header said; count = omega arith; leads = nothing_left; open_place = no_end_header said })
fault_so (in_gates other) k [] fault fit e =
    let same : faults.Line k ≡ fault = cc in
    inr (k, sym same, record { at = in_gates other; count = omega arith; leads = nothing_left; open_place = no_end_gates other })
fault_so (at_end other) k [] fault fit e = absurd (cc)
fault_so place k (l ∷ ls) fault fit e = by (after_line place l) refl e (λ next. fault_so next (k + 1) ls fault)
  where
    on : (next : Place) → Leads l place next → Ends next (k + 1) ls fault → Ends place k (l ∷ ls) fault
    on next leads (inl (r, number, is, h)) = inl (
      r,
      number,
      is,
      record {
        at = h.at;
        line = h.line;
        before = l ∷ h.before;
        behind = h.behind;
        cut = ap (λ xs. l ∷ xs) h.cut;
        count = h.count ∙ omega arith;
        leads = one_more leads h.leads;
        refused = h.refused;
        fit = h.fit;
      },
    )
    on next leads (inr (number, is, h)) = inr (
      number,
      is,
      record {
        at = h.at;
        count = h.count
            ∙ omega arith;
        leads = one_more leads h.leads;
        open_place = h.open_place;
      },
    )

    by : (r : Result Place LineRefusal) → after_line place l ≡ r → verdict_after r k (λ p. verdict p (k + 1) ls) ≡ Err fault
        → ((next : Place) → IsFit next → verdict next (k + 1) ls ≡ Err fault → Ends next (k + 1) ls fault) → Ends place k (l ∷ ls) fault
    by (Ok next) q f again =
        let leads = leads_so place next l fit q in
        on next leads (again next (fit_next place next l fit leads) f)
    by (Err r) q f again =
        let same : text_fault k r ≡ fault = cc in
        inl (
          r,
          k,
          sym same,
          record {
            at = place;
            line = l;
            before = [];
            behind = ls;
            cut = refl;
            count = omega arith;
            leads = nothing_left;
            refused = q;
            fit = fit;
          },
        )

-- ---- the text

pub sound_at_first : IsSound nothing_said
sound_at_first = record { some = tt; few = tt; counted = tt; named = tt; different = tt; constants = tt; garbage = tt }

pub means_so : (text : List ℕ) (file : RealView) → verdict (in_header nothing_said) 1 (said_lines text) ≡ Ok file → MeansFile text file
means_so text file e = record { read = lead_so (in_header nothing_said) 1 (said_lines text) file sound_at_first e }

nowhere_from : (place : Place) (line : List (List ℕ)) (r : LineRefusal) → IsFit place → after_line place line ≡ Err r → (next : Place) → ¬ Leads line place next
nowhere_from place line r fit e next leads = let both : Ok next ≡ Err r = sym (reads_so place next line fit leads) ∙ e in cc

no_limit : (place : Place) (line : List (List ℕ)) (r : LineRefusal) → IsFit place → after_line place line ≡ Err r → (r ≡ Limit → ⊥) → ¬ PassesLimit place line
no_limit place line r fit e other passes = other (let both : Err r ≡ Err Limit = sym e ∙ line_limit place line fit passes in cc)

bad_line : (text : List ℕ) (number : ℕ) (r : LineRefusal) (n : ℕ) → number ≡ n → (h : HasFault (in_header nothing_said) 1 (said_lines text) r n)
    → IsBadLine text number h.at h.line
bad_line text number r n same h = record {
  before = h.before;
  behind = h.behind;
  cut = h.cut;
  count = same ∙ h.count
      ∙ omega arith;
  leads = h.leads;
  nowhere = nowhere_from h.at h.line r h.fit h.refused;
}

bad_form : (text : List ℕ) (number : ℕ) (r : LineRefusal) (n : ℕ) → (r ≡ Limit → ⊥) → number ≡ n
    → HasFault (in_header nothing_said) 1 (said_lines text) r n → BreaksForm text number
bad_form text number r n other same h =
    record { place = h.at; line = h.line; bad = bad_line text number r n same h; form = no_limit h.at h.line r h.fit h.refused other }

line_fault : (text : List ℕ) (number : ℕ) (r : LineRefusal) (n : ℕ) → faults.Line number ≡ text_fault n r
    → HasFault (in_header nothing_said) 1 (said_lines text) r n → BreaksForm text number
line_fault text number Limit n is h = absurd (cc)
line_fault text number Form n is h = let same : number ≡ n = cc in bad_form text number Form n (λ e. cc) same h
line_fault text number (Memory _) n is h = let same : number ≡ n = cc in bad_form text number (Memory _) n (λ e. cc) same h

limit_fault : (text : List ℕ) (number : ℕ) (r : LineRefusal) (n : ℕ) → faults.Limit number ≡ text_fault n r
    → HasFault (in_header nothing_said) 1 (said_lines text) r n → BreaksLimit text number
limit_fault text number Form n is h = absurd (cc)
limit_fault text number (Memory _) n is h = absurd (cc)
limit_fault text number Limit n is h =
    let same : number ≡ n = cc in
    record { place = h.at; line = h.line; bad = bad_line text number Limit n same h; limit = limit_line h.at h.line h.fit h.refused }

pub faults_so : (text : List ℕ) (fault : RealFault) → IsFaultOf (verdict (in_header nothing_said) 1 (said_lines text)) fault → IsRealFault text fault
faults_so text (faults.Memory _) e = tt
faults_so text (faults.Line number) e = elim (fault_so (in_header nothing_said) 1 (said_lines text) (faults.Line number) sound_at_first e) [
  | inl h ↦ inl (line_fault text number h.0 h.1 h.2 h.3)
  | inr h ↦
      let same : number ≡ h.0 = cc in
      let none = h.2 in
      inr (record { place = none.at; count = same ∙ none.count ∙ omega arith; leads = none.leads; open_place = none.open_place })
]
faults_so text (faults.Limit number) e = elim (fault_so (in_header nothing_said) 1 (said_lines text) (faults.Limit number) sound_at_first e) [
  | inl h ↦ limit_fault text number h.0 h.1 h.2 h.3
  | inr h ↦ absurd (let is : faults.Limit number ≡ faults.Line h.0 = h.1 in cc)
]

-- ---- the verdict of a text

at_first : (text : List ℕ) → Result RealView RealFault
at_first text = verdict (in_header nothing_said) 1 (said_lines text)

pub meaning_verdict : (text : List ℕ) (file : RealView) → MeansFile text file → verdict (in_header nothing_said) 1 (said_lines text) ≡ Ok file
meaning_verdict text file m =
    ap (verdict (in_header nothing_said) 1) (sym (append-nil (said_lines text)))
    ∙ (passed (in_header nothing_said) (at_end file) (said_lines text) [] 1 sound_at_first m.read).0

bad_verdict : (text : List ℕ) (number : ℕ) (place : Place) (line : List (List ℕ)) (r : LineRefusal) → (bad : IsBadLine text number place line)
    → after_line place line ≡ Err r
    → verdict (in_header nothing_said) 1 (said_lines text) ≡ Err (text_fault number r)
bad_verdict text number place line r bad e =
    let count : 1 + length bad.before ≡ number = (let c = bad.count in omega arith) in
    ap (verdict (in_header nothing_said) 1) bad.cut
    ∙ (passed (in_header nothing_said) place bad.before (line ∷ bad.behind) 1 sound_at_first bad.leads).0
    ∙ ap (λ s. verdict_after s (1 + length bad.before) (λ p. verdict p (1 + length bad.before + 1) bad.behind)) e
    ∙ ap (λ n. Err (text_fault n r)) count

bad_is_fit : (text : List ℕ) (number : ℕ) (place : Place) (line : List (List ℕ)) → (bad : IsBadLine text number place line) → IsFit place
bad_is_fit text number place line bad = (passed (in_header nothing_said) place bad.before [] 1 sound_at_first bad.leads).1

form_verdict : (text : List ℕ) (number : ℕ) → BreaksForm text number → verdict (in_header nothing_said) 1 (said_lines text) ≡ Err (faults.Line number)
form_verdict text number b = by (after_line b.place b.line) refl
  where
    by : (r : Result Place LineRefusal) → after_line b.place b.line ≡ r → verdict (in_header nothing_said) 1 (said_lines text) ≡ Err (faults.Line number)
    by (Ok next) e = absurd (b.bad.nowhere next (leads_so b.place next b.line (bad_is_fit text number b.place b.line b.bad) e))
    by (Err Form) e = bad_verdict text number b.place b.line Form b.bad e
    by (Err Limit) e = absurd (b.form (limit_line b.place b.line (bad_is_fit text number b.place b.line b.bad) e))
    by (Err (Memory _)) e = bad_verdict text number b.place b.line (Memory _) b.bad e

limit_verdict : (text : List ℕ) (number : ℕ) → BreaksLimit text number → verdict (in_header nothing_said) 1 (said_lines text) ≡ Err (faults.Limit number)
limit_verdict text number b =
    bad_verdict text number b.place b.line Limit b.bad (line_limit b.place b.line (bad_is_fit text number b.place b.line b.bad) b.limit)

none_verdict : (text : List ℕ) (number : ℕ) → HasNoEnd text number → verdict (in_header nothing_said) 1 (said_lines text) ≡ Err (faults.Line number)
none_verdict text number n =
    let count : 1 + length (said_lines text) ≡ number = (let c = n.count in omega arith) in
    ap (verdict (in_header nothing_said) 1) (sym (append-nil (said_lines text)))
    ∙ (passed (in_header nothing_said) n.place (said_lines text) [] 1 sound_at_first n.leads).0
    ∙ by n.place n.open_place ∙ ap (λ k. Err (faults.Line k)) count
  where
    by : (place : Place) → ((file : RealView) → ¬ (place ≡ at_end file))
        → verdict_at_last place (1 + length (said_lines text)) ≡ Err (faults.Line (1 + length (said_lines text)))
    by (in_header said) no_end = refl
    by (in_gates file) no_end = refl
    by (at_end file) no_end = absurd (no_end file refl)

fault_verdict : (text : List ℕ) (fault : RealFault) → IsTextFault text fault → verdict (in_header nothing_said) 1 (said_lines text) ≡ Err fault
fault_verdict text (faults.Line number) (inl b) = form_verdict text number b
fault_verdict text (faults.Line number) (inr n) = none_verdict text number n
fault_verdict text (faults.Limit number) b = limit_verdict text number b
fault_verdict text (faults.Memory _) f = absurd f

pub one_reading : OneReading MeansFile IsTextFault
one_reading text = record {
  one_meaning = λ file other m n. let same : Ok file ≡ Ok other = sym (meaning_verdict text file m) ∙ meaning_verdict text other n in cc;
  one_fault = λ fault other f g. let same : Err fault ≡ Err other = sym (fault_verdict text fault f) ∙ fault_verdict text other g in cc;
  never_both = λ file fault m f. let both : Ok file ≡ Err fault = sym (meaning_verdict text file m) ∙ fault_verdict text fault f in cc;
}

-- a verdict is no want of memory
no_memory : (number : ℕ) (r : LineRefusal) → ¬ (faults.Memory _ ≡ text_fault number r)
no_memory number Form e = cc
no_memory number Limit e = cc
no_memory number (Memory _) e = cc

fault_is : (text : List ℕ) (fault : RealFault) → verdict (in_header nothing_said) 1 (said_lines text) ≡ Err fault → IsTextFault text fault
fault_is text (faults.Line number) e = faults_so text (faults.Line number) e
fault_is text (faults.Limit number) e = faults_so text (faults.Limit number) e
fault_is text (faults.Memory _) e = elim (fault_so (in_header nothing_said) 1 (said_lines text) (faults.Memory _) sound_at_first e) [
  | inl h ↦ absurd (no_memory h.1 h.0 h.2)
  | inr h ↦ absurd (let is : faults.Memory _ ≡ faults.Line h.0 = h.1 in cc)
]

pub some_reading : SomeReading MeansFile IsTextFault
some_reading text = by (verdict (in_header nothing_said) 1 (said_lines text)) refl
  where
    by : (r : Result RealView RealFault) → verdict (in_header nothing_said) 1 (said_lines text) ≡ r
        → ((file : RealView) × MeansFile text file) ⊎ ((fault : RealFault) × IsTextFault text fault)
    by (Ok file) e = inl (file, means_so text file e)
    by (Err fault) e = inr (fault, fault_is text fault e)

pub meanings_are_files : MeaningsAreFiles
meanings_are_files text file m = (passed (in_header nothing_said) (at_end file) (said_lines text) [] 1 sound_at_first m.read).1
