-- A text and a word have one value, or one reason that they have none.
use Rattle.std.proofs.Common.{◌≡◌, ℕ, ◌+◌, ◌==◌, Bool, true, false, eqb, ◌⊎◌, List, [], ◌∷◌, ◌++◌, length, sum, inl, inr, refl, sym, ap, ◌∙◌, subst, arith}
use Rattle.std.specs.List.{AllByRecursion}
use Rattle.std.proofs.lemmas.Bool.{false≢true}
use Rattle.std.proofs.lemmas.Bool.Decides.{Decides-eqb}
use Rattle.std.proofs.lemmas.List.{length-append, length-map}
use Rattle.revc_base.specs.Bits.{IsDigit, IsFirstOther}
use Rattle.revc_base.specs.declared.place.Place.{Place}
use Rattle.revs_tape.specs.declared.tape.Claim.{Claim}
use Rattle.revs_tape.specs.declared.running.TapeEnd.{TapeEnd}
use Rattle.revs_tape.specs.declared.running.TapeEnd.TheVariants as ends
use Rattle.revs_tape.specs.Tapes.{TapeView, IsEndOf, IsFirstBroken, Holds}
use Rattle.command_answers.specs.declared.fault.Fault.{Fault}
use Rattle.command_answers.specs.declared.fault.Fault.TheVariants as faults
use Rattle.command_answers.specs.declared.fault.Refusal.{Refusal}
use Rattle.std.specs.Prelude.{◌<◌, Option, Some, slice_get, IfSome}
use Rattle.revs_parser.specs.WellFormed.{IsWellFormed}
use Rattle.revs_parser.proofs.OneTextLemmas.{one_formed}
use Rattle.revs_terms.specs.Programs.{widths_of}
use Rattle.revs_terms.specs.Runs.{IsTapeOf, HasOutput}
use Rattle.revs_terms.proofs.TapeLemmas.{one_tape_at_most, tape_gives_output}
use Rattle.revs_terms.specs.Views.{ProgramView}
use Rattle.command_answers.specs.Outcomes.{HasOneOutcome, IsFaultOfText}
use Rattle.revc_words.specs.Words.{first_word}
use Rattle.revc_base.specs.declared.bits.BitsFault.{BitsFault}
use Rattle.revc_base.specs.declared.bits.BitsFault.TheVariants as bits
use Rattle.program_texts.specs.inside.Mappings.{bits_fault}
use Rattle.program_texts.specs.inside.Stages.{IsBitsFault}
use Rattle.program_texts.specs.Settling.{ForTexts, LeavesTape}
use Rattle.command_answers.specs.BitWords.{IsInputWord, bits_of}
use Rattle.program_texts.specs.Eval.{promise, IsValueOf, IsBadWord, IsBroken, Stops}
use Rattle.program_texts.specs.Outcomes.{IsEvalFault}
use Rattle.list_facts.proofs.FirstLemmas.{all_at, first_same, none_without}
use Rattle.program_texts.proofs.RefusalLemmas.{one_refusal, never_refused}

-- a well-formed text has one tape
same_tape : (text : List ℕ) (p q : ProgramView) (tape other : TapeView) → IsWellFormed text p → IsWellFormed text q → IsTapeOf p.params p.body tape
    → IsTapeOf q.params q.body other → tape ≡ other
same_tape text p q tape other v w a b =
    one_tape_at_most q.params q.body other tape b (subst (λ (x : ProgramView). IsTapeOf x.params x.body tape) (one_formed text p q v w) a)

-- the claims of two broken runs have one number and one place
record OneClaim (number other : ℕ) (at there : Place) : Type 0 where
  numbers : number ≡ other
  places : at ≡ there

one_claim : (text word : List ℕ) (number other : ℕ) (at there : Place) → IsBroken text word number at → IsBroken text word other there
    → OneClaim number other at there
one_claim text word number other at there a b =
    let same : a.tape ≡ b.tape = same_tape text a.program b.program a.tape b.tape a.formed b.formed a.tape_of b.tape_of in
    let claims : a.tape.claims ≡ b.tape.claims = ap (λ (t : TapeView). t.claims) same in
    let one = first_same (Holds b.tape (bits_of word)) a.first.before b.first.before a.first.named b.first.named a.first.behind b.first.behind (sym a.first.cut
    ∙ claims ∙ b.first.cut)
    (subst (λ (t : TapeView). AllByRecursion (Holds t (bits_of word)) a.first.before) same a.first.met) b.first.met
    (subst (λ (t : TapeView). ¬ Holds t (bits_of word) a.first.named) same a.first.fails) b.first.fails in
    let size = one.count in
    let first = a.first.count in
    let second = b.first.count in
    let up = a.count in
    let down = b.count in
    record { numbers = omega arith; places = a.place ∙ ap (λ (c : Claim). c.at) one.named ∙ sym b.place }

one_claim_fault : (number other : ℕ) (at there : Place) (bits others : List Bool) → OneClaim number other at there → bits ≡ others → faults.Claim number at bits
    ≡ faults.Claim other there others
one_claim_fault number other at there bits others one e =
    let n = one.numbers in
    let p = one.places in
    cc

value_or_claim : (text word : List ℕ) (value : List Bool) (number : ℕ) (at : Place) → IsValueOf text word value → IsBroken text word number at → ⊥
value_or_claim text word value number at v b =
    let same : v.tape ≡ b.tape = same_tape text v.program b.program v.tape b.tape v.formed b.formed v.tape_of b.tape_of in
    let all : AllByRecursion (Holds b.tape (bits_of word)) b.tape.claims = subst
    (λ (t : TapeView). AllByRecursion (Holds t (bits_of word)) t.claims) same v.hold in
    b.first.fails (all_at (Holds b.tape (bits_of word)) b.first.before b.first.named b.first.behind
    (subst (AllByRecursion (Holds b.tape (bits_of word))) b.first.cut all))

value_or_bad : (text word : List ℕ) (value : List Bool) → IsValueOf text word value → IsBadWord text word → ⊥
value_or_bad text word value v b = b.unfit (subst (λ (p : ProgramView). IsInputWord (sum (widths_of p.params)) word)
    (one_formed text v.program b.program v.formed b.formed) v.fits)

claim_or_bad : (text word : List ℕ) (number : ℕ) (at : Place) → IsBroken text word number at → IsBadWord text word → ⊥
claim_or_bad text word number at v b = b.unfit (subst (λ (p : ProgramView). IsInputWord (sum (widths_of p.params)) word)
    (one_formed text v.program b.program v.formed b.formed) v.fits)

pub value_excludes_fault : (text word : List ℕ) (value : List Bool) (fault : Fault) → IsValueOf text word value → Stops text word fault → ⊥
value_excludes_fault text word value (faults.Refused refusal) v s = never_refused text v.program refusal v.formed s
value_excludes_fault text word value (faults.Claim number at bits) v s = value_or_claim text word value number at v s.1
value_excludes_fault text word value (faults.BadBits number) v s = value_or_bad text word value v s.1
value_excludes_fault text word value fault v s = s

pub one_stop : (text word : List ℕ) (fault other : Fault) → Stops text word fault → Stops text word other → fault ≡ other
one_stop text word (faults.Refused refusal) (faults.Refused other) a b = ap (λ (r : Refusal). faults.Refused r) (one_refusal text refusal other a b)
one_stop text word (faults.Refused refusal) (faults.Claim number at bits) a b = absurd (never_refused text b.1.program refusal b.1.formed a)
one_stop text word (faults.Refused refusal) (faults.BadBits number) a b = absurd (never_refused text b.1.program refusal b.1.formed a)
one_stop text word (faults.Claim number at bits) (faults.Refused refusal) a b = absurd (never_refused text a.1.program refusal a.1.formed b)
one_stop text word (faults.Claim number at bits) (faults.Claim other there others) a b =
    one_claim_fault number other at there bits others (one_claim text word number other at there a.1 b.1) (a.0 ∙ sym b.0)
one_stop text word (faults.Claim number at bits) (faults.BadBits other) a b = absurd (claim_or_bad text word number at a.1 b.1)
one_stop text word (faults.BadBits number) (faults.Refused refusal) a b = absurd (never_refused text a.1.program refusal a.1.formed b)
one_stop text word (faults.BadBits number) (faults.Claim other there bits) a b = absurd (claim_or_bad text word other there b.1 a.1)
one_stop text word (faults.BadBits number) (faults.BadBits other) a b = ap (λ n. faults.BadBits n) (a.0 ∙ sym b.0)
one_stop text word (faults.Refused refusal) other a b = absurd b
one_stop text word (faults.Claim number at bits) other a b = absurd b
one_stop text word (faults.BadBits number) other a b = absurd b
one_stop text word fault other a b = absurd a

among : (text word : List ℕ) (fault : Fault) → Stops text word fault → IsFaultOfText (3 ∷ 4 ∷ 12 ∷ []) fault
among text word (faults.Refused refusal) stops = record { of_text = tt; status = (0, omega arith, refl) }
among text word (faults.Claim number at bits) stops = record { of_text = tt; status = (1, omega arith, refl) }
among text word (faults.BadBits number) stops = record { of_text = tt; status = (2, omega arith, refl) }
among text word fault stops = absurd stops

pub one_outcome : HasOneOutcome promise
one_outcome = record {
  never_both = λ order text written fault given cause exact. value_excludes_fault text (first_word order.bits) given.value fault given.is cause;
  one_cause = λ order text fault exact cause other is. inl (one_stop text (first_word order.bits) exact fault other cause);
  free = λ order text fault served cause. value_excludes_fault text (first_word order.bits) served.0 fault served.1 cause;
  long = λ order text over. over;
  among = λ order text fault cause. among text (first_word order.bits) fault cause;
}

-- ---- the claim that fails

named_in : {A : Type 0} (before behind : List A) (named : A) → slice_get (before ++ named ∷ behind) (length before) ≡ Some named
named_in [] behind named = refl
named_in (b ∷ before) behind named = named_in before behind named

named_at : {A : Type 0} (all before behind : List A) (named : A) (number : ℕ) → all ≡ before ++ named ∷ behind → length before ≡ number
    → slice_get all number ≡ Some named
named_at all before behind named number cut count =
    ap (λ xs. slice_get xs number) cut ∙ ap (λ n. slice_get (before ++ named ∷ behind) n) (sym count) ∙ named_in before behind named

first_of : (tape : TapeView) (input : List Bool) (end : TapeEnd) (number : ℕ) → IsEndOf tape input end → end ≡ ends.Broken number
    → IsFirstBroken tape input number
first_of tape input end number ended which = subst (IsEndOf tape input) which ended

-- the claim that fails is one of the tape
pub is_claim : (tape : TapeView) (input : List Bool) (end : TapeEnd) (number : ℕ) → IsEndOf tape input end → end ≡ ends.Broken number
    → number < length tape.claims
is_claim tape input end number ended which =
    let first = first_of tape input end number ended which in
    let cut : length tape.claims ≡ length (first.before ++ first.named ∷ first.behind) = ap (λ (cs : List Claim). length cs) first.cut in
    let whole = length-append first.before (first.named ∷ first.behind) in
    let count = first.count in
    omega arith

pub broken_at : (tape : TapeView) (word : List ℕ) (lent input : List Bool) (end : TapeEnd) (number : ℕ) (fault : Fault) → IsInputWord (sum tape.params) word
    → lent ≡ input → input ≡ bits_of word → IsEndOf tape lent end → end ≡ ends.Broken number
    → IfSome (slice_get tape.claims number) (λ c. fault ≡ faults.Claim (number + 1) c.at input) → ForTexts tape (λ text. IsEvalFault text word fault)
broken_at tape word lent input end number fault fits same_bits bits ended which is =
    let first : IsFirstBroken tape (bits_of word) number = subst (λ (i : List Bool). IsFirstBroken tape i number) (same_bits ∙ bits)
    (first_of tape lent end number ended which) in
    let found = named_at tape.claims first.before first.behind first.named number first.cut first.count in
    let same : fault ≡ faults.Claim (number + 1) first.named.at input = subst
    (λ (o : Option Claim). IfSome o (λ c. fault ≡ faults.Claim (number + 1) c.at input)) found is in
    record {
      of_text = λ text left. subst (IsEvalFault text word) (sym same) (
        bits,
        record {
          program = left.program;
          formed = left.formed;
          tape = tape;
          tape_of = left.tape_of;
          fits = subst (λ widths. IsInputWord (sum widths) word) left.tape_of.widths fits;
          before = number;
          first = first;
          count = refl;
          place = refl;
        },
      );
    }

-- the end of a tape, where every claim holds, is the value of each text that leaves it
pub value_at : (tape : TapeView) (word : List ℕ) (input value : List Bool) (end : TapeEnd) → IsInputWord (sum tape.params) word → input ≡ bits_of word
    → IsEndOf tape input end → end ≡ ends.Out value → ForTexts tape (λ text. IsValueOf text word value)
value_at tape word input value end fits bits ended which =
    let over : IsEndOf tape (bits_of word) (ends.Out value) = subst (λ (i : List Bool). IsEndOf tape i (ends.Out value)) bits
    (subst (IsEndOf tape input) which ended) in
    record {
      of_text = λ text left.
          let word_fits = subst (λ widths. IsInputWord (sum widths) word) left.tape_of.widths fits in
          record {
            program = left.program;
            formed = left.formed;
            tape = tape;
            tape_of = left.tape_of;
            fits = word_fits;
            hold = over.0;
            output = subst (HasOutput left.program.params left.program.body (bits_of word)) (sym over.1)
                (tape_gives_output left.program.params left.program.body tape left.tape_of (bits_of word)
                (length-map word (λ byte. byte == 49) ∙ word_fits.size));
          };
    }

-- ---- the word

by_test : {A : Type 0} (test : Bool) → (test ≡ true → A) → (test ≡ false → A) → A
by_test true f g = f refl
by_test false f g = g refl

digit_or_not : (byte : ℕ) → IsDigit byte ⊎ (IsDigit byte → ⊥)
digit_or_not byte = by_test (eqb byte 48)
    (λ t. inl (inl ((Decides-eqb byte 48).0 t)))
    (λ f. by_test (eqb byte 49)
    (λ t. inl (inr ((Decides-eqb byte 49).0 t)))
    (λ g. inr (λ is. elim is [
      | inl e ↦ false≢true (sym f ∙ (Decides-eqb byte 48).1 e)
      | inr e ↦ false≢true (sym g ∙ (Decides-eqb byte 49).1 e)
    ])))

-- a word has digits alone, or a first byte that is none
digits_or_other : (word : List ℕ) → AllByRecursion IsDigit word ⊎ ((at : ℕ) × IsFirstOther word at)
digits_or_other [] = inl tt
digits_or_other (byte ∷ word) = elim (digit_or_not byte) [
  | inr no_digit ↦ inr (0, record { before = []; named = byte; behind = word; cut = refl; count = refl; met = tt; fails = no_digit })
  | inl digit ↦ elim (digits_or_other word) [
    | inl digits ↦ inl (digit, digits)
    | inr at ↦ (let first = at.1 in inr (
      at.0 + 1,
      record {
        before = byte ∷ first.before;
        named = first.named;
        behind = first.behind;
        cut = ap (λ (bytes : List ℕ). byte ∷ bytes) first.cut;
        count = (let count = first.count in omega arith);
        met = (digit, first.met);
        fails = first.fails;
      },
    ))
  ]
]

pub bits_refused : (inputs : ℕ) (word : List ℕ) (fault : BitsFault) → ((at : ℕ) → fault ≡ bits.BadDigit at → IsFirstOther word at)
    → ((at : ℕ) → IsFirstOther word at → fault ≡ bits.BadDigit at) → length word ≡ inputs → IsBitsFault inputs word (bits_fault fault)
bits_refused inputs word (bits.BadDigit at) h named size = (refl, λ fits. none_without IsDigit word at fits.digits (h at refl))
bits_refused inputs word (bits.Memory _) h named size = record { digits = digits; size = size }
  where
    digits : AllByRecursion IsDigit word
    digits = elim (digits_or_other word) [
      | inl all ↦ all
      | inr at ↦ (let is = named at.0 at.1 in absurd cc)
    ]

-- a word that is no input of the tape is none of the program's
pub word_stops : (tape : TapeView) (word : List ℕ) (fault : Fault) → IsBitsFault (sum tape.params) word fault
    → ForTexts tape (λ text. IsEvalFault text word fault)
word_stops tape word fault h = record { of_text = λ text left. stops text word tape fault left h }
  where
    stops : (text word : List ℕ) (tape : TapeView) (fault : Fault) → LeavesTape text tape → IsBitsFault (sum tape.params) word fault
        → IsEvalFault text word fault
    stops text word tape (faults.BadBits number) left h = (
      h.0,
      record {
        program = left.program;
        formed = left.formed;
        unfit = subst (λ widths. ¬ IsInputWord (sum widths) word) left.tape_of.widths h.1;
      },
    )
    stops text word tape (faults.Memory _) left h = tt
    stops text word tape fault left h = absurd h

-- want of memory is no fault of a text
pub memory_stops : (tape : TapeView) (word : List ℕ) → ForTexts tape (λ text. IsEvalFault text word (faults.Memory _))
memory_stops tape word = record { of_text = λ text left. tt }
