-- Each text is cut in some way: what stands at its front is a gap, a token or refused.
use Rattle.std.proofs.Common.{◌≡◌, ℕ, zero, suc, ◌<◌, ◌≤◌, true, false, List, [], ◌∷◌, ◌++◌, length, take, drop, Option, Some, None, nat_eq, refl, sym, ap, ◌∙◌}
use Rattle.std.proofs.Common.{◌⊎◌, inl, inr, arith}
use Rattle.std.specs.Prelude.{codes}
use Rattle.std.specs.Char.{is_ascii_digit}
use Rattle.std.specs.List.{prefix_len, starts_with}
use Rattle.std.specs.Str.Parse.{digits_value}
use Rattle.std.proofs.lemmas.Bool.{cases_Bool, cases_lt}
use Rattle.std.proofs.lemmas.List.{take-append-drop, length-append, length-take-le}
use Rattle.revc_base.specs.declared.place.Place.{Place}
use Rattle.text_places.specs.Bytes.{is_blank, is_letter, is_name_byte}
use Rattle.revs_lexer.specs.Spelling.{sign_text, is_identifier, Spells, IsWithinLimits}
use Rattle.revs_lexer.specs.Tokens.{Stop, IsCut, IsLongest, Refuses, SomeOutcome}
use Rattle.text_places.specs.Gaps.{IsGap, HasNoGap}
use Rattle.text_places.specs.Places.{start, place_after}
use Rattle.revs_lexer.specs.Tokens as cuts
use Rattle.revs_lexer.specs.declared.token.LexFault.{LexFault}
use Rattle.revs_lexer.specs.declared.token.LexFault.TheVariants as faults
use Rattle.revs_lexer.specs.declared.token.Tok.{Tok}
use Rattle.revs_lexer.specs.declared.token.Tok.TheVariants as toks
use Rattle.revs_lexer.specs.declared.token.Token.{Token}
use Rattle.text_places.proofs.ByteLemmas.{first_of}
use Rattle.text_places.proofs.GapLemmas.{in_line, some_gap, blank_at_front, comment_at_front, no_gap_at_front}
use Rattle.revs_lexer.proofs.LongestLemmas.{some_longest, identifier_at_front, longest_name, long_name_at_front, numeral_at_front, longest_number}
use Rattle.revs_lexer.proofs.LongestLemmas.{long_number_at_front, longest_sign, no_token, bad_byte_at_front}
use Rattle.text_places.proofs.RunLemmas.{run_of}
use Rattle.revs_lexer.proofs.TableLemmas.{word_of, word_of-some, word_of-none, sign_at}

cases_Option : {X : Type 0} (o : Option X) → ((x : X) × (o ≡ Some x)) ⊎ (o ≡ None)
cases_Option None = inr refl
cases_Option (Some x) = inl (x, refl)

-- ---- the front of a text

-- what stands at the front of a text at a place: a gap, a token within its limits, or a refusal
data Front : Place → List ℕ → Type 0 where
  gap_first : {at : Place} {text : List ℕ} (piece rest : List ℕ) → text ≡ piece ++ rest → IsGap piece rest → Front at text
  token_first : {at : Place} {text : List ℕ} (piece rest : List ℕ) (tok : Tok) → IsLongest text piece rest tok → IsWithinLimits piece tok → Front at text
  refused_first : {at : Place} {text : List ℕ} (fault : LexFault) → Refuses at text fault → Front at text

record IsNamed (bytes : List ℕ) : Type 0 where
  tok : Tok
  spelled : Spells bytes tok
  within : length bytes ≤ 64 → IsWithinLimits bytes tok

-- an identifier spells a word or a name
named : (bytes : List ℕ) → is_identifier bytes ≡ true → IsNamed bytes
named bytes identifier = elim (cases_Option (word_of bytes)) [
  | inl found ↦ record { tok = toks.Word found.0; spelled = word_of-some bytes found.0 found.1; within = λ few. tt }
  | inr none ↦ record { tok = toks.Name bytes; spelled = (identifier, word_of-none bytes none, refl); within = λ few. few }
]

name_front : (at : Place) (text : List ℕ) → 0 < length text → is_letter (first_of text) ≡ true → Front at text
name_front at text some letter =
    let n = prefix_len is_name_byte text in
    let run = run_of is_name_byte text in
    let len = length-take-le n text (omega (arith, run.within)) in
    elim (cases_lt 64 n) [
      | inl long ↦ refused_first (faults.LongName at) (long_name_at_front at text n some refl letter long)
      | inr short ↦ (let name = named (take n text) (identifier_at_front text n some refl letter) in
          token_first (take n text) (drop n text) name.tok (longest_name text n name.tok refl letter name.spelled) (name.within (omega arith)))
    ]

number_front : (at : Place) (text : List ℕ) → 0 < length text → is_ascii_digit (first_of text) ≡ true → Front at text
number_front at text some digit =
    let n = prefix_len is_ascii_digit text in
    let run = run_of is_ascii_digit text in
    let len = length-take-le n text (omega (arith, run.within)) in
    let value = digits_value 10 (take n text) in
    elim (cases_lt 4 n) [
      | inl long ↦ refused_first (faults.LongNumber at) (long_number_at_front at text n some refl digit long)
      | inr short ↦ token_first (take n text) (drop n text) (toks.Number value)
          (longest_number text n (toks.Number value) refl digit (numeral_at_front text n some refl digit, refl)) (omega arith)
    ]

sign_front : (at : Place) (text : List ℕ) → 0 < length text → HasNoGap text → is_letter (first_of text) ≡ false → is_ascii_digit (first_of text) ≡ false
    → Front at text
sign_front at text some no_gap letter digit = elim (cases_Option (sign_at text)) [
  | inl found ↦ (let n = length (sign_text found.0) in
      token_first (take n text) (drop n text) (toks.Sign found.0) (longest_sign text n found.0 letter digit found.1 refl) tt)
  | inr none ↦ refused_first (faults.BadByte at) (bad_byte_at_front at text some no_gap (no_token text letter digit none))
]

token_front : (at : Place) (text : List ℕ) → 0 < length text → HasNoGap text → Front at text
token_front at text some no_gap = elim (cases_Bool (is_letter (first_of text))) [
  | inl letter ↦ name_front at text some letter
  | inr other ↦ elim (cases_Bool (is_ascii_digit (first_of text))) [
    | inl digit ↦ number_front at text some digit
    | inr neither ↦ sign_front at text some no_gap other neither
  ]
]

front : (at : Place) (text : List ℕ) → 0 < length text → Front at text
front at text some = elim (cases_Bool (is_blank (first_of text))) [
  | inl blank ↦ gap_first (take 1 text) (drop 1 text) (sym (take-append-drop 1 text)) (blank_at_front text some blank)
  | inr solid ↦ elim (cases_Bool (starts_with nat_eq text (codes "//"))) [
    | inl slashes ↦ (let n = prefix_len in_line text in
        gap_first (take n text) (drop n text) (sym (take-append-drop n text)) (comment_at_front text n (sym slashes) refl))
    | inr none ↦ token_front at text some (no_gap_at_front text solid none)
  ]
]

-- ---- the whole text

record HasCut (at : Place) (text : List ℕ) : Type 0 where
  tokens : List Token
  stop : Stop
  is : IsCut at text tokens stop

shorter : (piece rest text : List ℕ) (k : ℕ) → text ≡ piece ++ rest → 0 < length piece → length text ≤ suc k → length rest ≤ k
shorter piece rest text k cut some few =
    let whole = ap length cut ∙ length-append piece rest in
    omega arith

go_on : (k : ℕ) → ((at : Place) (text : List ℕ) → length text ≤ k → HasCut at text) → (at : Place) (text : List ℕ) → length text ≤ suc k → Front at text
    → HasCut at text
go_on k rec at text few (gap_first piece rest cut gap) =
    let left = rec (place_after at piece) rest (shorter piece rest text k cut (some_gap piece rest gap) few) in
    record { tokens = left.tokens; stop = left.stop; is = cuts.gap piece rest cut gap left.is }
go_on k rec at text few (token_first piece rest tok longest within) =
    let left = rec (place_after at piece) rest (shorter piece rest text k longest.cut (some_longest longest) few) in
    record { tokens = record { tok = tok; at = at } ∷ left.tokens; stop = left.stop; is = cuts.token piece rest tok longest within left.is }
go_on k rec at text few (refused_first fault refuses) = record { tokens = []; stop = cuts.refused fault; is = cuts.refusal fault refuses }

has_cut : (k : ℕ) (at : Place) (text : List ℕ) → length text ≤ k → HasCut at text
has_cut k at [] few = record { tokens = []; stop = cuts.whole; is = cuts.done }
has_cut zero at (b ∷ bs) few = absurd (omega arith)
has_cut (suc k) at (b ∷ bs) few = go_on k (has_cut k) at (b ∷ bs) few (front at (b ∷ bs) (omega arith))

outcome_of : (text : List ℕ) (ts : List Token) (stop : Stop) → IsCut start text ts stop
    → ((us : List Token) × IsCut start text us cuts.whole) ⊎ ((fault : LexFault) × ((us : List Token) × IsCut start text us (cuts.refused fault)))
outcome_of text ts cuts.whole h = inl (ts, h)
outcome_of text ts (cuts.refused fault) h = inr (fault, (ts, h))

-- each text has tokens or a first refusal
pub some_outcome : SomeOutcome
some_outcome text = let all = has_cut (length text) start text (omega arith) in outcome_of text all.tokens all.stop all.is
