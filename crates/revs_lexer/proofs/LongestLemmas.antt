-- The longest token at the front of a text: there is at most one, and it is the run that its first byte begins, or a sign.
use Rattle.std.proofs.Common.{◌≡◌, ℕ, ◌<◌, Bool, true, false, List, [], ◌∷◌, ◌++◌, length, take, drop, Some, None, refl, ap, sym, ◌∙◌, subst, inl, inr, ⊎_elim}
use Rattle.std.proofs.Common.{arith}
use Rattle.std.specs.List.{list_all, prefix_len}
use Rattle.std.specs.Char.{is_ascii_digit}
use Rattle.std.specs.Str.Parse.{AllDigits, IsNumeral, digits_value}
use Rattle.std.proofs.lemmas.Bool.{and_from, or_left}
use Rattle.std.proofs.lemmas.List.{take-append-drop, take_at, length-take-le}
use Rattle.text_places.specs.Bytes.{is_blank, is_letter, is_name_byte}
use Rattle.revs_lexer.specs.Spelling.{sign_text, is_identifier, Spells}
use Rattle.revs_lexer.specs.Tokens.{IsLongest, HasNoToken, Refuses}
use Rattle.text_places.specs.Gaps.{IsGap, HasNoGap}
use Rattle.revs_lexer.specs.Tokens as cuts
use Rattle.revc_base.specs.declared.place.Place.{Place}
use Rattle.revs_lexer.specs.declared.token.LexFault.TheVariants as faults
use Rattle.revs_lexer.specs.declared.sign.Sign.{Sign}
use Rattle.revs_lexer.specs.declared.token.Tok.{Tok}
use Rattle.revs_lexer.specs.declared.token.Tok.TheVariants as toks
use Rattle.revs_lexer.proofs.TableLemmas.{sign_at, sign_at-some, sign_at-longest, sign_at-none}
use Rattle.text_places.proofs.ByteLemmas.{first_of, same_first}
use Rattle.text_places.proofs.DigitLemmas.{AllDigits-from_all}
use Rattle.revs_lexer.proofs.FirstByteLemmas.{word_is_short, some_spelled, identifier_goes_on, spelled_by_letter, spelled_by_digit, spelled_by_other}
use Rattle.revs_lexer.proofs.FirstByteLemmas.{spelled_by_blank, same_spelled}
use Rattle.text_places.proofs.RunLemmas.{front_in_run, prefix_len-yes, run_of, some_run, same_split}
use Rattle.text_places.proofs.GapLemmas.{gap_begins}

-- one text has one longest token
pub record Same (front behind : List ℕ) (t : Tok) (other left : List ℕ) (u : Tok) : Type 0 where
  pub piece : front ≡ other
  pub rest : behind ≡ left
  pub tok : t ≡ u

pub same_longest : (text piece rest : List ℕ) (tok : Tok) (other behind : List ℕ) (t : Tok) → IsLongest text piece rest tok → IsLongest text other behind t
    → Same piece rest tok other behind t
same_longest text piece rest tok other behind t h k =
    let le = k.longest piece rest tok h.cut h.spelled in
    let ge = h.longest other behind t k.cut k.spelled in
    let parts = same_split text piece rest other behind h.cut k.cut (omega arith) in
    record {
      piece = parts.0;
      rest = parts.1;
      tok = same_spelled other tok t (subst (λ (p : List ℕ). Spells p tok) parts.0 h.spelled) k.spelled;
    }

pub some_longest : {text piece rest : List ℕ} {tok : Tok} → IsLongest text piece rest tok → 0 < length piece
some_longest {text} {piece} {rest} {tok} h = some_spelled piece tok h.spelled

-- no gap stands where a token does
pub no_gap_before_token : (text piece rest gap behind : List ℕ) (tok : Tok) → IsLongest text piece rest tok → text ≡ gap ++ behind → IsGap gap behind → ⊥
no_gap_before_token text piece rest gap behind tok h cut g =
    let same : first_of (gap ++ behind) ≡ first_of piece = ap first_of (sym cut) ∙ sym (same_first text piece rest h.cut (some_longest h)) in
    spelled_by_blank piece tok h.spelled
    (⊎_elim (λ (blank : is_blank (first_of (gap ++ behind)) ≡ true). inl (subst (λ (b : ℕ). is_blank b ≡ true) same blank))
    (λ (slash : first_of (gap ++ behind) ≡ 47). inr (sym same ∙ slash)) (gap_begins gap behind g))

-- a token that is the run of bytes that pass a test, where each token that begins so passes it
longest_run : (q : ℕ → Bool) (text : List ℕ) (n : ℕ) (tok : Tok) → n ≡ prefix_len q text
    → ((front : List ℕ) (other : Tok) → Spells front other → first_of front ≡ first_of text → list_all q front ≡ true) → Spells (take n text) tok
    → IsLongest text (take n text) (drop n text) tok
longest_run q text n tok same passes spelled =
    record {
      cut = sym (take-append-drop n text);
      spelled = spelled;
      longest = λ front behind other cut h.
          let all = passes front other h (same_first text front behind cut (some_spelled front other h)) in
          let within = front_in_run q front behind all in
          let run = run_of q text in
          let whole : prefix_len q (front ++ behind) ≡ n = ap (prefix_len q) (sym cut) ∙ sym same in
          let len = length-take-le n text (omega (arith, run.within)) in
          omega arith;
    }

pub longest_name : (text : List ℕ) (n : ℕ) (tok : Tok) → n ≡ prefix_len is_name_byte text → is_letter (first_of text) ≡ true → Spells (take n text) tok
    → IsLongest text (take n text) (drop n text) tok
longest_name text n tok same letter =
    longest_run is_name_byte text n tok same
    (λ front other h first. identifier_goes_on front (spelled_by_letter front other h (ap is_letter first ∙ letter)))

pub longest_number : (text : List ℕ) (n : ℕ) (tok : Tok) → n ≡ prefix_len is_ascii_digit text → is_ascii_digit (first_of text) ≡ true → Spells (take n text) tok
    → IsLongest text (take n text) (drop n text) tok
longest_number text n tok same digit =
    longest_run is_ascii_digit text n tok same (λ front other h first. spelled_by_digit front other h (ap is_ascii_digit first ∙ digit))

-- the run that a letter begins is an identifier, and the one that a digit begins is a numeral
pub identifier_at_front : (text : List ℕ) (n : ℕ) → 0 < length text → n ≡ prefix_len is_name_byte text → is_letter (first_of text) ≡ true
    → is_identifier (take n text) ≡ true
identifier_at_front [] n some same letter = absurd (omega arith)
identifier_at_front (b ∷ bs) n some same letter =
    let first : is_name_byte b ≡ true = or_left (is_letter b) (is_ascii_digit b) letter in
    subst (λ (k : ℕ). is_identifier (take k (b ∷ bs)) ≡ true) (sym (same ∙ prefix_len-yes is_name_byte b bs first))
    (and_from (is_letter b) (list_all is_name_byte (take (prefix_len is_name_byte bs) bs)) letter (run_of is_name_byte bs).passes)

pub digits_at_front : (text : List ℕ) (n : ℕ) → n ≡ prefix_len is_ascii_digit text → AllDigits 10 (take n text)
digits_at_front text n same =
    subst (λ (k : ℕ). AllDigits 10 (take k text)) (sym same) (AllDigits-from_all (take (prefix_len is_ascii_digit text) text)
    (run_of is_ascii_digit text).passes)

pub numeral_at_front : (text : List ℕ) (n : ℕ) → 0 < length text → n ≡ prefix_len is_ascii_digit text → is_ascii_digit (first_of text) ≡ true
    → IsNumeral 10 (take n text)
numeral_at_front text n some same digit =
    let one = some_run is_ascii_digit text some digit in
    let run = run_of is_ascii_digit text in
    let len = length-take-le n text (omega (arith, run.within)) in
    (omega arith, digits_at_front text n same)

-- a run over the limit is refused
pub long_name_at_front : (at : Place) (text : List ℕ) (n : ℕ) → 0 < length text → n ≡ prefix_len is_name_byte text → is_letter (first_of text) ≡ true → 64 < n
    → Refuses at text (faults.LongName at)
long_name_at_front at text n some same letter long =
    let run = run_of is_name_byte text in
    let len = length-take-le n text (omega (arith, run.within)) in
    let spelled : Spells (take n text) (toks.Name (take n text)) = (
      identifier_at_front text n some same letter,
      λ w word. let short = word_is_short w in let equal = ap length word in absurd (omega arith),
      refl,
    ) in
    cuts.long_name (take n text) (drop n text) (longest_name text n (toks.Name (take n text)) same letter spelled) (omega arith)

pub long_number_at_front : (at : Place) (text : List ℕ) (n : ℕ) → 0 < length text → n ≡ prefix_len is_ascii_digit text → is_ascii_digit (first_of text) ≡ true
    → 4 < n → Refuses at text (faults.LongNumber at)
long_number_at_front at text n some same digit long =
    let value = digits_value 10 (take n text) in
    let run = run_of is_ascii_digit text in
    let len = length-take-le n text (omega (arith, run.within)) in
    let spelled : Spells (take n text) (toks.Number value) = (numeral_at_front text n some same digit, refl) in
    cuts.long_number (take n text) (drop n text) value (longest_number text n (toks.Number value) same digit spelled) (omega arith)

-- a sign, where neither a letter nor a digit begins the text
pub longest_sign : (text : List ℕ) (n : ℕ) (s : Sign) → is_letter (first_of text) ≡ false → is_ascii_digit (first_of text) ≡ false → sign_at text ≡ Some s
    → n ≡ length (sign_text s) → IsLongest text (take n text) (drop n text) (toks.Sign s)
longest_sign text n s letter digit found same_len =
    let left = drop (length (sign_text s)) text in
    let cut = sign_at-some text s found in
    let piece : take n text ≡ sign_text s = ap (take n) cut ∙ take_at (sign_text s) left n (sym same_len) in
    record {
      cut = sym (take-append-drop n text);
      spelled = piece;
      longest = λ front behind other begins h.
          let first = same_first text front behind begins (some_spelled front other h) in
          let (t, same) = spelled_by_other front other h (ap is_letter first ∙ letter) (ap is_ascii_digit first ∙ digit) in
          let le = sign_at-longest text s t behind found (begins ∙ ap (λ p. p ++ behind) same) in
          let left = ap length same in
          let right = ap length piece in
          omega arith;
    }

pub no_token : (text : List ℕ) → is_letter (first_of text) ≡ false → is_ascii_digit (first_of text) ≡ false → sign_at text ≡ None → HasNoToken text
no_token text letter digit none front rest tok begins h =
    let first = same_first text front rest begins (some_spelled front tok h) in
    let (t, same) = spelled_by_other front tok h (ap is_letter first ∙ letter) (ap is_ascii_digit first ∙ digit) in
    sign_at-none text none t rest (begins ∙ ap (λ p. p ++ rest) same)

pub bad_byte_at_front : (at : Place) (text : List ℕ) → 0 < length text → HasNoGap text → HasNoToken text → Refuses at text (faults.BadByte at)
bad_byte_at_front at [] some no_gap no_token = absurd (omega arith)
bad_byte_at_front at (b ∷ bs) some no_gap no_token = cuts.bad_byte no_gap no_token
