-- What the words say, as a function, and that the rows of a parse are made of it.
use Rattle.std.proofs.Common.{◌≡◌, Bool, true, false, List, [], ◌∷◌, ◌++◌, Option, Some, None, cond, refl, sym, ap, ◌∙◌, subst, codes, append-nil, append_assoc}
use Rattle.std.specs.List.{AllByRecursion}
use Rattle.std.specs.Option.{option_map}
use Rattle.std.specs.Str.{bytes_eq}
use Rattle.std.proofs.lemmas.Bool.{false≢true}
use Rattle.std.proofs.lemmas.Option.{same_Some}
use Rattle.std.proofs.lemmas.Slice.Eq.{bytes_eq-Decides}
use Rattle.clap.specs.Lexer.{long_of}
use Rattle.clap.specs.Walk.{Row, Text, has_row, first_of}
use Rattle.revc_words.specs.Words.{Setting, is_option}
use Rattle.revc_words.specs.inside.Parsing.{words_in}
use Rattle.revc_words.proofs.WalkLemmas.{by_test, is_one_of, with_option, with_word, run, run_ended, run_flag}
use Rattle.revc_words.proofs.RowLemmas.{or_none, value_in, option_value, option_has, option_keeps, option_words, word_words, word_has, word_value}

pub record Said : Type 0 where
  pub given : List Setting
  pub plain : List Text

abbrev pub said : List Setting → List Text → Said
said given plain = record { given = given; plain = plain }

abbrev pub one : Text → Text → Setting
one name text = record { name = name; value = text }

abbrev pub with_setting : Text → Text → Option Said → Option Said
with_setting name text found = option_map (λ (s : Said). said (one name text ∷ s.given) s.plain) found

abbrev pub with_plain : Text → Option Said → Option Said
with_plain word found = option_map (λ (s : Said). said s.given (word ∷ s.plain)) found

abbrev pub read_flag : List Text → Option (Text × Option Text) → (Option Text → Option Said) → Option Said
read_flag options None next = None
read_flag options (Some (name, Some text)) next = cond (is_one_of options name) (with_setting name text (next None)) None
read_flag options (Some (name, None)) next = cond (is_one_of options name) (next (Some name)) None

-- the options given and the positional words, where an option may wait for its value
unfoldable pub read : List Text → List Text → Option Text → Option Said
read options [] None = Some (said [] [])
read options [] (Some name) = None
read options (word ∷ words) (Some name) = cond (bytes_eq word (codes "--")) None (with_setting name word (read options words None))
read options (word ∷ words) None =
    cond (is_option word)
    (cond (bytes_eq word (codes "--")) (Some (said [] words)) (read_flag options (long_of word) (read options words)))
    (with_plain word (read options words None))

-- ---- each option once, and not among the rows

abbrev pub IsNew : List Row → Setting → Type 0
IsNew rows one = (bytes_eq (codes "word") one.name ≡ false) × (has_row one.name rows ≡ false)

abbrev pub AreNew : List Row → List Setting → Type 0
AreNew rows given = AllByRecursion (IsNew rows) given

abbrev pub IsNever : Text → List Setting → Type 0
IsNever name given = AllByRecursion (λ one. bytes_eq name one.name ≡ false) given

abbrev pub AreOnce : List Setting → Type 0
AreOnce [] = Unit {0}
AreOnce (one ∷ given) = IsNever one.name given × AreOnce given

-- ---- what the rows are made of

pub record IsReached (options : List Text) (takes : Bool) (words : List Text) (waits : Option Text) (rows end : List Row) : Type 0 where
  pub what : Said
  pub found : read options words waits ≡ Some what
  pub new : AreNew rows what.given
  pub once : AreOnce what.given
  pub only : takes ≡ false → what.plain ≡ []
  pub values : (id : Text) → bytes_eq (codes "word") id ≡ false → first_of id end ≡ value_in id rows what.given
  pub plain : words_in end ≡ words_in rows ++ what.plain

-- the option that waits is not taken for the words
abbrev pub Waits : Option Text → Type 0
Waits None = Unit {0}
Waits (Some name) = bytes_eq (codes "word") name ≡ false

apart_from : (options : List Text) (name : Text) → is_one_of options (codes "word") ≡ false
    → is_one_of options name ≡ true → bytes_eq (codes "word") name ≡ false
apart_from options name none known = by_test (bytes_eq (codes "word") name)
    (λ t. absurd (false≢true (sym none ∙ subst (λ (n : Text). is_one_of options n ≡ true) (sym ((bytes_eq-Decides (codes "word") name).0 t)) known)))
    (λ f. f)

flipped : (a b : Text) → bytes_eq a b ≡ false → bytes_eq b a ≡ false
flipped a b e = by_test (bytes_eq b a)
    (λ t. absurd (false≢true (sym e ∙ (bytes_eq-Decides a b).1 (sym ((bytes_eq-Decides b a).0 t)))))
    (λ f. f)

no_end : (word : Text) → is_option word ≡ false → bytes_eq word (codes "--") ≡ false
no_end word e = by_test (bytes_eq word (codes "--"))
    (λ t. absurd (false≢true (sym e ∙ ap is_option ((bytes_eq-Decides word (codes "--")).0 t))))
    (λ f. f)

no_rows : (end : List Row) → None ≡ Some end → ⊥
no_rows end e = absurd cc

-- the rows behind an option are new behind it
less_new : (name text : Text) (rows : List Row) (given : List Setting) → has_row name rows ≡ false → AreNew (with_option name text rows) given
    → AreNew rows given × IsNever name given
less_new name text rows [] e new = (tt, tt)
less_new name text rows (first ∷ given) e new =
    let has = option_has name text first.name rows e new.0.1 in
    let behind = less_new name text rows given e new.1 in
    (((new.0.0, has.1), behind.0), (has.0, behind.1))

word_new : (word : Text) (rows : List Row) (given : List Setting) → AreNew (with_word word rows) given → AreNew rows given
word_new word rows [] new = tt
word_new word rows (first ∷ given) new = ((new.0.0, sym (word_has word first.name rows new.0.0) ∙ new.0.1), word_new word rows given new.1)

add_option : (options : List Text) (takes : Bool) (words before : List Text) (waits : Option Text) (name text : Text) (rows end : List Row)
    → has_row name rows ≡ false → bytes_eq (codes "word") name ≡ false
    → read options before waits ≡ with_setting name text (read options words None)
    → IsReached options takes words None (with_option name text rows) end → IsReached options takes before waits rows end
add_option options takes words before waits name text rows end e other reads behind =
    let less = less_new name text rows behind.what.given e behind.new in
    record {
      what = said (one name text ∷ behind.what.given) behind.what.plain;
      found = reads ∙ ap (with_setting name text) behind.found;
      new = ((other, e), less.0);
      once = (less.1, behind.once);
      only = behind.only;
      values = λ id apart. behind.values id apart ∙ option_value name text id rows behind.what.given e;
      plain = behind.plain ∙ ap (λ (ws : List Text). ws ++ behind.what.plain) (option_words name text rows e (flipped (codes "word") name other));
    }

add_word : (options : List Text) (takes : Bool) (words : List Text) (word : Text) (rows end : List Row) → takes ≡ true
    → read options (word ∷ words) None ≡ with_plain word (read options words None)
    → IsReached options takes words None (with_word word rows) end → IsReached options takes (word ∷ words) None rows end
add_word options takes words word rows end taken reads behind = record {
  what = said behind.what.given (word ∷ behind.what.plain);
  found = reads ∙ ap (with_plain word) behind.found;
  new = word_new word rows behind.what.given behind.new;
  once = behind.once;
  only = λ none. absurd (false≢true (sym none ∙ taken));
  values = λ id apart. behind.values id apart ∙ word_value word id rows behind.what.given apart;
  plain = behind.plain ∙ ap (λ (ws : List Text). ws ++ behind.what.plain) (word_words word rows) ∙ append_assoc (words_in rows) (word ∷ []) behind.what.plain;
}

pub record IsEnded (takes : Bool) (words : List Text) (rows end : List Row) : Type 0 where
  pub only : takes ≡ false → words ≡ []
  pub values : (id : Text) → bytes_eq (codes "word") id ≡ false → first_of id end ≡ value_in id rows []
  pub plain : words_in end ≡ words_in rows ++ words

ended_so : (takes : Bool) (words : List Text) (rows end : List Row) → run_ended takes rows words ≡ Some end → IsEnded takes words rows end
unfolding run_ended
ended_so takes [] rows end e =
    let same : rows ≡ end = same_Some _ _ e in
    record {
      only = λ none. refl;
      values = λ id apart. ap (first_of id) (sym same) ∙ sym (or_none (first_of id rows));
      plain = ap words_in (sym same) ∙ sym (append-nil (words_in rows));
    }
ended_so false (word ∷ words) rows end e = absurd (no_rows end e)
ended_so true (word ∷ words) rows end e =
    let behind = ended_so true words (with_word word rows) end e in
    record {
      only = λ none. absurd (false≢true (sym none));
      values = λ id apart. behind.values id apart ∙ word_value word id rows [] apart;
      plain = behind.plain ∙ ap (λ (ws : List Text). ws ++ words) (word_words word rows) ∙ append_assoc (words_in rows) (word ∷ []) words;
    }

-- the words behind `--`
words_end : (options : List Text) (takes : Bool) (before words : List Text) (rows end : List Row) → read options before None ≡ Some (said [] words)
    → run_ended takes rows words ≡ Some end → IsReached options takes before None rows end
words_end options takes before words rows end reads e =
    let it = ended_so takes words rows end e in
    record {
      what = said [] words;
      found = reads;
      new = tt;
      once = tt;
      only = it.only;
      values = it.values;
      plain = it.plain;
    }

-- ---- what a parse ends with is what the words say

reached_flag : (options : List Text) (takes : Bool) (word : Text) (words : List Text) (rows end : List Row) (flag : Option (Text × Option Text))
    → is_one_of options (codes "word") ≡ false
    → read options (word ∷ words) None ≡ read_flag options flag (read options words)
    → ((waits : Option Text) → Waits waits → (now : List Row) → run options takes words waits now ≡ Some end → IsReached options takes words waits now end)
    → run_flag options flag rows (run options takes words) ≡ Some end
    → IsReached options takes (word ∷ words) None rows end
reached_flag options takes word words rows end None apart reads behind e = absurd (no_rows end e)
reached_flag options takes word words rows end (Some (name, None)) apart reads behind e = by_test (is_one_of options name)
    (λ t.
    let it = behind (Some name) (apart_from options name apart t) rows (rw t at e) in
    record {
      what = it.what;
      found = reads ∙ rw t it.found;
      new = it.new;
      once = it.once;
      only = it.only;
      values = it.values;
      plain = it.plain;
    })
    (λ f. absurd (no_rows end (rw f at e)))
reached_flag options takes word words rows end (Some (name, Some text)) apart reads behind e = by_test (is_one_of options name)
    (λ t. by_test (has_row name rows)
    (λ h. absurd (no_rows end (rw (t, h) at e)))
    (λ h.
    add_option options takes words (word ∷ words) None name text rows end h (apart_from options name apart t)
    (reads ∙ rw t refl)
    (behind None tt (with_option name text rows) (rw (t, h) at e))))
    (λ f. absurd (no_rows end (rw f at e)))

-- a positional word, where the command takes such
reached_word : (options : List Text) (takes : Bool) (word : Text) (words : List Text) (rows end : List Row) → is_option word ≡ false
    → (run options takes words None (with_word word rows) ≡ Some end → IsReached options takes words None (with_word word rows) end)
    → cond takes (run options takes words None (with_word word rows)) None ≡ Some end → IsReached options takes (word ∷ words) None rows end
unfolding run read
reached_word options true word words rows end f behind e = add_word options true words word rows end refl (rw f refl) (behind e)
reached_word options false word words rows end f behind e = absurd (no_rows end e)

pub reached : (options : List Text) (takes : Bool) → is_one_of options (codes "word") ≡ false → (words : List Text) (waits : Option Text) → Waits waits
    → (rows end : List Row) → run options takes words waits rows ≡ Some end → IsReached options takes words waits rows end
unfolding run read
reached options takes apart [] None is rows end e =
    let same : rows ≡ end = same_Some _ _ e in
    record {
      what = said [] [];
      found = refl;
      new = tt;
      once = tt;
      only = λ none. refl;
      values = λ id other. ap (first_of id) (sym same) ∙ sym (or_none (first_of id rows));
      plain = ap words_in (sym same) ∙ sym (append-nil (words_in rows));
    }
reached options takes apart [] (Some name) is rows end e = absurd (no_rows end e)
reached options takes apart (word ∷ words) (Some name) is rows end e = by_test (is_option word)
    (λ t. absurd (no_rows end (rw t at e)))
    (λ f. by_test (has_row name rows)
    (λ h. absurd (no_rows end (rw (f, h) at e)))
    (λ h.
    add_option options takes words (word ∷ words) (Some name) name word rows end h is
    (rw (no_end word f) refl)
    (reached options takes apart words None tt (with_option name word rows) end (rw (f, h) at e))))
reached options takes apart (word ∷ words) None is rows end e = by_test (is_option word)
    (λ t. by_test (bytes_eq word (codes "--"))
    (λ h. words_end options takes (word ∷ words) words rows end (rw (t, h) refl) (rw (t, h) at e))
    (λ h.
    reached_flag options takes word words rows end (long_of word) apart (rw (t, h) refl)
    (λ waits so now. reached options takes apart words waits so now end) (rw (t, h) at e)))
    (λ f. reached_word options takes word words rows end f (reached options takes apart words None tt (with_word word rows) end) (rw f at e))

-- ---- what the words say is parsed

-- no value begins with `-`, save `-` itself
abbrev pub AreValues : List Setting → Type 0
AreValues given = AllByRecursion (λ one. is_option one.value ≡ false) given

pub record Fits (takes : Bool) (rows : List Row) (what : Said) : Type 0 where
  pub new : AreNew rows what.given
  pub once : AreOnce what.given
  pub texts : AreValues what.given
  pub only : takes ≡ false → what.plain ≡ []

abbrev HasEnd : Option (List Row) → Type 0
HasEnd found = (end : List Row) × (found ≡ Some end)

pub no_said : (what : Said) → None ≡ Some what → ⊥
no_said what e = absurd cc

-- what stands behind an option, and behind a word
pub with_setting_says : (name text : Text) (found : Option Said) (what : Said) → with_setting name text found ≡ Some what
    → (rest : Said) × (found ≡ Some rest) × (what ≡ said (one name text ∷ rest.given) rest.plain)
with_setting_says name text None what e = absurd (no_said what e)
with_setting_says name text (Some rest) what e = (rest, refl, sym (same_Some _ _ e))

pub with_plain_says : (word : Text) (found : Option Said) (what : Said) → with_plain word found ≡ Some what
    → (rest : Said) × (found ≡ Some rest) × (what ≡ said rest.given (word ∷ rest.plain))
with_plain_says word None what e = absurd (no_said what e)
with_plain_says word (Some rest) what e = (rest, refl, sym (same_Some _ _ e))

more_new : (name text : Text) (rows : List Row) (given : List Setting) → has_row name rows ≡ false → IsNever name given → AreNew rows given
    → AreNew (with_option name text rows) given
more_new name text rows [] e never new = tt
more_new name text rows (first ∷ given) e never new =
    ((new.0.0, option_keeps name text first.name rows e never.0 new.0.1), more_new name text rows given e never.1 new.1)

word_still_new : (word : Text) (rows : List Row) (given : List Setting) → AreNew rows given → AreNew (with_word word rows) given
word_still_new word rows [] new = tt
word_still_new word rows (first ∷ given) new = ((new.0.0, word_has word first.name rows new.0.0 ∙ new.0.1), word_still_new word rows given new.1)

fits_behind : (takes : Bool) (rows : List Row) (name text : Text) (what rest : Said) → what ≡ said (one name text ∷ rest.given) rest.plain
    → Fits takes rows what
    → (has_row name rows ≡ false) × (is_option text ≡ false) × Fits takes (with_option name text rows) rest
fits_behind takes rows name text what rest is fits =
    let new = subst (λ (w : Said). AreNew rows w.given) is fits.new in
    let once = subst (λ (w : Said). AreOnce w.given) is fits.once in
    let texts = subst (λ (w : Said). AreValues w.given) is fits.texts in (
      new.0.1,
      texts.0,
      record {
        new = more_new name text rows rest.given new.0.1 once.0 new.1;
        once = once.1;
        texts = texts.1;
        only = λ none. ap (λ (w : Said). w.plain) (sym is) ∙ fits.only none;
      },
    )

ended_has : (takes : Bool) (words : List Text) (rows : List Row) → (takes ≡ false → words ≡ []) → HasEnd (run_ended takes rows words)
unfolding run_ended
ended_has takes [] rows only = (rows, refl)
ended_has false (word ∷ words) rows only = absurd (apart (only refl))
  where
    apart : word ∷ words ≡ [] → ⊥
    apart e = absurd cc
ended_has true (word ∷ words) rows only = ended_has true words (with_word word rows) (λ none. absurd (false≢true (sym none)))

fits_flag : (options : List Text) (takes : Bool) (words : List Text) (rows : List Row) (flag : Option (Text × Option Text)) (what : Said)
    → ((waits : Option Text) (now : List Row) (rest : Said) → read options words waits ≡ Some rest
    → Fits takes now rest → HasEnd (run options takes words waits now))
    → read_flag options flag (read options words) ≡ Some what → Fits takes rows what
    → HasEnd (run_flag options flag rows (run options takes words))
fits_flag options takes words rows None what behind e fits = absurd (no_said what e)
fits_flag options takes words rows (Some (name, None)) what behind e fits = by_test (is_one_of options name)
    (λ t. rw t (behind (Some name) rows what (rw t at e) fits))
    (λ f. absurd (no_said what (rw f at e)))
fits_flag options takes words rows (Some (name, Some text)) what behind e fits = by_test (is_one_of options name)
    (λ t.
    let parts = with_setting_says name text (read options words None) what (rw t at e) in
    let fit = fits_behind takes rows name text what parts.0 parts.2 fits in
    rw (t, fit.0) (behind None (with_option name text rows) parts.0 parts.1 fit.2))
    (λ f. absurd (no_said what (rw f at e)))

pub parsed : (options : List Text) (takes : Bool) (words : List Text) (waits : Option Text) (rows : List Row) (what : Said)
    → read options words waits ≡ Some what → Fits takes rows what → HasEnd (run options takes words waits rows)
unfolding run read
parsed options takes [] None rows what e fits = (rows, refl)
parsed options takes [] (Some name) rows what e fits = absurd (no_said what e)
parsed options takes (word ∷ words) (Some name) rows what e fits = by_test (bytes_eq word (codes "--"))
    (λ t. absurd (no_said what (rw t at e)))
    (λ f.
    let parts = with_setting_says name word (read options words None) what (rw f at e) in
    let fit = fits_behind takes rows name word what parts.0 parts.2 fits in
    rw (fit.1, fit.0) (parsed options takes words None (with_option name word rows) parts.0 parts.1 fit.2))
parsed options takes (word ∷ words) None rows what e fits = by_test (is_option word)
    (λ t. by_test (bytes_eq word (codes "--"))
    (λ h.
    let same : said [] words ≡ what = same_Some _ _ (rw (t, h) at e) in
    rw (t, h) (ended_has takes words rows (λ none. ap (λ (w : Said). w.plain) same ∙ fits.only none)))
    (λ h. rw (t, h) (fits_flag options takes words rows (long_of word) what
    (λ waits now rest. parsed options takes words waits now rest) (rw (t, h) at e) fits)))
    (λ f. plain_word takes f (with_plain_says word (read options words None) what (rw f at e)) fits
    (λ now rest. parsed options takes words None now rest))
  where
    plain_word : (takes : Bool) → is_option word ≡ false
        → (rest : Said) × (read options words None ≡ Some rest) × (what ≡ said rest.given (word ∷ rest.plain)) → Fits takes rows what
        → ((now : List Row) (rest : Said) → read options words None ≡ Some rest → Fits takes now rest → HasEnd (run options takes words None now))
        → HasEnd (run options takes (word ∷ words) None rows)
    plain_word false f parts fits behind = absurd (apart (ap (λ (w : Said). w.plain) (sym parts.2) ∙ fits.only refl))
      where
        apart : word ∷ parts.0.plain ≡ [] → ⊥
        apart e = absurd cc
    plain_word true f parts fits behind =
        let new = subst (λ (w : Said). AreNew rows w.given) parts.2 fits.new in
        let once = subst (λ (w : Said). AreOnce w.given) parts.2 fits.once in
        let texts = subst (λ (w : Said). AreValues w.given) parts.2 fits.texts in
        rw f (behind (with_word word rows) parts.0 parts.1 (record {
          new = word_still_new word rows parts.0.given new;
          once = once;
          texts = texts;
          only = λ none. absurd (false≢true (sym none));
        }))
