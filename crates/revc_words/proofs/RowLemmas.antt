-- What the rows of a parse say of its options and of its words, as they are put in one by one.
use Rattle.std.proofs.Common.{◌≡◌, true, false, List, [], ◌∷◌, ◌++◌, Option, Some, None, cond, refl, sym, ap, ◌∙◌, subst, codes, append-nil}
use Rattle.std.specs.Prelude.{slice_get, find}
use Rattle.std.specs.Option.{option_and_then, is_some}
use Rattle.std.specs.Str.{bytes_eq}
use Rattle.std.proofs.lemmas.Bool.{false≢true}
use Rattle.std.proofs.lemmas.Slice.Eq.{bytes_eq-Decides}
use Rattle.clap.specs.Walk.{Row, Text, at_row, has_row, first_of, more_values, reading_by}
use Rattle.clap.specs.declared.parser.matches.ValueSource.TheVariants.{CommandLine}
use Rattle.revc_words.specs.Words.{Setting, value_of}
use Rattle.revc_words.specs.inside.Parsing.{words_in}
use Rattle.revc_words.proofs.WalkLemmas.{by_test, filled_option, with_option, with_word}

-- ---- rows

abbrev pub row_at : Text → List Row → Option Row
row_at id rows = find (λ r. bytes_eq r.id id) rows

abbrev pub or_else : {A : Type 0} → Option A → Option A → Option A
or_else None other = other
or_else (Some a) other = Some a

pub or_none : {A : Type 0} (o : Option A) → or_else o None ≡ o
or_none None = refl
or_none (Some a) = refl

at_row_none : (id : Text) (change : Row → List Row) (missing rows : List Row) → has_row id rows ≡ false → at_row id change missing rows ≡ rows ++ missing
at_row_none id change missing [] e = refl
at_row_none id change missing (r ∷ rs) e = by_test (bytes_eq r.id id)
    (λ t. absurd (false≢true (sym e ∙ rw t refl)))
    (λ f. rw f (ap (λ l. r ∷ l) (at_row_none id change missing rs (rw f at e))))

abbrev new_row : Text → Text → Row
new_row name text = record {
  id = name;
  values = text ∷ [];
  count = None;
  source = Some CommandLine;
  reading = reading_by (filled_option name);
}

with_option_is : (name text : Text) (rows : List Row) → has_row name rows ≡ false → with_option name text rows ≡ rows ++ new_row name text ∷ []
with_option_is name text rows e =
    rw (at_row_none name (λ _. []) [] rows e ∙ append-nil rows) (at_row_none name (more_values CommandLine (text ∷ [])) (new_row name text ∷ []) rows e)

row_last : (id : Text) (rows : List Row) (last : Row) → row_at id (rows ++ last ∷ []) ≡ or_else (row_at id rows) (cond (bytes_eq last.id id) (Some last) None)
row_last id [] last = by_test (bytes_eq last.id id) (λ t. rw t refl) (λ f. rw f refl)
row_last id (r ∷ rs) last = by_test (bytes_eq r.id id) (λ t. rw t refl) (λ f. rw f (row_last id rs last))

pub has_row_is : (id : Text) (rows : List Row) → has_row id rows ≡ is_some (row_at id rows)
has_row_is id [] = refl
has_row_is id (r ∷ rs) = by_test (bytes_eq r.id id) (λ t. rw t refl) (λ f. rw f (has_row_is id rs))

no_row : (id : Text) (rows : List Row) → has_row id rows ≡ false → row_at id rows ≡ None
no_row id rows e = at_found (row_at id rows) refl
  where
    at_found : (found : Option Row) → row_at id rows ≡ found → row_at id rows ≡ None
    at_found None is = is
    at_found (Some r) is = absurd (false≢true (sym e ∙ has_row_is id rows ∙ ap is_some is))

-- ---- options

-- the first value of an option behind these rows
abbrev pub value_in : Text → List Row → List Setting → Option Text
value_in id rows given = or_else (first_of id rows) (value_of id given)

abbrev one_set : Text → Text → Setting
one_set name text = record { name = name; value = text }

pub option_value : (name text id : Text) (rows : List Row) (given : List Setting) → has_row name rows ≡ false
    → value_in id (with_option name text rows) given ≡ value_in id rows (one_set name text ∷ given)
option_value name text id rows given e = by_test (bytes_eq name id)
    (λ t.
    let none : row_at id rows ≡ None = no_row id rows (subst (λ (n : Text). has_row n rows ≡ false) ((bytes_eq-Decides name id).0 t) e) in
    rw (with_option_is name text rows e, row_last id rows (new_row name text), none, t) refl)
    (λ f. rw (with_option_is name text rows e, row_last id rows (new_row name text), f, or_none (row_at id rows)) refl)

pub option_has : (name text id : Text) (rows : List Row) → has_row name rows ≡ false
    → has_row id (with_option name text rows) ≡ false → (bytes_eq name id ≡ false) × (has_row id rows ≡ false)
option_has name text id rows e none = by_test (bytes_eq name id)
    (λ t. absurd (false≢true (sym none ∙ has_row_is id (with_option name text rows) ∙ there t)))
    (λ f. (f, has_row_is id rows ∙ same f ∙ sym (has_row_is id (with_option name text rows)) ∙ none))
  where
    same : bytes_eq name id ≡ false → is_some (row_at id rows) ≡ is_some (row_at id (with_option name text rows))
    same f = rw (with_option_is name text rows e, row_last id rows (new_row name text), f, or_none (row_at id rows)) refl

    there : bytes_eq name id ≡ true → is_some (row_at id (with_option name text rows)) ≡ true
    there t = rw (with_option_is name text rows e, row_last id rows (new_row name text), t) (some_or (row_at id rows))
      where
        some_or : (o : Option Row) → is_some (or_else o (Some (new_row name text))) ≡ true
        some_or None = refl
        some_or (Some r) = refl

pub option_keeps : (name text id : Text) (rows : List Row) → has_row name rows ≡ false → bytes_eq name id ≡ false
    → has_row id rows ≡ false → has_row id (with_option name text rows) ≡ false
option_keeps name text id rows e f none =
    has_row_is id (with_option name text rows)
    ∙ rw (with_option_is name text rows e, row_last id rows (new_row name text), f, or_none (row_at id rows)) (sym (has_row_is id rows) ∙ none)

-- ---- positional words

pub option_words : (name text : Text) (rows : List Row) → has_row name rows ≡ false → bytes_eq name (codes "word") ≡ false
    → words_in (with_option name text rows) ≡ words_in rows
option_words name text rows e f =
    rw (with_option_is name text rows e, row_last (codes "word") rows (new_row name text), f, or_none (row_at (codes "word") rows)) refl

pub word_words : (word : Text) (rows : List Row) → words_in (with_word word rows) ≡ words_in rows ++ word ∷ []
word_words word [] = refl
word_words word (r ∷ rs) = by_test (bytes_eq r.id (codes "word")) (λ t. rw t (rw t refl)) (λ f. rw f (rw f (word_words word rs)))

word_row : (word id : Text) (rows : List Row) → bytes_eq (codes "word") id ≡ false → row_at id (with_word word rows) ≡ row_at id rows
word_row word id [] e = rw e refl
word_row word id (r ∷ rs) e = by_test (bytes_eq r.id (codes "word"))
    (λ t.
    let other : bytes_eq r.id id ≡ false = subst (λ (n : Text). bytes_eq n id ≡ false) (sym ((bytes_eq-Decides r.id (codes "word")).0 t)) e in
    rw (t, other) refl)
    (λ f. rw f (by_test (bytes_eq r.id id) (λ t. rw t refl) (λ g. rw g (word_row word id rs e))))

pub word_has : (word id : Text) (rows : List Row) → bytes_eq (codes "word") id ≡ false → has_row id (with_word word rows) ≡ has_row id rows
word_has word id rows e = has_row_is id (with_word word rows) ∙ ap is_some (word_row word id rows e) ∙ sym (has_row_is id rows)

pub word_value : (word id : Text) (rows : List Row) (given : List Setting) → bytes_eq (codes "word") id ≡ false
    → value_in id (with_word word rows) given ≡ value_in id rows given
word_value word id rows given e = ap (λ o. or_else (option_and_then (λ r. slice_get r.values 0) o) (value_of id given)) (word_row word id rows e)
