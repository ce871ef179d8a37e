-- What clap's walk over the words of a command with such options comes to.
use Rattle.std.proofs.Common.{◌≡◌, ℕ, Bool, true, false, ◌&&◌, ◌||◌, not, List, [], ◌∷◌, ◌++◌, map, Option, Some, None, cond, eqb, refl, sym, ap, ◌∙◌, subst}
use Rattle.std.proofs.Common.{codes}
use Rattle.std.specs.Prelude.{fold}
use Rattle.std.specs.List.{AllByRecursion, list_any}
use Rattle.std.specs.Option.{option_and_then, is_some}
use Rattle.std.specs.Str.{bytes_eq, IsUtf8, chars}
use Rattle.std.proofs.lemmas.Bool.{false≢true}
use Rattle.std.proofs.lemmas.Bool.Decides.{Decides-eqb}
use Rattle.std.proofs.lemmas.Slice.Eq.{bytes_eq-Decides}
use Rattle.std.proofs.lemmas.Str.{encodes-chars, chars-append, chars-encodes}
use Rattle.revc_words.specs.Words.{is_option}
use Rattle.revc_words.specs.inside.Parsing.{unless}
use lib.Utf8.{encodes}
use Rattle.clap.specs.Lexer.{long_of, short_of, name_and_value}
use Rattle.clap.specs.Kinds.{Kinds, or_else}
use Rattle.clap.specs.Walk.{walk, walk_from, nothing_held, finished, rows_after, with_default, Rule, Row, Held, Walk, Waiting, idle, option, positional, Text}
use Rattle.clap.specs.Walk.{walked, has_row, settled, settled_rows, used, arg_by_id, arg_by_long, arg_by_short, arg_by_index, to_positional, value}
use Rattle.clap.specs.Faults.{fault_of, built_fault, level_fault, entered_fault, check_fault, walk_fault, defaults_fault, turn_fault, settle_fault, use_fault}
use Rattle.clap.specs.Faults.{step_fault, bundle_fault, flags_fault}
use Rattle.clap.specs.Takes.{is_given}
use Rattle.clap.specs.Simple.{built, entered, argument_words, matches_of, App, Shape, new_rule, new_shape}
use Rattle.clap.specs.declared.builder.action.ArgAction.TheVariants.{Set, Append}
use Rattle.clap.specs.declared.builder.value_parser.ValueParser.TheVariants as vp
use Rattle.clap.specs.declared.error.kind.ErrorKind.TheVariants as kind

-- ---- the command

abbrev pub filled_option : Text → Rule
filled_option name = record (new_rule name) {
  long = Some name;
  action = Some Set;
  range = Some (record { start_inclusive = 1; end_inclusive = 1 });
  parser = Some vp.String;
}

abbrev pub filled_word : Rule
filled_word = record (new_rule (codes "word")) {
  index = Some 1;
  action = Some Append;
  range = Some (record { start_inclusive = 1; end_inclusive = 1 });
  parser = Some vp.String;
}

abbrev pub filled_rules : List Text → Bool → List Rule
filled_rules options takes = map filled_option options ++ cond takes (filled_word ∷ []) []

abbrev pub filled_shape : Text → List Text → Bool → Shape
filled_shape name options takes = record (new_shape name) {
  rules = filled_rules options takes;
  disable_help_flag = true;
  disable_help_subcommand = true;
  is_built = true;
}

abbrev pub is_one_of : List (List ℕ) → List ℕ → Bool
is_one_of [] name = false
is_one_of (one ∷ options) name = bytes_eq one name || is_one_of options name

-- ---- what the walk ends with: the rows, where it does not fail

abbrev pub settle : Shape → Held → Option (List Row)
settle s h = unless (settle_fault s.rules s.args_override_self h) (Some (settled s.rules h).rows)

unfoldable pub ends : Shape → Walk → List Text → Option (List Row)
ends s w [] = settle s w.held
ends s w (word ∷ rest) = unless (turn_fault s [] w word) (ends s (walked s.rules [] w word) rest)

-- ---- the same with each option settled at once

abbrev pub with_option : Text → Text → List Row → List Row
with_option name text rows = used (filled_option name) (text ∷ []) rows

abbrev pub with_word : Text → List Row → List Row
with_word word rows = used filled_word (word ∷ []) rows

abbrev pub put_once : Text → Text → List Row → Option (List Row)
put_once name text rows = cond (has_row name rows) None (Some (with_option name text rows))

unfoldable pub run_ended : Bool → List Row → List Text → Option (List Row)
run_ended takes rows [] = Some rows
run_ended takes rows (word ∷ words) = cond takes (run_ended takes (with_word word rows) words) None

-- behind a flag
abbrev pub run_flag : List Text → Option (Text × Option Text) → List Row → (Option Text → List Row → Option (List Row)) → Option (List Row)
run_flag options None rows next = None
run_flag options (Some (name, Some text)) rows next = cond (is_one_of options name) (option_and_then (next None) (put_once name text rows)) None
run_flag options (Some (name, None)) rows next = cond (is_one_of options name) (next (Some name) rows) None

unfoldable pub run : List Text → Bool → List Text → Option Text → List Row → Option (List Row)
run options takes [] None rows = Some rows
run options takes [] (Some name) rows = None
run options takes (word ∷ words) (Some name) rows =
    cond (is_option word) None (option_and_then (run options takes words None) (put_once name word rows))
run options takes (word ∷ words) None rows =
    cond (is_option word)
    (cond (bytes_eq word (codes "--")) (run_ended takes rows words) (run_flag options (long_of word) rows (run options takes words)))
    (cond takes (run options takes words None (with_word word rows)) None)

-- ---- the form of a word

pub data Form (word : Text) : Type 0 where
  is_end : word ≡ codes "--" → Form word
  is_long : (name : Text) (text : Option Text) → is_option word ≡ true → bytes_eq word (codes "--") ≡ false → long_of word ≡ Some (name, text) → Form word
  is_short : (first : ℕ) (rest : Text) → is_option word ≡ true → bytes_eq word (codes "--") ≡ false → long_of word ≡ None → word ≡ 45 ∷ first ∷ rest
      → short_of word ≡ Some (first ∷ rest) → Form word
  is_plain : is_option word ≡ false → bytes_eq word (codes "--") ≡ false → long_of word ≡ None → short_of word ≡ None → Form word

pub by_test : {A : Type 0} (test : Bool) → (test ≡ true → A) → (test ≡ false → A) → A
by_test true f g = f refl
by_test false f g = g refl

pub form : (word : Text) → Form word
form [] = is_plain refl refl refl refl
form (a ∷ []) = by_test (eqb a 45)
    (λ t. is_plain refl (rw t refl) (rw t refl) (rw t refl))
    (λ f. is_plain refl (rw f refl) (rw f refl) (rw f refl))
form (a ∷ b ∷ rest) = by_test (eqb a 45)
    (λ t. by_test (eqb b 45) (behind_two rest t) (λ f. is_short b rest t (rw (t, f) refl) (rw (t, f) refl)
    (ap (λ x. x ∷ b ∷ rest) ((Decides-eqb a 45).0 t)) (rw (t, f) refl)))
    (λ f. is_plain f (rw f refl) (rw f refl) (rw f refl))
  where
    behind_two : (rest : Text) → eqb a 45 ≡ true → eqb b 45 ≡ true → Form (a ∷ b ∷ rest)
    behind_two [] t u = is_end (λ i. (Decides-eqb a 45).0 t i ∷ (Decides-eqb b 45).0 u i ∷ [])
    behind_two (x ∷ xs) t u =
        is_long (name_and_value (x ∷ xs)).0 (name_and_value (x ∷ xs)).1 t (rw (t, u) refl) (rw (t, u) refl)

-- ---- look-ups among the rules

same_bytes : (a : Text) → bytes_eq a a ≡ true
same_bytes a = (bytes_eq-Decides a a).1 refl

pub by_long : (options : List Text) (takes : Bool) (name : Text) → arg_by_long (filled_rules options takes) name
    ≡ cond (is_one_of options name) (Some (filled_option name)) None
by_long [] true name = refl
by_long [] false name = refl
by_long (one ∷ options) takes name = by_test (bytes_eq one name)
    (λ t. rw t (ap (λ n. Some (filled_option n)) ((bytes_eq-Decides one name).0 t)))
    (λ f. rw f (by_long options takes name))

pub by_id : (options : List Text) (takes : Bool) (name : Text) → is_one_of options name ≡ true
    → arg_by_id (filled_rules options takes) name ≡ Some (filled_option name)
by_id [] takes name e = absurd (false≢true e)
by_id (one ∷ options) takes name e = by_test (bytes_eq one name)
    (λ t. rw t (ap (λ n. Some (filled_option n)) ((bytes_eq-Decides one name).0 t)))
    (λ f. rw f (by_id options takes name (rw f at e)))

pub word_by_id : (options : List Text) → is_one_of options (codes "word") ≡ false
    → arg_by_id (filled_rules options true) (codes "word") ≡ Some filled_word
word_by_id [] e = refl
word_by_id (one ∷ options) e = by_test (bytes_eq one (codes "word"))
    (λ t. absurd (false≢true (sym e ∙ rw t refl)))
    (λ f. rw f (word_by_id options (rw f at e)))

pub by_short : (options : List Text) (takes : Bool) (x : ℕ) → arg_by_short (filled_rules options takes) x ≡ None
by_short [] true x = refl
by_short [] false x = refl
by_short (one ∷ options) takes x = by_short options takes x

pub by_index : (options : List Text) (takes : Bool) → arg_by_index (filled_rules options takes) 1 ≡ cond takes (Some filled_word) None
by_index [] true = refl
by_index [] false = refl
by_index (one ∷ options) takes = by_index options takes

-- ---- what settles

unless_none : {A : Type 0} (kinds : Kinds) → unless {A = A} kinds None ≡ None
unless_none [] = refl
unless_none (k ∷ ks) = refl

unless_both : {A : Type 0} (one other : Kinds) (o : Option A) → unless (or_else one other) o ≡ unless one (unless other o)
unless_both [] other o = refl
unless_both (k ∷ ks) other o = refl

abbrev nothing : {A B : Type 0} → A → Option B
nothing a = None

and_then_none : {A B : Type 0} (o : Option A) → option_and_then (nothing {A = A} {B = B}) o ≡ None
and_then_none None = refl
and_then_none (Some a) = refl

and_then_some : {A : Type 0} (o : Option A) → option_and_then (λ (a : A). Some a) o ≡ o
and_then_some None = refl
and_then_some (Some a) = refl

and_then_unless : {A B : Type 0} (kinds : Kinds) (o : Option A) (f : A → Option B)
    → option_and_then f (unless kinds o) ≡ unless kinds (option_and_then f o)
and_then_unless [] o f = refl
and_then_unless (k ∷ ks) o f = refl

abbrev held : List Row → Option (Text × List Text) → Held
held rows pending = record { rows = rows; pending = pending; skip = 0 }

settle_word : (command : Text) (options : List Text) (word : Text) (rows : List Row) → is_one_of options (codes "word") ≡ false
    → settle (filled_shape command options true) (held rows (Some (codes "word", word ∷ []))) ≡ Some (with_word word rows)
settle_word command options word rows e = rw (word_by_id options e) refl

settle_option : (command : Text) (options : List Text) (takes : Bool) (name text : Text) (rows : List Row) → is_one_of options name ≡ true
    → settle (filled_shape command options takes) (held rows (Some (name, text ∷ []))) ≡ put_once name text rows
settle_option command options takes name text rows e = by_test (has_row name rows)
    (λ t. rw (by_id options takes name e, t) refl)
    (λ f. rw (by_id options takes name e, f) refl)

settle_waiting : (command : Text) (options : List Text) (takes : Bool) (name : Text) (rows : List Row) → is_one_of options name ≡ true
    → settle (filled_shape command options takes) (held rows (Some (name, []))) ≡ None
settle_waiting command options takes name rows e = rw (by_id options takes name e) refl

-- ---- one word

abbrev at : List Row → Option (Text × List Text) → Waiting → Bool → Walk
at rows pending waiting is_trailing = record {
  held = held rows pending;
  waiting = waiting;
  position = 1;
  is_trailing = is_trailing;
  stopped = None;
}

abbrev resting : Bool → Waiting
resting several = cond several positional idle

-- a positional word
word_passes : (command : Text) (options : List Text) (rows : List Row) (pending : Option (Text × List Text))
    → step_fault (filled_shape command options true) 1 (held rows pending) value
    ≡ settle_fault (filled_rules options true) false (held rows pending)
word_passes command options rows None = rw (by_index options true) refl
word_passes command options rows (Some p) = by_test (bytes_eq p.0 (codes "word"))
    (λ t. rw (by_index options true, t) refl)
    (λ f. rw (by_index options true, f) refl)

word_walks : (options : List Text) (rows : List Row) (pending : Option (Text × List Text)) (waiting : Waiting) (is_trailing : Bool) (word : Text)
    → to_positional (filled_rules options true) (arg_by_index (filled_rules options true) 1) word (at rows pending waiting is_trailing) (held rows pending)
    ≡ at (settled_rows (filled_rules options true) pending rows) (Some (codes "word", word ∷ [])) positional is_trailing
word_walks options rows None waiting true word = rw (by_index options true) refl
word_walks options rows None waiting false word = rw (by_index options true) refl
word_walks options rows (Some p) waiting true word = by_test (bytes_eq p.0 (codes "word"))
    (λ t. rw (by_index options true, t) refl)
    (λ f. rw (by_index options true, f) refl)
word_walks options rows (Some p) waiting false word = by_test (bytes_eq p.0 (codes "word"))
    (λ t. rw (by_index options true, t) refl)
    (λ f. rw (by_index options true, f) refl)

no_word : (command : Text) (options : List Text) (rows : List Row) (pending : Option (Text × List Text))
    → step_fault (filled_shape command options false) 1 (held rows pending) value ≡ kind.UnknownArgument ∷ []
no_word command options rows pending = rw (by_index options false) refl

ended : (command : Text) (options : List Text) (takes : Bool) → is_one_of options (codes "word") ≡ false → (words : List Text) (rows : List Row)
    (pending : Option (Text × List Text)) (waiting : Waiting)
    → ends (filled_shape command options takes) (at rows pending waiting true) words
    ≡ option_and_then (λ r. run_ended takes r words) (settle (filled_shape command options takes) (held rows pending))
unfolding ends run_ended walked
ended command options takes apart [] rows pending waiting = sym (and_then_some (settle (filled_shape command options takes) (held rows pending)))
ended command options false apart (word ∷ words) rows pending waiting =
    rw (no_word command options rows pending) (sym (and_then_none (settle (filled_shape command options false) (held rows pending))))
ended command options true apart (word ∷ words) rows pending waiting =
    let shape = filled_shape command options true in
    let rules = filled_rules options true in
    let fault = settle_fault rules false (held rows pending) in
    let now = settled_rows rules pending rows in
    ap (λ k. unless k (ends shape (to_positional rules (arg_by_index rules 1) word (at rows pending waiting true) (held rows pending)) words))
    (word_passes command options rows pending)
    ∙ ap (λ w. unless fault (ends shape w words)) (word_walks options rows pending waiting true word)
    ∙ ap (λ o. unless fault o) (ended command options true apart words now (Some (codes "word", word ∷ [])) positional)
    ∙ ap (λ o. unless fault (option_and_then (λ r. run_ended true r words) o)) (settle_word command options word now apart)
    ∙ sym (and_then_unless fault (Some now) (λ r. run_ended true r (word ∷ words)))

-- ---- all words

pub record Claims (command : Text) (options : List Text) (takes : Bool) (words : List Text) : Type 0 where
  pub rests : (rows : List Row) (pending : Option (Text × List Text)) (several : Bool)
      → ends (filled_shape command options takes) (at rows pending (resting several) false) words
      ≡ option_and_then (run options takes words None) (settle (filled_shape command options takes) (held rows pending))
  pub waits : (rows : List Row) (name : Text) → is_one_of options name ≡ true
      → ends (filled_shape command options takes) (at rows (Some (name, [])) (option name) false) words
      ≡ run options takes words (Some name) rows

abbrev fault_at : List Text → Bool → List Row → Option (Text × List Text) → Kinds
fault_at options takes rows pending = settle_fault (filled_rules options takes) false (held rows pending)

abbrev settled_at : List Text → Bool → List Row → Option (Text × List Text) → List Row
settled_at options takes rows pending = settled_rows (filled_rules options takes) pending rows

-- ---- behind a flag

-- an option that has its value in the same word
has_value : (command : Text) (options : List Text) (takes : Bool) (words : List Text) (name text : Text) → Claims command options takes words
    → (now : List Row)
    → unless (use_fault false (filled_option name) (text ∷ []) now)
    (ends (filled_shape command options takes) (at (with_option name text now) None idle false) words)
    ≡ option_and_then (run options takes words None) (put_once name text now)
has_value command options takes words name text claims now = by_test (has_row name now)
    (λ t. rw t refl)
    (λ f. rw f (claims.rests (with_option name text now) None false))

-- the same behind the faults of what stands before it
value_behind : (command : Text) (options : List Text) (takes : Bool) (words : List Text) (name text : Text) → Claims command options takes words
    → (before : Kinds) (now : List Row)
    → unless (or_else (or_else before (use_fault false (filled_option name) (text ∷ []) now)) [])
    (ends (filled_shape command options takes) (at (with_option name text now) None idle false) words)
    ≡ unless before (option_and_then (run options takes words None) (put_once name text now))
value_behind command options takes words name text claims before now =
    let used = use_fault false (filled_option name) (text ∷ []) now in
    unless_both (or_else before used) [] _ ∙ unless_both before used _
    ∙ ap (λ r. unless before r) (has_value command options takes words name text claims now)

rests_long : (command : Text) (options : List Text) (takes : Bool) (word : Text) (words : List Text) (name : Text) (text : Option Text) (known : Bool)
    → Claims command options takes words → is_option word ≡ true → bytes_eq word (codes "--") ≡ false → long_of word ≡ Some (name, text)
    → is_one_of options name ≡ known
    → (rows : List Row) (pending : Option (Text × List Text)) (several : Bool)
    → ends (filled_shape command options takes) (at rows pending (resting several) false) (word ∷ words)
    ≡ unless (fault_at options takes rows pending) (run options takes (word ∷ words) None (settled_at options takes rows pending))
unfolding ends run walked
rests_long command options takes word words name None false claims o e l known rows pending true =
    rw (e, l, o, by_long options takes name, known) (sym (unless_none (fault_at options takes rows pending)))
rests_long command options takes word words name None false claims o e l known rows pending false =
    rw (e, l, o, by_long options takes name, known) (sym (unless_none (fault_at options takes rows pending)))
rests_long command options takes word words name (Some text) false claims o e l known rows pending true =
    rw (e, l, o, by_long options takes name, known) (sym (unless_none (fault_at options takes rows pending)))
rests_long command options takes word words name (Some text) false claims o e l known rows pending false =
    rw (e, l, o, by_long options takes name, known) (sym (unless_none (fault_at options takes rows pending)))
rests_long command options takes word words name None true claims o e l known rows pending true =
    rw (e, l, o, by_long options takes name, known)
    (unless_both (fault_at options takes rows pending) [] _
    ∙ ap (λ r. unless (fault_at options takes rows pending) r) (claims.waits (settled_at options takes rows pending) name known))
rests_long command options takes word words name None true claims o e l known rows pending false =
    rw (e, l, o, by_long options takes name, known)
    (unless_both (fault_at options takes rows pending) [] _
    ∙ ap (λ r. unless (fault_at options takes rows pending) r) (claims.waits (settled_at options takes rows pending) name known))
rests_long command options takes word words name (Some text) true claims o e l known rows pending true =
    rw (e, l, o, by_long options takes name, known)
    (value_behind command options takes words name text claims (fault_at options takes rows pending) (settled_at options takes rows pending))
rests_long command options takes word words name (Some text) true claims o e l known rows pending false =
    rw (e, l, o, by_long options takes name, known)
    (value_behind command options takes words name text claims (fault_at options takes rows pending) (settled_at options takes rows pending))

-- a word such as `-x`
first_char : (first : ℕ) (rest : Text) → IsUtf8 (45 ∷ first ∷ rest) → (x : ℕ) × (more : List ℕ) × (chars (first ∷ rest) ≡ x ∷ more)
unfolding lib.Utf8.encode
first_char first rest utf = at_chars (chars (first ∷ rest)) refl
  where
    whole : chars (45 ∷ first ∷ rest) ≡ 45 ∷ chars (first ∷ rest)
    whole = chars-append (45 ∷ []) (first ∷ rest) (45 ∷ [], (refl, refl)) ∙ ap (λ (cs : List ℕ). cs ++ chars (first ∷ rest)) one
      where
        one : chars (45 ∷ []) ≡ 45 ∷ []
        one = chars-encodes (45 ∷ []) refl

    at_chars : (cs : List ℕ) → chars (first ∷ rest) ≡ cs → (x : ℕ) × (more : List ℕ) × (chars (first ∷ rest) ≡ x ∷ more)
    at_chars [] e = absurd (apart (ap encodes (sym (whole ∙ ap (λ (cs : List ℕ). 45 ∷ cs) e)) ∙ encodes-chars (45 ∷ first ∷ rest) utf))
      where
        apart : 45 ∷ [] ≡ 45 ∷ first ∷ rest → ⊥
        apart e = absurd cc
    at_chars (x ∷ more) e = (x, more, e)

short_word : (command : Text) (options : List Text) (takes : Bool) (first : ℕ) (rest : Text) (rows : List Row) (pending : Option (Text × List Text))
    → IsUtf8 (45 ∷ first ∷ rest)
    → bundle_fault (filled_rules options takes) false (first ∷ rest) (held rows pending) ≡ kind.UnknownArgument ∷ []
unfolding flags_fault
short_word command options takes first rest rows pending utf =
    let begins = first_char first rest utf in
    rw (begins.2, by_short options takes begins.0) refl

rests_short : (command : Text) (options : List Text) (takes : Bool) (word : Text) (words : List Text) (first : ℕ) (rest : Text)
    → is_option word ≡ true → bytes_eq word (codes "--") ≡ false → long_of word ≡ None → short_of word ≡ Some (first ∷ rest)
    → IsUtf8 (45 ∷ first ∷ rest)
    → (rows : List Row) (pending : Option (Text × List Text)) (several : Bool)
    → ends (filled_shape command options takes) (at rows pending (resting several) false) (word ∷ words)
    ≡ unless (fault_at options takes rows pending) (run options takes (word ∷ words) None (settled_at options takes rows pending))
unfolding ends run walked
rests_short command options takes word words first rest o e l s utf rows pending true =
    rw (e, l, s, o, short_word command options takes first rest rows pending utf) (sym (unless_none (fault_at options takes rows pending)))
rests_short command options takes word words first rest o e l s utf rows pending false =
    rw (e, l, s, o, short_word command options takes first rest rows pending utf) (sym (unless_none (fault_at options takes rows pending)))

rests_end : (command : Text) (options : List Text) (takes : Bool) (word : Text) (words : List Text)
    → is_one_of options (codes "word") ≡ false → word ≡ codes "--"
    → (rows : List Row) (pending : Option (Text × List Text)) (several : Bool)
    → ends (filled_shape command options takes) (at rows pending (resting several) false) (word ∷ words)
    ≡ unless (fault_at options takes rows pending) (run options takes (word ∷ words) None (settled_at options takes rows pending))
unfolding ends run walked
rests_end command options takes word words apart is rows pending true =
    rw is (ended command options takes apart words rows pending positional
    ∙ and_then_unless (fault_at options takes rows pending) (Some (settled_at options takes rows pending)) (λ r. run_ended takes r words))
rests_end command options takes word words apart is rows pending false =
    rw is (ended command options takes apart words rows pending idle
    ∙ and_then_unless (fault_at options takes rows pending) (Some (settled_at options takes rows pending)) (λ r. run_ended takes r words))

rests_plain : (command : Text) (options : List Text) (takes : Bool) (word : Text) (words : List Text)
    → is_one_of options (codes "word") ≡ false → Claims command options takes words
    → is_option word ≡ false → bytes_eq word (codes "--") ≡ false → long_of word ≡ None → short_of word ≡ None
    → (rows : List Row) (pending : Option (Text × List Text)) (several : Bool)
    → ends (filled_shape command options takes) (at rows pending (resting several) false) (word ∷ words)
    ≡ unless (fault_at options takes rows pending) (run options takes (word ∷ words) None (settled_at options takes rows pending))
unfolding ends run walked
rests_plain command options false word words apart claims o e l s rows pending true =
    rw (e, l, s, o, no_word command options rows pending) (sym (unless_none (fault_at options false rows pending)))
rests_plain command options false word words apart claims o e l s rows pending false =
    rw (e, l, s, o, no_word command options rows pending) (sym (unless_none (fault_at options false rows pending)))
rests_plain command options true word words apart claims o e l s rows pending several = both several
  where
    fault : Kinds
    fault = fault_at options true rows pending

    now : List Row
    now = settled_at options true rows pending

    goes_on : (waiting : Waiting)
        → unless (step_fault (filled_shape command options true) 1 (held rows pending) value)
        (ends (filled_shape command options true)
        (to_positional (filled_rules options true) (arg_by_index (filled_rules options true) 1) word (at rows pending waiting false) (held rows pending)) words)
        ≡ unless (fault_at options true rows pending) (run options true words None (with_word word (settled_at options true rows pending)))
    goes_on waiting =
        let shape = filled_shape command options true in
        let rules = filled_rules options true in
        ap (λ k. unless k (ends shape (to_positional rules (arg_by_index rules 1) word (at rows pending waiting false) (held rows pending)) words))
        (word_passes command options rows pending)
        ∙ ap (λ w. unless (fault_at options true rows pending) (ends shape w words)) (word_walks options rows pending waiting false word)
        ∙ ap (λ o. unless (fault_at options true rows pending) o)
        (claims.rests (settled_at options true rows pending) (Some (codes "word", word ∷ [])) true
        ∙ ap (λ o. option_and_then (run options true words None) o) (settle_word command options word (settled_at options true rows pending) apart))

    both : (several : Bool) → ends (filled_shape command options true) (at rows pending (resting several) false) (word ∷ words)
        ≡ unless (fault_at options true rows pending) (run options true (word ∷ words) None (settled_at options true rows pending))
    both true = rw (e, l, s, o) (goes_on positional)
    both false = rw (e, l, s, o) (goes_on idle)

-- ---- the value of an option

waits_value : (command : Text) (options : List Text) (takes : Bool) (word : Text) (words : List Text)
    → Claims command options takes words
    → is_option word ≡ false → bytes_eq word (codes "--") ≡ false → long_of word ≡ None → short_of word ≡ None
    → (rows : List Row) (name : Text) → is_one_of options name ≡ true
    → ends (filled_shape command options takes) (at rows (Some (name, [])) (option name) false) (word ∷ words)
    ≡ run options takes (word ∷ words) (Some name) rows
unfolding ends run walked
waits_value command options takes word words claims o e l s rows name known =
    rw (e, l, s, o, by_id options takes name known, same_bytes name)
    (claims.rests rows (Some (name, word ∷ [])) false
    ∙ ap (λ o. option_and_then (run options takes words None) o) (settle_option command options takes name word rows known))

waits_end : (command : Text) (options : List Text) (takes : Bool) (word : Text) (words : List Text)
    → is_one_of options (codes "word") ≡ false → word ≡ codes "--" → (rows : List Row) (name : Text) → is_one_of options name ≡ true
    → ends (filled_shape command options takes) (at rows (Some (name, [])) (option name) false) (word ∷ words)
    ≡ run options takes (word ∷ words) (Some name) rows
unfolding ends run walked
waits_end command options takes word words apart is rows name known =
    rw is (ended command options takes apart words rows (Some (name, [])) (option name)
    ∙ ap (λ o. option_and_then (λ r. run_ended takes r words) o) (settle_waiting command options takes name rows known))

waits_short : (command : Text) (options : List Text) (takes : Bool) (word : Text) (words : List Text) (first : ℕ) (rest : Text)
    → is_option word ≡ true → bytes_eq word (codes "--") ≡ false → long_of word ≡ None → short_of word ≡ Some (first ∷ rest)
    → IsUtf8 (45 ∷ first ∷ rest) → (rows : List Row) (name : Text)
    → ends (filled_shape command options takes) (at rows (Some (name, [])) (option name) false) (word ∷ words)
    ≡ run options takes (word ∷ words) (Some name) rows
unfolding ends run walked
waits_short command options takes word words first rest o e l s utf rows name =
    rw (e, l, s, o, short_word command options takes first rest rows (Some (name, [])) utf) refl

waits_long : (command : Text) (options : List Text) (takes : Bool) (word : Text) (words : List Text) (other : Text) (text : Option Text) (is_known : Bool)
    → is_option word ≡ true → bytes_eq word (codes "--") ≡ false → long_of word ≡ Some (other, text) → is_one_of options other ≡ is_known
    → (rows : List Row) (name : Text) → is_one_of options name ≡ true
    → ends (filled_shape command options takes) (at rows (Some (name, [])) (option name) false) (word ∷ words)
    ≡ run options takes (word ∷ words) (Some name) rows
unfolding ends run walked
waits_long command options takes word words other None false o e l is rows name known =
    rw (e, l, o, by_long options takes other, is) refl
waits_long command options takes word words other (Some text) false o e l is rows name known =
    rw (e, l, o, by_long options takes other, is) refl
waits_long command options takes word words other None true o e l is rows name known =
    rw (e, l, o, by_long options takes other, is, by_id options takes name known) refl
waits_long command options takes word words other (Some text) true o e l is rows name known =
    rw (e, l, o, by_long options takes other, is, by_id options takes name known) refl

-- ---- every word

rests_word : (command : Text) (options : List Text) (takes : Bool) (word : Text) (words : List Text)
    → is_one_of options (codes "word") ≡ false → IsUtf8 word → Claims command options takes words → Form word
    → (rows : List Row) (pending : Option (Text × List Text)) (several : Bool)
    → ends (filled_shape command options takes) (at rows pending (resting several) false) (word ∷ words)
    ≡ unless (fault_at options takes rows pending) (run options takes (word ∷ words) None (settled_at options takes rows pending))
rests_word command options takes word words apart utf claims (is_end is) rows pending several =
    rests_end command options takes word words apart is rows pending several
rests_word command options takes word words apart utf claims (is_long name text o e l) rows pending several =
    rests_long command options takes word words name text (is_one_of options name) claims o e l refl rows pending several
rests_word command options takes word words apart utf claims (is_short first rest o e l is s) rows pending several =
    rests_short command options takes word words first rest o e l s (subst IsUtf8 is utf) rows pending several
rests_word command options takes word words apart utf claims (is_plain o e l s) rows pending several =
    rests_plain command options takes word words apart claims o e l s rows pending several

waits_word : (command : Text) (options : List Text) (takes : Bool) (word : Text) (words : List Text)
    → is_one_of options (codes "word") ≡ false → IsUtf8 word → Claims command options takes words → Form word
    → (rows : List Row) (name : Text) → is_one_of options name ≡ true
    → ends (filled_shape command options takes) (at rows (Some (name, [])) (option name) false) (word ∷ words)
    ≡ run options takes (word ∷ words) (Some name) rows
waits_word command options takes word words apart utf claims (is_end is) rows name known =
    waits_end command options takes word words apart is rows name known
waits_word command options takes word words apart utf claims (is_long other text o e l) rows name known =
    waits_long command options takes word words other text (is_one_of options other) o e l refl rows name known
waits_word command options takes word words apart utf claims (is_short first rest o e l is s) rows name known =
    waits_short command options takes word words first rest o e l s (subst IsUtf8 is utf) rows name
waits_word command options takes word words apart utf claims (is_plain o e l s) rows name known =
    waits_value command options takes word words claims o e l s rows name known

abbrev pub AreTexts : List Text → Type 0
AreTexts words = AllByRecursion IsUtf8 words

claims : (command : Text) (options : List Text) (takes : Bool) → is_one_of options (codes "word") ≡ false → (words : List Text) → AreTexts words
    → Claims command options takes words
unfolding ends run
claims command options takes apart [] texts = record {
  rests = λ rows pending several. sym (and_then_unless (fault_at options takes rows pending) (Some (settled_at options takes rows pending))
      (run options takes [] None));
  waits = λ rows name known. settle_waiting command options takes name rows known;
}
claims command options takes apart (word ∷ words) texts =
    let behind = claims command options takes apart words texts.1 in
    record {
      rests = λ rows pending several.
          rests_word command options takes word words apart texts.0 behind (form word) rows pending several
          ∙ sym (and_then_unless (fault_at options takes rows pending) (Some (settled_at options takes rows pending)) (run options takes (word ∷ words) None));
      waits = λ rows name known. waits_word command options takes word words apart texts.0 behind (form word) rows name known;
    }

-- ---- clap's own words

-- the walk's faults and its end
ends_so : (shape : Shape) (words : List Text) (w : Walk)
    → ends shape w words ≡ unless (walk_fault shape [] w words) (settle shape (fold (walked shape.rules []) w words).held)
unfolding ends walk_fault
ends_so shape [] w = refl
ends_so shape (word ∷ words) w =
    ap (λ o. unless (turn_fault shape [] w word) o) (ends_so shape words (walked shape.rules [] w word))
    ∙ sym (unless_both (turn_fault shape [] w word) (walk_fault shape [] (walked shape.rules [] w word) words) _)

no_defaults : (options : List Text) (takes : Bool) (rows : List Row) → defaults_fault rows (filled_rules options takes) ≡ []
unfolding defaults_fault
no_defaults [] true rows = by_test (has_row (codes "word") rows) (λ t. rw t refl) (λ f. rw f refl)
no_defaults [] false rows = refl
no_defaults (one ∷ options) takes rows = by_test (has_row one rows)
    (λ t. rw t (no_defaults options takes rows))
    (λ f. rw f (no_defaults options takes rows))

no_default : (one : Text) (rows : List Row) → with_default rows (filled_option one) ≡ rows
no_default one rows = by_test (has_row one rows) (λ t. rw t refl) (λ f. rw f refl)

keeps_rows : (options : List Text) (takes : Bool) (rows : List Row) → fold with_default rows (filled_rules options takes) ≡ rows
keeps_rows [] true rows = by_test (has_row (codes "word") rows) (λ t. rw t refl) (λ f. rw f refl)
keeps_rows [] false rows = refl
keeps_rows (one ∷ options) takes rows =
    ap (λ r. fold with_default r (filled_rules options takes)) (no_default one rows) ∙ keeps_rows options takes rows

none_required : (options : List Text) (takes : Bool) (rows : List Row)
    → list_any (λ a. a.required && not (is_given a.id rows)) (filled_rules options takes) ≡ false
none_required [] true rows = refl
none_required [] false rows = refl
none_required (one ∷ options) takes rows = none_required options takes rows

abbrev pub filled_app : Text → List Text → Bool → App
filled_app command options takes = record { top = filled_shape command options takes; subs = [] }

no_check : (command : Text) (options : List Text) (takes : Bool) (rows : List Row) (has : Bool) → check_fault (filled_shape command options takes) rows has ≡ []
no_check command options takes rows true = rw (none_required options takes rows) refl
no_check command options takes rows false = rw (none_required options takes rows) refl

none_entered : (command : Text) (options : List Text) (takes : Bool) (stop : Option (Text × List Text))
    → entered_fault (filled_app command options takes) stop ≡ []
none_entered command options takes None = refl
none_entered command options takes (Some p) = refl

level_so : (command : Text) (options : List Text) (takes : Bool) (words : List Text) (has : Bool) (below : Kinds) → below ≡ []
    → level_fault (filled_shape command options takes) [] nothing_held words has below
    ≡ or_else (walk_fault (filled_shape command options takes) [] (walk_from nothing_held) words)
    (or_else (settle_fault (filled_rules options takes) false (walk (filled_rules options takes) [] nothing_held words).held) [])
level_so command options takes words has below none =
    let rows = (settled (filled_rules options takes) (walk (filled_rules options takes) [] nothing_held words).held).rows in
    let end = (walk (filled_rules options takes) [] nothing_held words).held in
    rw (none, no_defaults options takes rows, no_check command options takes (finished (filled_rules options takes) end) has) refl

clap_so : (command : Text) (options : List Text) (takes : Bool) → is_one_of options (codes "word") ≡ false → (words : List Text) → AreTexts words
    → unless (built_fault (filled_app command options takes) nothing_held words) (Some (rows_after (filled_rules options takes) [] words))
    ≡ run options takes words None []
clap_so command options takes apart words texts =
    let shape = filled_shape command options takes in
    let rules = filled_rules options takes in
    let whole = walk rules [] nothing_held words in
    let walks = walk_fault shape [] (walk_from nothing_held) words in
    let ending = settle_fault rules false whole.held in
    let stop = whole.stopped in
    ap (λ k. unless k (Some (rows_after rules [] words)))
    (level_so command options takes words (is_some (entered (filled_app command options takes) stop)) (entered_fault (filled_app command options takes) stop)
    (none_entered command options takes stop))
    ∙ unless_both walks (or_else ending []) (Some (rows_after rules [] words))
    ∙ ap (λ o. unless walks o) (unless_both ending [] (Some (rows_after rules [] words)))
    ∙ ap (λ rows. unless walks (unless ending (Some rows))) (keeps_rows options takes (settled rules whole.held).rows)
    ∙ sym (ends_so shape words (walk_from nothing_held))
    ∙ (claims command options takes apart words texts).rests [] None false

-- a command that is built so
pub clap_says : (app : App) (command : Text) (options : List Text) (takes : Bool) → built app ≡ filled_app command options takes
    → is_one_of options (codes "word") ≡ false → (words behind : List Text) → argument_words app words ≡ behind → AreTexts behind
    → unless (fault_of app words) (Some (matches_of app words)) ≡ run options takes behind None []
clap_says app command options takes is apart words behind are texts = rw (is, are) (clap_so command options takes apart behind texts)
