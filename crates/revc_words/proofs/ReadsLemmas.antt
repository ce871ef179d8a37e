-- What the words say is the one reading that they have.
use Rattle.std.proofs.Common.{◌==◌, ◌≡◌, ◌≢◌, ◌⊎◌, ℕ, suc, zero, Bool, true, false, ◌||◌, not, List, [], ◌∷◌, ◌++◌, Option, Some, None, eqb, refl, sym, ap, ◌∙◌}
use Rattle.std.proofs.Common.{subst, codes, inl, inr, arith}
use Rattle.std.specs.List.{list_any, list_all}
use Rattle.std.specs.Str.{bytes_eq}
use Rattle.std.proofs.lemmas.Bool.{false≢true}
use Rattle.std.proofs.lemmas.Option.{same_Some}
use Rattle.std.proofs.lemmas.Bool.Decides.{Decides-eqb}
use Rattle.std.proofs.lemmas.Slice.Eq.{bytes_eq-Decides}
use Rattle.clap.specs.Lexer.{long_of, name_and_value}
use Rattle.clap.specs.Walk.{Text}
use Rattle.clap.proofs.CutLemmas.{Lacks, list_any-Lacks, list_any-at, before_first-Lacks, before_first-at, after_first-at}
use Rattle.revc_words.specs.Words.{Setting, Reads, nothing_left, all_behind, joined, parted, positional, IsOneOf, is_option}
use Rattle.revc_words.proofs.WalkLemmas.{by_test, is_one_of}
use Rattle.revc_words.proofs.SaidLemmas.{Said, said, one, read_flag, read, no_said, with_setting_says, with_plain_says}

-- ---- names of options

abbrev pub is_name : Text → Bool
is_name [] = false
is_name (x ∷ xs) = not (list_any (λ x. x == 61) (x ∷ xs))

lacks : (text : Text) → list_any (λ x. x == 61) text ≡ false → Lacks 61 text
lacks [] e i lt = absurd (omega arith)
lacks (x ∷ xs) e zero lt = by_test (eqb x 61)
    (λ t. absurd (false≢true (sym e ∙ rw t refl)))
    (λ f same. false≢true (sym f ∙ (Decides-eqb x 61).1 same))
lacks (x ∷ xs) e (suc i) lt = by_test (eqb x 61)
    (λ t. absurd (false≢true (sym e ∙ rw t refl)))
    (λ f. lacks xs (rw f at e) i (omega arith))

-- such a text has a first byte, and no `=`
record HasName (name : Text) : Type 0 where
  first : ℕ
  rest : Text
  is : name ≡ first ∷ rest
  lacks : Lacks 61 (first ∷ rest)

has_name : (name : Text) → is_name name ≡ true → HasName name
has_name [] e = absurd (false≢true e)
has_name (x ∷ xs) e = record { first = x; rest = xs; is = refl; lacks = lacks (x ∷ xs) (none (list_any (λ x. x == 61) (x ∷ xs)) e) }
  where
    none : (test : Bool) → not test ≡ true → test ≡ false
    none true e = absurd (false≢true e)
    none false e = refl

pub known : (options : List Text) (name : Text) → IsOneOf options name → is_one_of options name ≡ true
known [] name is = absurd is
known (option ∷ options) name (inl same) = ap (λ t. t || is_one_of options name) ((bytes_eq-Decides option name).1 (sym same))
known (option ∷ options) name (inr rest) = by_test (bytes_eq option name) (λ t. rw t refl) (λ f. rw f (known options name rest))

pub known_says : (options : List Text) (name : Text) → is_one_of options name ≡ true → IsOneOf options name
known_says [] name e = absurd (false≢true e)
known_says (option ∷ options) name e = by_test (bytes_eq option name)
    (λ t. inl (sym ((bytes_eq-Decides option name).0 t)))
    (λ f. inr (known_says options name (rw f at e)))

name_of_known : (options : List Text) (name : Text) → list_all is_name options ≡ true → IsOneOf options name → is_name name ≡ true
name_of_known [] name all is = absurd is
name_of_known (option ∷ options) name all (inl same) = by_test (is_name option)
    (λ t. ap is_name same ∙ t)
    (λ f. absurd (false≢true (rw f at all)))
name_of_known (option ∷ options) name all (inr rest) = by_test (is_name option)
    (λ t. name_of_known options name (rw t at all) rest)
    (λ f. absurd (false≢true (rw f at all)))

-- ---- the words of options

long_joined : (name value : Text) → HasName name → long_of (codes "--" ++ (name ++ (codes "=" ++ value))) ≡ Some (name, Some value)
long_joined name value has =
    subst (λ (n : Text). long_of (codes "--" ++ (n ++ (codes "=" ++ value))) ≡ Some (n, Some value)) (sym has.is)
    (rw (
      before_first-at 61 (has.first ∷ has.rest) value has.lacks,
      list_any-at 61 (has.first ∷ has.rest) value,
      after_first-at 61 (has.first ∷ has.rest) value has.lacks,
    ) refl)

long_parted : (name : Text) → HasName name → long_of (codes "--" ++ name) ≡ Some (name, None)
long_parted name has =
    subst (λ (n : Text). long_of (codes "--" ++ n) ≡ Some (n, None)) (sym has.is)
    (rw (before_first-Lacks 61 (has.first ∷ has.rest) has.lacks, list_any-Lacks 61 (has.first ∷ has.rest) has.lacks) refl)

joined_no_end : (name value : Text) → HasName name → bytes_eq (codes "--" ++ (name ++ (codes "=" ++ value))) (codes "--") ≡ false
joined_no_end name value has =
    subst (λ (n : Text). bytes_eq (codes "--" ++ (n ++ (codes "=" ++ value))) (codes "--") ≡ false) (sym has.is) refl

parted_no_end : (name : Text) → HasName name → bytes_eq (codes "--" ++ name) (codes "--") ≡ false
parted_no_end name has = subst (λ (n : Text). bytes_eq (codes "--" ++ n) (codes "--") ≡ false) (sym has.is) refl

differ : (a b : Text) → a ≢ b → bytes_eq a b ≡ false
differ a b not_same = by_test (bytes_eq a b) (λ t. absurd (not_same ((bytes_eq-Decides a b).0 t))) (λ f. f)

-- what is read is said
pub reads_so : (options : List Text) → list_all is_name options ≡ true → {words : List Text} {given : List Setting} {plain : List Text}
    → Reads options words given plain → read options words None ≡ Some (said given plain)
unfolding read
reads_so options names nothing_left = refl
reads_so options names (all_behind {word} {words} is) = rw is refl
reads_so options names (joined {word} {words} {plain} {given} first is_one is rest) =
    let has = has_name first.name (name_of_known options first.name names is_one) in
    let behind = reads_so options names rest in
    rw (is, joined_no_end first.name first.value has, long_joined first.name first.value has, known options first.name is_one, behind) refl
reads_so options names (parted {word} {words} {plain} {given} first is_one is no_end rest) =
    let has = has_name first.name (name_of_known options first.name names is_one) in
    let behind = reads_so options names rest in
    rw (is, parted_no_end first.name has, long_parted first.name has, known options first.name is_one, differ first.value (codes "--") no_end, behind) refl
reads_so options names (positional {word} {words} {plain} {given} is rest) = rw (is, reads_so options names rest) refl

-- ---- the forms of words

record HasCut (text : Text) : Type 0 where
  front : Text
  behind : Text
  is : text ≡ front ++ 61 ∷ behind
  lacks : Lacks 61 front

cut_at : (text : Text) → (list_any (λ x. x == 61) text ≡ false) ⊎ HasCut text
cut_at [] = inl refl
cut_at (x ∷ xs) = by_test (eqb x 61)
    (λ t. inr (record { front = []; behind = xs; is = ap (λ (b : ℕ). b ∷ xs) ((Decides-eqb x 61).0 t); lacks = λ i lt. absurd (omega arith) }))
    (λ f. elim (cut_at xs) [
      | inl none ↦ inl (rw f none)
      | inr cut ↦ inr (record { front = x ∷ cut.front; behind = cut.behind; is = ap (λ (bs : Text). x ∷ bs) cut.is; lacks = more f cut.front cut.lacks })
    ])
  where
    more : eqb x 61 ≡ false → (front : Text) → Lacks 61 front → Lacks 61 (x ∷ front)
    more f front h zero lt = λ same. false≢true (sym f ∙ (Decides-eqb x 61).1 same)
    more f front h (suc i) lt = h i (omega arith)

cut_parts : (front behind : Text) → Lacks 61 front → name_and_value (front ++ 61 ∷ behind) ≡ (front, Some behind)
cut_parts front behind h = rw (before_first-at 61 front behind h, list_any-at 61 front behind, after_first-at 61 front behind h) refl

abbrev IsLong : Text → Text → Option Text → Type 0
IsLong word name None = word ≡ codes "--" ++ name
IsLong word name (Some value) = word ≡ codes "--" ++ (name ++ (codes "=" ++ value))

no_pair : (p : Text × Option Text) → None ≡ Some p → ⊥
no_pair p e = absurd cc

long_says : (word name : Text) (value : Option Text) → long_of word ≡ Some (name, value) → IsLong word name value
long_says [] name value e = absurd (no_pair (name, value) e)
long_says (a ∷ []) name value e = by_test (eqb a 45)
    (λ t. absurd (no_pair (name, value) (rw t at e)))
    (λ f. absurd (no_pair (name, value) (rw f at e)))
long_says (a ∷ b ∷ []) name value e = by_test (eqb a 45)
    (λ t. by_test (eqb b 45)
    (λ u. absurd (no_pair (name, value) (rw (t, u) at e)))
    (λ f. absurd (no_pair (name, value) (rw (t, f) at e))))
    (λ f. absurd (no_pair (name, value) (rw f at e)))
long_says (a ∷ b ∷ x ∷ xs) name value e = by_test (eqb a 45)
    (λ t. by_test (eqb b 45)
    (λ u. dashed t u (same_Some _ _ (rw (t, u) at e)))
    (λ f. absurd (no_pair (name, value) (rw (t, f) at e))))
    (λ f. absurd (no_pair (name, value) (rw f at e)))
  where
    dashed : eqb a 45 ≡ true → eqb b 45 ≡ true → name_and_value (x ∷ xs) ≡ (name, value) → IsLong (a ∷ b ∷ x ∷ xs) name value
    dashed t u same = elim (cut_at (x ∷ xs)) [
      | inl none ↦ plain none
      | inr cut ↦ has cut
    ]
      where
        begins : a ∷ b ∷ x ∷ xs ≡ codes "--" ++ (x ∷ xs)
        begins = λ i. (Decides-eqb a 45).0 t i ∷ (Decides-eqb b 45).0 u i ∷ x ∷ xs

        plain : list_any (λ x. x == 61) (x ∷ xs) ≡ false → IsLong (a ∷ b ∷ x ∷ xs) name value
        plain none =
            let here : name_and_value (x ∷ xs) ≡ (x ∷ xs, None) = rw (before_first-Lacks 61 (x ∷ xs) (lacks (x ∷ xs) none), none) refl in
            subst (λ (p : Text × Option Text). IsLong (a ∷ b ∷ x ∷ xs) p.0 p.1) (sym here ∙ same) begins

        has : HasCut (x ∷ xs) → IsLong (a ∷ b ∷ x ∷ xs) name value
        has cut =
            let here : name_and_value (x ∷ xs) ≡ (cut.front, Some cut.behind) = ap name_and_value cut.is ∙ cut_parts cut.front cut.behind cut.lacks in
            subst (λ (p : Text × Option Text). IsLong (a ∷ b ∷ x ∷ xs) p.0 p.1) (sym here ∙ same) (begins ∙ ap (λ (bs : Text). codes "--" ++ bs) cut.is)

-- ---- what is said is read

record IsValue (options words : List Text) (name : Text) (what : Said) : Type 0 where
  text : Text
  rest : List Text
  more : Said
  parts : words ≡ text ∷ rest
  no_end : text ≢ codes "--"
  reads : Reads options rest more.given more.plain
  is : what ≡ said (one name text ∷ more.given) more.plain

record IsRead (options words : List Text) : Type 0 where
  free : (what : Said) → read options words None ≡ Some what → Reads options words what.given what.plain
  waits : (name : Text) (what : Said) → read options words (Some name) ≡ Some what → IsValue options words name what

plain_reads : (options : List Text) (word : Text) (words : List Text) (what rest : Said) → is_option word ≡ false
    → Reads options words rest.given rest.plain → what ≡ said rest.given (word ∷ rest.plain) → Reads options (word ∷ words) what.given what.plain
plain_reads options word words what rest f behind is =
    subst (λ (w : Said). Reads options (word ∷ words) w.given w.plain) (sym {b = said rest.given (word ∷ rest.plain)} is) (positional f behind)

joined_reads : (options : List Text) (word : Text) (words : List Text) (name text : Text) (what rest : Said) → IsOneOf options name
    → word ≡ codes "--" ++ (name ++ (codes "=" ++ text)) → Reads options words rest.given rest.plain
    → what ≡ said (one name text ∷ rest.given) rest.plain → Reads options (word ∷ words) what.given what.plain
joined_reads options word words name text what rest known form behind is =
    subst (λ (w : Said). Reads options (word ∷ words) w.given w.plain) (sym {b = said (one name text ∷ rest.given) rest.plain} is)
    (joined (one name text) known form behind)

flag_reads : (options : List Text) (word : Text) (words : List Text) (flag : Option (Text × Option Text)) (what : Said) → long_of word ≡ flag
    → IsRead options words → read_flag options flag (read options words) ≡ Some what → Reads options (word ∷ words) what.given what.plain
flag_reads options word words None what is behind e = absurd (no_said what e)
flag_reads options word words (Some (name, None)) what is behind e = by_test (is_one_of options name)
    (λ t.
    let it = behind.waits name what (rw t at e) in
    let here = parted (one name it.text) (known_says options name t) (long_says word name None is) it.no_end it.reads in
    subst (λ (w : Said). Reads options (word ∷ words) w.given w.plain) (sym it.is)
    (subst (λ (ws : List Text). Reads options (word ∷ ws) (one name it.text ∷ it.more.given) it.more.plain) (sym it.parts) here))
    (λ f. absurd (no_said what (rw f at e)))
flag_reads options word words (Some (name, Some text)) what is behind e = by_test (is_one_of options name)
    (λ t.
    let parts = with_setting_says name text (read options words None) what (rw t at e) in
    joined_reads options word words name text what parts.0 (known_says options name t) (long_says word name (Some text) is)
    (behind.free parts.0 parts.1) parts.2)
    (λ f. absurd (no_said what (rw f at e)))

is_read : (options words : List Text) → IsRead options words
unfolding read
is_read options [] = record {
  free = λ what e. subst (λ (w : Said). Reads options [] w.given w.plain) (same_Some _ _ e) nothing_left;
  waits = λ name what e. absurd (no_said what e);
}
is_read options (word ∷ words) = record { free = free (is_read options words); waits = waits (is_read options words) }
  where
    free : IsRead options words → (what : Said) → read options (word ∷ words) None ≡ Some what → Reads options (word ∷ words) what.given what.plain
    free behind what e = by_test (is_option word)
        (λ t. by_test (bytes_eq word (codes "--"))
        (λ h.
        subst (λ (w : Said). Reads options (word ∷ words) w.given w.plain) (same_Some _ _ (rw (t, h) at e))
        (all_behind ((bytes_eq-Decides word (codes "--")).0 h)))
        (λ h. flag_reads options word words (long_of word) what refl behind (rw (t, h) at e)))
        (λ f.
        let parts = with_plain_says word (read options words None) what (rw f at e) in
        plain_reads options word words what parts.0 f (behind.free parts.0 parts.1) parts.2)

    waits : IsRead options words → (name : Text) (what : Said) → read options (word ∷ words) (Some name) ≡ Some what → IsValue options (word ∷ words) name what
    waits behind name what e = by_test (bytes_eq word (codes "--"))
        (λ t. absurd (no_said what (rw t at e)))
        (λ f.
        let parts = with_setting_says name word (read options words None) what (rw f at e) in
        record {
          text = word;
          rest = words;
          more = parts.0;
          parts = refl;
          no_end = λ same. false≢true (sym f ∙ (bytes_eq-Decides word (codes "--")).1 same);
          reads = behind.free parts.0 parts.1;
          is = parts.2;
        })

pub reads : (options words : List Text) (what : Said) → read options words None ≡ Some what → Reads options words what.given what.plain
reads options words what e = (is_read options words).free what e
