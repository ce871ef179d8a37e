-- The rule of each line of the header, and what the reader's functions give for it.
use Rattle.std.proofs.Common.{◌≡◌, ℕ, ◌<◌, ◌≤◌, Bool, true, false, if◌then◌else◌, eqb, ◌⊎◌, inl, inr, List, [], ◌∷◌, ◌++◌, length, map, Option, Some, None, IfSome}
use Rattle.std.proofs.Common.{Ok, Err, refl, sym, ap, ◌∙◌, subst, arith, codes, append_assoc, append-nil}
use Rattle.std.specs.Prelude.{nat_lt}
use Rattle.std.specs.Option.{is_some}
use Rattle.std.specs.List.{AllByRecursion}
use Rattle.std.specs.Str.{bytes_eq}
use Rattle.std.proofs.lemmas.Bool.{ne_eqb, eq-eqb, eqb-true}
use Rattle.std.proofs.lemmas.Bool.Decides.{nat_tests}
use Rattle.std.proofs.lemmas.List.{length-map}
use Rattle.list_facts.specs.Lists.{AreApart}
use Rattle.real_format.specs.declared.file.Mark.{Mark}
use Rattle.real_format.specs.declared.file.Mark.TheVariants.{Free, Zero, One}
use Rattle.real_format.specs.declared.header.Head.{Head}
use Rattle.real_format.specs.declared.header.Head.TheVariants.{Version, Lines, Names, Inputs, Outputs, InputBus, OutputBus, Constants, Garbage}
use Rattle.real_format.specs.declared.refusal.LineRefusal.TheVariants.{Form, Limit}
use Rattle.real_format.specs.Header.{HeaderView, IsNumber, IsName, AreNames, Says, SaysMarks, constant_byte, garbage_byte, with_constants, with_garbage, spelling_of}
use Rattle.real_format.specs.Faults.{IsLong, HasManyLines, HasLongName}
use Rattle.real_format.specs.inside.Reading.{and_then, or_form, single, is_nil, number_of, is_version, counted, count_of, names_from, marks_from, marks_of}
use Rattle.real_format.specs.inside.Reading.{constant_of, garbage_of, new_marks, add}
use Rattle.real_format.specs.inside.Says.{IsSound}
use Rattle.real_format.proofs.InversionLemmas.{else_ok, then_ok, and_ok, or_ok, same_ok, else_limit, limit_else, then_limit, and_limit, or_limit, ok_no_limit}
use Rattle.real_format.proofs.HeaderLemmas.{single_is, is_none, number_is, is_number, same_word, either, IsCount, count_is, is_count, names_are}
use Rattle.real_format.proofs.HeaderLemmas.{are_names, names_long, long_names}

-- ---- marks

module _ {M : Type 0} (f : ℕ → Option M) (byte_of : M → ℕ) (back : (b : ℕ) (m : M) → f b ≡ Some m → byte_of m ≡ b)
    (forth : (m : M) → f (byte_of m) ≡ Some m) where
  record AreMarks (done : List M) (bytes : List ℕ) (marks : List M) : Type 0 where
    more : List M
    is : marks ≡ done ++ more
    spelled : map byte_of more ≡ bytes

  marks_are : (done : List M) (bytes : List ℕ) (marks : List M) → marks_from f done bytes ≡ Ok marks → AreMarks done bytes marks
  marks_are done [] marks e = record { more = []; is = sym (same_ok done marks e) ∙ sym (append-nil done); spelled = refl }
  marks_are done (b ∷ bs) marks e =
      let p = or_ok (f b) (λ mark. marks_from f (done ++ mark ∷ []) bs) marks e in
      let rest = marks_are (done ++ p.0 ∷ []) bs marks p.2 in
      record {
        more = p.0 ∷ rest.more;
        is = rest.is ∙ append_assoc done (p.0 ∷ []) rest.more;
        spelled = ap (λ x. x ∷ map byte_of rest.more) (back b p.0 p.1) ∙ ap (λ xs. b ∷ xs) rest.spelled;
      }

  are_marks : (done more : List M) → marks_from f done (map byte_of more) ≡ Ok (done ++ more)
  are_marks done [] = ap Ok (sym (append-nil done))
  are_marks done (m ∷ ms) = rw (forth m) (are_marks (done ++ m ∷ []) ms ∙ ap Ok (append_assoc done (m ∷ []) ms))

  record IsMarks (n : ℕ) (words : List (List ℕ)) (marks : List M) : Type 0 where
    spelled : words ≡ map byte_of marks ∷ []
    count : length marks ≡ n

  marks_of-is : (n : ℕ) (words : List (List ℕ)) (marks : List M) → marks_of f n words ≡ Ok marks → IsMarks n words marks
  marks_of-is n words marks e =
      let p = or_ok (single words) (λ word. if eqb (length word) n then marks_from f [] word else Err Form) marks e in
      let q = then_ok (eqb (length p.0) n) Form (marks_from f [] p.0) marks p.2 in
      let m = marks_are [] p.0 marks q.1 in
      let whole : map byte_of marks ≡ p.0 = ap (map byte_of) m.is ∙ m.spelled in
      record {
        spelled = single_is words p.0 p.1 ∙ ap (λ w. w ∷ []) (sym whole);
        count = sym (length-map marks byte_of) ∙ ap length whole ∙ eqb-true (length p.0) n q.0;
      }

  is-marks_of : (n : ℕ) (words : List (List ℕ)) (marks : List M) → IsMarks n words marks → marks_of f n words ≡ Ok marks
  is-marks_of n words marks is =
      rw (is.spelled, eq-eqb (length (map byte_of marks)) n (length-map marks byte_of ∙ is.count)) (are_marks [] marks)

  no_limit_in_marks : (done : List M) (bytes : List ℕ) → marks_from f done bytes ≡ Err Limit → ⊥
  no_limit_in_marks done [] e = ok_no_limit done e
  no_limit_in_marks done (b ∷ bs) e =
      let p = or_limit (f b) (λ mark. marks_from f (done ++ mark ∷ []) bs) e in
      no_limit_in_marks (done ++ p.0 ∷ []) bs p.2

  no_limit_of_marks : (n : ℕ) (words : List (List ℕ)) → marks_of f n words ≡ Err Limit → ⊥
  no_limit_of_marks n words e =
      let p = or_limit (single words) (λ word. if eqb (length word) n then marks_from f [] word else Err Form) e in
      let q = then_limit (eqb (length p.0) n) (marks_from f [] p.0) p.2 in
      no_limit_in_marks [] p.0 q.1

  marks_say : (old : Option (List M)) (lines : Option ℕ) (with_marks : List M → HeaderView) (words : List (List ℕ)) (after : HeaderView)
      → and_then (new_marks f (is_some old) lines words) (λ marks. Ok (with_marks marks)) ≡ Ok after → SaysMarks byte_of old lines with_marks words after
  marks_say old lines with_marks words after e =
      let p = and_ok (new_marks f (is_some old) lines words) (λ marks. Ok (with_marks marks)) after e in
      let q = else_ok (is_some old) Form (or_form lines (λ n. marks_of f n words)) p.0 p.1 in
      let r = or_ok lines (λ n. marks_of f n words) p.0 q.1 in
      let m = marks_of-is r.0 words p.0 r.2 in
      record {
        marks = p.0;
        once = is_none old q.0;
        counted = r.1 ∙ ap Some (sym m.count);
        spelled = m.spelled;
        adds = sym (same_ok (with_marks p.0) after p.2);
      }

  say_marks : (old : Option (List M)) (lines : Option ℕ) (with_marks : List M → HeaderView) (words : List (List ℕ)) (after : HeaderView)
      → SaysMarks byte_of old lines with_marks words after → and_then (new_marks f (is_some old) lines words) (λ marks. Ok (with_marks marks)) ≡ Ok after
  say_marks old lines with_marks words after s =
      let is : IsMarks (length s.marks) words s.marks = record { spelled = s.spelled; count = refl } in
      rw (s.once, s.counted) (ap (λ r. and_then r (λ marks. Ok (with_marks marks))) (is-marks_of (length s.marks) words s.marks is) ∙ ap Ok (sym s.adds))

  no_limit_of_new : (old : Option (List M)) (lines : Option ℕ) (with_marks : List M → HeaderView) (words : List (List ℕ))
      → and_then (new_marks f (is_some old) lines words) (λ marks. Ok (with_marks marks)) ≡ Err Limit → ⊥
  no_limit_of_new old lines with_marks words e = elim (and_limit (new_marks f (is_some old) lines words) (λ marks. Ok (with_marks marks)) e) [
    | inl here ↦
        let p = else_limit (is_some old) (or_form lines (λ n. marks_of f n words)) here in
        let q = or_limit lines (λ n. marks_of f n words) p.1 in
        no_limit_of_marks q.0 words q.2
    | inr later ↦ ok_no_limit (with_marks later.0) later.2
  ]

constant_back : (b : ℕ) (m : Mark) → constant_of b ≡ Some m → constant_byte m ≡ b
constant_back b m e = by (eqb b 45) (eqb b 48) (eqb b 49) refl refl refl e
  where
    by : (s t u : Bool) → eqb b 45 ≡ s → eqb b 48 ≡ t → eqb b 49 ≡ u
        → (if s then Some Free else (if t then Some Zero else (if u then Some One else None))) ≡ Some m → constant_byte m ≡ b
    by true t u p q r f = let same : Free ≡ m = cc in ap constant_byte (sym same) ∙ sym (eqb-true b 45 p)
    by false true u p q r f = let same : Zero ≡ m = cc in ap constant_byte (sym same) ∙ sym (eqb-true b 48 q)
    by false false true p q r f = let same : One ≡ m = cc in ap constant_byte (sym same) ∙ sym (eqb-true b 49 r)
    by false false false p q r f = absurd (cc)

constant_forth : (m : Mark) → constant_of (constant_byte m) ≡ Some m
constant_forth Free = refl
constant_forth Zero = refl
constant_forth One = refl

garbage_back : (b : ℕ) (m : Bool) → garbage_of b ≡ Some m → garbage_byte m ≡ b
garbage_back b m e = by (eqb b 45) (eqb b 49) refl refl e
  where
    by : (s t : Bool) → eqb b 45 ≡ s → eqb b 49 ≡ t → (if s then Some false else (if t then Some true else None)) ≡ Some m → garbage_byte m ≡ b
    by true t p q f = let same : false ≡ m = cc in ap garbage_byte (sym same) ∙ sym (eqb-true b 45 p)
    by false true p q f = let same : true ≡ m = cc in ap garbage_byte (sym same) ∙ sym (eqb-true b 49 q)
    by false false p q f = absurd (cc)

garbage_forth : (m : Bool) → garbage_of (garbage_byte m) ≡ Some m
garbage_forth true = refl
garbage_forth false = refl

-- ---- what is added

is_version-says : (word : List ℕ) → is_version word ≡ true → (word ∷ [] ≡ codes "1.0" ∷ []) ⊎ (word ∷ [] ≡ codes "2.0" ∷ [])
is_version-says word e = elim (either (bytes_eq word (codes "1.0")) (bytes_eq word (codes "2.0")) e) [
  | inl one ↦ inl (ap (λ w. w ∷ []) (same_word word (codes "1.0") one))
  | inr two ↦ inr (ap (λ w. w ∷ []) (same_word word (codes "2.0") two))
]

pub says_so : (head : Head) (said : HeaderView) (words : List (List ℕ)) (after : HeaderView) → add head said words ≡ Ok after → Says head said words after
says_so Version said words after e =
    let p = else_ok said.version Form _ after e in
    let q = or_ok (single words) (λ word. if is_version word then Ok (record said { version = true }) else Err Form) after p.1 in
    let r = then_ok (is_version q.0) Form (Ok (record said { version = true })) after q.2 in
    record {
      once = p.0;
      known = subst (λ ws. (ws ≡ codes "1.0" ∷ []) ⊎ (ws ≡ codes "2.0" ∷ [])) (sym (single_is words q.0 q.1)) (is_version-says q.0 r.0);
      adds = sym (same_ok (record said { version = true }) after r.1);
    }
says_so Lines said words after e =
    let p = else_ok (is_some said.lines) Form _ after e in
    let q = and_ok (count_of words) (λ n. Ok (record said { lines = Some n })) after p.1 in
    let c = count_is words q.0 q.1 in
    record {
      number = c.number;
      count = q.0;
      once = is_none said.lines p.0;
      alone = c.alone;
      counted = c.counted;
      some = c.some;
      few = c.few;
      adds = sym (same_ok (record said { lines = Some q.0 }) after q.2);
    }
says_so Names said words after e =
    let p = else_ok (is_some said.names) Form _ after e in
    let q = or_ok said.lines (λ n. and_then (names_from n [] words) (λ names. Ok (record said { names = Some names }))) after p.1 in
    let r = and_ok (names_from q.0 [] words) (λ names. Ok (record said { names = Some names })) after q.2 in
    let are = names_are q.0 [] words r.0 r.1 in
    let good = subst AreNames are.is (are.names_are (record { named = tt; different = tt })) in
    record {
      once = is_none said.names p.0;
      counted = q.1 ∙ ap Some (sym are.count ∙ ap length are.is);
      good = good;
      adds = sym (same_ok (record said { names = Some r.0 }) after r.2) ∙ ap (λ names. let s : HeaderView = record said { names = Some names } in s) are.is;
    }
says_so Inputs said words after e =
    let p = else_ok said.inputs Form (Ok (record said { inputs = true })) after e in
    record { once = p.0; adds = sym (same_ok (record said { inputs = true }) after p.1) }
says_so Outputs said words after e =
    let p = else_ok said.outputs Form (Ok (record said { outputs = true })) after e in
    record { once = p.0; adds = sym (same_ok (record said { outputs = true }) after p.1) }
says_so InputBus said words after e = sym (same_ok said after e)
says_so OutputBus said words after e = sym (same_ok said after e)
says_so Constants said words after e =
    marks_say constant_of constant_byte constant_back constant_forth said.constants said.lines (with_constants said) words after e
says_so Garbage said words after e =
    marks_say garbage_of garbage_byte garbage_back garbage_forth said.garbage said.lines (with_garbage said) words after e

pub so_says : (head : Head) (said : HeaderView) (words : List (List ℕ)) (after : HeaderView) → Says head said words after → add head said words ≡ Ok after
so_says Version said words after s = elim s.known [
  | inl one ↦ rw (s.once, one) (ap Ok (sym s.adds))
  | inr two ↦ rw (s.once, two) (ap Ok (sym s.adds))
]
so_says Lines said words after s =
    let c : IsCount words s.count = record { number = s.number; alone = s.alone; counted = s.counted; some = s.some; few = s.few } in
    rw (s.once, is_count words s.count c) (ap Ok (sym s.adds))
so_says Names said words after s =
    rw s.once (ap (λ l. or_form l (λ n. and_then (names_from n [] words) (λ names. Ok (record said { names = Some names })))) s.counted
    ∙ ap (λ r. and_then r (λ names. Ok (record said { names = Some names }))) (are_names (length words) [] words s.good refl) ∙ ap Ok (sym s.adds))
so_says Inputs said words after s = rw s.once (ap Ok (sym s.adds))
so_says Outputs said words after s = rw s.once (ap Ok (sym s.adds))
so_says InputBus said words after s = ap Ok (sym s)
so_says OutputBus said words after s = ap Ok (sym s)
so_says Constants said words after s =
    say_marks constant_of constant_byte constant_back constant_forth said.constants said.lines (with_constants said) words after s
so_says Garbage said words after s =
    say_marks garbage_of garbage_byte garbage_back garbage_forth said.garbage said.lines (with_garbage said) words after s

-- ---- limits

count_limit : (words : List (List ℕ)) → count_of words ≡ Err Limit
    → (number : List ℕ) × (rest : List (List ℕ)) × (n : ℕ) × (words ≡ number ∷ rest) × IsNumber number n × (16384 < n)
count_limit [] e = absurd (cc)
count_limit (w ∷ ws) e =
    let p = or_limit (number_of w) (λ k. counted k ws) e in
    let q = else_limit (eqb p.0 0) _ p.2 in
    elim (limit_else (nat_lt 16384 p.0) _ q.1) [
      | inl above ↦ (w, ws, p.0, refl, number_is w p.0 p.1, grind (arith, nat_tests, above))
      | inr r ↦ let s = then_limit (is_nil ws) (Ok p.0) r.1 in ok_no_limit p.0 s.1
    ]

limit_count : (number : List ℕ) (rest : List (List ℕ)) (n : ℕ) → IsNumber number n → 16384 < n → count_of (number ∷ rest) ≡ Err Limit
limit_count number rest n is many =
    let above : nat_lt 16384 n ≡ true = grind (arith, nat_tests) in
    rw (is_number number n is, ne_eqb n 0 (λ e. omega arith), above) refl

-- a line of the header that passes a limit
pub limit_so : (head : Head) (said : HeaderView) (words : List (List ℕ)) → add head said words ≡ Err Limit
    → HasManyLines said (spelling_of head ∷ words) ⊎ HasLongName said (spelling_of head ∷ words)
limit_so Version said words e =
    let p = else_limit said.version _ e in
    let q = or_limit (single words) (λ word. if is_version word then Ok (record said { version = true }) else Err Form) p.1 in
    let r = then_limit (is_version q.0) (Ok (record said { version = true })) q.2 in
    ok_no_limit (record said { version = true }) r.1
limit_so Lines said words e =
    let p = else_limit (is_some said.lines) _ e in
    elim (and_limit (count_of words) (λ n. Ok (record said { lines = Some n })) p.1) [
      | inl here ↦
          let c = count_limit words here in
          inl (record {
            number = c.0;
            count = c.2;
            rest = c.1;
            once = is_none said.lines p.0;
            words = ap (λ ws. codes ".numvars" ∷ ws) c.3;
            counted = c.4;
            many = c.5;
          })
      | inr later ↦ ok_no_limit (record said { lines = Some later.0 }) later.2
    ]
limit_so Names said words e =
    let p = else_limit (is_some said.names) _ e in
    let q = or_limit said.lines (λ n. and_then (names_from n [] words) (λ names. Ok (record said { names = Some names }))) p.1 in
    elim (and_limit (names_from q.0 [] words) (λ names. Ok (record said { names = Some names })) q.2) [
      | inl here ↦
          let l = names_long q.0 [] words (omega arith) here in
          inr (record {
            names = l.good;
            name = l.name;
            rest = l.rest;
            count = q.0;
            once = is_none said.names p.0;
            counted = q.1;
            words = ap (λ ws. codes ".variables" ∷ ws) l.parts;
            wanted = l.wanted;
            good = l.names_are (record { named = tt; different = tt });
            long = l.long_name;
          })
      | inr later ↦ ok_no_limit (record said { names = Some later.0 }) later.2
    ]
limit_so Inputs said words e = let p = else_limit said.inputs (Ok (record said { inputs = true })) e in ok_no_limit (record said { inputs = true }) p.1
limit_so Outputs said words e = let p = else_limit said.outputs (Ok (record said { outputs = true })) e in ok_no_limit (record said { outputs = true }) p.1
limit_so InputBus said words e = ok_no_limit said e
limit_so OutputBus said words e = ok_no_limit said e
limit_so Constants said words e =
    absurd (no_limit_of_new constant_of constant_byte constant_back constant_forth said.constants said.lines (with_constants said) words e)
limit_so Garbage said words e =
    absurd (no_limit_of_new garbage_of garbage_byte garbage_back garbage_forth said.garbage said.lines (with_garbage said) words e)

pub limit_lines : (said : HeaderView) (number : List ℕ) (rest : List (List ℕ)) (n : ℕ) → said.lines ≡ None → IsNumber number n → 16384 < n
    → add Lines said (number ∷ rest) ≡ Err Limit
limit_lines said number rest n once is many = rw (once, limit_count number rest n is many) refl

pub limit_names : (said : HeaderView) (names : List (List ℕ)) (name : List ℕ) (rest : List (List ℕ)) (n : ℕ) → said.names ≡ None → said.lines ≡ Some n
    → AreNames names → length names < n → IsLong name
    → add Names said (names ++ name ∷ rest) ≡ Err Limit
limit_names said names name rest n once lines good wanted is =
    rw once (ap (λ l. or_form l (λ k. and_then (names_from k [] (names ++ name ∷ rest)) (λ all. Ok (record said { names = Some all })))) lines
    ∙ ap (λ r. and_then r (λ all. Ok (record said { names = Some all }))) (long_names n [] names name rest good wanted is))

-- ---- what a header says fits

-- nothing that is counted was said before the number of lines
before_lines : {X : Type 0} (o : Option (List X)) (lines new : Option ℕ) → lines ≡ None → IfSome o (λ xs. lines ≡ Some (length xs))
    → IfSome o (λ xs. new ≡ Some (length xs))
before_lines None lines new e h = tt
before_lines (Some xs) lines new e h = absurd (let both : None ≡ Some (length xs) = sym e ∙ h in cc)

all_sound : (said : HeaderView) → IfSome said.lines (λ n. 1 ≤ n) → IfSome said.lines (λ n. n ≤ 16384)
    → IfSome said.names (λ names. said.lines ≡ Some (length names)) → IfSome said.names (AllByRecursion IsName)
    → IfSome said.names (AreApart (λ one other. one ≡ other)) → IfSome said.constants (λ marks. said.lines ≡ Some (length marks))
    → IfSome said.garbage (λ marks. said.lines ≡ Some (length marks)) → IsSound said
all_sound said some few counted named different constants garbage = record {
  some = some;
  few = few;
  counted = counted;
  named = named;
  different = different;
  constants = constants;
  garbage = garbage;
}

-- lines of which no more than their presence counts
stays : (said : HeaderView) (version inputs outputs : Bool) → IsSound said
    → IsSound (record said { version = version; inputs = inputs; outputs = outputs })
stays said version inputs outputs sound =
    all_sound _ sound.some sound.few sound.counted sound.named sound.different sound.constants sound.garbage

pub sound_so : (head : Head) (said : HeaderView) (words : List (List ℕ)) (after : HeaderView) → IsSound said → Says head said words after → IsSound after
sound_so Version said words after sound s = subst IsSound (sym s.adds) (stays said true said.inputs said.outputs sound)
sound_so Lines said words after sound s =
    subst IsSound (sym s.adds) (all_sound _ s.some s.few (before_lines said.names said.lines _ s.once sound.counted) sound.named sound.different
    (before_lines said.constants said.lines _ s.once sound.constants) (before_lines said.garbage said.lines _ s.once sound.garbage))
sound_so Names said words after sound s =
    subst IsSound (sym s.adds) (all_sound _ sound.some sound.few s.counted s.good.named s.good.different sound.constants sound.garbage)
sound_so Inputs said words after sound s = subst IsSound (sym s.adds) (stays said said.version true said.outputs sound)
sound_so Outputs said words after sound s = subst IsSound (sym s.adds) (stays said said.version said.inputs true sound)
sound_so InputBus said words after sound s = subst IsSound (sym s) sound
sound_so OutputBus said words after sound s = subst IsSound (sym s) sound
sound_so Constants said words after sound s =
    subst IsSound (sym s.adds) (all_sound _ sound.some sound.few sound.counted sound.named sound.different s.counted sound.garbage)
sound_so Garbage said words after sound s =
    subst IsSound (sym s.adds) (all_sound _ sound.some sound.few sound.counted sound.named sound.different sound.constants s.counted)
