-- A gate line: what the reader's functions give is what the definitions say.
use Rattle.std.proofs.Common.{◌≡◌, ◌≢◌, ℕ, zero, suc, ◌<◌, ◌≤◌, Bool, true, false, not, ◌||◌, if◌then◌else◌, eqb, ◌⊎◌, inl, inr, List, [], ◌∷◌, ◌++◌, length}
use Rattle.std.proofs.Common.{get_or, drop, position, slice_get, Some, Result, Ok, Err, refl, sym, ap, ◌∙◌, subst, arith, append_assoc, append-nil}
use Rattle.std.specs.Prelude.{nat_lt}
use Rattle.std.specs.List.{AllByRecursion, AllZip, prefix_len}
use Rattle.std.specs.Str.{bytes_eq}
use Rattle.std.proofs.lemmas.Bool.{cases_Bool, ne_eqb, eq-eqb, eqb-true, eqb-false}
use Rattle.std.proofs.lemmas.Bool.Decides.{nat_tests}
use Rattle.std.proofs.lemmas.List.{length-append, map-append}
use Rattle.std.proofs.lemmas.List.Quantifiers.{position-Some}
use Rattle.std.proofs.lemmas.Option.{slice_get-get_or, get_or_from_slice_get}
use Rattle.list_facts.specs.Lists.{AreApart, AreDifferent}
use Rattle.list_facts.proofs.AllLemmas.{AllByRecursion-append, AllByRecursion-right, AllByRecursion-at}
use Rattle.list_facts.proofs.OrderLemmas.{AreDifferent-push}
use Rattle.mct_circuit.specs.declared.gate.Control.{Control}
use Rattle.mct_circuit.specs.declared.gate.Op.{Op}
use Rattle.mct_circuit.specs.declared.gate.Op.TheVariants.{Flip, Swap}
use Rattle.mct_circuit.specs.Gates.{targets_of}
use Rattle.mct_circuit.specs.Sizes.{has_line}
use Rattle.real_format.specs.declared.refusal.LineRefusal.{LineRefusal}
use Rattle.real_format.specs.declared.refusal.LineRefusal.TheVariants.{Form, Limit}
use Rattle.real_format.specs.Header.{IsName, AreNames}
use Rattle.real_format.specs.Real.{NamesLine, NamesControl}
use Rattle.real_format.specs.Faults.{IsLong}
use Rattle.real_format.specs.inside.Reading.{and_then, is_nil, begins_name, has_sign, is_long, line_of}
use Rattle.real_format.specs.inside.Reading.{lines_of_controls, control_on, control_of, controls_from, target_of}
use Rattle.real_format.specs.inside.Reading.{alone, op_of}
use Rattle.real_format.proofs.InversionLemmas.{else_ok, then_ok, and_ok, or_ok, same_ok, else_limit, limit_else, then_limit, and_limit, or_limit, ok_no_limit}
use Rattle.real_format.proofs.HeaderLemmas.{same_word, word_same, nil_is, begins_so, neither, long, not_false, not_long, so_begins, so_long}
use Rattle.real_format.proofs.StampLemmas.{has_line-more, lines_of_controls-more}

-- ---- a name's line

prefix_is : (names : List (List ℕ)) (word : List ℕ) (line : ℕ) → AreApart (λ one other. one ≡ other) names → slice_get names line ≡ Some word
    → (prefix_len (λ name. not (bytes_eq word name)) names ≡ line) × (line < length names)
prefix_is [] word line apart at = absurd (cc)
prefix_is (n ∷ ns) word zero apart at =
    let same : n ≡ word = cc in
    (rw (word_same word n (sym same)) refl, omega arith)
prefix_is (n ∷ ns) word (suc line) apart at =
    let rest = prefix_is ns word line apart.1 at in
    let other : bytes_eq word n ≡ false = elim (cases_Bool (bytes_eq word n)) [
      | inl same ↦
          let there : get_or ns line [] ≡ word = get_or_from_slice_get ns line word [] at in
          absurd (AllByRecursion-at (λ y. ¬ (n ≡ y)) ns line [] apart.0 rest.1 (sym (same_word word n same) ∙ sym there))
      | inr differs ↦ differs
    ] in
    (rw (other, rest.0) (omega arith), omega (arith, rest.1))

pub line_inside : (names : List (List ℕ)) (word : List ℕ) (line : ℕ) → AreApart (λ one other. one ≡ other) names → NamesLine names word line
    → line < length names
line_inside names word line apart at = (prefix_is names word line apart at).1

place_of : (names : List (List ℕ)) (word : List ℕ) (line : ℕ) → AreApart (λ one other. one ≡ other) names → slice_get names line ≡ Some word
    → position (bytes_eq word) names ≡ Some line
place_of names word line apart at =
    let is = prefix_is names word line apart at in
    let inside : nat_lt line (length names) ≡ true = (let h = is.1 in grind (arith, nat_tests)) in
    rw (is.0, inside) refl

record IsLine (names : List (List ℕ)) (has : ℕ → Bool) (word : List ℕ) (line : ℕ) : Type 0 where
  named : NamesLine names word line
  free : has line ≡ false
  inside : line < length names

line_is : (names : List (List ℕ)) (has : ℕ → Bool) (word : List ℕ) (line : ℕ) → line_of names has word ≡ Ok line → IsLine names has word line
line_is names has word line e =
    let p = else_ok (not (begins_name word)) Form _ line e in
    let q = else_ok (is_long word) Limit _ line p.1 in
    let r = or_ok (position (bytes_eq word) names) (λ l. if has l then Err Form else Ok l) line q.1 in
    let s = else_ok (has r.0) Form (Ok r.0) line r.2 in
    let same = same_ok r.0 line s.1 in
    let at = position-Some (bytes_eq word) names r.0 [] r.1 in
    let here : slice_get names r.0 ≡ Some word = slice_get-get_or names r.0 [] at.0 ∙ ap Some (sym (same_word word (get_or names r.0 []) at.1)) in
    record {
      named = subst (λ l. slice_get names l ≡ Some word) same here;
      free = subst (λ l. has l ≡ false) same s.0;
      inside = subst (λ l. l < length names) same at.0;
    }

no_sign : (word : List ℕ) → ¬ (get_or word 0 0 ≡ 45) → has_sign word ≡ false
no_sign [] h = refl
no_sign (b ∷ bs) h = ne_eqb b 45 h

sign : (word : List ℕ) → has_sign word ≡ true → word ≡ 45 ∷ drop 1 word
sign [] e = absurd (cc)
sign (b ∷ bs) e = ap (λ x. x ∷ bs) (eqb-true b 45 e)

is_name : (names : List (List ℕ)) (word : List ℕ) (line : ℕ) → AreNames names → NamesLine names word line → IsName word
is_name names word line are at =
    let inside = (prefix_is names word line are.different at).1 in
    subst IsName (get_or_from_slice_get names line word [] at) (AllByRecursion-at IsName names line [] are.named inside)

is_line : (names : List (List ℕ)) (has : ℕ → Bool) (word : List ℕ) (line : ℕ) → AreNames names → NamesLine names word line → has line ≡ false
    → line_of names has word ≡ Ok line
is_line names has word line are at free =
    let name = is_name names word line are at in
    rw (so_begins word name.some name.begins, not_long word name.few, place_of names word line are.different at, free) refl

line_long : (names : List (List ℕ)) (has : ℕ → Bool) (word : List ℕ) → line_of names has word ≡ Err Limit → IsLong word
line_long names has word e =
    let p = else_limit (not (begins_name word)) _ e in
    elim (limit_else (is_long word) _ p.1) [
      | inl l ↦ record { long = long word l; begins = (begins_so word (not_false (begins_name word) p.0)).1 }
      | inr q ↦
          let r = or_limit (position (bytes_eq word) names) (λ l. if has l then Err Form else Ok l) q.1 in
          let s = else_limit (has r.0) (Ok r.0) r.2 in
          ok_no_limit r.0 s.1
    ]

long_line : (names : List (List ℕ)) (has : ℕ → Bool) (word : List ℕ) → IsLong word → line_of names has word ≡ Err Limit
long_line names has word is = rw (so_begins word (omega (arith, is.long)) is.begins, so_long word is.long) refl

-- ---- a control

pub pick_then : {A : Type 0} (t : Bool) (x y : A) → t ≡ true → (if t then x else y) ≡ x
pick_then t x y e = rw e refl

pub pick_else : {A : Type 0} (t : Bool) (x y : A) → t ≡ false → (if t then x else y) ≡ y
pick_else t x y e = rw e refl

record IsControl (names : List (List ℕ)) (has : ℕ → Bool) (word : List ℕ) (control : Control) : Type 0 where
  named : NamesControl names word control
  free : has control.line ≡ false
  inside : control.line < length names

control_is : (names : List (List ℕ)) (has : ℕ → Bool) (word : List ℕ) (control : Control) → control_of names has word ≡ Ok control
    → IsControl names has word control
control_is names has word control e = by (has_sign word) refl e
  where
    by : (t : Bool) → has_sign word ≡ t
        → (if t then and_then (line_of names has (drop 1 word)) (λ line. Ok (control_on false line))
        else and_then (line_of names has word) (λ line. Ok (control_on true line))) ≡ Ok control → IsControl names has word control
    by true signed f =
        let p = and_ok (line_of names has (drop 1 word)) (λ line. Ok (control_on false line)) control f in
        let l = line_is names has (drop 1 word) p.0 p.1 in
        subst (IsControl names has word) (same_ok (control_on false p.0) control p.2)
        (record { named = record { name = drop 1 word; signed = sign word signed; named = l.named }; free = l.free; inside = l.inside })
    by false plain f =
        let p = and_ok (line_of names has word) (λ line. Ok (control_on true line)) control f in
        let l = line_is names has word p.0 p.1 in
        subst (IsControl names has word) (same_ok (control_on true p.0) control p.2)
        (record { named = record { name = word; signed = refl; named = l.named }; free = l.free; inside = l.inside })

is_control : (names : List (List ℕ)) (has : ℕ → Bool) (word : List ℕ) (control : Control) → AreNames names → NamesControl names word control
    → has control.line ≡ false → control_of names has word ≡ Ok control
is_control names has word control are n free = by control.positive refl n.signed
  where
    control_same : (c : Control) (t : Bool) → c.positive ≡ t → control_on t c.line ≡ c
    control_same c t e = ap (λ p. let k : Control = record { line = c.line; positive = p } in k) (sym e)

    by : (t : Bool) → control.positive ≡ t → word ≡ (if t then n.name else 45 ∷ n.name) → control_of names has word ≡ Ok control
    by true positive spelled =
        let name = is_name names n.name control.line are n.named in
        let plain : has_sign word ≡ false = ap has_sign spelled ∙ no_sign n.name (λ minus. name.begins (inl minus)) in
        let line : line_of names has word ≡ Ok control.line = ap (line_of names has) spelled ∙ is_line names has n.name control.line are n.named free in
        pick_else (has_sign word) (and_then (line_of names has (drop 1 word)) (λ l. Ok (control_on false l))) (and_then (line_of names has word) (λ l. Ok
        (control_on true l))) plain
        ∙ ap (λ r. and_then r (λ l. Ok (control_on true l))) line ∙ ap Ok (control_same control true positive)
    by false negative spelled =
        let signed : has_sign word ≡ true = ap has_sign spelled in
        let line : line_of names has (drop 1 word) ≡ Ok control.line = ap (λ w. line_of names has (drop 1 w)) spelled
        ∙ is_line names has n.name control.line are n.named free in
        pick_then (has_sign word) (and_then (line_of names has (drop 1 word)) (λ l. Ok (control_on false l))) (and_then (line_of names has word) (λ l. Ok
        (control_on true l))) signed
        ∙ ap (λ r. and_then r (λ l. Ok (control_on false l))) line ∙ ap Ok (control_same control false negative)

control_long : (names : List (List ℕ)) (has : ℕ → Bool) (word : List ℕ) → control_of names has word ≡ Err Limit
    → IsLong word ⊎ ((name : List ℕ) × (word ≡ 45 ∷ name) × IsLong name)
control_long names has word e = by (has_sign word) refl e
  where
    by : (t : Bool) → has_sign word ≡ t
        → (if t then and_then (line_of names has (drop 1 word)) (λ line. Ok (control_on false line))
        else and_then (line_of names has word) (λ line. Ok (control_on true line))) ≡ Err Limit
        → IsLong word ⊎ ((name : List ℕ) × (word ≡ 45 ∷ name) × IsLong name)
    by true signed f = elim (and_limit (line_of names has (drop 1 word)) (λ line. Ok (control_on false line)) f) [
      | inl here ↦ inr (drop 1 word, sign word signed, line_long names has (drop 1 word) here)
      | inr later ↦ ok_no_limit (control_on false later.0) later.2
    ]
    by false plain f = elim (and_limit (line_of names has word) (λ line. Ok (control_on true line)) f) [
      | inl here ↦ inl (line_long names has word here)
      | inr later ↦ ok_no_limit (control_on true later.0) later.2
    ]

long_control : (names : List (List ℕ)) (has : ℕ → Bool) (word : List ℕ) → IsLong word ⊎ ((name : List ℕ) × (word ≡ 45 ∷ name) × IsLong name)
    → control_of names has word ≡ Err Limit
long_control names has word (inl is) =
    pick_else (has_sign word) (and_then (line_of names has (drop 1 word)) (λ l. Ok (control_on false l))) (and_then (line_of names has word) (λ l. Ok
    (control_on true l)))
    (no_sign word (λ minus. is.begins (inl minus))) ∙ ap (λ r. and_then r (λ l. Ok (control_on true l))) (long_line names has word is)
long_control names has word (inr is) = ap (control_of names has) is.1 ∙ ap (λ r. and_then r (λ l. Ok (control_on false l))) (long_line names has is.0 is.2)

-- ---- lines of a gate

abbrev pub taken : List ℕ → ℕ → Bool
taken used line = has_line line used

different_more : (used : List ℕ) (line : ℕ) → AreDifferent used → has_line line used ≡ false → AreDifferent (used ++ line ∷ [])
different_more used line different free = AreDifferent-push used line different (apart used free)
  where
    apart : (xs : List ℕ) → has_line line xs ≡ false → AllByRecursion (λ y. y ≢ line) xs
    apart [] e = tt
    apart (x ∷ xs) e =
        let parts = neither (eqb line x) (has_line line xs) e in
        ((λ same. eqb-false line x parts.0 (sym same)), apart xs parts.1)

free_line : (used : List ℕ) (line : ℕ) (rest : List ℕ) → AreDifferent (used ++ line ∷ rest) → has_line line used ≡ false
free_line [] line rest different = refl
free_line (x ∷ xs) line rest different =
    let other = (AllByRecursion-right (λ y. x ≢ y) xs (line ∷ rest) different.0).0 in
    rw (ne_eqb line x (λ same. other (sym same)), free_line xs line rest different.1) refl

-- ---- all controls

pub record AreControls (names : List (List ℕ)) (wanted : ℕ) (done : List Control) (words : List (List ℕ))
    (controls : List Control) (rest : List (List ℕ)) : Type 0 where
  pub more : List Control
  pub more_words : List (List ℕ)
  pub is : controls ≡ done ++ more
  pub parts : words ≡ more_words ++ rest
  pub named : AllZip (NamesControl names) more_words more
  pub count : length controls ≡ wanted
  pub different : AreDifferent (lines_of_controls done) → AreDifferent (lines_of_controls controls)
  pub inside : AllByRecursion (λ line. line < length names) (lines_of_controls done)
      → AllByRecursion (λ line. line < length names) (lines_of_controls controls)

controls_none : (names : List (List ℕ)) (wanted : ℕ) (done : List Control) (words : List (List ℕ)) (controls : List Control) (rest : List (List ℕ))
    → eqb (length done) wanted ≡ true → ◌≡◌ {A = Result (List Control × List (List ℕ)) LineRefusal} (Ok (done, words)) (Ok (controls, rest))
    → AreControls names wanted done words controls rest
controls_none names wanted done words controls rest all e =
    let same = same_ok (done, words) (controls, rest) e in
    let front : done ≡ controls = ap (λ p. p.0) same in
    let back : words ≡ rest = ap (λ p. p.1) same in
    record {
      more = [];
      more_words = [];
      is = sym front ∙ sym (append-nil done);
      parts = back;
      named = tt;
      count = ap length (sym front) ∙ eqb-true (length done) wanted all;
      different = λ d. subst (λ cs. AreDifferent (lines_of_controls cs)) front d;
      inside = λ d. subst (λ cs. AllByRecursion (λ line. line < length names) (lines_of_controls cs)) front d;
    }

pub controls_are : (names : List (List ℕ)) (wanted : ℕ) (done : List Control) (words : List (List ℕ)) (controls : List Control) (rest : List (List ℕ))
    → controls_from names wanted done words ≡ Ok (controls, rest) → AreControls names wanted done words controls rest
controls_are names wanted done [] controls rest e =
    let p = then_ok (eqb (length done) wanted) Form (Ok (done, [])) (controls, rest) e in
    controls_none names wanted done [] controls rest p.0 p.1
controls_are names wanted done (w ∷ ws) controls rest e =
    by (λ control. controls_are names wanted (done ++ control ∷ []) ws controls rest) (eqb (length done) wanted) refl e
  where
    by : ((control : Control) → controls_from names wanted (done ++ control ∷ []) ws ≡ Ok (controls, rest)
        → AreControls names wanted (done ++ control ∷ []) ws controls rest) → (t : Bool) → eqb (length done) wanted ≡ t
        → (if t then Ok (done, w ∷ ws) else and_then (control_of names (λ line. has_line line (lines_of_controls done)) w)
        (λ control. controls_from names wanted (done ++ control ∷ []) ws)) ≡ Ok (controls, rest) → AreControls names wanted done (w ∷ ws) controls rest
    by again true all f = controls_none names wanted done (w ∷ ws) controls rest all f
    by again false some f =
        let p = and_ok (control_of names (λ line. has_line line (lines_of_controls done)) w) (λ control. controls_from names wanted (done ++ control ∷ []) ws)
        (controls, rest) f in
        let c = control_is names (λ line. has_line line (lines_of_controls done)) w p.0 p.1 in
        let r = again p.0 p.2 in
        let grown = lines_of_controls-more done p.0 in
        record {
          more = p.0 ∷ r.more;
          more_words = w ∷ r.more_words;
          is = r.is ∙ append_assoc done (p.0 ∷ []) r.more;
          parts = ap (λ xs. w ∷ xs) r.parts;
          named = (c.named, r.named);
          count = r.count;
          different = λ d. r.different (subst AreDifferent (sym grown) (different_more (lines_of_controls done) p.0.line d c.free));
          inside = λ d. r.inside (subst (AllByRecursion (λ line. line < length names)) (sym grown)
              (AllByRecursion-append (λ line. line < length names) (lines_of_controls done) (p.0.line ∷ []) d (c.inside, tt)));
        }

lines_of_controls-append : (controls more : List Control) → lines_of_controls (controls ++ more) ≡ lines_of_controls controls ++ lines_of_controls more
lines_of_controls-append controls more = map-append (λ (c : Control). c.line) controls more

-- a control in front, and those behind it
control_first : (names : List (List ℕ)) (wanted : ℕ) (done cs : List Control) (c : Control) (w : List ℕ) (words : List (List ℕ)) → AreNames names
    → NamesControl names w c → AreDifferent (lines_of_controls (done ++ (c ∷ cs))) → length done < wanted
    → controls_from names wanted done (w ∷ words) ≡ controls_from names wanted (done ++ c ∷ []) words
control_first names wanted done cs c w words are named different more =
    let split : AreDifferent (lines_of_controls done ++ (c.line ∷ lines_of_controls cs)) = subst AreDifferent (lines_of_controls-append done
    (c ∷ cs)) different in
    let free = free_line (lines_of_controls done) c.line (lines_of_controls cs) split in
    pick_else (eqb (length done) wanted) (Ok (done, w ∷ words)) (and_then (control_of names (λ line. has_line line (lines_of_controls done)) w)
    (λ control. controls_from names wanted (done ++ control ∷ []) words)) (ne_eqb (length done) wanted (λ e. omega arith))
    ∙ ap (λ r. and_then r (λ control. controls_from names wanted (done ++ control ∷ []) words))
    (is_control names (λ line. has_line line (lines_of_controls done)) w c are named free)

pub are_controls : (names : List (List ℕ)) (wanted : ℕ) (done more : List Control) (words rest : List (List ℕ)) → AreNames names
    → AllZip (NamesControl names) words more → AreDifferent (lines_of_controls (done ++ more)) → length (done ++ more) ≡ wanted
    → controls_from names wanted done (words ++ rest) ≡ Ok (done ++ more, rest)
are_controls names wanted done [] [] [] are named different count =
    let whole : done ++ [] ≡ done = append-nil done in
    rw (eq-eqb (length done) wanted (ap length (sym whole) ∙ count)) (ap (λ cs. Ok (cs, [])) (sym whole))
are_controls names wanted done [] [] (r ∷ rs) are named different count =
    let whole : done ++ [] ≡ done = append-nil done in
    rw (eq-eqb (length done) wanted (ap length (sym whole) ∙ count)) (ap (λ cs. Ok (cs, r ∷ rs)) (sym whole))
are_controls names wanted done [] (w ∷ ws) rest are named different count = absurd named
are_controls names wanted done (c ∷ cs) [] rest are named different count = absurd named
are_controls names wanted done (c ∷ cs) (w ∷ ws) rest are named different count =
    let whole : (done ++ c ∷ []) ++ cs ≡ done ++ (c ∷ cs) = append_assoc done (c ∷ []) cs in
    control_first names wanted done cs c w (ws ++ rest) are named.0 different (omega (arith, length-append done (c ∷ cs)))
    ∙ are_controls names wanted (done ++ c ∷ []) cs ws rest are named.1 (subst (λ xs. AreDifferent (lines_of_controls xs)) (sym whole) different)
    (ap length whole ∙ count)
    ∙ ap (λ xs. Ok (xs, rest)) whole

-- a name among words, behind those that name these
pub record StandsBehind {A : Type 0} (Names : List ℕ → A → Type 0) (words : List (List ℕ)) : Type 0 where
  pub good : List (List ℕ)
  pub named : List A
  pub name : List ℕ
  pub rest : List (List ℕ)
  pub parts : words ≡ good ++ name ∷ rest
  pub are_named : AllZip Names good named

-- a long name among the controls
pub record HasLongControl (names : List (List ℕ)) (wanted : ℕ) (done : List Control) (words : List (List ℕ)) : Type 0 where
  pub at : StandsBehind (NamesControl names) words
  pub few : length (done ++ at.named) < wanted
  pub different : AreDifferent (lines_of_controls done) → AreDifferent (lines_of_controls (done ++ at.named))
  pub long_name : IsLong at.name ⊎ ((unsigned_name : List ℕ) × (at.name ≡ 45 ∷ unsigned_name) × IsLong unsigned_name)

pub controls_long : (names : List (List ℕ)) (wanted : ℕ) (done : List Control) (words : List (List ℕ)) → length done ≤ wanted
    → controls_from names wanted done words ≡ Err Limit → HasLongControl names wanted done words
controls_long names wanted done [] few e =
    let p = then_limit (eqb (length done) wanted) (Ok (done, [])) e in
    ok_no_limit (done, []) p.1
controls_long names wanted done (w ∷ ws) few e = by (λ control. controls_long names wanted (done ++ control ∷ []) ws) (eqb (length done) wanted) refl e
  where
    by : ((control : Control) → length (done ++ control ∷ []) ≤ wanted → controls_from names wanted (done ++ control ∷ []) ws ≡ Err Limit
        → HasLongControl names wanted (done ++ control ∷ []) ws) → (t : Bool) → eqb (length done) wanted ≡ t
        → (if t then Ok (done, w ∷ ws) else and_then (control_of names (λ line. has_line line (lines_of_controls done)) w)
        (λ control. controls_from names wanted (done ++ control ∷ []) ws)) ≡ Err Limit → HasLongControl names wanted done (w ∷ ws)
    by again true all f = ok_no_limit (done, w ∷ ws) f
    by again false some f =
        let other = eqb-false (length done) wanted some in
        let room : length done < wanted = grind (arith, other) in
        elim (and_limit (control_of names (λ line. has_line line (lines_of_controls done)) w) (λ control. controls_from names wanted
        (done ++ control ∷ []) ws) f) [
          | inl here ↦ record {
            at = record { good = []; named = []; name = w; rest = ws; parts = refl; are_named = tt };
            few = subst (λ cs. length cs < wanted) (sym (append-nil done)) room;
            different = λ d. subst (λ cs. AreDifferent (lines_of_controls cs)) (sym (append-nil done)) d;
            long_name = control_long names (λ line. has_line line (lines_of_controls done)) w here;
          }
          | inr later ↦
              let c = control_is names (λ line. has_line line (lines_of_controls done)) w later.0 later.1 in
              let r = again later.0 (omega (arith, length-append done (later.0 ∷ []))) later.2 in
              let whole : (done ++ later.0 ∷ []) ++ r.at.named ≡ done ++ (later.0 ∷ r.at.named) = append_assoc done (later.0 ∷ []) r.at.named in
              record {
                at = record {
                  good = w ∷ r.at.good;
                  named = later.0 ∷ r.at.named;
                  name = r.at.name;
                  rest = r.at.rest;
                  parts = ap (λ xs. w ∷ xs) r.at.parts;
                  are_named = (c.named, r.at.are_named);
                };
                few = subst (λ cs. length cs < wanted) whole r.few;
                different = λ d. subst (λ cs. AreDifferent (lines_of_controls cs)) whole
                    (r.different (subst AreDifferent (sym (lines_of_controls-more done later.0)) (different_more
                    (lines_of_controls done) later.0.line d c.free)));
                long_name = r.long_name;
              }
        ]

pub long_controls : (names : List (List ℕ)) (wanted : ℕ) (done more : List Control) (words : List (List ℕ)) (name : List ℕ) (rest : List (List ℕ))
    → AreNames names
    → AllZip (NamesControl names) words more → AreDifferent (lines_of_controls (done ++ more)) → length (done ++ more) < wanted
    → IsLong name ⊎ ((plain : List ℕ) × (name ≡ 45 ∷ plain) × IsLong plain) → controls_from names wanted done (words ++ name ∷ rest) ≡ Err Limit
long_controls names wanted done [] [] name rest are named different few is =
    let room : length done < wanted = subst (λ cs. length cs < wanted) (append-nil done) few in
    pick_else (eqb (length done) wanted) (Ok (done, name ∷ rest)) (and_then (control_of names (λ line. has_line line (lines_of_controls done)) name)
    (λ control. controls_from names wanted (done ++ control ∷ []) rest)) (ne_eqb (length done) wanted (λ e. omega arith))
    ∙ ap (λ r. and_then r (λ control. controls_from names wanted (done ++ control ∷ []) rest))
    (long_control names (λ line. has_line line (lines_of_controls done)) name is)
long_controls names wanted done [] (w ∷ ws) name rest are named different few is = absurd named
long_controls names wanted done (c ∷ cs) [] name rest are named different few is = absurd named
long_controls names wanted done (c ∷ cs) (w ∷ ws) name rest are named different few is =
    let whole : (done ++ c ∷ []) ++ cs ≡ done ++ (c ∷ cs) = append_assoc done (c ∷ []) cs in
    control_first names wanted done cs c w (ws ++ name ∷ rest) are named.0 different (omega (arith, length-append done (c ∷ cs)))
    ∙ long_controls names wanted (done ++ c ∷ []) cs ws name rest are named.1 (subst (λ xs. AreDifferent (lines_of_controls xs)) (sym whole) different)
    (subst (λ xs. length xs < wanted) (sym whole) few) is

-- ---- the lines that a gate changes

abbrev pub IsTargets : ℕ → Type 0
IsTargets targets = (targets ≡ 1) ⊎ (targets ≡ 2)

pub record IsOp (names : List (List ℕ)) (targets : ℕ) (used : List ℕ) (words : List (List ℕ)) (op : Op) : Type 0 where
  pub count : IsTargets targets → length words ≡ targets
  pub named : AllZip (NamesLine names) words (targets_of op)
  pub different : AreDifferent used → AreDifferent (used ++ targets_of op)
  pub inside : AllByRecursion (λ line. line < length names) used → AllByRecursion (λ line. line < length names) (used ++ targets_of op)

record IsTarget (names : List (List ℕ)) (has : ℕ → Bool) (words : List (List ℕ)) (line : ℕ) (rest : List (List ℕ)) : Type 0 where
  word : List ℕ
  parts : words ≡ word ∷ rest
  line_of_it : IsLine names has word line

target_is : (names : List (List ℕ)) (has : ℕ → Bool) (words : List (List ℕ)) (line : ℕ) (rest : List (List ℕ))
    → target_of names has words ≡ Ok (line, rest) → IsTarget names has words line rest
target_is names has [] line rest e = absurd (cc)
target_is names has (w ∷ ws) line rest e =
    let p = and_ok (line_of names has w) (λ l. Ok (l, ws)) (line, rest) e in
    let same = same_ok (p.0, ws) (line, rest) p.2 in
    record {
      word = w;
      parts = ap (λ xs. w ∷ xs) (ap (λ q. q.1) same);
      line_of_it = subst (IsLine names has w) (ap (λ q. q.0) same) (line_is names has w p.0 p.1);
    }

alone_is : (op : Op) (words : List (List ℕ)) (r : Op) → alone op words ≡ Ok r → (words ≡ []) × (op ≡ r)
alone_is op words r e = let p = then_ok (is_nil words) Form (Ok op) r e in (nil_is words p.0, same_ok op r p.1)

free_of : (used : List ℕ) (first second : ℕ) → (has_line second used || eqb second first) ≡ false → has_line second (used ++ first ∷ []) ≡ false
free_of used first second e = has_line-more used first second ∙ e

op_at : (names : List (List ℕ)) (targets : ℕ) (used : List ℕ) (words : List (List ℕ)) (op : Op) → (first : ℕ) (rest : List (List ℕ))
    → IsTarget names (λ line. has_line line used) words first rest → (t : Bool) → eqb targets 1 ≡ t
    → (if t then alone (Flip first) rest else and_then (target_of names (λ line. has_line line used || eqb line first) rest) (λ second. alone
    (Swap first second.0) second.1))
    ≡ Ok op → IsOp names targets used words op
op_at names targets used words op first rest at true one e =
    let a = alone_is (Flip first) rest op e in
    let cut : words ≡ at.word ∷ [] = at.parts ∙ ap (λ xs. at.word ∷ xs) a.0 in
    let l = at.line_of_it in
    subst (IsOp names targets used words) a.1 (record {
      count = λ two. ap length cut ∙ sym (eqb-true targets 1 one);
      named = subst (λ ws. AllZip (NamesLine names) ws (first ∷ [])) (sym cut) (l.named, tt);
      different = λ d. different_more used first d l.free;
      inside = λ d. AllByRecursion-append (λ line. line < length names) used (first ∷ []) d (l.inside, tt);
    })
op_at names targets used words op first rest at false more e =
    let p = and_ok (target_of names (λ line. has_line line used || eqb line first) rest) (λ second. alone (Swap first second.0) second.1) op e in
    let second = target_is names (λ line. has_line line used || eqb line first) rest p.0.0 p.0.1 p.1 in
    let a = alone_is (Swap first p.0.0) p.0.1 op p.2 in
    let cut : words ≡ at.word ∷ second.word ∷ [] = at.parts ∙ ap (λ xs. at.word ∷ xs) (second.parts ∙ ap (λ xs. second.word ∷ xs) a.0) in
    let l = at.line_of_it in
    let k = second.line_of_it in
    let whole : (used ++ first ∷ []) ++ p.0.0 ∷ [] ≡ used ++ (first ∷ p.0.0 ∷ []) = append_assoc used (first ∷ []) (p.0.0 ∷ []) in
    subst (IsOp names targets used words) a.1 (record {
      count = λ two. ap length cut ∙ sym (elim two as (λ _. targets ≡ 2) [ inl o ↦ absurd (eqb-false targets 1 more o) | inr t ↦ t ]);
      named = subst (λ ws. AllZip (NamesLine names) ws (first ∷ p.0.0 ∷ [])) (sym cut) (l.named, (k.named, tt));
      different = λ d. subst AreDifferent whole (different_more (used ++ first ∷ []) p.0.0 (different_more used first d l.free)
          (free_of used first p.0.0 k.free));
      inside = λ d. AllByRecursion-append (λ line. line < length names) used (first ∷ p.0.0 ∷ []) d (l.inside, (k.inside, tt));
    })

pub op_is : (names : List (List ℕ)) (targets : ℕ) (used : List ℕ) (words : List (List ℕ)) (op : Op)
    → op_of names targets (λ line. has_line line used) words ≡ Ok op → IsOp names targets used words op
op_is names targets used words op e =
    let p = and_ok (target_of names (λ line. has_line line used) words) (λ first.
    if eqb targets 1 then alone (Flip first.0) first.1
    else and_then (target_of names (λ line. has_line line used || eqb line first.0) first.1) (λ second. alone (Swap first.0 second.0) second.1)) op e in
    op_at names targets used words op p.0.0 p.0.1 (target_is names (λ line. has_line line used) words p.0.0 p.0.1 p.1) (eqb targets 1) refl p.2

pub is_op : (names : List (List ℕ)) (targets : ℕ) (used : List ℕ) (words : List (List ℕ)) (op : Op) → AreNames names → length words ≡ targets
    → AllZip (NamesLine names) words (targets_of op) → AreDifferent (used ++ targets_of op) → op_of names targets (λ line. has_line line used) words ≡ Ok op
is_op names targets used [] (Flip t) are count named different = absurd named
is_op names targets used (w ∷ []) (Flip t) are count named different =
    let here = is_line names (λ line. has_line line used) w t are named.0 (free_line used t [] different) in
    ap (λ r. and_then {A = ℕ × List (List ℕ)} (and_then r (λ l. Ok (l, []))) (λ first. if eqb targets 1 then alone (Flip first.0) first.1
    else and_then (target_of names (λ line. has_line line used || eqb line first.0) first.1) (λ second. alone (Swap first.0 second.0) second.1))) here
    ∙ pick_then (eqb targets 1) (Ok (Flip t)) (Err Form) (eq-eqb targets 1 (sym count))
is_op names targets used (w ∷ v ∷ ws) (Flip t) are count named different = absurd named.1
is_op names targets used [] (Swap a b) are count named different = absurd named
is_op names targets used (w ∷ []) (Swap a b) are count named different = absurd named.1
is_op names targets used (w ∷ v ∷ u ∷ ws) (Swap a b) are count named different = absurd named.1.1
is_op names targets used (w ∷ v ∷ []) (Swap a b) are count named different =
    let whole : (used ++ a ∷ []) ++ b ∷ [] ≡ used ++ (a ∷ b ∷ []) = append_assoc used (a ∷ []) (b ∷ []) in
    let first = is_line names (λ line. has_line line used) w a are named.0 (free_line used a (b ∷ []) different) in
    let free : (has_line b used || eqb b a) ≡ false = sym (has_line-more used a b)
    ∙ free_line (used ++ a ∷ []) b [] (subst AreDifferent (sym whole) different) in
    let second = is_line names (λ line. has_line line used || eqb line a) v b are named.1.0 free in
    ap (λ r. and_then {A = ℕ × List (List ℕ)} (and_then r (λ l. Ok (l, v ∷ []))) (λ first. if eqb targets 1 then alone (Flip first.0) first.1
    else and_then (target_of names (λ line. has_line line used || eqb line first.0) first.1) (λ second. alone (Swap first.0 second.0) second.1))) first
    ∙ pick_else (eqb targets 1) (Err Form) (and_then (target_of names (λ line. has_line line used || eqb line a) (v ∷ []))
    (λ second. alone (Swap a second.0) second.1)) (ne_eqb targets 1 (λ e. omega arith))
    ∙ ap (λ r. and_then {A = ℕ × List (List ℕ)} (and_then r (λ l. Ok (l, []))) (λ second. alone (Swap a second.0) second.1)) second

-- a long name among the lines that a gate changes
pub record HasLongTarget (names : List (List ℕ)) (targets : ℕ) (used : List ℕ) (words : List (List ℕ)) : Type 0 where
  pub at : StandsBehind (NamesLine names) words
  pub few : length at.good < targets
  pub different : AreDifferent used → AreDifferent (used ++ at.named)
  pub long_name : IsLong at.name

alone_no_limit : {B : Type 0} (op : Op) (words : List (List ℕ)) → alone op words ≡ Err Limit → B
alone_no_limit op words e = let p = then_limit (is_nil words) (Ok op) e in ok_no_limit op p.1

op_long_at : (names : List (List ℕ)) (targets : ℕ) (used : List ℕ) (words : List (List ℕ)) → IsTargets targets → (first : ℕ) (rest : List (List ℕ))
    → IsTarget names (λ line. has_line line used) words first rest → (t : Bool) → eqb targets 1 ≡ t
    → (if t then alone (Flip first) rest else and_then (target_of names (λ line. has_line line used || eqb line first) rest) (λ second. alone
    (Swap first second.0) second.1))
    ≡ Err Limit → HasLongTarget names targets used words
op_long_at names targets used words two first rest at true one e = alone_no_limit (Flip first) rest e
op_long_at names targets used words two first [] at false more e = absurd (cc)
op_long_at names targets used words two first (v ∷ vs) at false more e =
    elim (and_limit (target_of names (λ line. has_line line used || eqb line first) (v ∷ vs)) (λ second. alone (Swap first second.0) second.1) e) [
      | inr later ↦ alone_no_limit (Swap first later.0.0) later.0.1 later.2
      | inl here ↦ elim (and_limit (line_of names (λ line. has_line line used || eqb line first) v) (λ l. Ok (l, vs)) here) [
        | inr later ↦ ok_no_limit (later.0, vs) later.2
        | inl long_here ↦
            let l = at.line_of_it in
            let is_two : targets ≡ 2 = elim two [ inl o ↦ absurd (eqb-false targets 1 more o) | inr t ↦ t ] in
            record {
              at = record { good = at.word ∷ []; named = first ∷ []; name = v; rest = vs; parts = at.parts; are_named = (l.named, tt) };
              few = omega arith;
              different = λ d. different_more used first d l.free;
              long_name = line_long names (λ line. has_line line used || eqb line first) v long_here;
            }
      ]
    ]

pub op_long : (names : List (List ℕ)) (targets : ℕ) (used : List ℕ) (words : List (List ℕ)) → IsTargets targets
    → op_of names targets (λ line. has_line line used) words ≡ Err Limit → HasLongTarget names targets used words
op_long names targets used [] two e = absurd (cc)
op_long names targets used (w ∷ ws) two e =
    elim (and_limit (target_of names (λ line. has_line line used) (w ∷ ws)) (λ first.
    if eqb targets 1 then alone (Flip first.0) first.1
    else and_then (target_of names (λ line. has_line line used || eqb line first.0) first.1) (λ second. alone (Swap first.0 second.0) second.1)) e) [
      | inr later ↦ op_long_at names targets used (w ∷ ws) two later.0.0 later.0.1
          (target_is names (λ line. has_line line used) (w ∷ ws) later.0.0 later.0.1 later.1) (eqb targets 1) refl later.2
      | inl here ↦ elim (and_limit (line_of names (λ line. has_line line used) w) (λ l. Ok (l, ws)) here) [
        | inr later ↦ ok_no_limit (later.0, ws) later.2
        | inl long_here ↦ record {
          at = record { good = []; named = []; name = w; rest = ws; parts = refl; are_named = tt };
          few = elim two [ inl o ↦ omega arith | inr t ↦ omega arith ];
          different = λ d. subst AreDifferent (sym (append-nil used)) d;
          long_name = line_long names (λ line. has_line line used) w long_here;
        }
      ]
    ]

pub long_op : (names : List (List ℕ)) (targets : ℕ) (used : List ℕ) (good : List (List ℕ)) (lines : List ℕ) (name : List ℕ) (rest : List (List ℕ))
    → AreNames names
    → IsTargets targets → length good < targets → AllZip (NamesLine names) good lines → AreDifferent (used ++ lines) → IsLong name
    → op_of names targets (λ line. has_line line used) (good ++ name ∷ rest) ≡ Err Limit
long_op names targets used [] [] name rest are two few named different is =
    ap (λ r. and_then {A = ℕ × List (List ℕ)} (and_then r (λ l. Ok (l, rest))) (λ first. if eqb targets 1 then alone (Flip first.0) first.1
    else and_then (target_of names (λ line. has_line line used || eqb line first.0) first.1) (λ second. alone (Swap first.0 second.0) second.1)))
    (long_line names (λ line. has_line line used) name is)
long_op names targets used [] (l ∷ ls) name rest are two few named different is = absurd named
long_op names targets used (w ∷ ws) [] name rest are two few named different is = absurd named
long_op names targets used (w ∷ []) (a ∷ []) name rest are two few named different is =
    let first = is_line names (λ line. has_line line used) w a are named.0 (free_line used a [] different) in
    ap (λ r. and_then {A = ℕ × List (List ℕ)} (and_then r (λ l. Ok (l, name ∷ rest))) (λ first. if eqb targets 1 then alone (Flip first.0) first.1
    else and_then (target_of names (λ line. has_line line used || eqb line first.0) first.1) (λ second. alone (Swap first.0 second.0) second.1))) first
    ∙ pick_else (eqb targets 1) (Err Form) (and_then (target_of names (λ line. has_line line used || eqb line a) (name ∷ rest))
    (λ second. alone (Swap a second.0) second.1)) (ne_eqb targets 1 (λ e. omega arith))
    ∙ ap (λ r. and_then {A = ℕ × List (List ℕ)} (and_then r (λ l. Ok (l, rest))) (λ second. alone (Swap a second.0) second.1)) (long_line names
    (λ line. has_line line used || eqb line a) name is)
long_op names targets used (w ∷ []) (a ∷ b ∷ ls) name rest are two few named different is = absurd named.1
long_op names targets used (w ∷ v ∷ ws) lines name rest are two few named different is = absurd (elim two [ inl o ↦ omega arith | inr t ↦ omega arith ])
