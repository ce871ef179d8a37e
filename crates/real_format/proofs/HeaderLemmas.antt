-- A line of the header: what the reader's functions give is what the definitions say.
use Rattle.std.proofs.Common.{◌≡◌, ℕ, zero, suc, ◌<◌, ◌≤◌, Bool, true, false, not, ◌||◌, if◌then◌else◌, eqb, ◌⊎◌, inl, inr, List, [], ◌∷◌, ◌++◌, length, get_or}
use Rattle.std.proofs.Common.{Option, Some, None, Ok, Err, refl, sym, ap, ◌∙◌, subst, arith, append_assoc, append-nil}
use Rattle.std.specs.Prelude.{nat_lt}
use Rattle.std.specs.Option.{is_some}
use Rattle.std.specs.List.{list_all}
use Rattle.std.specs.Char.{is_ascii_digit}
use Rattle.std.specs.Str.{bytes_eq}
use Rattle.std.specs.Str.Parse.{digits_value}
use Rattle.std.proofs.lemmas.Bool.{cases_Bool, ne_eqb, eq-eqb, eqb-true, eqb-false, true≢false}
use Rattle.std.proofs.lemmas.Bool.Decides.{nat_tests}
use Rattle.std.proofs.lemmas.List.{length-append}
use Rattle.std.proofs.lemmas.Slice.Eq.{bytes_eq-Decides}
use Rattle.list_facts.specs.Lists.{AreApart}
use Rattle.list_facts.proofs.AllLemmas.{AllByRecursion-append, AllByRecursion-right}
use Rattle.real_format.specs.declared.refusal.LineRefusal.TheVariants.{Form, Limit}
use Rattle.real_format.specs.Header.{IsNumber, IsName, AreNames, IsBarred}
use Rattle.real_format.specs.Faults.{IsLong}
use Rattle.real_format.specs.inside.Reading.{single, is_nil, number_of, begins_name, is_long, counted, count_of, more_names, names_from}
use Rattle.format_parts.specs.Names.{has_word}
use Rattle.real_format.proofs.InversionLemmas.{else_ok, then_ok, and_ok, or_ok, same_ok, else_limit, limit_else, then_limit, and_limit, ok_no_limit}
use Rattle.real_format.proofs.NumberLemmas.{AllDigits-from_test, test-from_AllDigits}

-- ---- words

pub single_is : (words : List (List ℕ)) (word : List ℕ) → single words ≡ Some word → words ≡ word ∷ []
single_is [] word e = absurd (cc)
single_is (w ∷ []) word e = ap (λ x. x ∷ []) (let same : w ≡ word = cc in same)
single_is (w ∷ v ∷ ws) word e = absurd (cc)

pub is_none : {A : Type 0} (o : Option A) → is_some o ≡ false → o ≡ None
is_none None e = refl
is_none (Some x) e = absurd (cc)

pub nil_is : {A : Type 0} (xs : List A) → is_nil xs ≡ true → xs ≡ []
nil_is [] e = refl
nil_is (x ∷ xs) e = absurd (cc)

some_if : {A : Type 0} (t : Bool) (x y : A) → (if t then Some x else None) ≡ Some y → (t ≡ true) × (x ≡ y)
some_if true x y e = (refl, cc)
some_if false x y e = absurd (cc)

pub number_is : (word : List ℕ) (n : ℕ) → number_of word ≡ Some n → IsNumber word n
number_is [] n e = absurd (cc)
number_is (b ∷ bs) n e =
    let p = some_if (list_all is_ascii_digit (b ∷ bs)) (digits_value 10 (b ∷ bs)) n e in
    record { digits = (omega arith, AllDigits-from_test (b ∷ bs) p.0); value = p.1 }

pub is_number : (word : List ℕ) (n : ℕ) → IsNumber word n → number_of word ≡ Some n
is_number [] n i = absurd (omega (arith, i.digits.0))
is_number (b ∷ bs) n i = rw (test-from_AllDigits (b ∷ bs) i.digits.1, i.value) refl

pub same_word : (one other : List ℕ) → bytes_eq one other ≡ true → one ≡ other
same_word one other e = (bytes_eq-Decides one other).0 e

pub word_same : (one other : List ℕ) → one ≡ other → bytes_eq one other ≡ true
word_same one other e = (bytes_eq-Decides one other).1 e

pub either : (s t : Bool) → (s || t) ≡ true → (s ≡ true) ⊎ (t ≡ true)
either true t e = inl refl
either false t e = inr e

pub or_first : (s t : Bool) → s ≡ true → (s || t) ≡ true
or_first s t e = rw e refl

pub or_second : (s t : Bool) → t ≡ true → (s || t) ≡ true
or_second true t e = refl
or_second false t e = e

-- ---- the number of lines

pub record IsCount (words : List (List ℕ)) (n : ℕ) : Type 0 where
  pub number : List ℕ
  pub alone : words ≡ number ∷ []
  pub counted : IsNumber number n
  pub some : 1 ≤ n
  pub few : n ≤ 16384

pub count_is : (words : List (List ℕ)) (n : ℕ) → count_of words ≡ Ok n → IsCount words n
count_is [] n e = absurd (cc)
count_is (w ∷ ws) n e =
    let p = or_ok (number_of w) (λ k. counted k ws) n e in
    let q = else_ok (eqb p.0 0) Form _ n p.2 in
    let r = else_ok (nat_lt 16384 p.0) Limit _ n q.1 in
    let s = then_ok (is_nil ws) Form (Ok p.0) n r.1 in
    let same : p.0 ≡ n = same_ok p.0 n s.1 in
    let zero_no = eqb-false p.0 0 q.0 in
    let below : p.0 ≤ 16384 = grind (arith, nat_tests, r.0) in
    record {
      number = w;
      alone = ap (λ rest. w ∷ rest) (nil_is ws s.0);
      counted = number_is w n (p.1 ∙ ap Some same);
      some = subst (λ k. 1 ≤ k) same (some_one p.0 zero_no);
      few = subst (λ k. k ≤ 16384) same below;
    }
  where
    some_one : (k : ℕ) → (k ≡ 0 → ⊥) → 1 ≤ k
    some_one zero h = absurd (h refl)
    some_one (suc k) h = omega arith

pub is_count : (words : List (List ℕ)) (n : ℕ) → IsCount words n → count_of words ≡ Ok n
is_count words n i =
    let some = i.some in
    let few = i.few in
    let above : nat_lt 16384 n ≡ false = grind (arith, nat_tests) in
    rw (i.alone, is_number i.number n i.counted, ne_eqb n 0 (λ e. omega arith), above) refl

-- ---- names

pub neither : (s t : Bool) → (s || t) ≡ false → (s ≡ false) × (t ≡ false)
neither true t e = absurd (cc)
neither false t e = (refl, e)

AreApart-more : (names : List (List ℕ)) (word : List ℕ) → AreApart (λ one other. one ≡ other) names → has_word names word ≡ false
    → AreApart (λ one other. one ≡ other) (names ++ word ∷ [])
AreApart-more [] word apart absent = (tt, tt)
AreApart-more (n ∷ ns) word apart absent =
    let parts = neither (bytes_eq word n) (has_word ns word) absent in (
      AllByRecursion-append (λ y. ¬ (n ≡ y)) ns (word ∷ []) apart.0 ((λ same. true≢false (sym (word_same word n (sym same)) ∙ parts.0)), tt),
      AreApart-more ns word apart.1 parts.1,
    )

-- a word behind names to which it is not equal
absent_before : (names : List (List ℕ)) (word : List ℕ) (rest : List (List ℕ)) → AreApart (λ one other. one ≡ other) (names ++ word ∷ rest)
    → has_word names word ≡ false
absent_before [] word rest apart = refl
absent_before (n ∷ ns) word rest apart =
    let differs : bytes_eq word n ≡ false = elim (cases_Bool (bytes_eq word n)) [
      | inl same ↦ absurd ((AllByRecursion-right (λ y. ¬ (n ≡ y)) ns (word ∷ rest) apart.0).0 (sym (same_word word n same)))
      | inr other ↦ other
    ] in
    rw (differs, absent_before ns word rest apart.1) refl

pub begins_so : (word : List ℕ) → begins_name word ≡ true → (1 ≤ length word) × (¬ IsBarred (get_or word 0 0))
begins_so [] e = absurd (cc)
begins_so (b ∷ bs) e = (
  omega arith,
  λ barred. elim barred [
    | inl minus ↦ clash (eqb b 45) (eqb b 35) e (or_first _ _ (eq-eqb b 45 minus))
    | inr hash ↦ clash (eqb b 45)
        (eqb b 35) e (or_second (eqb b 45) _ (eq-eqb b 35 hash))
  ],
)
  where
    clash : (s t : Bool) → not (s || t) ≡ true → (s || t) ≡ true → ⊥
    clash true t e f = cc
    clash false true e f = cc
    clash false false e f = cc

pub so_begins : (word : List ℕ) → 1 ≤ length word → ¬ IsBarred (get_or word 0 0) → begins_name word ≡ true
so_begins [] some free = absurd (omega arith)
so_begins (b ∷ bs) some free = rw (ne_eqb b 45 (λ e. free (inl e)), ne_eqb b 35 (λ e. free (inr e))) refl

pub not_false : (t : Bool) → not t ≡ false → t ≡ true
not_false true e = refl
not_false false e = absurd (cc)

pub short : (word : List ℕ) → is_long word ≡ false → length word ≤ 64
short word e = grind (arith, nat_tests)

pub long : (word : List ℕ) → is_long word ≡ true → 64 < length word
long word e = grind (arith, nat_tests)

pub not_long : (word : List ℕ) → length word ≤ 64 → is_long word ≡ false
not_long word h = grind (arith, nat_tests)

pub so_long : (word : List ℕ) → 64 < length word → is_long word ≡ true
so_long word h = grind (arith, nat_tests)

-- one more name
record IsMore (names : List (List ℕ)) (word : List ℕ) (more : List (List ℕ)) : Type 0 where
  is : more ≡ names ++ word ∷ []
  name : IsName word
  absent : has_word names word ≡ false

more_is : (names more : List (List ℕ)) (word : List ℕ) → more_names names word ≡ Ok more → IsMore names word more
more_is names more word e =
    let p = else_ok (not (begins_name word)) Form _ more e in
    let q = else_ok (is_long word) Limit _ more p.1 in
    let r = else_ok (has_word names word) Form (Ok (names ++ word ∷ [])) more q.1 in
    let begins = begins_so word (not_false (begins_name word) p.0) in
    record {
      is = sym (same_ok (names ++ word ∷ []) more r.1);
      name = record { some = begins.0; few = short word q.0; begins = begins.1 };
      absent = r.0;
    }

is_more : (names : List (List ℕ)) (word : List ℕ) → IsName word → has_word names word ≡ false → more_names names word ≡ Ok (names ++ word ∷ [])
is_more names word name absent = rw (so_begins word name.some name.begins, not_long word name.few, absent) refl

AreNames-more : (names : List (List ℕ)) (word : List ℕ) → AreNames names → IsName word → has_word names word ≡ false → AreNames (names ++ word ∷ [])
AreNames-more names word are name absent = record {
  named = AllByRecursion-append IsName names (word ∷ []) are.named (name, tt);
  different = AreApart-more names word are.different absent;
}

pub record AreAll (n : ℕ) (done words names : List (List ℕ)) : Type 0 where
  pub is : names ≡ done ++ words
  pub count : length names ≡ n
  pub names_are : AreNames done → AreNames names

pub names_are : (n : ℕ) (done words names : List (List ℕ)) → names_from n done words ≡ Ok names → AreAll n done words names
names_are n done [] names e =
    let p = then_ok (eqb (length done) n) Form (Ok done) names e in
    let same : done ≡ names = same_ok done names p.1 in
    record { is = sym same ∙ sym (append-nil done); count = ap length (sym same) ∙ eqb-true (length done) n p.0; names_are = λ are. subst AreNames same are }
names_are n done (w ∷ ws) names e =
    let p = else_ok (eqb (length done) n) Form _ names e in
    let q = and_ok (more_names done w) (λ more. names_from n more ws) names p.1 in
    let m = more_is done q.0 w q.1 in
    let rest = names_are n q.0 ws names q.2 in
    record {
      is = rest.is ∙ ap (λ front. front ++ ws) m.is ∙ append_assoc done (w ∷ []) ws;
      count = rest.count;
      names_are = λ are. rest.names_are (subst AreNames (sym m.is) (AreNames-more done w are m.name m.absent));
    }

pub are_names : (n : ℕ) (done words : List (List ℕ)) → AreNames (done ++ words) → length (done ++ words) ≡ n → names_from n done words ≡ Ok (done ++ words)
are_names n done [] are count =
    let whole : done ++ [] ≡ done = append-nil done in
    rw (eq-eqb (length done) n (ap length (sym whole) ∙ count)) (ap Ok (sym whole))
are_names n done (w ∷ ws) are count =
    let more : length done < n = omega (arith, length-append done (w ∷ ws)) in
    let name = (AllByRecursion-right IsName done (w ∷ ws) are.named).0 in
    let absent = absent_before done w ws are.different in
    let whole : (done ++ w ∷ []) ++ ws ≡ done ++ (w ∷ ws) = append_assoc done (w ∷ []) ws in
    rw (ne_eqb (length done) n (λ e. omega arith), is_more done w name absent)
    (are_names n (done ++ w ∷ []) ws (subst AreNames (sym whole) are) (ap length whole ∙ count) ∙ ap Ok whole)

-- ---- a long name

pub record IsLongAmong (n : ℕ) (done words : List (List ℕ)) : Type 0 where
  pub good : List (List ℕ)
  pub name : List ℕ
  pub rest : List (List ℕ)
  pub parts : words ≡ good ++ name ∷ rest
  pub wanted : length (done ++ good) < n
  pub long_name : IsLong name
  pub names_are : AreNames done → AreNames (done ++ good)

-- a long word that begins as a name
more_long : (names : List (List ℕ)) (word : List ℕ) → more_names names word ≡ Err Limit → IsLong word
more_long names word e =
    let p = else_limit (not (begins_name word)) _ e in
    let begins = begins_so word (not_false (begins_name word) p.0) in
    elim (limit_else (is_long word) _ p.1) [
      | inl l ↦ record { begins = begins.1; long = long word l }
      | inr q ↦ let r = else_limit (has_word names word) (Ok (names ++ word ∷ [])) q.1 in ok_no_limit (names ++ word ∷ []) r.1
    ]

pub names_long : (n : ℕ) (done words : List (List ℕ)) → length done ≤ n → names_from n done words ≡ Err Limit → IsLongAmong n done words
names_long n done [] few e =
    let p = then_limit (eqb (length done) n) (Ok done) e in
    ok_no_limit done p.1
names_long n done (w ∷ ws) few e =
    let p = else_limit (eqb (length done) n) _ e in
    let other = eqb-false (length done) n p.0 in
    let room : length done < n = grind (arith, other) in
    elim (and_limit (more_names done w) (λ more. names_from n more ws) p.1) [
      | inl here ↦ record {
        good = [];
        name = w;
        rest = ws;
        parts = refl;
        wanted = subst (λ xs. length xs < n) (sym (append-nil done)) room;
        long_name = more_long done w here;
        names_are = λ are. subst AreNames (sym (append-nil done)) are;
      }
      | inr later ↦
          let m = more_is done later.0 w later.1 in
          let rest = names_long n later.0 ws (subst (λ xs. length xs ≤ n) (sym m.is) (omega (arith, length-append done (w ∷ [])))) later.2 in
          let whole : later.0 ++ rest.good ≡ done ++ (w ∷ rest.good) = ap (λ front. front ++ rest.good) m.is ∙ append_assoc done (w ∷ []) rest.good in
          record {
            good = w ∷ rest.good;
            name = rest.name;
            rest = rest.rest;
            parts = ap (λ xs. w ∷ xs) rest.parts;
            wanted = subst (λ xs. length xs < n) whole rest.wanted;
            long_name = rest.long_name;
            names_are = λ are. subst AreNames whole (rest.names_are (subst AreNames (sym m.is) (AreNames-more done w are m.name m.absent)));
          }
    ]

pub long_names : (n : ℕ) (done good : List (List ℕ)) (name : List ℕ) (rest : List (List ℕ)) → AreNames (done ++ good) → length (done ++ good) < n
    → IsLong name
    → names_from n done (good ++ name ∷ rest) ≡ Err Limit
long_names n done [] name rest are room is =
    let few : length done < n = subst (λ xs. length xs < n) (append-nil done) room in
    rw (ne_eqb (length done) n (λ e. omega arith), so_begins name (let l = is.long in omega arith) is.begins, so_long name is.long) refl
long_names n done (w ∷ ws) name rest are room is =
    let few : length done < n = omega (arith, length-append done (w ∷ ws)) in
    let named = (AllByRecursion-right IsName done (w ∷ ws) are.named).0 in
    let absent = absent_before done w ws are.different in
    let whole : (done ++ w ∷ []) ++ ws ≡ done ++ (w ∷ ws) = append_assoc done (w ∷ []) ws in
    rw (ne_eqb (length done) n (λ e. omega arith), is_more done w named absent)
    (long_names n (done ++ w ∷ []) ws name rest (subst AreNames (sym whole) are) (subst (λ xs. length xs < n) (sym whole) room) is)
