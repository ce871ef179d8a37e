-- The values of options: a number, a choice of plans and a format are what the relations say.
use Rattle.std.proofs.Common.{◌≡◌, ℕ, leb, Bool, true, false, ◌&&◌, List, [], ◌∷◌, length, Option, Some, None, MatchOption, cond, refl, sym, ap, ◌∙◌, arith}
use Rattle.std.proofs.Common.{eqb, subst}
use Rattle.std.proofs.lemmas.Bool.{and_parts, and_from, false≢true}
use Rattle.std.proofs.lemmas.Bool.Decides.{Decides-eqb, nat_tests}
use Rattle.std.proofs.lemmas.Option.{same_Some}
use Rattle.std.proofs.lemmas.Slice.Eq.{bytes_eq-Decides}
use Rattle.std.proofs.lemmas.Str.Parse.{IsNumeralModel, numerals_by_value, tells_all_ascii_digits}
use Rattle.std.specs.Str.{bytes_eq, all_ascii_digits}
use Rattle.std.specs.Str.Parse.{digits_value}
use Rattle.arith_templates.specs.declared.kind.Kind.{Kind}
use Rattle.arith_templates.specs.declared.kind.Kind.TheVariants.{Add, Sub, Less, Inc, Mul}
use Rattle.arith_templates.specs.declared.limits.TheConstants.{MOST_FACTOR}
use Rattle.circuit_plans.specs.declared.plan.TheConstants.{MOST_LINES, MOST_GATES, MOST_BORROWED}
use Rattle.circuit_plans.specs.declared.choice.Plan.{Plan}
use Rattle.circuit_plans.specs.declared.choice.Plan.TheVariants.{Auto, Compact, Eager, Lean, Pebble, Shallow}
use Rattle.revc_words.specs.declared.limits.TheConstants.{MOST_ASSUMED, MOST_DIGITS, MOST_NODES, USUAL_LINES, USUAL_GATES, USUAL_NODES}
use Rattle.revc_words.specs.declared.commands.Command.{Command}
use Rattle.revc_words.specs.declared.commands.Command.TheVariants.{Compile}
use Rattle.revc_words.specs.declared.order.Aim.{Aim}
use Rattle.revc_words.specs.declared.order.Aim.TheVariants as aims
use Rattle.revc_words.specs.declared.order.Format.{Format}
use Rattle.revc_words.specs.declared.order.Format.TheVariants.{Real, Qasm}
use Rattle.circuit_plans.specs.declared.roles.Placing.{Placing}
use Rattle.circuit_plans.specs.declared.roles.Placing.TheVariants.{Added, InPlace}
use Rattle.circuit_plans.specs.declared.roles.Start.{Start}
use Rattle.circuit_plans.specs.declared.roles.Start.TheVariants.{Any, Zero}
use Rattle.revc_words.specs.declared.order.Way.{Way}
use Rattle.revc_words.specs.declared.order.Way.TheVariants.{Both, Diagrams, Sums}
use Rattle.revc_words.specs.declared.order.Write.{Write}
use Rattle.revc_words.specs.declared.order.Write.TheVariants as writes
use Rattle.revc_words.specs.Words.{IsNumberIn, MayPlace, plan_word, placing_word, way_word, format_word, kind_word, aim_word, write_word, is_option}
use Rattle.revc_words.specs.inside.Parsing.{first_with, is_number_in, number_of, plan_of, placing_of, placing_for, way_of, format_of, kind_of, aim_of}
use Rattle.revc_words.specs.inside.Parsing.{write_of, value_or}

digits : IsNumeralModel (λ ds. all_ascii_digits ds ≡ true) (digits_value 10)
digits = numerals_by_value _ tells_all_ascii_digits

in_range : (least most : ℕ) (word : List ℕ) → is_number_in least most word ≡ true → IsNumberIn least most word (digits_value 10 word)
in_range least most word e =
    let value = digits_value 10 word in
    let low = leb least value in
    let ends = low && leb value most in
    let few = leb (length word) MOST_DIGITS in
    let a = and_parts (all_ascii_digits word) (leb 1 (length word) && (few && ends)) e in
    let b = and_parts (leb 1 (length word)) (few && ends) a.1 in
    let c = and_parts few ends b.1 in
    let d = and_parts low (leb value most) c.1 in
    record {
      digits = (grind (arith, nat_tests, b.0), digits.to word a.0);
      few = grind (arith, nat_tests, c.0);
      value = refl;
      least_is = grind (arith, nat_tests, d.0);
      most_is = grind (arith, nat_tests, d.1);
    }

passes : (least most : ℕ) (word : List ℕ) (n : ℕ) → IsNumberIn least most word n → is_number_in least most word ≡ true
passes least most word n is =
    let value = is.value in
    let some = is.digits.0 in
    let few = is.few in
    let low = is.least_is in
    let high = is.most_is in
    let v = digits_value 10 word in
    let least_test : leb least v ≡ true = grind (arith, nat_tests) in
    let most_test : leb v most ≡ true = grind (arith, nat_tests) in
    let few_test : leb (length word) MOST_DIGITS ≡ true = grind (arith, nat_tests) in
    let some_test : leb 1 (length word) ≡ true = grind (arith, nat_tests) in
    let ends = leb least v && leb v most in
    and_from (all_ascii_digits word) (leb 1 (length word) && (leb (length word) MOST_DIGITS && ends)) (digits.from word is.digits.1)
    (and_from (leb 1 (length word)) (leb (length word) MOST_DIGITS && ends) some_test
    (and_from (leb (length word) MOST_DIGITS) ends few_test (and_from (leb least v) (leb v most) least_test most_test)))

-- the number that is found is the word's
pub number_says : (least most : ℕ) (word : List ℕ) (n : ℕ) → number_of least most word ≡ Some n → IsNumberIn least most word n
number_says least most word n e = by_test (is_number_in least most word) refl
  where
    by_test : (test : Bool) → is_number_in least most word ≡ test → IsNumberIn least most word n
    by_test true is =
        let same : digits_value 10 word ≡ n = same_value (ap (λ t. cond t (Some (digits_value 10 word)) None) (sym is) ∙ e) in
        let found = in_range least most word is in
        record {
          digits = found.digits;
          few = found.few;
          value = same;
          least_is = rw (← same) found.least_is;
          most_is = rw (← same) found.most_is;
        }
      where
        same_value : Some (digits_value 10 word) ≡ Some n → digits_value 10 word ≡ n
        same_value e = cc
    by_test false is = absurd (no_value (ap (λ t. cond t (Some (digits_value 10 word)) None) (sym is) ∙ e))
      where
        no_value : None ≡ Some n → ⊥
        no_value e = absurd cc

pub number_found : (least most : ℕ) (word : List ℕ) (n : ℕ) → IsNumberIn least most word n → number_of least most word ≡ Some n
number_found least most word n is =
    ap (λ t. cond t (Some (digits_value 10 word)) None) (passes least most word n is) ∙ ap Some is.value

-- a number is no option
pub number_is_no_option : (least most : ℕ) (word : List ℕ) (n : ℕ) → IsNumberIn least most word n → is_option word ≡ false
number_is_no_option least most [] n is = refl
number_is_no_option least most (a ∷ []) n is = refl
number_is_no_option least most (a ∷ b ∷ rest) n is = at (eqb a 45) refl
  where
    at : (test : Bool) → eqb a 45 ≡ test → eqb a 45 ≡ false
    at false e = e
    at true e =
        absurd (false≢true (subst (λ (x : ℕ). all_ascii_digits (x ∷ b ∷ rest) ≡ true) ((Decides-eqb a 45).0 e)
        (digits.from (a ∷ b ∷ rest) is.digits.1)))

-- what the code finds is what the function gives
pub is_number : (least most : ℕ) (word : List ℕ) (found : Option ℕ)
    → MatchOption found ((n : ℕ) → ¬ IsNumberIn least most word n) (IsNumberIn least most word) → found ≡ number_of least most word
is_number least most word (Some n) is = sym (number_found least most word n is)
is_number least most word None none = at (number_of least most word) refl
  where
    at : (other : Option ℕ) → number_of least most word ≡ other → None ≡ number_of least most word
    at None e = sym e
    at (Some n) e = absurd (none n (number_says least most word n e))

-- ---- names: each line with a variable in place of a variant is checked for each of the others

-- the first that has the word as its text has it
pub first_says : {A : Type 0} (text : A → List ℕ) (all : List A) (word : List ℕ) (one : A) → first_with text all word ≡ Some one → word ≡ text one
first_says text [] word one e = absurd cc
first_says text (first ∷ others) word one e = at (bytes_eq word (text first)) refl e (first_says text others word one)
  where
    at : (test : Bool) → bytes_eq word (text first) ≡ test → cond test (Some first) (first_with text others word) ≡ Some one
        → (first_with text others word ≡ Some one → word ≡ text one) → word ≡ text one
    at true is e behind = (bytes_eq-Decides word (text first)).0 is ∙ ap text (same_Some _ _ e)
    at false is e behind = behind e

pub plan_named : (plan : Plan) → plan_of (plan_word plan) ≡ Some plan
plan_named Auto = refl
plan_named plan = refl

pub format_named : (format : Format) → format_of (format_word format) ≡ Some format
format_named Real = refl
format_named Qasm = refl

pub placing_named : (placing : Placing) → placing_of (placing_word placing) ≡ Some placing
placing_named (Added Any) = refl
placing_named (Added Zero) = refl
placing_named InPlace = refl

pub way_named : (way : Way) → way_of (way_word way) ≡ Some way
way_named Diagrams = refl
way_named way = refl

pub aim_named : (aim : Aim) → aim_of (aim_word aim) ≡ Some aim
aim_named aims.Gates = refl
aim_named aim = refl

pub write_named : (write : Write) → write_of (write_word write) ≡ Some write
write_named writes.Program = refl
write_named write = refl

pub kind_named : (kind : Kind) → kind_of (kind_word kind) ≡ Some kind
kind_named Add = refl
kind_named kind = refl

-- a word that names a kind is its word
pub kind_says : (word : List ℕ) (kind : Kind) → kind_of word ≡ Some kind → word ≡ kind_word kind
kind_says = first_says kind_word (Add ∷ Sub ∷ Less ∷ Inc ∷ Mul ∷ [])

-- ---- how each option has its values

-- the value that is found for a word, the words for a value, and the usual value; none of the words begins with `-`
pub record Rule (A : Type 0) : Type 1 where
  pub value : List ℕ → Option A
  pub Writes : List ℕ → A → Type 0
  pub usual : A
  pub says : (word : List ℕ) (a : A) → value word ≡ Some a → Writes word a
  pub found : (word : List ℕ) (a : A) → Writes word a → value word ≡ Some a
  pub no_option : (word : List ℕ) (a : A) → Writes word a → is_option word ≡ false

abbrev number_rule : ℕ → ℕ → ℕ → Rule ℕ
number_rule least most usual = record {
  value = number_of least most;
  Writes = IsNumberIn least most;
  usual = usual;
  says = number_says least most;
  found = number_found least most;
  no_option = number_is_no_option least most;
}

-- a value that is written by the word that names it
abbrev named_rule : {A : Type 0} (value : List ℕ → Option A) (text : A → List ℕ) → A → ((word : List ℕ) (a : A) → value word ≡ Some a → word ≡ text a)
    → ((a : A) → value (text a) ≡ Some a) → ((a : A) → is_option (text a) ≡ false) → Rule A
named_rule value text usual says named no_option = record {
  value = value;
  Writes = λ word a. word ≡ text a;
  usual = usual;
  says = says;
  found = λ word a is. ap value is ∙ named a;
  no_option = λ word a is. ap is_option is ∙ no_option a;
}

pub plan_is_no_option : (plan : Plan) → is_option (plan_word plan) ≡ false
plan_is_no_option Auto = refl
plan_is_no_option plan = refl

pub format_is_no_option : (format : Format) → is_option (format_word format) ≡ false
format_is_no_option Real = refl
format_is_no_option Qasm = refl

pub placing_is_no_option : (placing : Placing) → is_option (placing_word placing) ≡ false
placing_is_no_option (Added Any) = refl
placing_is_no_option (Added Zero) = refl
placing_is_no_option InPlace = refl

abbrev pub WritesPlacing : Command → List ℕ → Placing → Type 0
WritesPlacing command word placing = (word ≡ placing_word placing) × MayPlace command placing

in_place_may : (start : Start) (word : List ℕ) → first_with placing_word (InPlace ∷ []) word ≡ Some (Added start) → ⊥
in_place_may start word e = at (bytes_eq word (placing_word InPlace)) e
  where
    at : (test : Bool) → cond test (Some InPlace) None ≡ Some (Added start) → ⊥
    at true e = absurd cc
    at false e = absurd cc

pub placing_says : (command : Command) (word : List ℕ) (placing : Placing) → placing_for command word ≡ Some placing → WritesPlacing command word placing
placing_says Compile word (Added start) e = absurd (in_place_may start word e)
placing_says Compile word InPlace e = (first_says placing_word (InPlace ∷ []) word InPlace e, tt)
placing_says command word placing e = (first_says placing_word (Added Any ∷ InPlace ∷ Added Zero ∷ []) word placing e, tt)

pub placing_found : (command : Command) (word : List ℕ) (placing : Placing) → WritesPlacing command word placing → placing_for command word ≡ Some placing
placing_found Compile word (Added start) is = absurd is.1
placing_found Compile word InPlace is = ap (placing_for Compile) is.0
placing_found command word placing is = ap placing_of is.0 ∙ placing_named placing

abbrev pub placing_rule : Command → Rule Placing
placing_rule command = record {
  value = placing_for command;
  Writes = WritesPlacing command;
  usual = Added Zero;
  says = placing_says command;
  found = placing_found command;
  no_option = λ word placing is. ap is_option is.0 ∙ placing_is_no_option placing;
}

pub way_is_no_option : (way : Way) → is_option (way_word way) ≡ false
way_is_no_option Diagrams = refl
way_is_no_option way = refl

abbrev pub way_rule : Rule Way
way_rule = named_rule way_of way_word Diagrams (first_says way_word (Diagrams ∷ Sums ∷ Both ∷ [])) way_named way_is_no_option

pub aim_is_no_option : (aim : Aim) → is_option (aim_word aim) ≡ false
aim_is_no_option aims.Gates = refl
aim_is_no_option aim = refl

abbrev pub aim_rule : Rule Aim
aim_rule = named_rule aim_of aim_word aims.Gates (first_says aim_word (aims.Gates ∷ aims.Depth ∷ aims.Order ∷ [])) aim_named aim_is_no_option

pub write_is_no_option : (write : Write) → is_option (write_word write) ≡ false
write_is_no_option writes.Program = refl
write_is_no_option write = refl

abbrev pub write_rule : Rule Write
write_rule =
    named_rule write_of write_word writes.Program (first_says write_word (writes.Program ∷ writes.Real ∷ writes.Qasm ∷ [])) write_named write_is_no_option

abbrev pub format_rule : Format → Rule Format
format_rule usual = named_rule format_of format_word usual (first_says format_word (Real ∷ Qasm ∷ [])) format_named format_is_no_option

abbrev pub plan_rule : Rule Plan
plan_rule = named_rule plan_of plan_word Auto (first_says plan_word (Auto ∷ Compact ∷ Eager ∷ Lean ∷ Pebble ∷ Shallow ∷ [])) plan_named plan_is_no_option

abbrev pub lines_rule : Rule ℕ
lines_rule = number_rule 1 MOST_LINES USUAL_LINES

abbrev pub gates_rule : Rule ℕ
gates_rule = number_rule 1 MOST_GATES USUAL_GATES

abbrev pub borrow_rule : Rule ℕ
borrow_rule = number_rule 0 MOST_BORROWED 0

abbrev pub nodes_rule : Rule ℕ
nodes_rule = number_rule 1 MOST_NODES USUAL_NODES

abbrev pub assume_rule : Rule ℕ
assume_rule = number_rule 0 MOST_ASSUMED 0

abbrev pub by_rule : Rule ℕ
by_rule = number_rule 1 MOST_FACTOR 0

-- the value is the one that is given, or the usual one
abbrev pub IsRight : {A : Type 0} → Rule A → Option (List ℕ) → A → Type 0
IsRight rule text value = MatchOption text (value ≡ rule.usual) (λ word. rule.Writes word value)

pub right : {A : Type 0} (rule : Rule A) (text : Option (List ℕ)) (value : A) → value_or rule.usual rule.value text ≡ Some value → IsRight rule text value
right rule None value e = sym (same_Some _ _ e)
right rule (Some word) value e = rule.says word value e

pub kept : {A : Type 0} (rule : Rule A) (text : Option (List ℕ)) (value : A) → IsRight rule text value → value_or rule.usual rule.value text ≡ Some value
kept rule None value is = ap Some (sym is)
kept rule (Some word) value is = rule.found word value is

-- a text that is given is no option
pub text_is_no_option : {A : Type 0} (rule : Rule A) (text : Option (List ℕ)) (value : A) (word : List ℕ) → IsRight rule text value → text ≡ Some word
    → is_option word ≡ false
text_is_no_option rule None value word is e = absurd cc
text_is_no_option rule (Some other) value word is e = ap is_option (sym (same_Some _ _ e)) ∙ rule.no_option other value is
