-- The text of a subtractor: how it is spelled and read, and that it subtracts.
use Rattle.std.proofs.Common.{◌≡◌, ℕ, zero, suc, ◌+◌, ◌*◌, ◌-◌, ◌^◌, ◌≤◌, ◌<◌, Bool, true, false}
use Rattle.std.proofs.Common.{◌&&◌, List, [], ◌∷◌, ◌++◌, length, take, drop, refl, ap, sym, ◌∙◌}
use Rattle.std.proofs.Common.{subst, arith}
use Rattle.std.specs.Prelude.{codes, IsTrue, ◌↔◌}
use Rattle.std.specs.Bool.{xor}
use Rattle.std.proofs.lemmas.Bool.{false≢true}
use Rattle.std.proofs.lemmas.List.{take_at, get_or_at}
use Rattle.list_facts.specs.Bits.{bit_of}
use Rattle.list_facts.proofs.BitLemmas.{xor_nothing}
use Rattle.revc_base.specs.declared.place.Place.{Place}
use Rattle.revs_grammar.specs.Forms.{name_of}
use Rattle.revs_grammar.specs.Productions.{in_front}
use Rattle.revs_terms.specs.Trees as t
use Rattle.revs_terms.specs.Trees.{Tree, trees}
use Rattle.built_texts.specs.Pieces.{text_of}
use Rattle.built_texts.specs.Meanings.{IsRun, of_bit, operand, no_operands}
use Rattle.built_texts.proofs.WayLemmas.{turns}
use Rattle.built_texts.proofs.PlaceLemmas.{lettered, good_line}
use Rattle.built_texts.proofs.RunLemmas.{run_name, run_constant, run_xor, run_and, run_within}
use Rattle.arith_templates.specs.declared.kind.Kind.TheVariants.{Sub}
use Rattle.arith_templates.specs.Numbers.{bit, number}
use Rattle.arith_templates.specs.Places.{borrow, differences, last_borrow}
use Rattle.arith_templates.specs.Meets.{IsDifference}
use Rattle.arith_templates.specs.Texts as texts
use Rattle.arith_templates.proofs.PlaceLemmas.{differences_subtract}
use Rattle.arith_laws.specs.Computes.{SubtractorsSubtract}
use Rattle.arith_laws.proofs.NameLemmas.{one_digit, zero_digit}
use Rattle.arith_laws.proofs.RippleReadingLemmas.{bit_at, bound}
use Rattle.arith_laws.proofs.StageLemmas.{bit_run}
use Rattle.arith_laws.proofs.TwoNumberPieces.{first_sum, sum_line, carry_line}
use Rattle.arith_laws.proofs.BorrowPieces.{borrow_function, first_borrow, subtractor}
use Rattle.arith_laws.proofs.TwoNumberTextLemmas.{IsFineLine, IsFineFunction, fine_function, two_text}
use Rattle.arith_laws.proofs.TwoNumberReadingLemmas.{ReadsLine, ReadsFunction, function_item}
use Rattle.arith_laws.proofs.TwoNumberLemmas.{AreApart, letters_apart, WorksFunction, WorksLine, two_rippled}
use Rattle.arith_laws.proofs.TwoNumberProgramLemmas.{HasParams, two_computes}

-- ---- spelling

pub function_text : texts.borrow_function ≡ text_of borrow_function
unfolding texts.borrow_function
function_text = refl

first_text : texts.first_difference ++ texts.first_borrow ≡ text_of (first_sum subtractor) ++ text_of first_borrow
unfolding texts.first_difference texts.first_borrow
first_text = rw (zero_digit, one_digit) refl

pub borrow_text : (i : ℕ) → texts.borrow_line i ≡ text_of (carry_line subtractor i)
unfolding texts.borrow_line
borrow_text i = refl

place_text : (i : ℕ) → texts.difference_place i ≡ text_of (sum_line subtractor i) ++ text_of (carry_line subtractor i)
unfolding texts.difference_line texts.borrow_line
place_text i = refl

pub is_fine : IsFineLine subtractor
is_fine = record {
  letter_is = refl;
  first_is = refl;
  second_is = refl;
  function_is = refl;
  fits_line = λ ps. refl;
  good_line = λ ps h. good_line first_borrow ps (rw one_digit refl) h;
  short_line = omega arith;
}

pub function_is_fine : IsFineFunction borrow_function
function_is_fine = fine_function borrow_function (λ ps. refl) refl (omega arith)

-- ---- reading

abbrev borrow_body : (ℕ → Place) → Tree
borrow_body p = t.xors (trees (
    t.ands (trees (t.xors (trees (t.bool true (p 8) ∷ t.used (name_of (codes "x") (p 10)) ∷ [])) ∷ t.used (name_of (codes "y") (p 13)) ∷ []))
    ∷ t.ands (trees (t.used (name_of (codes "c") (p 17))
    ∷ t.xors (trees (t.bool true (p 20) ∷ t.used (name_of (codes "x") (p 22)) ∷ t.used (name_of (codes "y") (p 24)) ∷ [])) ∷ [])) ∷ []))

abbrev borrow_value : (ℕ → Place) → Tree
borrow_value p = t.ands (trees (
    t.xors (trees (t.bool true (p 4) ∷ bit_at (codes "a") 0 (p 6) (p 7) (p 9) ∷ [])) ∷ bit_at (codes "b") 0 (p 13) (p 14) (p 16) ∷ []))

abbrev pub function_reads : ReadsFunction (codes "lend") borrow_function
function_reads = record {
  function_body = borrow_body;
  function_turns = λ ss p. turns (λ vs. (in_front (function_item (codes "lend") borrow_body p) vs.0, vs.1)) refl;
}

abbrev pub reads : ReadsLine subtractor 2
reads = record {
  first_value = borrow_value;
  first_turns = λ ss p. turns (λ vs. (in_front (bound (lettered 99 1) borrow_value p) vs.0, vs.1)) refl;
}

-- ---- what runs

pub apart : AreApart subtractor
apart = letters_apart 100 97 98 (codes "lend") subtractor.first_line refl refl refl refl (λ i. refl) refl refl (λ i few. refl) refl refl

pub function_works : WorksFunction (codes "lend") borrow_function function_reads borrow
function_works = record {
  body_works = λ d p x y c own. run_within (run_xor
      (run_and (run_xor (run_constant true (p 8)) (operand (run_name (name_of (codes "x") (p 10)) refl) no_operands))
      (operand (run_name (name_of (codes "y") (p 13)) refl) no_operands))
      (operand (run_and (run_name (name_of (codes "c") (p 17)) refl) (operand
      (run_xor (run_constant true (p 20)) (operand (run_name (name_of (codes "x") (p 22)) refl) (operand (run_name (name_of (codes "y") (p 24)) refl)
      no_operands))) no_operands)) no_operands))
      (omega arith);
}

pub works : WorksLine subtractor 2 reads borrow
works = record {
  first_works = λ d sc p us vs x y a b got gets. subst (λ (z : Bool). IsRun (suc (suc (suc (suc (suc d))))) sc (borrow_value p) (of_bit z) 10)
      (sym (xor_nothing (xor true x && y)))
      (run_within (run_and (run_xor (run_constant true (p 4)) (operand (bit_run 0 (p 6) (p 7) (p 9) a got (omega arith))
      no_operands)) (operand (bit_run 0 (p 13) (p 14) (p 16) b gets (omega arith)) no_operands)) (omega arith));
}

-- ---- differences

differences_ripple : (c : Bool) (xs ys : List Bool) → length xs ≡ length ys → two_rippled borrow c xs ys ≡ differences c xs ys ++ last_borrow c xs ys ∷ []
differences_ripple c [] ys e = refl
differences_ripple c (x ∷ xs) [] e = absurd (omega arith)
differences_ripple c (x ∷ xs) (y ∷ ys) e =
    ap (λ (bs : List Bool). xor (xor x y) c ∷ bs) (differences_ripple (borrow x y c) xs ys (omega arith))

-- what the bits of a difference say of the numbers
module _ (value first second power : ℕ) where
  at_least : (b : Bool) → value + second + 0 ≡ first + power * bit b → (IsTrue b ↔ (first < second + 0)) → second ≤ first → value ≡ first - second
  at_least true e h le = let low = h.0 refl in absurd (omega arith)
  at_least false e h le = omega arith

  below : (b : Bool) → value + second + 0 ≡ first + power * bit b → (IsTrue b ↔ (first < second + 0)) → first < second → value ≡ power + first - second
  below true e h low = omega arith
  below false e h low = let is : false ≡ true = h.1 (omega arith) in absurd (false≢true is)

pub is_less : (first second : ℕ) (b : Bool) → (IsTrue b ↔ (first < second + 0)) → IsTrue b ↔ (first < second)
is_less first second b h = (λ is. let low = h.0 is in omega arith, λ low. h.1 (omega arith))

is_difference : (n : ℕ) (xs ys : List Bool) → length xs ≡ n → length ys ≡ n → IsDifference n (number xs) (number ys) (two_rippled borrow false xs ys)
is_difference n xs ys one two =
    let h = differences_subtract false xs ys (one ∙ sym two) in
    let b = last_borrow false xs ys in
    let bits = differences_ripple false xs ys (one ∙ sym two) in
    let front : take n (two_rippled borrow false xs ys) ≡ differences false xs ys =
    ap (take n) bits ∙ take_at (differences false xs ys) (b ∷ []) n (h.size ∙ one) in
    let last : bit_of (two_rippled borrow false xs ys) n ≡ b =
    ap (λ (v : List Bool). bit_of v n) bits ∙ get_or_at (differences false xs ys) b [] false n (h.size ∙ one) in
    let power : 2 ^ length xs ≡ 2 ^ n = ap (λ (k : ℕ). 2 ^ k) one in
    let value = subst (λ (k : ℕ). number (differences false xs ys) + number ys + 0 ≡ number xs + k * bit b) power h.value in
    record {
      less = subst (λ (c : Bool). IsTrue c ↔ (number xs < number ys)) (sym last)
          (is_less (number xs) (number ys) b h.less);
      value = λ le. ap number front ∙ at_least (number (differences false xs ys)) (number xs) (number ys) (2 ^ n) b value h.less le;
      below = λ low. ap number front ∙ below (number (differences false xs ys)) (number xs) (number ys) (2 ^ n) b value h.less low;
    }

pub has_params : HasParams subtractor
has_params = record { first_in = λ us vs. refl; second_in = λ us vs. refl }

pub subtractors_subtract : SubtractorsSubtract
subtractors_subtract zero by low high = absurd (omega arith)
subtractors_subtract (suc m) by low high =
    two_computes subtractor apart has_params borrow_function function_reads borrow function_works reads works is_fine function_is_fine m (omega arith) Sub by
    (texts.subtractor_text (suc m))
    (two_text subtractor is_fine borrow_function function_is_fine texts.borrow_function (texts.first_difference ++ texts.first_borrow) texts.difference_place
    function_text (record { first_is = first_text; place_is = place_text }) m) refl refl
    (λ input one two. is_difference (suc m) (take (suc m) input) (drop (suc m) input) one two)
