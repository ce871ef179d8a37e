-- The adder's text adds.
use Rattle.std.proofs.Common.{◌≡◌, ℕ, zero, suc, Bool, false, eqb, ◌&&◌, List, [], ◌∷◌, take, drop, refl, ap, sym, ◌∙◌, subst, arith}
use Rattle.std.specs.Prelude.{codes}
use Rattle.std.specs.Bool.{xor}
use Rattle.list_facts.proofs.BitLemmas.{xor_nothing}
use Rattle.revs_grammar.specs.Forms.{name_of}
use Rattle.built_texts.specs.Meanings.{IsRun, of_bit, no_operands, operand}
use Rattle.built_texts.proofs.RunLemmas.{run_name, run_xor, run_and, run_within}
use Rattle.arith_templates.specs.Adder as texts
use Rattle.arith_templates.specs.Numbers.{number}
use Rattle.arith_templates.specs.Places.{carry, sums}
use Rattle.arith_templates.specs.declared.kind.Kind.TheVariants.{Add}
use Rattle.arith_templates.proofs.PlaceLemmas.{sums_add}
use Rattle.arith_laws.specs.Computes.{AddersAdd}
use Rattle.arith_laws.proofs.NameLemmas.{no_decimal}
use Rattle.arith_laws.proofs.StageLemmas.{bit_run}
use Rattle.arith_laws.proofs.TwoNumberPieces.{carry_function, sums_of, adder}
use Rattle.arith_laws.proofs.TwoNumberTextLemmas.{sums_are_fine, carry_is_fine, adder_text}
use Rattle.arith_laws.proofs.TwoNumberReadingLemmas.{carry_reads, sums_read}
use Rattle.arith_laws.proofs.TwoNumberLemmas.{AreApart, letters_apart, WorksFunction, WorksLine, two_rippled}
use Rattle.arith_laws.proofs.TwoNumberProgramLemmas.{two_computes}

-- ---- sums of any two numbers

pub carry_works : WorksFunction (codes "carry") carry_function carry_reads carry
carry_works = record {
  body_works = λ d p x y c own. run_within (run_xor
      (run_and (run_name (name_of (codes "x") (p 7)) refl) (operand (run_name (name_of (codes "y") (p 9)) refl) no_operands))
      (operand (run_and (run_name (name_of (codes "c") (p 13)) refl) (operand
      (run_xor (run_name (name_of (codes "x") (p 16)) refl) (operand (run_name (name_of (codes "y") (p 18)) refl) no_operands)) no_operands)) no_operands))
      (omega arith);
}

pub sums_work : (first second : List ℕ) (l : ℕ) → WorksLine (sums_of first second) l (sums_read first second l) carry
sums_work first second l = record {
  first_works = λ d sc p us vs x y a b got gets.
      subst (λ (z : Bool). IsRun (suc (suc (suc (suc (suc d))))) sc ((sums_read first second l).first_value p) (of_bit z) 10) (sym (xor_nothing (x && y)))
      (run_within (run_and (bit_run 0 (p 3) (p 4) (p 6) a got (omega arith))
      (operand (bit_run 0 (p 9) (p 10) (p 12) b gets (omega arith)) no_operands)) (omega arith));
}

pub sums_ripple : (c : Bool) (xs ys : List Bool) → sums c xs ys ≡ two_rippled carry c xs ys
sums_ripple c [] ys = refl
sums_ripple c (x ∷ xs) [] = refl
sums_ripple c (x ∷ xs) (y ∷ ys) = ap (λ (bs : List Bool). xor (xor x y) c ∷ bs) (sums_ripple (carry x y c) xs ys)

-- ---- the adder

-- names of one letter that is neither that of the sums nor that of the carries
pub sums_apart : (a b : ℕ) → eqb a 99 ≡ false → eqb a 115 ≡ false → eqb b 99 ≡ false → eqb b 115 ≡ false → AreApart (sums_of (a ∷ []) (b ∷ []))
sums_apart a b a_carry a_sum b_carry b_sum =
    letters_apart 115 a b (codes "carry") (sums_of (a ∷ []) (b ∷ [])).first_line (rw a_carry refl) (rw b_carry refl) a_sum b_sum (λ i. refl) a_carry b_carry
    (λ i few. no_decimal (codes "arry") i few refl) refl refl

pub adders_add : AddersAdd
adders_add zero by low high = absurd (omega arith)
adders_add (suc m) by low high =
    two_computes adder (sums_apart 97 98 refl refl refl refl) (record { first_in = λ us vs. refl; second_in = λ us vs. refl })
    carry_function carry_reads carry carry_works (sums_read (codes "a") (codes "b") 2) (sums_work (codes "a") (codes "b") 2)
    (sums_are_fine (codes "a") (codes "b") refl refl) carry_is_fine m (omega arith)
    Add by (texts.adder_text (suc m)) (adder_text m) refl refl
    (λ input one two.
    let h = (sums_add false (take (suc m) input) (drop (suc m) input) (one ∙ sym two)).0 in
    let same = ap number (sums_ripple false (take (suc m) input) (drop (suc m) input)) in
    omega arith)
