-- What the lines of two numbers that ripple compute.
use Rattle.std.proofs.Common.{◌≡◌, ℕ, suc, ◌+◌, ◌*◌, ◌≤◌, ◌<◌, Bool, false, eqb, List, [], ◌∷◌, length, drop, cond, Some, refl, ap, sym, ◌∙◌, subst, arith}
use Rattle.std.specs.Prelude.{codes, slice_get, bytes_eq}
use Rattle.std.specs.Bool.{xor}
use Rattle.std.proofs.lemmas.Option.{slice_get-get_or}
use Rattle.list_facts.specs.Bits.{bit_of}
use Rattle.list_facts.proofs.BitLemmas.{xor_nothing}
use Rattle.revc_base.specs.declared.place.Place.{Place}
use Rattle.revs_grammar.specs.Forms.{name_of}
use Rattle.revs_terms.specs.Trees.{Tree}
use Rattle.built_texts.specs.Meanings.{Meaning, Scope, of_bit, of_bits, named, meaning_of, IsRun, no_operands, operand, Applies, RunsBody}
use Rattle.built_texts.specs.Meanings.{of_function, all_taken, takes, takes_last}
use Rattle.built_texts.specs.Pieces.{Piece}
use Rattle.built_texts.proofs.PlaceLemmas.{lettered}
use Rattle.built_texts.proofs.RunLemmas.{run_name, run_xor, run_apply, run_within}
use Rattle.arith_laws.proofs.NameLemmas.{left_bit, left_drop, past}
use Rattle.arith_laws.proofs.StageLemmas.{bit_run, IsKept}
use Rattle.arith_laws.proofs.RippleReadingLemmas.{at_carry, inner_body}
use Rattle.arith_laws.proofs.RippleLemmas.{rippled, Works, ripple_run}
use Rattle.arith_laws.proofs.TwoNumberPieces.{TwoNumbers, ripple}
use Rattle.arith_laws.proofs.TwoNumberReadingLemmas.{ReadsLine, ReadsFunction, reads_lines, first_sum_term, carry_term, taken}

-- the names of the texts are different
pub record AreApart (T : TwoNumbers) : Type 0 where
  pub first_function : bytes_eq T.first T.function_name ≡ false
  pub second_function : bytes_eq T.second T.function_name ≡ false
  pub first_letter : (i : ℕ) → bytes_eq T.first (lettered T.letter i) ≡ false
  pub second_letter : (i : ℕ) → bytes_eq T.second (lettered T.letter i) ≡ false
  pub function_letter : (i : ℕ) → bytes_eq T.function_name (lettered T.letter i) ≡ false
  pub first_carry : (i : ℕ) → bytes_eq T.first (lettered 99 i) ≡ false
  pub second_carry : (i : ℕ) → bytes_eq T.second (lettered 99 i) ≡ false
  pub function_carry : (i : ℕ) → i ≤ 9999 → bytes_eq T.function_name (lettered 99 i) ≡ false
  pub letter_carry : (k i : ℕ) → bytes_eq (lettered T.letter k) (lettered 99 i) ≡ false
  pub carry_letter : (k i : ℕ) → bytes_eq (lettered 99 k) (lettered T.letter i) ≡ false

-- numbers whose names are one letter each
pub letters_apart : (letter a b : ℕ) (function : List ℕ) (line : List Piece) → bytes_eq (a ∷ []) function ≡ false → bytes_eq (b ∷ []) function ≡ false
    → eqb a letter ≡ false → eqb b letter ≡ false → ((i : ℕ) → bytes_eq function (lettered letter i) ≡ false) → eqb a 99 ≡ false → eqb b 99 ≡ false
    → ((i : ℕ) → i ≤ 9999 → bytes_eq function (lettered 99 i) ≡ false) → eqb letter 99 ≡ false → eqb 99 letter ≡ false
    → AreApart (record { letter = letter; first = a ∷ []; second = b ∷ []; function_name = function; first_line = line })
letters_apart letter a b function line a_function b_function a_letter b_letter function_letter a_carry b_carry function_carry letter_carry carry_letter =
    record {
      first_function = a_function;
      second_function = b_function;
      first_letter = λ i. rw a_letter refl;
      second_letter = λ i. rw b_letter refl;
      function_letter = function_letter;
      first_carry = λ i. rw a_carry refl;
      second_carry = λ i. rw b_carry refl;
      function_carry = function_carry;
      letter_carry = λ k i. rw letter_carry refl;
      carry_letter = λ k i. rw carry_letter refl;
    }

-- ---- the function of what goes on

-- a meaning that takes three bits to what goes on to the next place
pub record IsNext (d : ℕ) (next : Bool → Bool → Bool → Bool) (m : Meaning) : Type 0 where
  pub takes_bits : (sc : Scope) (u v w : Tree) (x y c : Bool) → IsRun (suc (suc (suc (suc d)))) sc u (of_bit x) 2
      → IsRun (suc (suc (suc (suc d)))) sc v (of_bit y) 2 → IsRun (suc (suc (suc (suc d)))) sc w (of_bit c) 1
      → Applies (suc (suc (suc (suc d)))) sc m (u ∷ v ∷ w ∷ []) (of_bit (next x y c)) 25

abbrev pub inside_function : Bool → Bool → Bool → Scope → Scope
inside_function x y c own = named (codes "c") (of_bit c) (named (codes "y") (of_bit y) (named (codes "x") (of_bit x) own))

-- what the function of this line computes
pub record WorksFunction (name : List ℕ) (line : List Piece) (G : ReadsFunction name line) (next : Bool → Bool → Bool → Bool) : Type 0 where
  pub body_works : (d : ℕ) (p : ℕ → Place) (x y c : Bool) (own : Scope)
      → IsRun (suc (suc (suc (suc d)))) (inside_function x y c own) (G.function_body p) (of_bit (next x y c)) 20

module _ (name : List ℕ) (line : List Piece) (G : ReadsFunction name line) (next : Bool → Bool → Bool → Bool) (W : WorksFunction name line G next) where
  -- what the function means behind its line, which begins at these places
  abbrev pub function_meaning : (ℕ → Place) → Scope → Meaning
  function_meaning q own = of_function (taken q) (G.function_body q) own

  pub function_is : (d : ℕ) (q : ℕ → Place) (own : Scope) → IsNext d next (function_meaning q own)
  function_is d q own = record {
    takes_bits = λ sc u v w x y c r s z. takes r (takes s (takes_last z (W.body_works d q x y c own) all_taken));
  }

-- ---- the bits

-- what ripples from place to place: the bit of each place, and behind them what goes out of the last
abbrev pub two_rippled : (Bool → Bool → Bool → Bool) → Bool → List Bool → List Bool → List Bool
two_rippled next c (x ∷ xs) (y ∷ ys) = xor (xor x y) c ∷ two_rippled next (next x y c) xs ys
two_rippled next c [] ys = c ∷ []
two_rippled next c (x ∷ xs) [] = c ∷ []

pub length-two_rippled : (next : Bool → Bool → Bool → Bool) (c : Bool) (xs ys : List Bool) → length xs ≡ length ys
    → length (two_rippled next c xs ys) ≡ length xs + 1
length-two_rippled next c [] ys e = omega arith
length-two_rippled next c (x ∷ xs) [] e = absurd (omega arith)
length-two_rippled next c (x ∷ xs) (y ∷ ys) e = let rest = length-two_rippled next (next x y c) xs ys (omega arith) in omega arith

module _ (next : Bool → Bool → Bool → Bool) (us vs : List Bool) where
  -- the bit of a place, and what goes on from it
  abbrev pub sum_at : ℕ → Bool → Bool
  sum_at i c = xor (xor (bit_of us i) (bit_of vs i)) c

  abbrev pub next_at : ℕ → Bool → Bool
  next_at i c = next (bit_of us i) (bit_of vs i) c

  rippled_is : (xs ys : List Bool) (i : ℕ) (c : Bool) → drop i us ≡ xs → drop i vs ≡ ys → length xs ≡ length ys
      → rippled sum_at next_at c i (length xs) ≡ two_rippled next c xs ys
  rippled_is [] ys i c a b e = refl
  rippled_is (x ∷ xs) [] i c a b e = absurd (omega arith)
  rippled_is (x ∷ xs) (y ∷ ys) i c a b e =
      let more = rippled_is xs ys (i + 1) (next x y c) (left_drop us i x xs a) (left_drop vs i y ys b) (omega arith) in
      ap (λ (u : Bool). xor (xor u (bit_of vs i)) c ∷ rippled sum_at next_at (next u (bit_of vs i) c) (i + 1) (length xs)) (left_bit us i x xs a)
      ∙ ap (λ (v : Bool). xor (xor x v) c ∷ rippled sum_at next_at (next x v c) (i + 1) (length xs)) (left_bit vs i y ys b)
      ∙ ap (λ (bs : List Bool). xor (xor x y) c ∷ bs) more

-- ---- the lines

module _ (T : TwoNumbers) (N : AreApart T) (d : ℕ) (next : Bool → Bool → Bool → Bool) (us vs : List Bool) where
  -- two numbers, and the function of what goes on
  pub record Known (sc : Scope) : Type 0 where
    pub function : Meaning
    pub is_next : IsNext d next function
    pub first_is : meaning_of T.first sc ≡ Some (of_bits us)
    pub second_is : meaning_of T.second sc ≡ Some (of_bits vs)
    pub function_is : meaning_of T.function_name sc ≡ Some function

  pub past_bit : (i : ℕ) (m : Meaning) (sc : Scope) → Known sc → Known (named (lettered T.letter i) m sc)
  past_bit i m sc known = record {
    function = known.function;
    is_next = known.is_next;
    first_is = past T.first (lettered T.letter i) m sc (N.first_letter i) known.first_is;
    second_is = past T.second (lettered T.letter i) m sc (N.second_letter i) known.second_is;
    function_is = past T.function_name (lettered T.letter i) m sc (N.function_letter i) known.function_is;
  }

  pub past_carry : (i : ℕ) (m : Meaning) (sc : Scope) → i ≤ 9999 → Known sc → Known (named (lettered 99 i) m sc)
  past_carry i m sc few known = record {
    function = known.function;
    is_next = known.is_next;
    first_is = past T.first (lettered 99 i) m sc (N.first_carry i) known.first_is;
    second_is = past T.second (lettered 99 i) m sc (N.second_carry i) known.second_is;
    function_is = past T.function_name (lettered 99 i) m sc (N.function_carry i few) known.function_is;
  }

  kept : IsKept T.letter Known
  kept = record {
    bits = λ i m sc few known. past_bit i m sc known;
    carries = past_carry;
    apart = λ k i m sc. ap (λ t. cond t (Some m) (meaning_of (lettered T.letter k) sc)) (N.letter_carry k i);
  }

  -- what goes on from a place, where its number, those of the parts and what comes in are known
  pub next_run : (i : ℕ) (c : Bool) (sc : Scope) (p : ℕ → Place) → i < length us → i < length vs → i ≤ 999 → Known sc
      → meaning_of (lettered 99 i) sc ≡ Some (of_bit c)
      → IsRun (suc (suc (suc (suc (suc d))))) sc (carry_term T i p) (of_bit (next_at next us vs i c)) 27
  next_run i c sc p low below few known c_is =
      run_apply (run_name (name_of T.function_name (p 3)) known.function_is) (known.is_next.takes_bits _ _ _ _ _ _ _
      (bit_run i (p 4) (p 5) (p 7) known.first_is (slice_get-get_or us i false low) (omega arith))
      (bit_run i (p 9) (p 10) (p 12) known.second_is (slice_get-get_or vs i false below) (omega arith))
      (run_name (name_of (lettered 99 i) (p 14)) c_is))

  module _ (l : ℕ) (R : ReadsLine T l) (n : ℕ) (few : n ≤ 999) (first_size : length us ≡ n) (second_size : length vs ≡ n) where
    works : Works (ripple T) l (reads_lines T l R) (suc (suc (suc (suc (suc d))))) Known (sum_at next us vs) (next_at next us vs) n
    works = record {
      kept = kept;
      sum_works = λ i c made sc p low now. run_xor
          (bit_run i (p 3) (p 4) (p 6) now.below.known.first_is (slice_get-get_or us i false (omega arith)) (omega arith))
          (operand (bit_run i (p 9) (p 10) (p 12) now.below.known.second_is (slice_get-get_or vs i false (omega arith)) (omega arith))
          (operand (run_name (name_of (lettered 99 i) (p 15)) now.c_is) no_operands));
      carry_works = λ i c s made sc p low now. next_run i c (named (lettered T.letter i) (of_bit s) sc) p (omega arith) (omega arith) (omega arith)
          (past_bit i (of_bit s) sc now.below.known) (past (lettered 99 i) (lettered T.letter i) (of_bit s) sc (N.carry_letter i i) now.c_is);
    }

-- what the line of what goes out of place 0 computes
pub record WorksLine (T : TwoNumbers) (l : ℕ) (R : ReadsLine T l) (next : Bool → Bool → Bool → Bool) : Type 0 where
  pub first_works : (d : ℕ) (sc : Scope) (p : ℕ → Place) (us vs : List Bool) (x y : Bool) → meaning_of T.first sc ≡ Some (of_bits us)
      → meaning_of T.second sc ≡ Some (of_bits vs) → slice_get us 0 ≡ Some x → slice_get vs 0 ≡ Some y
      → IsRun (suc (suc (suc (suc (suc d))))) sc (R.first_value p) (of_bit (next x y false)) 10

-- the lines of both numbers, from that of the sum of place 0 on
module _ (T : TwoNumbers) (N : AreApart T) (l : ℕ) (R : ReadsLine T l) (next : Bool → Bool → Bool → Bool) (L : WorksLine T l R next)
    (d m : ℕ) (few : m ≤ 199) where
  abbrev pub two_units : ℕ
  two_units = 8 + (27 + (35 * m + (1 + (suc m + 1 + (suc m + 1)))))

  pub two_run : (us vs : List Bool) → length us ≡ suc m → length vs ≡ suc m → (p : ℕ → Place) (own : Scope) → Known T N d next us vs own
      → let whole = inner_body (ripple T) l (reads_lines T l R) m p in
      RunsBody (suc (suc (suc (suc (suc d))))) own whole.items whole.last
      (of_bits (two_rippled next false us vs)) two_units
  two_run [] vs one two p own known = absurd (omega arith)
  two_run (x ∷ xs) [] one two p own known = absurd (omega arith)
  two_run (x ∷ xs) (y ∷ ys) one two p own known =
      let us = x ∷ xs in
      let vs = y ∷ ys in
      let S = sum_at next us vs in
      let C = next_at next us vs in
      let D = suc (suc (suc (suc (suc d)))) in
      let b = xor (xor x y) false in
      let c = next x y false in
      let q = at_carry (ripple T) l (reads_lines T l R) m p in
      let n_few : suc m ≤ 999 = omega arith in
      let long : length xs ≡ m = omega arith in
      let same : length xs ≡ length ys = omega arith in
      let inner = named (lettered T.letter 0) (of_bit b) own in
      let now = past_bit T N d next us vs 0 (of_bit b) own known in
      let sum = subst (λ (z : Bool). IsRun D own (first_sum_term T p) (of_bit z) 8) (sym (xor_nothing (xor x y)))
      (run_within (run_xor (bit_run 0 (p 3) (p 4) (p 6) known.first_is refl (omega arith))
      (operand (bit_run 0 (p 9) (p 10) (p 12) known.second_is refl (omega arith)) no_operands)) (omega arith)) in
      let carry : IsRun D inner (R.first_value q) (of_bit c) 27 =
      run_within (L.first_works d inner q us vs x y now.first_is now.second_is refl refl) (omega arith) in
      let whole = ripple_run (ripple T) l (reads_lines T l R) (suc (suc (suc d))) (Known T N d next us vs) S C (suc m) n_few
      (works T N d next us vs l R (suc m) n_few one two) m p refl b c own known sum carry in
      let all = ap (λ (k : ℕ). b ∷ rippled S C c 1 k) (sym long) ∙ ap (λ (bs : List Bool). b ∷ bs) (rippled_is next us vs xs ys 1 c refl refl same) in
      subst (λ (bs : List Bool). RunsBody D own (inner_body (ripple T) l (reads_lines T l R) m p).items (inner_body (ripple T) l (reads_lines T l R) m p).last
      (of_bits bs) two_units) all whole
