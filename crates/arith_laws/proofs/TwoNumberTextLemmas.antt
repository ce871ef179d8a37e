-- The texts of two numbers that ripple: how they are spelled, that they fit, and that they are good.
use Rattle.std.proofs.Common.{◌≡◌, ℕ, suc, ◌+◌, ◌-◌, ◌≤◌, true, List, [], ◌∷◌, ◌++◌, length, refl, ap, sym, ◌∙◌, arith}
use Rattle.std.specs.Prelude.{codes}
use Rattle.std.specs.List.{flat_map, list_all, range_with_len}
use Rattle.std.proofs.lemmas.List.{append_assoc, length-append}
use Rattle.text_places.specs.Bytes.{is_letter}
use Rattle.revs_lexer.specs.declared.sign.Sign.TheVariants as signs
use Rattle.revs_lexer.specs.declared.sign.Sign.TheVariants.{Xor, And, Semi, Equal, OpenCurly}
use Rattle.revs_lexer.specs.declared.word.Word.TheVariants as words
use Rattle.revs_lexer.specs.declared.token.Tok.TheVariants as toks
use Rattle.built_texts.specs.Pieces.{Piece, text_of, toks_of, fits, AreGood}
use Rattle.built_texts.proofs.PlaceLemmas.{text_of-append, good_word, good_sign, good_numbered, is_plain, plain_good, good_line, built_length}
use Rattle.arith_templates.specs.Adder as sums
use Rattle.arith_templates.specs.Ripples as lines
use Rattle.arith_laws.proofs.NameLemmas.{one_digit, zero_digit}
use Rattle.arith_laws.proofs.Pieces.{s, numbered, place_of, parameter, text_end}
use Rattle.arith_laws.proofs.RipplePieces.{from_sum}
use Rattle.arith_laws.proofs.RippleTextLemmas.{good_place, good_parameter, IsSpelled, ripple_text, IsFine, ripple_fits, ripple_good, length-ripple}
use Rattle.arith_laws.proofs.TwoNumberPieces.{TwoNumbers, header, first_sum, sum_line, carry_line, ripple, from_function, pieces}
use Rattle.arith_laws.proofs.TwoNumberPieces.{carry_function, sums_of, adder}

-- ---- the header

pub header_text : (bits : ℕ) → sums.parameters bits ≡ text_of (header bits)
unfolding sums.parameters
header_text bits = refl

pub good_header : (bits : ℕ) (ps : List Piece) → bits ≤ 9999 → AreGood (toks_of ps) → AreGood (toks_of (header bits ++ ps))
good_header bits ps le h = (
  good_word words.Main,
  good_parameter (codes "a") bits (toks_of (parameter (codes "b") bits ++ s Equal ∷ s OpenCurly ∷ ps)) refl le
      (good_parameter (codes "b") bits (toks_of (s Equal ∷ s OpenCurly ∷ ps)) refl le
      (good_sign signs.Equal, (good_sign signs.OpenCurly, h))),
)

-- ---- the lines

-- the names of two numbers are good, and so is the line of what goes out of place 0
pub record IsFineLine (T : TwoNumbers) : Type 0 where
  pub letter_is : is_letter T.letter ≡ true
  pub first_is : is_plain (toks.Name T.first) ≡ true
  pub second_is : is_plain (toks.Name T.second) ≡ true
  pub function_is : is_plain (toks.Name T.function_name) ≡ true
  pub fits_line : (ps : List Piece) → fits (T.first_line ++ ps) ≡ fits ps
  pub good_line : (ps : List Piece) → AreGood (toks_of ps) → AreGood (toks_of (T.first_line ++ ps))
  pub short_line : length T.first_line ≤ 35

module _ (T : TwoNumbers) (F : IsFineLine T) where
  good_first_sum : (ps : List Piece) → AreGood (toks_of ps) → AreGood (toks_of (first_sum T ++ ps))
  good_first_sum ps h = (
    good_word words.Let,
    (
      good_numbered T.letter 0 F.letter_is (omega arith),
      (
        good_sign signs.Equal,
        good_place T.first 0 (toks_of (s Xor ∷ place_of T.second 0 ++ s Semi ∷ ps)) F.first_is (omega arith) (
          good_sign signs.Xor,
          good_place T.second 0 (toks_of (s Semi ∷ ps)) F.second_is (omega arith) (good_sign signs.Semi, h),
        ),
      ),
    ),
  )

  good_sum_line : (i : ℕ) (ps : List Piece) → i ≤ 9999 → AreGood (toks_of ps) → AreGood (toks_of (sum_line T i ++ ps))
  good_sum_line i ps le h = (
    good_word words.Let,
    (
      good_numbered T.letter i F.letter_is le,
      (
        good_sign signs.Equal,
        good_place T.first i (toks_of (s Xor ∷ place_of T.second i ++ s Xor ∷ numbered 99 i ∷ s Semi ∷ ps)) F.first_is le (
          good_sign signs.Xor,
          good_place T.second i (toks_of (s Xor ∷ numbered 99 i ∷ s Semi ∷ ps)) F.second_is le
              (good_sign signs.Xor, (good_numbered 99 i refl le, (good_sign signs.Semi, h))),
        ),
      ),
    ),
  )

  pub good_carry_line : (i : ℕ) (ps : List Piece) → i + 1 ≤ 9999 → AreGood (toks_of ps) → AreGood (toks_of (carry_line T i ++ ps))
  good_carry_line i ps le h = (
    good_word words.Let,
    (
      good_numbered 99 (i + 1) refl le,
      (
        good_sign signs.Equal,
        (
          plain_good (toks.Name T.function_name) F.function_is,
          good_place T.first i (toks_of (place_of T.second i ++ numbered 99 i ∷ s Semi ∷ ps)) F.first_is (omega arith)
              (good_place T.second i (toks_of (numbered 99 i ∷ s Semi ∷ ps)) F.second_is (omega arith) (
                good_numbered 99 i refl (omega arith),
                (good_sign signs.Semi, h),
              )),
        ),
      ),
    ),
  )

  pub lines_are_fine : IsFine (ripple T)
  lines_are_fine = record {
    letter_is = F.letter_is;
    fits_first = F.fits_line;
    fits_place = λ i ps. refl;
    good_first = λ ps h. good_first_sum (T.first_line ++ ps) (F.good_line ps h);
    good_lines = λ i ps le h. good_sum_line i (carry_line T i ++ ps) (omega arith) (good_carry_line i ps le h);
    short_first = let short = F.short_line in omega arith;
    short_lines = λ i. omega arith;
  }

-- ---- the whole text

-- the line of a function fits, and is good and short
pub record IsFineFunction (line : List Piece) : Type 0 where
  pub fits_function : (ps : List Piece) → fits (line ++ ps) ≡ fits ps
  pub good_function : (ps : List Piece) → AreGood (toks_of ps) → AreGood (toks_of (line ++ ps))
  pub short_function : length line ≤ 100

-- a line of which it is computed that its tokens are good
pub fine_function : (line : List Piece) → ((ps : List Piece) → fits (line ++ ps) ≡ fits ps) → list_all is_plain (toks_of line) ≡ true → length line ≤ 100
    → IsFineFunction line
fine_function line fitting plain short =
    record { fits_function = fitting; good_function = λ ps h. good_line line ps plain h; short_function = short }

module _ (T : TwoNumbers) (F : IsFineLine T) (line : List Piece) (G : IsFineFunction line) where
  pub two_text : (function first : List ℕ) (place : ℕ → List ℕ) → function ≡ text_of line → IsSpelled (ripple T) first place → (m : ℕ)
      → sums.parameters (suc m) ++ (function ++ first) ++ flat_map place (range_with_len 1 (suc m - 1)) ++ lines.outputs (T.letter ∷ []) (suc m)
      ++ lines.line (codes "}" ∷ []) ≡ text_of (pieces T line m)
  two_text function first place function_is X m =
      regroup (sums.parameters (suc m)) function first (flat_map place (range_with_len 1 (suc m - 1))) (lines.outputs (T.letter ∷ []) (suc m))
      (lines.line (codes "}" ∷ []))
      ∙ joined (header_text (suc m)) function_is (ripple_text (ripple T) first place X m (lines.line (codes "}" ∷ [])) text_end refl)
      ∙ sym (text_of-append (header (suc m)) (from_function T line m)
      ∙ ap (λ (bs : List ℕ). text_of (header (suc m)) ++ bs) (text_of-append line (from_sum (ripple T) m text_end)))
    where
      regroup : (a b c d e g : List ℕ) → a ++ (b ++ c) ++ d ++ e ++ g ≡ a ++ (b ++ (c ++ (d ++ (e ++ g))))
      regroup a b c d e g = simp append_assoc refl

      joined : {a b c p q r : List ℕ} → a ≡ p → b ≡ q → c ≡ r → a ++ (b ++ c) ≡ p ++ (q ++ r)
      joined e h k = cc

  pub two_fits : (m : ℕ) → fits (pieces T line m) ≡ true
  two_fits m = G.fits_function (from_sum (ripple T) m text_end) ∙ ripple_fits (ripple T) (lines_are_fine T F) m text_end

  pub two_good : (m : ℕ) → m ≤ 1000 → AreGood (toks_of (pieces T line m))
  two_good m le =
      good_header (suc m) (from_function T line m) (omega arith) (G.good_function (from_sum (ripple T) m text_end)
      (ripple_good (ripple T) (lines_are_fine T F) m text_end le (good_sign signs.CloseCurly, tt)))

  pub two_is_short : (m : ℕ) → m ≤ 199 → length (text_of (pieces T line m)) ≤ 1048576
  two_is_short m le =
      let whole = built_length (pieces T line m) (two_good m (omega arith)) in
      let few = G.short_function in
      let all = length-append line (from_sum (ripple T) m text_end) in
      let lines = length-ripple (ripple T) (lines_are_fine T F) m text_end in
      omega arith

-- ---- sums

pub sums_are_fine : (first second : List ℕ) → is_plain (toks.Name first) ≡ true → is_plain (toks.Name second) ≡ true → IsFineLine (sums_of first second)
sums_are_fine first second one other = record {
  letter_is = refl;
  first_is = one;
  second_is = other;
  function_is = refl;
  fits_line = λ ps. refl;
  good_line = λ ps h. good_line (sums_of first second).first_line ps (rw (one_digit, one, other) refl) h;
  short_line = omega arith;
}

pub carry_is_fine : IsFineFunction carry_function
carry_is_fine = fine_function carry_function (λ ps. refl) refl (omega arith)

pub function_text : sums.carry_function ≡ text_of carry_function
unfolding sums.carry_function
function_text = refl

-- place 0 of two numbers of these names, and a place above it
pub first_text : (first second : List ℕ) → sums.first_place first second
    ≡ text_of (first_sum (sums_of first second)) ++ text_of (sums_of first second).first_line
unfolding sums.first_place
first_text first second = rw (zero_digit, one_digit) refl

pub place_text : (first second : List ℕ) (i : ℕ) → sums.place first second i
    ≡ text_of (sum_line (sums_of first second) i) ++ text_of (carry_line (sums_of first second) i)
unfolding sums.sum_line sums.carry_line
place_text first second i = refl

pub adder_text : (m : ℕ) → sums.adder_text (suc m) ≡ text_of (pieces adder carry_function m)
adder_text m =
    two_text adder (sums_are_fine (codes "a") (codes "b") refl refl) carry_function carry_is_fine sums.carry_function
    (sums.first_place (codes "a") (codes "b")) (sums.place (codes "a") (codes "b")) function_text
    (record { first_is = first_text (codes "a") (codes "b"); place_is = place_text (codes "a") (codes "b") }) m
