-- The pieces of an incrementer spell its text, fit, and are good.
use Rattle.std.proofs.Common.{◌≡◌, ℕ, suc, ◌+◌, ◌-◌, ◌≤◌, true, List, [], ◌∷◌, ◌++◌, length, refl, sym, ◌∙◌, arith}
use Rattle.std.specs.Prelude.{codes}
use Rattle.std.specs.List.{flat_map, range_with_len}
use Rattle.std.proofs.lemmas.List.{append_assoc}
use Rattle.arith_templates.specs.Ripples.{line, outputs}
use Rattle.arith_templates.specs.Texts as texts
use Rattle.revs_lexer.specs.declared.sign.Sign.TheVariants as signs
use Rattle.revs_lexer.specs.declared.word.Word.TheVariants as words
use Rattle.built_texts.specs.Pieces.{Piece, text_of, toks_of, fits, AreGood}
use Rattle.built_texts.proofs.PlaceLemmas.{text_of-append, good_word, good_sign, good_numbered, good_line, built_length}
use Rattle.arith_laws.proofs.NameLemmas.{one_digit, zero_digit}
use Rattle.arith_laws.proofs.Pieces.{s, numbered, text_end}
use Rattle.arith_laws.proofs.RipplePieces.{from_sum}
use Rattle.arith_laws.proofs.RippleTextLemmas.{good_place, good_parameter, ripple_text, IsFine, ripple_fits, ripple_good, length-ripple}
use Rattle.arith_laws.proofs.IncrementPieces.{header, first_sum, first_carry, sum_line, carry_line, incrementer, pieces}

-- ---- the text

pub header_text : (bits : ℕ) → texts.parameter bits ≡ text_of (header bits)
unfolding texts.parameter
header_text bits = refl

first_text : texts.first_increment ≡ text_of first_sum ++ text_of first_carry
unfolding texts.first_increment
first_text = rw (zero_digit, one_digit) refl

place_text : (i : ℕ) → texts.increment_place i ≡ text_of (sum_line i) ++ text_of (carry_line i)
unfolding texts.increment_line texts.increment_carry_line
place_text i = refl

pub text_is : (m : ℕ) → texts.incrementer_text (suc m) ≡ text_of (pieces m)
text_is m =
    grouped (texts.parameter (suc m)) texts.first_increment (flat_map texts.increment_place (range_with_len 1 (suc m - 1)))
    (outputs (codes "s") (suc m)) (line (codes "}" ∷ []))
    ∙ joined (header_text (suc m)) (ripple_text incrementer texts.first_increment texts.increment_place
    (record { first_is = first_text; place_is = place_text }) m (line (codes "}" ∷ [])) text_end refl)
    ∙ sym (text_of-append (header (suc m)) (from_sum incrementer m text_end))
  where
    grouped : (a b c d e : List ℕ) → a ++ b ++ c ++ d ++ e ≡ a ++ (b ++ (c ++ (d ++ e)))
    grouped a b c d e = simp append_assoc refl

    joined : {a b p q : List ℕ} → a ≡ p → b ≡ q → a ++ b ≡ p ++ q
    joined e h = cc

-- ---- what fits and is good

pub good_header : (bits : ℕ) (ps : List Piece) → bits ≤ 9999 → AreGood (toks_of ps) → AreGood (toks_of (header bits ++ ps))
good_header bits ps le h = (
  good_word words.Main,
  good_parameter (codes "a") bits (toks_of (s signs.Equal ∷ s signs.OpenCurly ∷ ps)) refl le
      (good_sign signs.Equal, (good_sign signs.OpenCurly, h)),
)

good_sum_line : (i : ℕ) (ps : List Piece) → i ≤ 9999 → AreGood (toks_of ps) → AreGood (toks_of (sum_line i ++ ps))
good_sum_line i ps le h = (
  good_word words.Let,
  (
    good_numbered 115 i refl le,
    (
      good_sign signs.Equal,
      good_place (codes "a") i (toks_of (s signs.Xor ∷ numbered 99 i ∷ s signs.Semi ∷ ps)) refl le (
        good_sign signs.Xor,
        (good_numbered 99 i refl le, (good_sign signs.Semi, h)),
      ),
    ),
  ),
)

good_carry_line : (i : ℕ) (ps : List Piece) → i + 1 ≤ 9999 → AreGood (toks_of ps) → AreGood (toks_of (carry_line i ++ ps))
good_carry_line i ps le h = (
  good_word words.Let,
  (
    good_numbered 99 (i + 1) refl le,
    (
      good_sign signs.Equal,
      good_place (codes "a") i (toks_of (s signs.And ∷ numbered 99 i ∷ s signs.Semi ∷ ps)) refl (omega arith) (
        good_sign signs.And,
        (good_numbered 99 i refl (omega arith), (good_sign signs.Semi, h)),
      ),
    ),
  ),
)

is_fine : IsFine incrementer
is_fine = record {
  letter_is = refl;
  fits_first = λ ps. refl;
  fits_place = λ i ps. refl;
  good_first = λ ps h. good_line (first_sum ++ first_carry) ps (rw (zero_digit, one_digit) refl) h;
  good_lines = λ i ps le h. good_sum_line i (carry_line i ++ ps) (omega arith) (good_carry_line i ps le h);
  short_first = omega arith;
  short_lines = λ i. omega arith;
}

pub all_fit : (m : ℕ) → fits (pieces m) ≡ true
all_fit m = ripple_fits incrementer is_fine m text_end

pub all_good : (m : ℕ) → m ≤ 1000 → AreGood (toks_of (pieces m))
all_good m le =
    good_header (suc m) (from_sum incrementer m text_end) (omega arith) (ripple_good incrementer is_fine m text_end le (good_sign signs.CloseCurly, tt))

pub is_short : (m : ℕ) → m ≤ 199 → length (text_of (pieces m)) ≤ 1048576
is_short m le =
    let whole = built_length (pieces m) (all_good m (omega arith)) in
    let lines = length-ripple incrementer is_fine m text_end in
    omega arith
