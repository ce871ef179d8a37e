-- The pieces of a multiplier spell its text, fit, and are good.
use Rattle.std.proofs.Common.{◌≡◌, ℕ, zero, suc, ◌+◌, ◌*◌, ◌-◌, ◌≤◌, Bool, true, false, List, [], ◌∷◌, ◌++◌, length, refl, ap, sym, subst, ◌∙◌, arith}
use Rattle.std.specs.Prelude.{codes, decimal}
use Rattle.std.specs.List.{flat_map, range_with_len}
use Rattle.std.proofs.lemmas.List.{append_assoc, length-append}
use Rattle.arith_templates.specs.Adder as adder
use Rattle.arith_templates.specs.Ripples.{line, outputs}
use Rattle.arith_templates.specs.Texts as texts
use Rattle.revs_lexer.specs.declared.sign.Sign.TheVariants as signs
use Rattle.revs_lexer.specs.declared.word.Word.TheVariants as words
use Rattle.revs_lexer.specs.declared.token.Tok.{Tok}
use Rattle.revs_lexer.specs.declared.token.Tok.TheVariants as toks
use Rattle.built_texts.specs.Pieces.{Piece, text_of, toks_of, fits, AreGood}
use Rattle.built_texts.proofs.PlaceLemmas.{text_of-append, good_word, good_sign, good_number, good_numbered, plain_good, good_line, built_length}
use Rattle.arith_laws.proofs.NameLemmas.{one_digit, zero_digit}
use Rattle.arith_laws.proofs.Pieces.{s, name}
use Rattle.arith_laws.proofs.RipplePieces.{from_sum}
use Rattle.arith_laws.proofs.RippleTextLemmas.{ripple_text, IsFine, ripple_fits, ripple_good, length-ripple}
use Rattle.arith_laws.proofs.TwoNumberPieces.{ripple, carry_function}
use Rattle.arith_laws.proofs.TwoNumberTextLemmas.{lines_are_fine, sums_are_fine, function_text, first_text, place_text}
use Rattle.arith_laws.proofs.IncrementPieces.{header}
use Rattle.arith_laws.proofs.IncrementTextLemmas.{header_text, good_header}
use Rattle.arith_laws.proofs.ProductPieces.{plus, plus_open, plus_end, zero_open, zero_bits, zero_close, first_add_line, digit_line, digit_lines, slice_of, product_end}
use Rattle.arith_laws.proofs.ProductPieces.{from_digits, from_last_zero, from_zeros, from_zero, from_plus, from_function, pieces}

-- ---- the function that adds

opening_text : texts.plus_opening ≡ text_of plus_open
unfolding texts.plus_opening
opening_text = refl

closing_text : (rest : List ℕ) → texts.plus_closing ++ rest ≡ text_of plus_end ++ rest
unfolding texts.plus_closing
closing_text rest = refl

-- the lines of the function, in front of the bytes behind it
plus_text : (m : ℕ) (rest : List ℕ) (ps : List Piece) → rest ≡ text_of ps
    → texts.plus_function (suc m) ++ rest ≡ text_of (plus_open ++ from_sum (ripple plus) m (plus_end ++ ps))
plus_text m rest ps is =
    let first = adder.first_place (codes "p") (codes "q") in
    let places = adder.place (codes "p") (codes "q") in
    grouped texts.plus_opening first (flat_map places (range_with_len 1 (suc m - 1))) (outputs (codes "s") (suc m)) texts.plus_closing rest
    ∙ joined opening_text (ripple_text (ripple plus) first places
    (record { first_is = first_text (codes "p") (codes "q"); place_is = place_text (codes "p") (codes "q") }) m
    (texts.plus_closing ++ rest) (plus_end ++ ps) (closing_text rest ∙ ap (λ (bs : List ℕ). text_of plus_end ++ bs) is))
    ∙ sym (text_of-append plus_open (from_sum (ripple plus) m (plus_end ++ ps)))
  where
    grouped : (a b c d e g : List ℕ) → (a ++ b ++ c ++ d ++ e) ++ g ≡ a ++ (b ++ (c ++ (d ++ (e ++ g))))
    grouped a b c d e g = simp append_assoc refl

    joined : {a b p q : List ℕ} → a ≡ p → b ≡ q → a ++ b ≡ p ++ q
    joined e h = cc

-- ---- the number 0

zeros_text : (i count : ℕ) (rest : List ℕ)
    → codes "false" ++ (flat_map texts.further_zero (range_with_len i count) ++ rest) ≡ text_of (zero_bits count) ++ (codes "false" ++ rest)
unfolding texts.further_zero
zeros_text i zero rest = refl
zeros_text i (suc count) rest = ap (λ (bs : List ℕ). codes "false; " ++ bs) (zeros_text (i + 1) count rest)

zero_front : (bs : List ℕ) → codes "let r0 = reg [" ++ bs ≡ text_of zero_open ++ bs
zero_front bs = rw zero_digit refl

zero_text : (m : ℕ) → texts.zero_line (suc m) ≡ text_of zero_open ++ (text_of (zero_bits m) ++ text_of zero_close)
unfolding texts.zero_line
zero_text m =
    let less : suc m - 1 ≡ m = omega arith in
    ap (λ (k : ℕ). codes "let r0 = reg [" ++ (codes "false" ++ (flat_map texts.further_zero (range_with_len 1 k) ++ (codes "];" ++ 10 ∷ [])))) less
    ∙ ap (λ (bs : List ℕ). codes "let r0 = reg [" ++ bs) (zeros_text 1 m (codes "];" ++ 10 ∷ []))
    ∙ zero_front (text_of (zero_bits m) ++ text_of zero_close)

-- ---- the digits

digit_text : (n k : ℕ) (d : Bool) → texts.digit_line n k d ≡ text_of (digit_line n k d)
unfolding texts.shift_line texts.first_add_line texts.add_line
digit_text n k false = refl
digit_text n zero true = rw (zero_digit, one_digit) refl
digit_text n (suc k) true = rw zero_digit refl

digits_text : (n k : ℕ) (ds : List Bool) → texts.digit_lines n k ds ≡ text_of (digit_lines n k ds)
digits_text n k [] = refl
digits_text n k (d ∷ ds) =
    ap (λ (bs : List ℕ). bs ++ texts.digit_lines n (k + 1) ds) (digit_text n k d)
    ∙ ap (λ (bs : List ℕ). text_of (digit_line n k d) ++ bs) (digits_text n (k + 1) ds)
    ∙ sym (text_of-append (digit_line n k d) (digit_lines n (k + 1) ds))

product_text : (count : ℕ) → texts.product_line count ++ line (codes "}" ∷ []) ≡ text_of (product_end count)
unfolding texts.product_line
product_text count = ap (λ (bs : List ℕ). 114 ∷ bs) (append_assoc (decimal count) (10 ∷ []) (125 ∷ 10 ∷ []))

-- ---- the whole text

-- the bytes behind the function
rest_text : (m : ℕ) (ds : List Bool) → texts.zero_line (suc m) ++ (texts.digit_lines (suc m) 0 ds ++ (texts.product_line (length ds) ++ line (codes "}" ∷ [])))
    ≡ text_of (from_zero m ds)
rest_text m ds =
    let end = text_of (digit_lines (suc m) 0 ds) ++ text_of (product_end (length ds)) in
    same (zero_text m) (digits_text (suc m) 0 ds) (product_text (length ds))
    ∙ three (text_of zero_open) (text_of (zero_bits m)) (text_of zero_close) end
    ∙ sym (text_of-append zero_open (from_zeros m ds)
    ∙ ap (λ (bs : List ℕ). text_of zero_open ++ bs) (text_of-append (zero_bits m) (from_last_zero m ds)
    ∙ ap (λ (bs : List ℕ). text_of (zero_bits m) ++ bs) (text_of-append zero_close (from_digits m ds)
    ∙ ap (λ (bs : List ℕ). text_of zero_close ++ bs) (text_of-append (digit_lines (suc m) 0 ds) (product_end (length ds))))))
  where
    same : {a b c p q r : List ℕ} → a ≡ p → b ≡ q → c ≡ r → a ++ (b ++ c) ≡ p ++ (q ++ r)
    same e h k = cc

    three : (a b c rest : List ℕ) → (a ++ (b ++ c)) ++ rest ≡ a ++ (b ++ (c ++ rest))
    three a b c rest = simp append_assoc refl

pub text_is : (m : ℕ) (ds : List Bool) → texts.multiplier_text (suc m) ds ≡ text_of (pieces m ds)
text_is m ds =
    let rest = texts.zero_line (suc m) ++ (texts.digit_lines (suc m) 0 ds ++ (texts.product_line (length ds) ++ line (codes "}" ∷ []))) in
    grouped (texts.parameter (suc m)) adder.carry_function (texts.plus_function (suc m)) (texts.zero_line (suc m)) (texts.digit_lines (suc m) 0 ds)
    (texts.product_line (length ds)) (line (codes "}" ∷ []))
    ∙ same (header_text (suc m)) function_text (plus_text m rest (from_zero m ds) (rest_text m ds))
    ∙ sym (text_of-append (header (suc m)) (from_function m ds)
    ∙ ap (λ (bs : List ℕ). text_of (header (suc m)) ++ bs) (text_of-append carry_function (from_plus m ds)))
  where
    grouped : (a b c d e g h : List ℕ) → a ++ b ++ c ++ d ++ e ++ g ++ h ≡ a ++ (b ++ (c ++ (d ++ (e ++ (g ++ h)))))
    grouped a b c d e g h = simp append_assoc refl

    same : {a b c p q r : List ℕ} → a ≡ p → b ≡ q → c ≡ r → a ++ (b ++ c) ≡ p ++ (q ++ r)
    same e h k = cc

-- ---- what fits

plus_is_fine : IsFine (ripple plus)
plus_is_fine = lines_are_fine plus (sums_are_fine (codes "p") (codes "q") refl refl)

fits_zeros : (count : ℕ) (rest : List Piece) → fits (zero_bits count ++ rest) ≡ fits rest
fits_zeros zero rest = refl
fits_zeros (suc count) rest = fits_zeros count rest

fits_digits : (n k : ℕ) (ds : List Bool) (rest : List Piece) → fits (digit_lines n k ds ++ rest) ≡ fits rest
fits_digits n k [] rest = refl
fits_digits n k (false ∷ ds) rest = fits_digits n (k + 1) ds rest
fits_digits n zero (true ∷ ds) rest = fits_digits n 1 ds rest
fits_digits n (suc k) (true ∷ ds) rest = fits_digits n (suc k + 1) ds rest

pub all_fit : (m : ℕ) (ds : List Bool) → fits (pieces m ds) ≡ true
all_fit m ds =
    ripple_fits (ripple plus) plus_is_fine m (plus_end ++ from_zero m ds) ∙ fits_zeros m (from_last_zero m ds)
    ∙ fits_digits (suc m) 0 ds (product_end (length ds))

-- ---- good tokens

abbrev GoodPieces : List Piece → Type 0
GoodPieces ps = AreGood (toks_of ps)

good_zeros : (count : ℕ) (ps : List Piece) → GoodPieces ps → GoodPieces (zero_bits count ++ ps)
good_zeros zero ps h = h
good_zeros (suc count) ps h = (good_word words.False, (good_sign signs.Semi, good_zeros count ps h))

good_slice : (k i j : ℕ) (us : List Tok) → k ≤ 9999 → i ≤ 9999 → j ≤ 9999 → AreGood us → AreGood (toks_of (slice_of k i j) ++ us)
good_slice k i j us low first last h = (
  good_numbered 114 k refl low,
  (
    good_sign signs.Dot,
    (
      good_sign signs.OpenSquare,
      (
        good_number i first,
        (
          good_sign signs.DotDot,
          (good_number j last, (good_sign signs.CloseSquare, h)),
        ),
      ),
    ),
  ),
)

good_digit : (n k : ℕ) (d : Bool) (ps : List Piece) → n ≤ 999 → k ≤ 999 → GoodPieces ps → GoodPieces (digit_line n k d ++ ps)
good_digit n k false ps few low h = (
  good_word words.Let,
  (
    good_numbered 114 (k + 1) refl (omega arith),
    (
      good_sign signs.Equal,
      (
        good_word words.Append,
        (
          good_numbered 114 k refl (omega arith),
          (
            good_word words.Reg,
            (
              good_sign signs.OpenSquare,
              (
                good_word words.False,
                (
                  good_sign signs.CloseSquare,
                  (good_sign signs.Semi, h),
                ),
              ),
            ),
          ),
        ),
      ),
    ),
  ),
)
good_digit n zero true ps few low h = good_line first_add_line ps (rw (zero_digit, one_digit) refl) h
good_digit n (suc k) true ps few low h = (
  good_word words.Let,
  (
    good_numbered 114 (k + 2) refl (omega arith),
    (
      good_sign signs.Equal,
      (
        good_word words.Append,
        good_slice (k + 1) 0 k (toks_of (s signs.OpenRound ∷ name (codes "plus") ∷ slice_of (k + 1) (k + 1) (n + k) ++ name
            (codes "a") ∷ s signs.CloseRound ∷ s signs.Semi ∷ ps))
            (omega arith) (omega arith) (omega arith) (
              good_sign signs.OpenRound,
              (
                plain_good (toks.Name (codes "plus")) refl,
                good_slice (k + 1) (k + 1) (n + k) (toks_of (name (codes "a") ∷ s signs.CloseRound ∷ s signs.Semi ∷ ps)) (omega arith) (omega arith)
                    (omega arith)
                    (plain_good (toks.Name (codes "a")) refl, (good_sign signs.CloseRound, (good_sign signs.Semi, h))),
              ),
            ),
      ),
    ),
  ),
)

good_digits : (n k : ℕ) (ds : List Bool) (ps : List Piece) → n ≤ 999 → k + length ds ≤ 999 → GoodPieces ps → GoodPieces (digit_lines n k ds ++ ps)
good_digits n k [] ps few low h = h
good_digits n k (d ∷ ds) ps few low h =
    subst GoodPieces (sym (append_assoc (digit_line n k d) (digit_lines n (k + 1) ds) ps))
    (good_digit n k d (digit_lines n (k + 1) ds ++ ps) few (omega arith) (good_digits n (k + 1) ds ps few (omega arith) h))

good_zero : (m : ℕ) (ds : List Bool) → m ≤ 900 → length ds ≤ 900 → GoodPieces (from_zero m ds)
good_zero m ds le low =
    good_line zero_open (from_zeros m ds) (rw zero_digit refl) (good_zeros m (from_last_zero m ds)
    (good_line zero_close (from_digits m ds) refl (good_digits (suc m) 0 ds (product_end (length ds)) (omega arith) (omega arith)
    (good_numbered 114 (length ds) refl (omega arith), (good_sign signs.CloseCurly, tt)))))

pub all_good : (m : ℕ) (ds : List Bool) → m ≤ 900 → length ds ≤ 900 → GoodPieces (pieces m ds)
all_good m ds le low =
    good_header (suc m) (from_function m ds) (omega arith)
    (good_line carry_function (from_plus m ds) refl
    (good_line plus_open (from_sum (ripple plus) m (plus_end ++ from_zero m ds)) refl
    (ripple_good (ripple plus) plus_is_fine m (plus_end ++ from_zero m ds) (omega arith)
    (good_sign signs.CloseCurly, (good_sign signs.Semi, good_zero m ds le low)))))

-- ---- lengths

length-zeros : (count : ℕ) → length (zero_bits count) ≡ 3 * count
length-zeros zero = omega arith
length-zeros (suc count) = let rest = length-zeros count in omega arith

length-digit : (n k : ℕ) (d : Bool) → length (digit_line n k d) ≤ 60
length-digit n k false = omega arith
length-digit n zero true = omega arith
length-digit n (suc k) true = omega arith

length-digits : (n k : ℕ) (ds : List Bool) → length (digit_lines n k ds) ≤ 60 * length ds
length-digits n k [] = omega arith
length-digits n k (d ∷ ds) =
    let rest = length-digits n (k + 1) ds in
    let here = length-digit n k d in
    let whole = length-append (digit_line n k d) (digit_lines n (k + 1) ds) in
    omega arith

pub is_short : (m : ℕ) (ds : List Bool) → m ≤ 199 → length ds ≤ 20 → length (text_of (pieces m ds)) ≤ 1048576
is_short m ds le low =
    let whole = built_length (pieces m ds) (all_good m ds (omega arith) (omega arith)) in
    let lines = length-ripple (ripple plus) plus_is_fine m (plus_end ++ from_zero m ds) in
    let a = length-append (zero_bits m) (from_last_zero m ds) in
    let b = length-append (digit_lines (suc m) 0 ds) (product_end (length ds)) in
    let c = length-zeros m in
    let d = length-digits (suc m) 0 ds in
    omega arith
