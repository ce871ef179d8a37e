-- A ripple's pieces spell its text, fit, and are good.
use Rattle.std.proofs.Common.{◌≡◌, ℕ, zero, suc, ◌+◌, ◌*◌, ◌-◌, ◌≤◌, true, List, [], ◌∷◌, ◌++◌, length, refl, ap, sym, ◌∙◌, arith}
use Rattle.std.specs.Prelude.{codes, decimal}
use Rattle.std.specs.List.{flat_map, range_with_len}
use Rattle.std.proofs.lemmas.List.{append_assoc, length-append}
use Rattle.text_places.specs.Bytes.{is_letter}
use Rattle.revs_lexer.specs.declared.sign.Sign.TheVariants as signs
use Rattle.revs_lexer.specs.declared.word.Word.TheVariants as words
use Rattle.revs_lexer.specs.declared.token.Tok.{Tok}
use Rattle.revs_lexer.specs.declared.token.Tok.TheVariants as toks
use Rattle.built_texts.specs.Pieces.{Piece, text_of, toks_of, fits, AreGood}
use Rattle.built_texts.proofs.PlaceLemmas.{text_of-append, good_word, good_sign, good_number, good_numbered, is_plain, plain_good}
use Rattle.arith_templates.specs.Ripples.{line, output, outputs}
use Rattle.arith_laws.proofs.Pieces.{place_of, parameter, outputs_open, bit_outputs, outputs_close}
use Rattle.arith_laws.proofs.RipplePieces.{Ripple, places, from_open, from_sum}

-- ---- the outputs

outputs_text : (letter i count : ℕ) → flat_map (output (letter ∷ [])) (range_with_len i count) ≡ text_of (bit_outputs letter i count)
unfolding output
outputs_text letter i zero = refl
outputs_text letter i (suc count) =
    ap (λ (bs : List ℕ). letter ∷ ((decimal i ++ 59 ∷ 32 ∷ []) ++ bs)) (outputs_text letter (i + 1) count)
    ∙ ap (λ (bs : List ℕ). letter ∷ bs) (append_assoc (decimal i) (59 ∷ 32 ∷ []) (text_of (bit_outputs letter (i + 1) count)))

-- the bytes from the outputs on
end_text : (letter bits : ℕ) (end : List ℕ) (ps : List Piece) → end ≡ text_of ps
    → outputs (letter ∷ []) bits ++ end ≡ text_of (outputs_open ++ (bit_outputs letter 0 bits ++ outputs_close bits ps))
unfolding outputs
end_text letter bits end ps is =
    ap (λ (bs : List ℕ). line (codes "reg [" ∷ bs ∷ codes "c" ∷ decimal bits ∷ codes "]" ∷ []) ++ end) (outputs_text letter 0 bits)
    ∙ ap (λ (bs : List ℕ). text_of outputs_open ++ bs) (behind (text_of (bit_outputs letter 0 bits)) (decimal bits) end
    ∙ ap (λ (bs : List ℕ). text_of (bit_outputs letter 0 bits) ++ 99 ∷ (decimal bits ++ 93 ∷ 10 ∷ bs)) is
    ∙ sym (text_of-append (bit_outputs letter 0 bits) (outputs_close bits ps)))
  where
    behind : (sums ds end : List ℕ) → (sums ++ 99 ∷ (ds ++ 93 ∷ 10 ∷ [])) ++ end ≡ sums ++ 99 ∷ (ds ++ 93 ∷ 10 ∷ end)
    behind sums ds end =
        append_assoc sums (99 ∷ (ds ++ 93 ∷ 10 ∷ [])) end
        ∙ ap (λ (bs : List ℕ). sums ++ 99 ∷ bs) (append_assoc ds (93 ∷ 10 ∷ []) end)

pub fits_outputs : (letter i count : ℕ) (rest : List Piece) → fits (bit_outputs letter i count ++ rest) ≡ fits rest
fits_outputs letter i zero rest = refl
fits_outputs letter i (suc count) rest = fits_outputs letter (i + 1) count rest

good_outputs : (letter i count : ℕ) (ps : List Piece) → is_letter letter ≡ true → i + count ≤ 9999 → AreGood (toks_of ps)
    → AreGood (toks_of (bit_outputs letter i count ++ ps))
good_outputs letter i zero ps is le h = h
good_outputs letter i (suc count) ps is le h =
    (good_numbered letter i is (omega arith), (good_sign signs.Semi, good_outputs letter (i + 1) count ps is (omega arith) h))

length-outputs : (letter i count : ℕ) → length (bit_outputs letter i count) ≡ 3 * count
length-outputs letter i zero = omega arith
length-outputs letter i (suc count) = let rest = length-outputs letter (i + 1) count in omega arith

-- ---- places of registers, and parameters

pub good_place : (text : List ℕ) (i : ℕ) (us : List Tok) → is_plain (toks.Name text) ≡ true → i ≤ 9999 → AreGood us → AreGood (toks_of (place_of text i) ++ us)
good_place text i us e le h =
    (plain_good (toks.Name text) e, (good_sign signs.Dot, (good_sign signs.OpenSquare, (good_number i le, (good_sign signs.CloseSquare, h)))))

pub good_parameter : (text : List ℕ) (bits : ℕ) (us : List Tok) → is_plain (toks.Name text) ≡ true → bits ≤ 9999 → AreGood us
    → AreGood (toks_of (parameter text bits) ++ us)
good_parameter text bits us e le h = (
  good_sign signs.OpenRound,
  (
    plain_good (toks.Name text) e,
    (
      good_sign signs.Colon,
      (
        good_word words.Bool,
        (
          good_sign signs.OpenSquare,
          (good_number bits le, (good_sign signs.CloseSquare, (good_sign signs.CloseRound, h))),
        ),
      ),
    ),
  ),
)

-- ---- spelling

-- these bytes are those of place 0, and of each place above it
pub record IsSpelled (K : Ripple) (first : List ℕ) (place : ℕ → List ℕ) : Type 0 where
  pub first_is : first ≡ text_of K.first_sum ++ text_of K.first_carry
  pub place_is : (i : ℕ) → place i ≡ text_of (K.sum_line i) ++ text_of (K.carry_line i)

module _ (K : Ripple) (first : List ℕ) (place : ℕ → List ℕ) (X : IsSpelled K first place) where
  places_text : (i count : ℕ) (ps : List Piece) → flat_map place (range_with_len i count) ++ text_of ps ≡ text_of (places K i count ps)
  places_text i zero ps = refl
  places_text i (suc count) ps =
      let rest = flat_map place (range_with_len (i + 1) count) in
      let behind = places K (i + 1) count ps in
      append_assoc (place i) rest (text_of ps)
      ∙ ap (λ (bs : List ℕ). bs ++ (rest ++ text_of ps)) (X.place_is i)
      ∙ ap (λ (bs : List ℕ). (text_of (K.sum_line i) ++ text_of (K.carry_line i)) ++ bs) (places_text (i + 1) count ps)
      ∙ append_assoc (text_of (K.sum_line i)) (text_of (K.carry_line i)) (text_of behind)
      ∙ ap (λ (bs : List ℕ). text_of (K.sum_line i) ++ bs) (sym (text_of-append (K.carry_line i) behind))
      ∙ sym (text_of-append (K.sum_line i) (K.carry_line i ++ behind))

  pub ripple_text : (m : ℕ) (end : List ℕ) (ps : List Piece) → end ≡ text_of ps
      → first ++ (flat_map place (range_with_len 1 (suc m - 1)) ++ (outputs (K.letter ∷ []) (suc m) ++ end)) ≡ text_of (from_sum K m ps)
  ripple_text m end ps is =
      let less : suc m - 1 ≡ m = omega arith in
      let outs = outputs (K.letter ∷ []) (suc m) ++ end in
      let behind = places K 1 m (from_open K m ps) in
      ap (λ (k : ℕ). first ++ (flat_map place (range_with_len 1 k) ++ outs)) less
      ∙ ap (λ (bs : List ℕ). first ++ (flat_map place (range_with_len 1 m) ++ bs)) (end_text K.letter (suc m) end ps is)
      ∙ ap (λ (bs : List ℕ). first ++ bs) (places_text 1 m (from_open K m ps))
      ∙ ap (λ (bs : List ℕ). bs ++ text_of behind) X.first_is
      ∙ append_assoc (text_of K.first_sum) (text_of K.first_carry) (text_of behind)
      ∙ ap (λ (bs : List ℕ). text_of K.first_sum ++ bs) (sym (text_of-append K.first_carry behind))
      ∙ sym (text_of-append K.first_sum (K.first_carry ++ behind))

-- ---- what fits and is good

-- the lines of a ripple fit, are good and short
pub record IsFine (K : Ripple) : Type 0 where
  pub letter_is : is_letter K.letter ≡ true
  pub fits_first : (ps : List Piece) → fits (K.first_sum ++ (K.first_carry ++ ps)) ≡ fits ps
  pub fits_place : (i : ℕ) (ps : List Piece) → fits (K.sum_line i ++ (K.carry_line i ++ ps)) ≡ fits ps
  pub good_first : (ps : List Piece) → AreGood (toks_of ps) → AreGood (toks_of (K.first_sum ++ (K.first_carry ++ ps)))
  pub good_lines : (i : ℕ) (ps : List Piece) → i + 1 ≤ 9999 → AreGood (toks_of ps) → AreGood (toks_of (K.sum_line i ++ (K.carry_line i ++ ps)))
  pub short_first : length K.first_sum + length K.first_carry ≤ 60
  pub short_lines : (i : ℕ) → length (K.sum_line i) + length (K.carry_line i) ≤ 50

module _ (K : Ripple) (F : IsFine K) where
  fits_places : (i count : ℕ) (ps : List Piece) → fits (places K i count ps) ≡ fits ps
  fits_places i zero ps = refl
  fits_places i (suc count) ps = F.fits_place i (places K (i + 1) count ps) ∙ fits_places (i + 1) count ps

  pub ripple_fits : (m : ℕ) (ps : List Piece) → fits (from_sum K m ps) ≡ fits (outputs_close (suc m) ps)
  ripple_fits m ps =
      F.fits_first (places K 1 m (from_open K m ps)) ∙ fits_places 1 m (from_open K m ps) ∙ fits_outputs K.letter 0 (suc m) (outputs_close (suc m) ps)

  good_places : (i count : ℕ) (ps : List Piece) → i + count ≤ 9999 → AreGood (toks_of ps) → AreGood (toks_of (places K i count ps))
  good_places i zero ps le h = h
  good_places i (suc count) ps le h = F.good_lines i (places K (i + 1) count ps) (omega arith) (good_places (i + 1) count ps (omega arith) h)

  pub ripple_good : (m : ℕ) (ps : List Piece) → m ≤ 1000 → AreGood (toks_of ps) → AreGood (toks_of (from_sum K m ps))
  ripple_good m ps le h =
      F.good_first (places K 1 m (from_open K m ps)) (good_places 1 m (from_open K m ps) (omega arith) (
        good_word words.Reg,
        (
          good_sign signs.OpenSquare,
          good_outputs K.letter 0 (suc m) (outputs_close (suc m) ps) F.letter_is (omega arith)
              (good_numbered 99 (suc m) refl (omega arith), (good_sign signs.CloseSquare, h)),
        ),
      ))

  length-places : (i count : ℕ) (ps : List Piece) → length (places K i count ps) ≤ 50 * count + length ps
  length-places i zero ps = omega arith
  length-places i (suc count) ps =
      let behind = places K (i + 1) count ps in
      let rest = length-places (i + 1) count ps in
      let short = F.short_lines i in
      let both = length-append (K.sum_line i) (K.carry_line i ++ behind) in
      let one = length-append (K.carry_line i) behind in
      omega arith

  pub length-ripple : (m : ℕ) (ps : List Piece) → length (from_sum K m ps) ≤ 53 * m + 70 + length ps
  length-ripple m ps =
      let behind = places K 1 m (from_open K m ps) in
      let short = F.short_first in
      let both = length-append K.first_sum (K.first_carry ++ behind) in
      let one = length-append K.first_carry behind in
      let lines = length-places 1 m (from_open K m ps) in
      let ends = length-append (bit_outputs K.letter 0 (suc m)) (outputs_close (suc m) ps) in
      let outs = length-outputs K.letter 0 (suc m) in
      omega arith
