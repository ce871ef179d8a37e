-- The pieces spell the text of a comparator, and how it is read.
use Rattle.std.proofs.Common.{◌≡◌, ℕ, zero, suc, ◌+◌, ◌*◌, ◌-◌, ◌≤◌, true, List, [], ◌∷◌, ◌++◌, length, refl, ap, sym, ◌∙◌, subst, arith, append-nil}
use Rattle.std.specs.Prelude.{codes, decimal}
use Rattle.std.specs.List.{flat_map, range_with_len}
use Rattle.std.proofs.lemmas.List.{append_assoc, length-append}
use Rattle.revc_base.specs.declared.place.Place.{Place}
use Rattle.revs_lexer.specs.declared.sign.Sign.TheVariants as signs
use Rattle.revs_lexer.specs.declared.sign.Sign.TheVariants.{CloseCurly}
use Rattle.revs_lexer.specs.declared.token.Token.{Token}
use Rattle.revs_grammar.specs.Forms.{body, BodyTree, name_of}
use Rattle.revs_grammar.specs.Productions.{in_front, block_of}
use Rattle.revs_grammar.specs.Sentences as symbols
use Rattle.revs_grammar.specs.Sentences.{Symbol, few_levels, IsSentenceOf}
use Rattle.revs_terms.specs.declared.program.Param.{Param}
use Rattle.revs_terms.specs.Trees as t
use Rattle.revs_terms.specs.Trees.{Tree}
use Rattle.built_texts.specs.Pieces.{Piece, text_of, toks_of, fits, AreGood}
use Rattle.built_texts.specs.Ways.{placed, shifted, Turns}
use Rattle.built_texts.proofs.PlaceLemmas.{text_of-append, lettered, good_sign, good_numbered, built_length}
use Rattle.built_texts.proofs.WayLemmas.{turns, turns-then, built_then, is_sentence}
use Rattle.arith_templates.specs.Ripples as lines
use Rattle.arith_templates.specs.Texts as texts
use Rattle.arith_laws.proofs.NameLemmas.{one_digit, zero_digit}
use Rattle.arith_laws.proofs.RippleReadingLemmas.{f, chain_end, bound, nothing_behind, end_turns}
use Rattle.arith_laws.proofs.TwoNumberPieces.{header, carry_line}
use Rattle.arith_laws.proofs.TwoNumberTextLemmas.{header_text, good_header, good_carry_line}
use Rattle.arith_laws.proofs.TwoNumberReadingLemmas.{carry_term, carry_turns, function_item, header_turns, two_params}
use Rattle.arith_laws.proofs.BorrowPieces.{borrow_function, first_borrow, subtractor, borrows, closing, from_borrows, from_first, from_function, pieces}
use Rattle.arith_laws.proofs.SubtractorLemmas.{function_text, borrow_text, is_fine, function_is_fine, function_reads, reads}

-- ---- spelling

first_text : texts.first_borrow ≡ text_of first_borrow
unfolding texts.first_borrow
first_text = rw (zero_digit, one_digit) refl

borrows_text : (i count : ℕ) → flat_map texts.borrow_line (range_with_len i count) ≡ text_of (borrows i count)
borrows_text i zero = refl
borrows_text i (suc count) =
    ap (λ (bs : List ℕ). bs ++ flat_map texts.borrow_line (range_with_len (i + 1) count)) (borrow_text i)
    ∙ ap (λ (bs : List ℕ). text_of (carry_line subtractor i) ++ bs) (borrows_text (i + 1) count)
    ∙ sym (text_of-append (carry_line subtractor i) (borrows (i + 1) count))

closing_text : (bits : ℕ) → texts.last_borrow_line bits ++ lines.line (codes "}" ∷ []) ≡ text_of (closing bits)
unfolding texts.last_borrow_line
closing_text bits = ap (λ (bs : List ℕ). 99 ∷ bs) (append_assoc (decimal bits) (10 ∷ []) (125 ∷ 10 ∷ []))

parts_text : (m : ℕ) → text_of (pieces m) ≡ text_of (header (suc m)) ++ (text_of borrow_function ++ (text_of first_borrow
    ++ (text_of (borrows 1 m) ++ text_of (closing (suc m)))))
parts_text m =
    text_of-append (header (suc m)) (from_function m)
    ∙ ap (λ (bs : List ℕ). text_of (header (suc m)) ++ bs) (text_of-append borrow_function (from_first m)
    ∙ ap (λ (bs : List ℕ). text_of borrow_function ++ bs) (text_of-append first_borrow (from_borrows m)
    ∙ ap (λ (bs : List ℕ). text_of first_borrow ++ bs) (text_of-append (borrows 1 m) (closing (suc m)))))

joined : {a b c d p q r u v : List ℕ} (e g : List ℕ) → a ≡ p → b ≡ q → c ≡ r → d ≡ u → e ++ g ≡ v
    → a ++ (b ++ c) ++ d ++ e ++ g ≡ p ++ (q ++ (r ++ (u ++ v)))
joined {a} {b} {c} {d} {p} {q} {r} {u} {v} e g h k l i j =
    regroup a b c d e g
    ∙ ap (λ (bs : List ℕ). bs ++ (b ++ (c ++ (d ++ (e ++ g))))) h
    ∙ ap (λ (bs : List ℕ). p ++ (bs ++ (c ++ (d ++ (e ++ g))))) k
    ∙ ap (λ (bs : List ℕ). p ++ (q ++ (bs ++ (d ++ (e ++ g))))) l
    ∙ ap (λ (bs : List ℕ). p ++ (q ++ (r ++ (bs ++ (e ++ g))))) i
    ∙ ap (λ (bs : List ℕ). p ++ (q ++ (r ++ (u ++ bs)))) j
  where
    regroup : (a b c d e g : List ℕ) → a ++ (b ++ c) ++ d ++ e ++ g ≡ a ++ (b ++ (c ++ (d ++ (e ++ g))))
    regroup a b c d e g = simp append_assoc refl

pub comparator_spelled : (m : ℕ) → texts.comparator_text (suc m) ≡ text_of (pieces m)
comparator_spelled m =
    let less : suc m - 1 ≡ m = omega arith in
    let above : flat_map texts.borrow_line (range_with_len 1 (suc m - 1)) ≡ text_of (borrows 1 m) =
    ap (λ (k : ℕ). flat_map texts.borrow_line (range_with_len 1 k)) less ∙ borrows_text 1 m in
    joined _ _ (header_text (suc m)) function_text first_text above (closing_text (suc m)) ∙ sym (parts_text m)

-- ---- what fits and is good

fits_borrows : (i count : ℕ) (rest : List Piece) → fits (borrows i count ++ rest) ≡ fits rest
fits_borrows i zero rest = refl
fits_borrows i (suc count) rest = fits_borrows (i + 1) count rest

pub comparator_fits : (m : ℕ) → fits (pieces m) ≡ true
comparator_fits m = function_is_fine.fits_function (from_first m) ∙ is_fine.fits_line (from_borrows m) ∙ fits_borrows 1 m (closing (suc m))

good_borrows : (i count : ℕ) (ps : List Piece) → i + count ≤ 9999 → AreGood (toks_of ps) → AreGood (toks_of (borrows i count ++ ps))
good_borrows i zero ps le h = h
good_borrows i (suc count) ps le h =
    good_carry_line subtractor is_fine i (borrows (i + 1) count ++ ps) (omega arith) (good_borrows (i + 1) count ps (omega arith) h)

pub comparator_good : (m : ℕ) → m ≤ 1000 → AreGood (toks_of (pieces m))
comparator_good m le =
    good_header (suc m) (from_function m) (omega arith) (function_is_fine.good_function (from_first m) (is_fine.good_line (from_borrows m)
    (good_borrows 1 m (closing (suc m)) (omega arith) (good_numbered 99 (suc m) refl (omega arith), (good_sign signs.CloseCurly, tt)))))

length-borrows : (i count : ℕ) → length (borrows i count) ≡ 23 * count
length-borrows i zero = omega arith
length-borrows i (suc count) = let rest = length-borrows (i + 1) count in omega arith

pub comparator_is_short : (m : ℕ) → m ≤ 199 → length (text_of (pieces m)) ≤ 1048576
comparator_is_short m le =
    let whole = built_length (pieces m) (comparator_good m (omega arith)) in
    let all = length-append (borrows 1 m) (closing (suc m)) in
    let above = length-borrows 1 m in
    omega arith

-- ---- reading

-- so many borrows in front of a body
abbrev pub in_borrows : ℕ → ℕ → (ℕ → Place) → BodyTree → BodyTree
in_borrows i zero p rest = rest
in_borrows i (suc count) p rest = in_front (bound (lettered 99 (i + 1)) (carry_term subtractor i) p) (in_borrows (i + 1) count (shifted 16 p) rest)

borrows_turn : (i count l : ℕ) (ss : List Symbol) (p : ℕ → Place)
    → Turns (f body l ∷ ss) (placed p (toks_of (borrows i count))) (f body l ∷ ss) (λ vs. (in_borrows i count p vs.0, vs.1))
borrows_turn i zero l ss p = record { leads = symbols.done; turned = λ vs. refl }
borrows_turn i (suc count) l ss p =
    built_then (carry_line subtractor i) (borrows (i + 1) count) p (carry_turns subtractor i l ss p)
    (borrows_turn (i + 1) count l ss (shifted 16 p))

-- the last borrow
abbrev pub last_body : ℕ → (ℕ → Place) → BodyTree
last_body bits p = record { items = []; last = t.used (name_of (lettered 99 bits) (p 0)) }

closing_turns : (bits : ℕ) (ss : List Symbol) (p : ℕ → Place)
    → Turns (f body 2 ∷ ss) (placed p (toks_of (closing bits))) ss (λ vs. (last_body bits p, vs))
closing_turns bits ss p = turns (λ vs. (last_body bits p, vs)) refl

module _ (m : ℕ) (p : ℕ → Place) where
  -- the places behind the header and behind each line
  abbrev pub at_function : ℕ → Place
  at_function = shifted 19 p

  abbrev pub at_first : ℕ → Place
  at_first = shifted (length (toks_of borrow_function)) at_function

  abbrev pub at_borrows : ℕ → Place
  at_borrows = shifted (length (toks_of first_borrow)) at_first

  abbrev pub at_close : ℕ → Place
  at_close = shifted (length (toks_of (borrows 1 m))) at_borrows

  abbrev pub inner_body : BodyTree
  inner_body = in_front (function_item (codes "lend") function_reads.function_body at_function) (in_front (bound (lettered 99 1) reads.first_value at_first)
      (in_borrows 1 m at_borrows (last_body (suc m) at_close)))

  abbrev pub comparator_params : List Param
  comparator_params = two_params (suc m) p

  abbrev pub comparator_body : Tree
  comparator_body = block_of (p 18) inner_body

  pub comparator_sentence : IsSentenceOf few_levels (placed p (toks_of (pieces m))) comparator_params comparator_body
  comparator_sentence =
      let ss = chain_end 1 [] in
      is_sentence (built_then (header (suc m)) (from_function m) p (header_turns (suc m) p)
      (built_then borrow_function (from_first m) at_function (function_reads.function_turns ss at_function)
      (built_then first_borrow (from_borrows m) at_first (reads.first_turns ss at_first)
      (built_then (borrows 1 m) (closing (suc m)) at_borrows (borrows_turn 1 m 2 ss at_borrows)
      (subst (λ (ts : List Token). Turns (f body 2 ∷ ss) ts [] (λ _. (last_body (suc m) at_close, nothing_behind)))
      (append-nil (placed at_close (toks_of (closing (suc m)))))
      (turns-then (closing_turns (suc m) ss at_close) end_turns))))))
