-- How the grammar reads the text of a multiplier.
use Rattle.std.proofs.Common.{ℕ, zero, suc, ◌+◌, Bool, true, false, List, [], ◌∷◌, length, None, refl, subst, append-nil}
use Rattle.std.specs.Prelude.{codes}
use Rattle.revc_base.specs.declared.place.Place.{Place}
use Rattle.revs_grammar.specs.Forms.{body, expression, elements, BodyTree, name_of, sign}
use Rattle.revs_grammar.specs.Productions.{in_front, assign_of, xor_of, and_of, apply_of, parts_of, block_of}
use Rattle.revs_grammar.specs.Sentences.{Symbol, Vals, at_start, few_levels, IsSentenceOf}
use Rattle.revs_grammar.specs.Sentences as symbols
use Rattle.revs_lexer.specs.declared.sign.Sign.TheVariants as signs
use Rattle.revs_lexer.specs.declared.token.Token.{Token}
use Rattle.revs_terms.specs.declared.program.Param.{Param}
use Rattle.revs_terms.specs.Trees as t
use Rattle.revs_terms.specs.Trees.{Tree, trees}
use Rattle.revs_terms.specs.declared.term.Part.TheVariants as part
use Rattle.built_texts.specs.Forms.{num}
use Rattle.built_texts.specs.Pieces.{toks_of}
use Rattle.built_texts.specs.Ways.{placed, shifted, Turns}
use Rattle.built_texts.proofs.PlaceLemmas.{lettered}
use Rattle.built_texts.proofs.WayLemmas.{turns, turns-then, built_then, is_sentence}
use Rattle.arith_laws.proofs.ProgramLemmas.{one_param}
use Rattle.arith_laws.proofs.RippleReadingLemmas.{f, chain_end, ItemTurns, nothing_behind, end_turns}
use Rattle.arith_laws.proofs.TwoNumberPieces.{carry_function}
use Rattle.arith_laws.proofs.TwoNumberReadingLemmas.{function_item, carry_body, carry_reads}
use Rattle.arith_laws.proofs.IncrementPieces.{header}
use Rattle.arith_laws.proofs.IncrementReadingLemmas.{header_turns}
use Rattle.arith_laws.proofs.ProductPieces.{zero_open, zero_bits, zero_close, digit_line, digit_lines, product_end}
use Rattle.arith_laws.proofs.ProductPieces.{from_digits, from_last_zero, from_zeros, from_zero, from_plus, from_function, pieces}
use Rattle.arith_laws.proofs.PlusReadingLemmas.{let_end, plus_item, at_behind, plus_turn}

-- ---- the number 0

-- what is expected behind `reg [` in a let
abbrev pub in_let : List Symbol → List Symbol
in_let ss = symbols.token (sign signs.CloseSquare) ∷ let_end ss

abbrev pub zero_front : (p : ℕ → Place) (ss : List Symbol) → Vals (f expression 3 ∷ f elements 3 ∷ in_let ss) → Vals (f body 2 ∷ ss)
zero_front p ss vs = (
  in_front (t.bind (name_of (lettered 114 0) (p 1))
      (assign_of (xor_of (and_of (apply_of (parts_of (t.reg (trees (vs.0 ∷ vs.1.0))
      (p 3)) vs.1.1.0) vs.1.1.1.0) vs.1.1.1.1.0) vs.1.1.1.1.1.0) vs.1.1.1.1.1.1.0))
      vs.1.1.1.1.1.1.1.0,
  vs.1.1.1.1.1.1.1.1,
)

zero_turns : (ss : List Symbol) (p : ℕ → Place)
    → Turns (f body 2 ∷ ss) (placed p (toks_of zero_open)) (f expression 3 ∷ f elements 3 ∷ in_let ss) (zero_front p ss)
zero_turns ss p = turns (zero_front p ss) refl

abbrev pub false_front : (ss : List Symbol) (p : ℕ → Place) → Vals (f expression 3 ∷ f elements 3 ∷ ss) → Vals (f expression 3 ∷ f elements 3 ∷ ss)
false_front ss p vs = (t.bool false (p 0), (vs.0 ∷ vs.1.0, vs.1.1))

false_turns : (ss : List Symbol) (p : ℕ → Place)
    → Turns (f expression 3 ∷ f elements 3 ∷ ss) (placed p (toks_of (zero_bits 1))) (f expression 3 ∷ f elements 3 ∷ ss) (false_front ss p)
false_turns ss p = turns (false_front ss p) refl

-- so many zeros in front of the last: the first expression, and the elements behind it
abbrev pub zero_terms : (count : ℕ) (p : ℕ → Place) → Tree × List Tree → Tree × List Tree
zero_terms zero p r = r
zero_terms (suc count) p r = let q = zero_terms count (shifted 2 p) r in (t.bool false (p 0), q.0 ∷ q.1)

abbrev pub in_zeros : (count : ℕ) (ss : List Symbol) (p : ℕ → Place) → Vals (f expression 3 ∷ f elements 3 ∷ ss)
    → Vals (f expression 3 ∷ f elements 3 ∷ ss)
in_zeros count ss p vs = let q = zero_terms count p (vs.0, vs.1.0) in (q.0, (q.1, vs.1.1))

zeros_turn : (count : ℕ) (ss : List Symbol) (p : ℕ → Place)
    → Turns (f expression 3 ∷ f elements 3 ∷ ss) (placed p (toks_of (zero_bits count))) (f expression 3 ∷ f elements 3 ∷ ss) (in_zeros count ss p)
zeros_turn zero ss p = record { leads = symbols.done; turned = λ vs. refl }
zeros_turn (suc count) ss p = built_then (zero_bits 1) (zero_bits count) p (false_turns ss p) (zeros_turn count ss (shifted 2 p))

abbrev pub last_zero : (ss : List Symbol) (p : ℕ → Place) → Vals (f body 2 ∷ ss) → Vals (f expression 3 ∷ f elements 3 ∷ in_let ss)
last_zero ss p vs = (t.bool false (p 0), ([], ([], ([], ([], ([], (None, vs)))))))

zero_close_turns : (ss : List Symbol) (p : ℕ → Place)
    → Turns (f expression 3 ∷ f elements 3 ∷ in_let ss) (placed p (toks_of zero_close)) (f body 2 ∷ ss) (last_zero ss p)
zero_close_turns ss p = turns (last_zero ss p) refl

-- ---- the digits

abbrev pub shift_term : ℕ → (ℕ → Place) → Tree
shift_term k p = t.append (t.used (name_of (lettered 114 k) (p 4))) (t.reg (trees (t.bool false (p 7) ∷ [])) (p 5)) (p 3)

abbrev pub first_add_term : (ℕ → Place) → Tree
first_add_term p = t.apply (t.used (name_of (codes "plus") (p 3))) (trees (t.used (name_of (lettered 114 0) (p 4)) ∷ t.used (name_of (codes "a") (p 5)) ∷ []))

abbrev pub add_term : ℕ → ℕ → (ℕ → Place) → Tree
add_term n k p =
    t.append (t.parts (t.used (name_of (lettered 114 (k + 1)) (p 4))) (part.Slice (num 0 (p 7)) (num k (p 9)) (p 5) ∷ []))
    (t.apply (t.used (name_of (codes "plus") (p 12))) (trees (
    t.parts (t.used (name_of (lettered 114 (k + 1)) (p 13))) (part.Slice (num (k + 1) (p 16)) (num (n + k) (p 18)) (p 14) ∷ [])
    ∷ t.used (name_of (codes "a") (p 20)) ∷ []))) (p 3)

abbrev pub digit_item : ℕ → ℕ → Bool → (ℕ → Place) → t.ItemTree
digit_item n k false p = t.bind (name_of (lettered 114 (k + 1)) (p 1)) (shift_term k p)
digit_item n zero true p = t.bind (name_of (lettered 114 1) (p 1)) (first_add_term p)
digit_item n (suc k) true p = t.bind (name_of (lettered 114 (k + 2)) (p 1)) (add_term n k p)

digit_turns : (n k : ℕ) (d : Bool) (ss : List Symbol) → ItemTurns 2 ss (digit_line n k d) (digit_item n k d)
digit_turns n k false ss p = turns (λ vs. (in_front (digit_item n k false p) vs.0, vs.1)) refl
digit_turns n zero true ss p = turns (λ vs. (in_front (digit_item n zero true p) vs.0, vs.1)) refl
digit_turns n (suc k) true ss p = turns (λ vs. (in_front (digit_item n (suc k) true p) vs.0, vs.1)) refl

-- the items of digits in front of a body
abbrev pub in_digits : ℕ → ℕ → List Bool → (ℕ → Place) → BodyTree → BodyTree
in_digits n k [] p rest = rest
in_digits n k (d ∷ ds) p rest = in_front (digit_item n k d p) (in_digits n (k + 1) ds (shifted (length (toks_of (digit_line n k d))) p) rest)

digits_turn : (n k : ℕ) (ds : List Bool) (ss : List Symbol) (p : ℕ → Place)
    → Turns (f body 2 ∷ ss) (placed p (toks_of (digit_lines n k ds))) (f body 2 ∷ ss) (λ vs. (in_digits n k ds p vs.0, vs.1))
digits_turn n k [] ss p = record { leads = symbols.done; turned = λ vs. refl }
digits_turn n k (d ∷ ds) ss p =
    built_then (digit_line n k d) (digit_lines n (k + 1) ds) p (digit_turns n k d ss p)
    (digits_turn n (k + 1) ds ss (shifted (length (toks_of (digit_line n k d))) p))

-- ---- the end, and the whole text

abbrev pub last_of : (count : ℕ) (ss : List Symbol) (p : ℕ → Place) → Vals ss → Vals (f body 2 ∷ ss)
last_of count ss p vs = (record { items = []; last = t.used (name_of (lettered 114 count) (p 0)) }, vs)

product_turns : (count : ℕ) (ss : List Symbol) (p : ℕ → Place) → Turns (f body 2 ∷ ss) (placed p (toks_of (product_end count))) ss (last_of count ss p)
product_turns count ss p = turns (last_of count ss p) refl

module _ (m : ℕ) (ds : List Bool) (p : ℕ → Place) where
  abbrev pub at_function : ℕ → Place
  at_function = shifted 11 p

  abbrev pub at_plus : ℕ → Place
  at_plus = shifted 22 at_function

  abbrev pub at_zero : ℕ → Place
  at_zero = at_behind m at_plus

  abbrev pub at_zeros : ℕ → Place
  at_zeros = shifted 5 at_zero

  abbrev pub at_last_zero : ℕ → Place
  at_last_zero = shifted (length (toks_of (zero_bits m))) at_zeros

  abbrev pub at_digits : ℕ → Place
  at_digits = shifted 3 at_last_zero

  abbrev pub at_end : ℕ → Place
  at_end = shifted (length (toks_of (digit_lines (suc m) 0 ds))) at_digits

  abbrev pub all_zeros : Tree × List Tree
  all_zeros = zero_terms m at_zeros (t.bool false (at_last_zero 0), [])

  abbrev pub zero_item : t.ItemTree
  zero_item = t.bind (name_of (lettered 114 0) (at_zero 1)) (t.reg (trees (all_zeros.0 ∷ all_zeros.1)) (at_zero 3))

  abbrev pub last_body : BodyTree
  last_body = record { items = []; last = t.used (name_of (lettered 114 (length ds)) (at_end 0)) }

  abbrev pub inner_body : BodyTree
  inner_body = in_front (function_item (codes "carry") carry_body at_function) (in_front (plus_item m at_plus) (in_front zero_item
      (in_digits (suc m) 0 ds at_digits last_body)))

  abbrev pub params : List Param
  params = one_param (suc m) (name_of (codes "a") (p 2))

  abbrev pub whole_body : Tree
  whole_body = block_of (p 10) inner_body

  pub sentence : IsSentenceOf few_levels (placed p (toks_of (pieces m ds))) params whole_body
  sentence =
      let ss = chain_end 1 [] in
      is_sentence (built_then (header (suc m)) (from_function m ds) p (header_turns (suc m) p)
      (built_then carry_function (from_plus m ds) at_function (carry_reads.function_turns ss at_function)
      (plus_turn m at_plus ss [] (λ _. (in_front zero_item (in_digits (suc m) 0 ds at_digits last_body), nothing_behind)) (from_zero m ds)
      (built_then zero_open (from_zeros m ds) at_zero (zero_turns ss at_zero)
      (built_then (zero_bits m) (from_last_zero m ds) at_zeros (zeros_turn m (in_let ss) at_zeros)
      (built_then zero_close (from_digits m ds) at_last_zero (zero_close_turns ss at_last_zero)
      (built_then (digit_lines (suc m) 0 ds) (product_end (length ds)) at_digits (digits_turn (suc m) 0 ds ss at_digits)
      (subst (λ (ts : List Token). Turns (f body 2 ∷ ss) ts [] (λ _. last_of (length ds) ss at_end nothing_behind))
      (append-nil (placed at_end (toks_of (product_end (length ds)))))
      (turns-then (product_turns (length ds) ss at_end) end_turns)))))))))
