-- How the grammar reads the texts of two numbers that ripple.
use Rattle.std.proofs.Common.{ℕ, suc, ◌+◌, List, [], ◌∷◌, length, Some, refl}
use Rattle.std.specs.Prelude.{codes}
use Rattle.revc_base.specs.declared.place.Place.{Place}
use Rattle.revs_grammar.specs.Forms.{body, BodyTree, name_of}
use Rattle.revs_grammar.specs.Productions.{in_front, assign_of, xor_of, and_of, apply_of, parts_of, block_of, program_of}
use Rattle.revs_grammar.specs.Sentences.{Symbol, Vals, at_start, few_levels, IsSentenceOf}
use Rattle.revs_terms.specs.declared.program.Param.{Param}
use Rattle.revs_terms.specs.declared.term.Name.{Name}
use Rattle.revs_terms.specs.Trees as t
use Rattle.revs_terms.specs.Trees.{Tree, trees}
use Rattle.built_texts.specs.Pieces.{Piece, toks_of}
use Rattle.built_texts.specs.Ways.{placed, shifted, Turns}
use Rattle.built_texts.proofs.PlaceLemmas.{lettered}
use Rattle.built_texts.proofs.WayLemmas.{turns, built_then, is_sentence}
use Rattle.arith_laws.proofs.Pieces.{text_end}
use Rattle.arith_laws.proofs.ProgramLemmas.{number_params}
use Rattle.arith_laws.proofs.RipplePieces.{from_sum}
use Rattle.arith_laws.proofs.RippleReadingLemmas.{f, chain_end, bit_at, bound, ItemTurns, Reads, inner_body, at_close, ripple_turns, open_turns}
use Rattle.arith_laws.proofs.RippleReadingLemmas.{nothing_behind, last_turns}
use Rattle.arith_laws.proofs.TwoNumberPieces.{TwoNumbers, header, first_sum, sum_line, carry_line, ripple, from_function, pieces, carry_function, sums_of}

-- ---- the lines

-- how the line of what goes out of place 0 is read in a body of level l
pub record ReadsLine (T : TwoNumbers) (l : ℕ) : Type 0 where
  pub first_value : (ℕ → Place) → Tree
  pub first_turns : (ss : List Symbol) → ItemTurns l ss T.first_line (bound (lettered 99 1) first_value)

module _ (T : TwoNumbers) where
  abbrev pub first_sum_term : (ℕ → Place) → Tree
  first_sum_term p = t.xors (trees (bit_at T.first 0 (p 3) (p 4) (p 6) ∷ bit_at T.second 0 (p 9) (p 10) (p 12) ∷ []))

  abbrev pub sum_term : ℕ → (ℕ → Place) → Tree
  sum_term i p = t.xors (trees (
      bit_at T.first i (p 3) (p 4) (p 6) ∷ bit_at T.second i (p 9) (p 10) (p 12) ∷ t.used (name_of (lettered 99 i) (p 15)) ∷ []))

  abbrev pub carry_term : ℕ → (ℕ → Place) → Tree
  carry_term i p = t.apply (t.used (name_of T.function_name (p 3))) (trees (
      bit_at T.first i (p 4) (p 5) (p 7) ∷ bit_at T.second i (p 9) (p 10) (p 12) ∷ t.used (name_of (lettered 99 i) (p 14)) ∷ []))

  pub first_sum_turns : (l : ℕ) (ss : List Symbol) → ItemTurns l ss (first_sum T) (bound (lettered T.letter 0) first_sum_term)
  first_sum_turns l ss p = turns (λ vs. (in_front (bound (lettered T.letter 0) first_sum_term p) vs.0, vs.1)) refl

  pub sum_turns : (i l : ℕ) (ss : List Symbol) → ItemTurns l ss (sum_line T i) (bound (lettered T.letter i) (sum_term i))
  sum_turns i l ss p = turns (λ vs. (in_front (bound (lettered T.letter i) (sum_term i) p) vs.0, vs.1)) refl

  pub carry_turns : (i l : ℕ) (ss : List Symbol) → ItemTurns l ss (carry_line T i) (bound (lettered 99 (i + 1)) (carry_term i))
  carry_turns i l ss p = turns (λ vs. (in_front (bound (lettered 99 (i + 1)) (carry_term i) p) vs.0, vs.1)) refl

  abbrev pub reads_lines : (l : ℕ) → ReadsLine T l → Reads (ripple T) l
  reads_lines l R = record {
    first_sum_term = first_sum_term;
    first_carry_term = R.first_value;
    sum_term = sum_term;
    carry_term = carry_term;
    first_sum_turns = first_sum_turns l;
    first_carry_turns = R.first_turns;
    sum_turns = λ i ss. sum_turns i l ss;
    carry_turns = λ i ss. carry_turns i l ss;
  }

-- ---- the function of what goes on

-- the names of its parameters
abbrev pub taken : (ℕ → Place) → List Name
taken p = name_of (codes "x") (p 2) ∷ name_of (codes "y") (p 3) ∷ name_of (codes "c") (p 4) ∷ []

abbrev pub function_item : List ℕ → ((ℕ → Place) → Tree) → (ℕ → Place) → t.ItemTree
function_item name inside p = t.bind (name_of name (p 1)) (t.function (taken p) (inside p) (p 2))

-- how the line of the function of this name is read
pub record ReadsFunction (name : List ℕ) (line : List Piece) : Type 0 where
  pub function_body : (ℕ → Place) → Tree
  pub function_turns : (ss : List Symbol) → ItemTurns 2 ss line (function_item name function_body)

-- ---- the whole text

-- the program of a body, with what may stand behind it
abbrev pub program_end : ℕ → (ℕ → Place) → Vals (f body 2 ∷ chain_end 1 []) → Vals at_start
program_end bits p vs = (
  program_of (record { name = name_of (codes "a") (p 2); width = Some bits }) (record { name = name_of (codes "b") (p 10); width = Some bits } ∷ [])
      (assign_of (xor_of (and_of (apply_of (parts_of (block_of (p 18) vs.0) vs.1.0) vs.1.1.0) vs.1.1.1.0) vs.1.1.1.1.0) vs.1.1.1.1.1.0),
  tt,
)

pub header_turns : (bits : ℕ) (p : ℕ → Place) → Turns at_start (placed p (toks_of (header bits))) (f body 2 ∷ chain_end 1 []) (program_end bits p)
header_turns bits p = turns (program_end bits p) refl

-- two numbers of so many bits
abbrev pub two_params : ℕ → (ℕ → Place) → List Param
two_params bits p = number_params bits (name_of (codes "a") (p 2)) (name_of (codes "b") (p 10))

module _ (T : TwoNumbers) (R : ReadsLine T 2) (line : List Piece) (G : ReadsFunction T.function_name line) (m : ℕ) (p : ℕ → Place) where
  -- the places behind the header and behind the function
  abbrev pub at_function : ℕ → Place
  at_function = shifted 19 p

  abbrev pub at_sum : ℕ → Place
  at_sum = shifted (length (toks_of line)) at_function

  abbrev pub two_inner : BodyTree
  two_inner = in_front (function_item T.function_name G.function_body at_function) (inner_body (ripple T) 2 (reads_lines T 2 R) m at_sum)

  abbrev pub two_body : Tree
  two_body = block_of (p 18) two_inner

  pub two_sentence : IsSentenceOf few_levels (placed p (toks_of (pieces T line m))) (two_params (suc m) p) two_body
  two_sentence =
      let ss = chain_end 1 [] in
      is_sentence (built_then (header (suc m)) (from_function T line m) p (header_turns (suc m) p)
      (built_then line (from_sum (ripple T) m text_end) at_function (G.function_turns ss at_function)
      (ripple_turns (ripple T) 2 (reads_lines T 2 R) m at_sum 3 ss [] (λ _. nothing_behind) text_end (open_turns ss)
      (last_turns (suc m) (at_close (ripple T) 2 (reads_lines T 2 R) m at_sum)))))

-- ---- sums

abbrev pub carry_body : (ℕ → Place) → Tree
carry_body p = t.xors (trees (
    t.ands (trees (t.used (name_of (codes "x") (p 7)) ∷ t.used (name_of (codes "y") (p 9)) ∷ []))
    ∷ t.ands (trees (t.used (name_of (codes "c") (p 13))
    ∷ t.xors (trees (t.used (name_of (codes "x") (p 16)) ∷ t.used (name_of (codes "y") (p 18)) ∷ [])) ∷ [])) ∷ []))

abbrev pub carry_reads : ReadsFunction (codes "carry") carry_function
carry_reads = record {
  function_body = carry_body;
  function_turns = λ ss p. turns (λ vs. (in_front (function_item (codes "carry") carry_body p) vs.0, vs.1)) refl;
}

-- the line of two numbers of any names, at any level
abbrev pub sums_read : (first second : List ℕ) (l : ℕ) → ReadsLine (sums_of first second) l
sums_read first second l = record {
  first_value = λ p. t.ands (trees (bit_at first 0 (p 3) (p 4) (p 6) ∷ bit_at second 0 (p 9) (p 10) (p 12) ∷ []));
  first_turns = λ ss p. turns (λ vs. (
    in_front (bound (lettered 99 1) (λ p. t.ands (trees (bit_at first 0 (p 3) (p 4) (p 6) ∷ bit_at second 0 (p 9) (p 10) (p 12) ∷ []))) p) vs.0,
    vs.1,
  )) refl;
}
