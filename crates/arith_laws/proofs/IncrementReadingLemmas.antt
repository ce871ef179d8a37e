-- How the grammar reads the text of an incrementer.
use Rattle.std.proofs.Common.{ℕ, suc, ◌+◌, true, List, [], ◌∷◌, Some, refl}
use Rattle.std.specs.Prelude.{codes}
use Rattle.revc_base.specs.declared.place.Place.{Place}
use Rattle.revs_grammar.specs.Forms.{body, BodyTree, name_of}
use Rattle.revs_grammar.specs.Productions.{in_front, assign_of, xor_of, and_of, apply_of, parts_of, block_of, program_of}
use Rattle.revs_grammar.specs.Sentences.{Vals, at_start, few_levels, IsSentenceOf}
use Rattle.revs_terms.specs.declared.program.Param.{Param}
use Rattle.revs_terms.specs.Trees as t
use Rattle.revs_terms.specs.Trees.{Tree, trees}
use Rattle.built_texts.specs.Pieces.{toks_of}
use Rattle.built_texts.specs.Ways.{placed, shifted, Turns}
use Rattle.built_texts.proofs.PlaceLemmas.{lettered}
use Rattle.built_texts.proofs.WayLemmas.{turns, built_then, is_sentence}
use Rattle.arith_laws.proofs.Pieces.{text_end}
use Rattle.arith_laws.proofs.ProgramLemmas.{one_param}
use Rattle.arith_laws.proofs.RipplePieces.{from_sum}
use Rattle.arith_laws.proofs.RippleReadingLemmas.{f, chain_end, bit_at, bound, Reads, inner_body, at_close, ripple_turns, open_turns}
use Rattle.arith_laws.proofs.RippleReadingLemmas.{nothing_behind, last_turns}
use Rattle.arith_laws.proofs.IncrementPieces.{header, incrementer, pieces}

-- ---- terms

abbrev pub sum_term : ℕ → (ℕ → Place) → Tree
sum_term i p = t.xors (trees (bit_at (codes "a") i (p 3) (p 4) (p 6) ∷ t.used (name_of (lettered 99 i) (p 9)) ∷ []))

abbrev pub carry_term : ℕ → (ℕ → Place) → Tree
carry_term i p = t.ands (trees (bit_at (codes "a") i (p 3) (p 4) (p 6) ∷ t.used (name_of (lettered 99 i) (p 9)) ∷ []))

abbrev pub first_sum_term : (ℕ → Place) → Tree
first_sum_term p = t.xors (trees (t.bool true (p 3) ∷ bit_at (codes "a") 0 (p 5) (p 6) (p 8) ∷ []))

abbrev pub first_carry_term : (ℕ → Place) → Tree
first_carry_term p = bit_at (codes "a") 0 (p 3) (p 4) (p 6)

abbrev pub reads : Reads incrementer 2
reads = record {
  first_sum_term = first_sum_term;
  first_carry_term = first_carry_term;
  sum_term = sum_term;
  carry_term = carry_term;
  first_sum_turns = λ ss p. turns (λ vs. (in_front (bound (lettered 115 0) first_sum_term p) vs.0, vs.1)) refl;
  first_carry_turns = λ ss p. turns (λ vs. (in_front (bound (lettered 99 1) first_carry_term p) vs.0, vs.1)) refl;
  sum_turns = λ i ss p. turns (λ vs. (in_front (bound (lettered 115 i) (sum_term i) p) vs.0, vs.1)) refl;
  carry_turns = λ i ss p. turns (λ vs. (in_front (bound (lettered 99 (i + 1)) (carry_term i) p) vs.0, vs.1)) refl;
}

-- ---- the whole text

-- the program of a body, with what may stand behind it
abbrev pub program_end : ℕ → (ℕ → Place) → Vals (f body 2 ∷ chain_end 1 []) → Vals at_start
program_end bits p vs = (
  program_of (record { name = name_of (codes "a") (p 2); width = Some bits }) []
      (assign_of (xor_of (and_of (apply_of (parts_of (block_of (p 10) vs.0) vs.1.0) vs.1.1.0) vs.1.1.1.0) vs.1.1.1.1.0) vs.1.1.1.1.1.0),
  tt,
)

pub header_turns : (bits : ℕ) (p : ℕ → Place) → Turns at_start (placed p (toks_of (header bits))) (f body 2 ∷ chain_end 1 []) (program_end bits p)
header_turns bits p = turns (program_end bits p) refl

module _ (m : ℕ) (p : ℕ → Place) where
  -- the places behind the header
  abbrev pub at_sum : ℕ → Place
  at_sum = shifted 11 p

  abbrev pub whole_inner : BodyTree
  whole_inner = inner_body incrementer 2 reads m at_sum

  abbrev pub params : List Param
  params = one_param (suc m) (name_of (codes "a") (p 2))

  abbrev pub whole_body : Tree
  whole_body = block_of (p 10) whole_inner

  pub sentence : IsSentenceOf few_levels (placed p (toks_of (pieces m))) params whole_body
  sentence =
      let ss = chain_end 1 [] in
      is_sentence (built_then (header (suc m)) (from_sum incrementer m text_end) p (header_turns (suc m) p)
      (ripple_turns incrementer 2 reads m at_sum 3 ss [] (λ _. nothing_behind) text_end (open_turns ss)
      (last_turns (suc m) (at_close incrementer 2 reads m at_sum))))
