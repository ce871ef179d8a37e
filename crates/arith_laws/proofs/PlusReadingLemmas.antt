-- How the grammar reads the function that adds two numbers.
use Rattle.std.proofs.Common.{ℕ, suc, List, [], ◌∷◌, ◌++◌, None, refl}
use Rattle.std.specs.Prelude.{codes}
use Rattle.revc_base.specs.declared.place.Place.{Place}
use Rattle.revs_grammar.specs.Forms.{body, expression, elements, BodyTree, name_of, sign}
use Rattle.revs_grammar.specs.Productions.{in_front, assign_of, xor_of, and_of, apply_of, parts_of, block_of, bound_of}
use Rattle.revs_grammar.specs.Sentences.{Symbol, Vals}
use Rattle.revs_grammar.specs.Sentences as symbols
use Rattle.revs_lexer.specs.declared.sign.Sign.TheVariants as signs
use Rattle.revs_terms.specs.Trees as t
use Rattle.revs_terms.specs.Trees.{Tree}
use Rattle.revs_terms.specs.declared.term.Name.{Name}
use Rattle.built_texts.specs.Pieces.{Piece, toks_of}
use Rattle.built_texts.specs.Ways.{placed, shifted, Turns}
use Rattle.built_texts.proofs.WayLemmas.{turns, built_then}
use Rattle.arith_laws.proofs.Pieces.{outputs_close}
use Rattle.arith_laws.proofs.RipplePieces.{from_sum}
use Rattle.arith_laws.proofs.RippleReadingLemmas.{f, chain_end, Reads, inner_body, at_close, in_register, last_output, OpenTurns, register_body, ripple_turns}
use Rattle.arith_laws.proofs.TwoNumberPieces.{ripple}
use Rattle.arith_laws.proofs.TwoNumberReadingLemmas.{reads_lines, sums_read}
use Rattle.arith_laws.proofs.ProductPieces.{plus, plus_open, plus_end}

abbrev pub plus_names : (ℕ → Place) → List Name
plus_names p = name_of (codes "p") (p 2) ∷ name_of (codes "q") (p 3) ∷ []

-- what is expected behind the block of a let
abbrev pub let_end : List Symbol → List Symbol
let_end ss = chain_end 2 (symbols.token (sign signs.Semi) ∷ f body 2 ∷ ss)

abbrev pub plus_front : (p : ℕ → Place) (ss : List Symbol) → Vals (f body 3 ∷ let_end ss) → Vals (f body 2 ∷ ss)
plus_front p ss vs = (
  in_front (t.bind (name_of (codes "plus") (p 1)) (bound_of (plus_names p)
      (assign_of (xor_of (and_of (apply_of (parts_of (block_of (p 5) vs.0) vs.1.0) vs.1.1.0) vs.1.1.1.0) vs.1.1.1.1.0) vs.1.1.1.1.1.0)))
      vs.1.1.1.1.1.1.0,
  vs.1.1.1.1.1.1.1,
)

plus_turns : (ss : List Symbol) (p : ℕ → Place) → Turns (f body 2 ∷ ss) (placed p (toks_of plus_open)) (f body 3 ∷ let_end ss) (plus_front p ss)
plus_turns ss p = turns (plus_front p ss) refl

open_turns : (ss : List Symbol) → OpenTurns 3 4 (let_end ss)
open_turns ss p = turns (register_body 3 4 (let_end ss) p) refl

close_turns : (bits : ℕ) (ss : List Symbol) (p : ℕ → Place)
    → Turns (f expression 4 ∷ f elements 4 ∷ in_register 3 (let_end ss)) (placed p (toks_of (outputs_close bits plus_end))) (f body 2 ∷ ss)
    (λ vs. last_output 3 4 (let_end ss) bits p ([], ([], ([], ([], (None, vs))))))
close_turns bits ss p = turns (λ vs. last_output 3 4 (let_end ss) bits p ([], ([], ([], ([], (None, vs)))))) refl

-- ---- the whole function

abbrev pub reads : Reads (ripple plus) 3
reads = reads_lines plus 3 (sums_read (codes "p") (codes "q") 3)

module _ (m : ℕ) (p : ℕ → Place) where
  -- the places behind the first line, behind the last output, and behind the function
  abbrev pub at_sum : ℕ → Place
  at_sum = shifted 6 p

  abbrev at_last : ℕ → Place
  at_last = at_close (ripple plus) 3 reads m at_sum

  abbrev pub at_behind : ℕ → Place
  at_behind = shifted 4 at_last

  abbrev pub plus_inner : BodyTree
  plus_inner = inner_body (ripple plus) 3 reads m at_sum

  abbrev pub plus_body : Tree
  plus_body = block_of (p 5) plus_inner

  abbrev pub plus_item : t.ItemTree
  plus_item = t.bind (name_of (codes "plus") (p 1)) (t.function (plus_names p) plus_body (p 2))

  pub plus_turn : (ss left : List Symbol) (g : Vals left → Vals (f body 2 ∷ ss)) (rest : List Piece)
      → Turns (f body 2 ∷ ss) (placed at_behind (toks_of rest)) left g
      → Turns (f body 2 ∷ ss) (placed p (toks_of (plus_open ++ from_sum (ripple plus) m (plus_end ++ rest)))) left
      (λ vs. (in_front plus_item (g vs).0, (g vs).1))
  plus_turn ss left g rest behind =
      built_then plus_open (from_sum (ripple plus) m (plus_end ++ rest)) p (plus_turns ss p)
      (ripple_turns (ripple plus) 3 reads m at_sum 4 (let_end ss) left (λ vs. ([], ([], ([], ([], (None, g vs)))))) (plus_end ++ rest) (open_turns ss)
      (built_then (outputs_close (suc m) plus_end) rest at_last (close_turns (suc m) ss at_last) behind))
