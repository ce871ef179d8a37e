-- How the grammar reads the lines of a ripple.
use Rattle.std.proofs.Common.{ℕ, zero, suc, ◌+◌, List, [], ◌∷◌, ◌++◌, length, None, refl, subst, append-nil}
use Rattle.revc_base.specs.declared.place.Place.{Place}
use Rattle.revs_grammar.specs.declared.profile.Profile.TheVariants as profiles
use Rattle.revs_grammar.specs.Forms.{Kind, body, body_end, expression, elements, parts, atoms, products, sums, assigned, in_profile, BodyTree, name_of, sign}
use Rattle.revs_grammar.specs.Productions.{in_front, assign_of, xor_of, and_of, apply_of, parts_of, body_of}
use Rattle.revs_grammar.specs.Sentences.{Symbol, form, Vals}
use Rattle.revs_grammar.specs.Sentences as symbols
use Rattle.revs_lexer.specs.declared.sign.Sign.TheVariants as signs
use Rattle.revs_lexer.specs.declared.token.Token.{Token}
use Rattle.revs_terms.specs.Trees as t
use Rattle.revs_terms.specs.Trees.{Tree, trees}
use Rattle.revs_terms.specs.declared.term.Part.TheVariants as part
use Rattle.built_texts.specs.Forms.{num}
use Rattle.built_texts.specs.Pieces.{Piece, toks_of}
use Rattle.built_texts.specs.Ways.{placed, shifted, Turns}
use Rattle.built_texts.proofs.PlaceLemmas.{lettered}
use Rattle.built_texts.proofs.WayLemmas.{turns, ended, turns-then, built_then}
use Rattle.arith_laws.proofs.Pieces.{outputs_open, bit_outputs, outputs_close, text_end}
use Rattle.arith_laws.proofs.RipplePieces.{Ripple, places, from_outputs, from_open, from_carry, from_sum}

-- a form of profile 1
abbrev pub f : Kind → ℕ → Symbol
f k l = form (in_profile profiles.One k) l

-- what may still stand behind a base at this level
abbrev pub chain_end : ℕ → List Symbol → List Symbol
chain_end l ss = f parts 0 ∷ f atoms l ∷ f products l ∷ f sums l ∷ f assigned l ∷ ss

abbrev pub bit_at : List ℕ → ℕ → Place → Place → Place → Tree
bit_at text i at dot number = t.parts (t.used (name_of text at)) (part.Index (num i number) dot ∷ [])

-- an item in front of what is left of a body
abbrev pub ItemTurns : ℕ → List Symbol → List Piece → ((ℕ → Place) → t.ItemTree) → Type 0
ItemTurns l ss ps item =
    (p : ℕ → Place) → Turns (f body l ∷ ss) (placed p (toks_of ps)) (f body l ∷ ss) (λ vs. (in_front (item p) vs.0, vs.1))

-- the line of a name that is bound to a term
abbrev pub bound : List ℕ → ((ℕ → Place) → Tree) → (ℕ → Place) → t.ItemTree
bound name term p = t.bind (name_of name (p 1)) (term p)

-- ---- the outputs

-- so many bits in front of the last output: the first expression, and the elements behind it
abbrev pub output_terms : (letter i count : ℕ) (p : ℕ → Place) → Tree × List Tree → Tree × List Tree
output_terms letter i zero p r = r
output_terms letter i (suc count) p r =
    let q = output_terms letter (i + 1) count (shifted 2 p) r in (t.used (name_of (lettered letter i) (p 0)), q.0 ∷ q.1)

module _ (letter k : ℕ) where
  -- a bit among the outputs, in front of what comes behind it
  abbrev pub output_front : (i : ℕ) (ss : List Symbol) (p : ℕ → Place) → Vals (f expression k ∷ f elements k ∷ ss) → Vals (f expression k ∷ f elements k ∷ ss)
  output_front i ss p vs = (t.used (name_of (lettered letter i) (p 0)), (vs.0 ∷ vs.1.0, vs.1.1))

  output_turns : (i : ℕ) (ss : List Symbol) (p : ℕ → Place)
      → Turns (f expression k ∷ f elements k ∷ ss) (placed p (toks_of (bit_outputs letter i 1))) (f expression k ∷ f elements k ∷ ss) (output_front i ss p)
  output_turns i ss p = turns (output_front i ss p) refl

  abbrev pub in_outputs : (i count : ℕ) (ss : List Symbol) (p : ℕ → Place) → Vals (f expression k ∷ f elements k ∷ ss)
      → Vals (f expression k ∷ f elements k ∷ ss)
  in_outputs i count ss p vs = let q = output_terms letter i count p (vs.0, vs.1.0) in (q.0, (q.1, vs.1.1))

  outputs_turn : (i count : ℕ) (ss : List Symbol) (p : ℕ → Place)
      → Turns (f expression k ∷ f elements k ∷ ss) (placed p (toks_of (bit_outputs letter i count))) (f expression k ∷ f elements k ∷ ss)
      (in_outputs i count ss p)
  outputs_turn i zero ss p = record { leads = symbols.done; turned = λ vs. refl }
  outputs_turn i (suc count) ss p =
      built_then (bit_outputs letter i 1) (bit_outputs letter (i + 1) count) p (output_turns i ss p) (outputs_turn (i + 1) count ss (shifted 2 p))

-- what is expected behind `reg [` in a body of level l; what stands in the brackets is of level k
abbrev pub in_register : ℕ → List Symbol → List Symbol
in_register l ss = symbols.token (sign signs.CloseSquare) ∷ chain_end l (f body_end l ∷ ss)

module _ (l k : ℕ) (ss : List Symbol) where
  abbrev pub register_body : (ℕ → Place) → Vals (f expression k ∷ f elements k ∷ in_register l ss) → Vals (f body l ∷ ss)
  register_body p vs = (
    body_of (assign_of (xor_of (and_of (apply_of (parts_of (t.reg (trees (vs.0 ∷ vs.1.0))
        (p 0)) vs.1.1.0) vs.1.1.1.0) vs.1.1.1.1.0) vs.1.1.1.1.1.0) vs.1.1.1.1.1.1.0)
        vs.1.1.1.1.1.1.1.0,
    vs.1.1.1.1.1.1.1.1,
  )

  abbrev pub last_output : ℕ → (ℕ → Place) → Vals ss → Vals (f expression k ∷ f elements k ∷ in_register l ss)
  last_output bits p vs = (t.used (name_of (lettered 99 bits) (p 0)), ([], ([], ([], ([], ([], (None, (None, vs))))))))

  -- `reg [` opens a register there
  abbrev pub OpenTurns : Type 0
  OpenTurns = (p : ℕ → Place) → Turns (f body l ∷ ss) (placed p (toks_of outputs_open)) (f expression k ∷ f elements k ∷ in_register l ss) (register_body p)

-- ---- the lines

-- how the lines of a ripple are read in a body of level l
pub record Reads (K : Ripple) (l : ℕ) : Type 0 where
  pub first_sum_term : (ℕ → Place) → Tree
  pub first_carry_term : (ℕ → Place) → Tree
  pub sum_term : ℕ → (ℕ → Place) → Tree
  pub carry_term : ℕ → (ℕ → Place) → Tree
  pub first_sum_turns : (ss : List Symbol) → ItemTurns l ss K.first_sum (bound (lettered K.letter 0) first_sum_term)
  pub first_carry_turns : (ss : List Symbol) → ItemTurns l ss K.first_carry (bound (lettered 99 1) first_carry_term)
  pub sum_turns : (i : ℕ) (ss : List Symbol) → ItemTurns l ss (K.sum_line i) (bound (lettered K.letter i) (sum_term i))
  pub carry_turns : (i : ℕ) (ss : List Symbol) → ItemTurns l ss (K.carry_line i) (bound (lettered 99 (i + 1)) (carry_term i))

module _ (K : Ripple) (l : ℕ) (R : Reads K l) where
  abbrev pub behind_sum : ℕ → (ℕ → Place) → ℕ → Place
  behind_sum i p = shifted (length (toks_of (K.sum_line i))) p

  abbrev pub behind_place : ℕ → (ℕ → Place) → ℕ → Place
  behind_place i p = shifted (length (toks_of (K.carry_line i))) (behind_sum i p)

  abbrev pub behind_places : ℕ → ℕ → (ℕ → Place) → ℕ → Place
  behind_places i zero p = p
  behind_places i (suc count) p = behind_places (i + 1) count (behind_place i p)

  -- so many places in front of a body
  abbrev pub in_places : ℕ → ℕ → (ℕ → Place) → BodyTree → BodyTree
  in_places i zero p rest = rest
  in_places i (suc count) p rest =
      in_front (bound (lettered K.letter i) (R.sum_term i) p) (in_front (bound (lettered 99 (i + 1)) (R.carry_term i) (behind_sum i p))
      (in_places (i + 1) count (behind_place i p) rest))

  places_turn : (i count : ℕ) (ss left : List Symbol) (h : Vals left → Vals (f body l ∷ ss)) (ps : List Piece) (p : ℕ → Place)
      → Turns (f body l ∷ ss) (placed (behind_places i count p) (toks_of ps)) left h
      → Turns (f body l ∷ ss) (placed p (toks_of (places K i count ps))) left (λ vs. (in_places i count p (h vs).0, (h vs).1))
  places_turn i zero ss left h ps p turn = turn
  places_turn i (suc count) ss left h ps p turn =
      let behind = places K (i + 1) count ps in
      built_then (K.sum_line i) (K.carry_line i ++ behind) p (R.sum_turns i ss p)
      (built_then (K.carry_line i) behind (behind_sum i p) (R.carry_turns i ss (behind_sum i p))
      (places_turn (i + 1) count ss left h ps (behind_place i p) turn))

  module _ (m : ℕ) (p : ℕ → Place) where
    -- the places behind each line, for numbers of one bit more than this
    abbrev pub at_carry : ℕ → Place
    at_carry = shifted (length (toks_of K.first_sum)) p

    abbrev pub at_places : ℕ → Place
    at_places = shifted (length (toks_of K.first_carry)) at_carry

    abbrev pub at_open : ℕ → Place
    at_open = behind_places 1 m at_places

    abbrev pub at_outputs : ℕ → Place
    at_outputs = shifted 2 at_open

    abbrev pub at_close : ℕ → Place
    at_close = shifted (length (toks_of (bit_outputs K.letter 0 (suc m)))) at_outputs

    -- the elements of the last register, what is left of the body there, and the whole body
    abbrev pub all_outputs : Tree × List Tree
    all_outputs = output_terms K.letter 0 (suc m) at_outputs (t.used (name_of (lettered 99 (suc m)) (at_close 0)), [])

    abbrev pub last_body : BodyTree
    last_body = record { items = []; last = t.reg (trees (all_outputs.0 ∷ all_outputs.1)) (at_open 0) }

    abbrev pub inner_body : BodyTree
    inner_body = in_front (bound (lettered K.letter 0) R.first_sum_term p) (in_front (bound (lettered 99 1) R.first_carry_term at_carry)
        (in_places 1 m at_places last_body))

    pub ripple_turns : (k : ℕ) (ss left : List Symbol) (g : Vals left → Vals ss) (ps : List Piece) → OpenTurns l k ss
        → Turns (f expression k ∷ f elements k ∷ in_register l ss) (placed at_close (toks_of (outputs_close (suc m) ps))) left
        (λ vs. last_output l k ss (suc m) at_close (g vs))
        → Turns (f body l ∷ ss) (placed p (toks_of (from_sum K m ps))) left (λ vs. (inner_body, g vs))
    ripple_turns k ss left g ps opens closes =
        built_then K.first_sum (from_carry K m ps) p (R.first_sum_turns ss p)
        (built_then K.first_carry (places K 1 m (from_open K m ps)) at_carry (R.first_carry_turns ss at_carry)
        (places_turn 1 m ss left (λ vs. (last_body, g vs)) (from_open K m ps) at_places
        (built_then outputs_open (from_outputs K m ps) at_open (opens at_open)
        (built_then (bit_outputs K.letter 0 (suc m)) (outputs_close (suc m) ps) at_outputs
        (outputs_turn K.letter k 0 (suc m) (in_register l ss) at_outputs) closes))))

-- ---- the end of a text

abbrev pub nothing_behind : Vals (chain_end 1 [])
nothing_behind = ([], ([], ([], ([], (None, tt)))))

pub end_turns : Turns (chain_end 1 []) [] [] (λ _. nothing_behind)
end_turns = ended nothing_behind refl

pub open_turns : (ss : List Symbol) → OpenTurns 2 3 ss
open_turns ss p = turns (register_body 2 3 ss p) refl

close_turns : (bits : ℕ) (ss : List Symbol) (p : ℕ → Place)
    → Turns (f expression 3 ∷ f elements 3 ∷ in_register 2 ss) (placed p (toks_of (outputs_close bits text_end))) ss (last_output 2 3 ss bits p)
close_turns bits ss p = turns (last_output 2 3 ss bits p) refl

pub last_turns : (bits : ℕ) (p : ℕ → Place)
    → Turns (f expression 3 ∷ f elements 3 ∷ in_register 2 (chain_end 1 [])) (placed p (toks_of (outputs_close bits text_end))) []
    (λ _. last_output 2 3 (chain_end 1 []) bits p nothing_behind)
last_turns bits p =
    subst (λ (ts : List Token). Turns (f expression 3 ∷ f elements 3 ∷ in_register 2 (chain_end 1 [])) ts []
    (λ _. last_output 2 3 (chain_end 1 []) bits p nothing_behind)) (append-nil (placed p (toks_of (outputs_close bits text_end))))
    (turns-then (close_turns bits (chain_end 1 []) p) end_turns)
