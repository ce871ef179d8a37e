-- Where tokens lead in the grammar, computed from its table: what is expected behind them, and how
-- what stands for that tells what stands for what was expected in front of them.
use Rattle.std.specs.Prelude.{◌≡◌, ℕ, zero, suc, ◌+◌, ◌==◌, Bool, true, false, ◌&&◌, Option, Some, None, IfSome, List, [], ◌∷◌, ◌++◌}
use Rattle.revc_base.specs.declared.place.Place.{Place}
use Rattle.revs_lexer.specs.declared.token.Tok.{Tok}
use Rattle.revs_lexer.specs.declared.token.Tok.TheVariants as toks
use Rattle.revs_lexer.specs.declared.token.Token.{Token}
use Rattle.revs_grammar.specs.declared.profile.Profile.{Profile}
use Rattle.revs_grammar.specs.Forms.{Mark, held, code, mark_code, numeral_in, Kind, number, Form, in_profile, Val, level, Piece, one, kept, opening, sub}
use Rattle.revs_grammar.specs.Forms.{Builds, Production}
use Rattle.revs_grammar.specs.Productions.{productions}
use Rattle.revs_grammar.specs.Sentences.{Symbol, token, kept_token, opening_token, form, symbols, Leads, Vals, front_of, behind_of, fill, value, few_levels}

-- ---- tokens by number

-- these tokens, each at the place of its number
abbrev pub placed : (ℕ → Place) → List Tok → List Token
placed p [] = []
placed p (t ∷ ts) = record { tok = t; at = p 0 } ∷ placed (λ k. p (suc k)) ts

-- the places of the tokens behind the first ones
abbrev pub shifted : ℕ → (ℕ → Place) → ℕ → Place
shifted zero p = p
shifted (suc n) p = shifted n (λ k. p (suc k))

-- ---- ways

-- what is expected behind tokens, and how it tells what was expected in front of them
pub record Way (ss : List Symbol) : Type 0 where
  pub left : List Symbol
  pub turn : Vals left → Vals ss

-- The tokens lead over no more than 100 levels from what is expected in front of them to what is
-- expected behind them, and turn what stands for the latter into what stands for the former.
pub record Turns (ss : List Symbol) (ts : List Token) (left : List Symbol)
    (turn : Vals left → Vals ss) : Type 0 where
  pub leads : Leads few_levels ss ts left
  pub turned : (vs : Vals left) → value leads vs ≡ turn vs

-- Whether a token that is no number is of the marked kind. A number is read by its form, which
-- takes all numbers alike.
abbrev pub is_of : Mark → Tok → Bool
is_of m (toks.Number n) = false
is_of m (toks.Name text) = code (toks.Name text) == mark_code m
is_of m (toks.Word w) = code (toks.Word w) == mark_code m
is_of m (toks.Sign s) = code (toks.Sign s) == mark_code m
is_of m toks.End = false

abbrev pub way_if : {ss : List Symbol} → Bool → Way ss → Option (Way ss)
way_if true w = Some w
way_if false w = None

module _ (t : Token) where
  -- a token that is expected: dropped, kept, or kept where its level is allowed
  abbrev pub dropped : (m : Mark) (ss : List Symbol) → Option (Way (token m ∷ ss))
  dropped m ss = way_if (is_of m t.tok) (record { left = ss; turn = λ vs. vs })

  abbrev pub kept_way : (m : Mark) (ss : List Symbol) → Option (Way (kept_token m ∷ ss))
  kept_way m ss = way_if (is_of m t.tok) (record { left = ss; turn = λ vs. (held m t, vs) })

  abbrev pub opened : (m : Mark) (l : ℕ) (ss : List Symbol) → Option (Way (opening_token m l ∷ ss))
  opened m l ss =
      way_if (is_of m t.tok && few_levels l) (record { left = ss; turn = λ vs. (held m t, vs) })

  -- a number
  abbrev pub numeral_way : Tok → (p : Profile) (l : ℕ) (ss : List Symbol)
      → Option (Way (form (in_profile p number) l ∷ ss))
  numeral_way (toks.Number n) p l ss = Some (record { left = ss; turn = λ vs. (numeral_in t, vs) })
  numeral_way (toks.Name text) p l ss = None
  numeral_way (toks.Word w) p l ss = None
  numeral_way (toks.Sign s) p l ss = None
  numeral_way toks.End p l ss = None

  -- the first piece of a line, where forms are entered so
  abbrev pub way_line : ((f : Form) (l : ℕ) (ss : List Symbol) → Option (Way (form f l ∷ ss)))
      → (l : ℕ) (ps : List Piece)
      (ss : List Symbol) → Option (Way (symbols l ps ++ ss))
  way_line into l [] ss = None
  way_line into l (one m ∷ ps) ss = dropped m (symbols l ps ++ ss)
  way_line into l (kept m ∷ ps) ss = kept_way m (symbols l ps ++ ss)
  way_line into l (opening m ∷ ps) ss = opened m (l + 1) (symbols l ps ++ ss)
  way_line into l (sub d f ∷ ps) ss = into f (level d l) (symbols l ps ++ ss)

  -- the first line of a form that the token begins
  abbrev pub way_lines : ((f : Form) (l : ℕ) (ss : List Symbol) → Option (Way (form f l ∷ ss)))
      → (f : Form) (l : ℕ) (ss : List Symbol)
      → List (Production (Val f)) → Option (Way (form f l ∷ ss))
  way_lines into f l ss [] = None
  way_lines into f l ss (p ∷ ps) = elim (way_line into l p.pieces ss) [
    | Some w ↦ Some (record {
      left = w.left;
      turn = λ vs. (
        fill l p.pieces p.build (front_of (symbols l p.pieces) ss (w.turn vs)),
        behind_of (symbols l p.pieces) ss
            (w.turn vs),
      );
    })
    | None ↦ way_lines into f l ss ps
  ]

  -- a form, where forms stand in one another at most so deep at the front
  abbrev pub way_form : ℕ → (k : Kind) (p : Profile) (l : ℕ) (ss : List Symbol)
      → Option (Way (form (in_profile p k) l ∷ ss))
  way_form zero k p l ss = None
  way_form (suc n) number p l ss = numeral_way t.tok p l ss
  way_form (suc n) k p l ss =
      way_lines (λ f l ss. way_form n f.kind f.profile l ss) (in_profile p k) l ss
      (productions (in_profile p k))

-- what a form stands for that is left out, where it may be
abbrev pub empty_line : {V : Type 0} (ps : List Piece) → Builds V ps → Option V
empty_line [] b = Some b
empty_line (p ∷ ps) b = None

abbrev pub left_out : {V : Type 0} → List (Production V) → Option V
left_out [] = None
left_out (p ∷ ps) = elim (empty_line p.pieces p.build) [ Some v ↦ Some v | None ↦ left_out ps ]

-- a token: a form that it does not begin is left out
abbrev pub way_one : Token → (ss : List Symbol) → Option (Way ss)
way_one t [] = None
way_one t (token m ∷ ss) = dropped t m ss
way_one t (kept_token m ∷ ss) = kept_way t m ss
way_one t (opening_token m l ∷ ss) = opened t m l ss
way_one t (form f l ∷ ss) = elim (way_form t 9 f.kind f.profile l ss) [
  | Some w ↦ Some w
  | None ↦ elim (left_out (productions f)) [
    | None ↦ None
    | Some v ↦ elim (way_one t ss) [
      | None ↦ None
      | Some w ↦ Some (record { left = w.left; turn = λ vs. (v, w.turn vs) })
    ]
  ]
]

-- tokens, one behind the other
abbrev pub way : List Token → (ss : List Symbol) → Option (Way ss)
way [] ss = Some (record { left = ss; turn = λ vs. vs })
way (t ∷ ts) ss = elim (way_one t ss) [
  | None ↦ None
  | Some w ↦ elim (way ts w.left) [
    | None ↦ None
    | Some v ↦ Some (record { left = v.left; turn = λ vs. w.turn (v.turn vs) })
  ]
]

-- the end, where all that is expected may be left out
abbrev pub way_end : (ss : List Symbol) → Option (Vals ss)
way_end [] = Some tt
way_end (form f l ∷ ss) = elim (left_out (productions f)) [
  | None ↦ None
  | Some v ↦ elim (way_end ss) [ None ↦ None | Some vs ↦ Some (v, vs) ]
]
way_end (token m ∷ ss) = None
way_end (kept_token m ∷ ss) = None
way_end (opening_token m l ∷ ss) = None

-- A way that is computed is one that the tokens lead, and so is the end.
abbrev pub WaysTurn : Type 0
WaysTurn =
    (ts : List Token) (ss : List Symbol) → IfSome (way ts ss) (λ w. Turns ss ts w.left w.turn)

abbrev pub EndsTurn : Type 0
EndsTurn = (ss : List Symbol) → IfSome (way_end ss) (λ vs. Turns ss [] [] (λ _. vs))
