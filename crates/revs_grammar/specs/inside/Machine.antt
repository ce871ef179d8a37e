-- A deterministic machine that reads a sentence token by token, with a stack of what it expects,
-- computed from the lines of the grammar.
use Rattle.std.specs.Prelude.{ℕ, zero, suc, ◌+◌, ◌==◌, Bool, true, false, ◌&&◌, cond, Option, Some, None, List, [], ◌∷◌, ◌++◌, length}
use Rattle.revs_lexer.specs.declared.token.Tok.{Tok}
use Rattle.revs_lexer.specs.declared.token.Tok.TheVariants as toks
use Rattle.revs_lexer.specs.declared.token.Token.{Token}
use Rattle.revs_grammar.specs.Forms.{code, mark_code, Form, Depth, Piece, level, one, kept, opening, sub, Production}
use Rattle.revs_grammar.specs.Productions.{productions}
use Rattle.revs_grammar.specs.Sentences.{Symbol, token, kept_token, opening_token, form, symbols, any_level, few_levels}

abbrev pub Stack : Type 0
Stack = List Symbol

-- What is left of a form at a level behind its first token, and the level that the token opens, if
-- it opens one.
pub record Opening : Type 0 where
  pub opens : ℕ → Option ℕ
  pub rest : ℕ → Stack

abbrev pub first_some : {A : Type 0} → Option A → Option A → Option A
first_some (Some x) other = Some x
first_some None other = other

-- what is left of a line whose first form is left so
abbrev pub behind : Depth → List Piece → Option Opening → Option Opening
behind d ps None = None
behind d ps (Some o) = Some
    (record { opens = λ l. o.opens (level d l); rest = λ l. o.rest (level d l) ++ symbols l ps })

abbrev pub begun : (Form → Option Opening) → ℕ → List Piece → Option Opening
begun left c [] = None
begun left c (one m ∷ ps) =
    cond (c == mark_code m) (Some (record { opens = λ l. None; rest = λ l. symbols l ps })) None
begun left c (kept m ∷ ps) =
    cond (c == mark_code m) (Some (record { opens = λ l. None; rest = λ l. symbols l ps }))
    None
begun left c (opening m ∷ ps) = cond (c == mark_code m)
    (Some (record { opens = λ l. Some (l + 1); rest = λ l. symbols l ps })) None
begun left c (sub d f ∷ ps) = behind d ps (left f)

abbrev pub first_line : {V : Type 0} → (Form → Option Opening) → ℕ → List (Production V)
    → Option Opening
first_line left c [] = None
first_line left c (p ∷ ps) = first_some (begun left c p.pieces) (first_line left c ps)

-- what is left of a form behind a token of this kind, where forms stand in one another at most so
-- deep at the front
abbrev pub opened : ℕ → ℕ → Form → Option Opening
opened zero c f = None
opened (suc n) c f = first_line (opened n c) c (productions f)

abbrev pub table : ℕ → Form → Option Opening
table c f = opened 9 c f

-- whether a line is empty, and whether a form may be left out
abbrev pub is_empty : List Piece → Bool
is_empty [] = true
is_empty (p ∷ ps) = false

abbrev pub has_empty : {V : Type 0} → List (Production V) → Bool
has_empty [] = false
has_empty (p ∷ ps) = cond (is_empty p.pieces) true (has_empty ps)

abbrev pub is_optional : Form → Bool
is_optional f = has_empty (productions f)

-- the stack where the level that a token opens is allowed
abbrev pub at_level : (ℕ → Bool) → Option ℕ → Stack → Option Stack
at_level allowed None ss = Some ss
at_level allowed (Some l) ss = cond (allowed l) (Some ss) None

abbrev pub taken : (ℕ → Bool) → ℕ → Stack → Option Opening → Option Stack → Option Stack
taken allowed l ss None other = other
taken allowed l ss (Some o) other = at_level allowed (o.opens l) (o.rest l ++ ss)

-- One token: what the machine expects behind it, or none where it cannot stand there. An optional
-- form that the token does not begin is given up.
abbrev pub step : (ℕ → Bool) → ℕ → Stack → Option Stack
step allowed c [] = None
step allowed c (token m ∷ ss) = cond (c == mark_code m) (Some ss) None
step allowed c (kept_token m ∷ ss) = cond (c == mark_code m) (Some ss) None
step allowed c (opening_token m l ∷ ss) =
    cond (c == mark_code m) (at_level allowed (Some l) ss) None
step allowed c (form f l ∷ ss) =
    taken allowed l ss (table c f) (cond (is_optional f) (step allowed c ss) None)

-- whether nothing more has to come
abbrev pub is_done : Stack → Bool
is_done [] = true
is_done (form f l ∷ ss) = is_optional f && is_done ss
is_done _ = false

-- The machine after these tokens, or none.
abbrev pub run : (ℕ → Bool) → List Token → Stack → Option Stack
run allowed [] ss = Some ss
run allowed (t ∷ ts) ss =
    elim (step allowed (code t.tok) ss) [ None ↦ None | Some next ↦ run allowed ts next ]

-- How the reading of tokens ends: the list before `End` is read whole, or with so many tokens left.
pub data Outcome : Type 0 where
  accepted : Outcome
  no_syntax : ℕ → Outcome
  too_deep : ℕ → Outcome

abbrev pub is_end : Tok → Bool
is_end toks.End = true
is_end _ = false

-- the outcome at a token: the machine goes on, the levels pass the limit, or the token cannot stand
-- there
abbrev pub at_token : Option Stack → Option Stack → ℕ → (Stack → Outcome) → Outcome
at_token (Some next) other left go = go next
at_token None (Some next) left go = too_deep left
at_token None None left go = no_syntax left

-- how the reading of these tokens ends where the machine expects this
abbrev pub outcome : List Token → Stack → Outcome
outcome [] ss = no_syntax 0
outcome (t ∷ ts) ss =
    cond (is_end t.tok)
    (cond (is_done ss) accepted (no_syntax (length ts + 1)))
    (at_token (step few_levels (code t.tok) ss) (step any_level (code t.tok) ss) (length ts + 1)
    (outcome ts))
