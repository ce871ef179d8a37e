-- The sentences of the grammar, and the programs that they spell.
use Rattle.std.specs.Prelude.{◌≡◌, ℕ, ◌+◌, leb, Bool, true, List, [], ◌∷◌, ◌++◌}
use Rattle.revs_terms.specs.declared.limits.TheConstants.{MOST_LEVELS}
use Rattle.revs_lexer.specs.declared.token.Token.{Token}
use Rattle.revs_terms.specs.declared.program.Param.{Param}
use Rattle.revs_terms.specs.Trees.{Tree}
use Rattle.revs_grammar.specs.Forms.{Mark, Held, held, code, mark_code, Form, common, Val, Piece, level, one, kept, opening, sub, Builds, Production, IsOneOf}
use Rattle.revs_grammar.specs.Forms as g
use Rattle.revs_grammar.specs.Productions.{productions}

-- What is expected at a place: a token, or a form at a level.
pub data Symbol : Type 0 where
  token : Mark → Symbol
  kept_token : Mark → Symbol
  -- a token that opens this level
  opening_token : Mark → ℕ → Symbol
  form : Form → ℕ → Symbol

-- the pieces of a line at a level
abbrev pub symbols : ℕ → List Piece → List Symbol
symbols l [] = []
symbols l (one m ∷ ps) = token m ∷ symbols l ps
symbols l (kept m ∷ ps) = kept_token m ∷ symbols l ps
symbols l (opening m ∷ ps) = opening_token m (l + 1) ∷ symbols l ps
symbols l (sub d f ∷ ps) = form f (level d l) ∷ symbols l ps

-- Reading these tokens leads from what is expected in front of them to what is expected behind
-- them, and each level that the tokens open is one of the allowed.
pub data Leads (allowed : ℕ → Bool) : List Symbol → List Token → List Symbol → Type 0 where
  done : {ss : List Symbol} → Leads allowed ss [] ss
  read : {m : Mark} {t : Token} {ss left : List Symbol} {ts : List Token} → code t.tok ≡ mark_code m
      → Leads allowed ss ts left → Leads allowed (token m ∷ ss) (t ∷ ts) left
  keep : {m : Mark} {t : Token} {ss left : List Symbol} {ts : List Token} → code t.tok ≡ mark_code m
      → Leads allowed ss ts left → Leads allowed (kept_token m ∷ ss) (t ∷ ts) left
  open_level : {m : Mark} {l : ℕ} {t : Token} {ss left : List Symbol} {ts : List Token}
      → code t.tok ≡ mark_code m
      → allowed l ≡ true
      → Leads allowed ss ts left → Leads allowed (opening_token m l ∷ ss) (t ∷ ts) left
  -- a form is read by one of its lines
  by_line : {f : Form} {l : ℕ} {ss left : List Symbol} {ts : List Token} (p : Production (Val f))
      → IsOneOf p (productions f)
      → Leads allowed (symbols l p.pieces ++ ss) ts left → Leads allowed (form f l ∷ ss) ts left

-- what these symbols stand for, one by one
abbrev pub Vals : List Symbol → Type 0
Vals [] = Unit {0}
Vals (token m ∷ ss) = Vals ss
Vals (kept_token m ∷ ss) = Held m × Vals ss
Vals (opening_token m l ∷ ss) = Held m × Vals ss
Vals (form f l ∷ ss) = Val f × Vals ss

-- what the first of two lists stands for, and the second
abbrev pub front_of : (ss ns : List Symbol) → Vals (ss ++ ns) → Vals ss
front_of [] ns vs = tt
front_of (token m ∷ ss) ns vs = front_of ss ns vs
front_of (kept_token m ∷ ss) ns vs = (vs.0, front_of ss ns vs.1)
front_of (opening_token m l ∷ ss) ns vs = (vs.0, front_of ss ns vs.1)
front_of (form f l ∷ ss) ns vs = (vs.0, front_of ss ns vs.1)

abbrev pub behind_of : (ss ns : List Symbol) → Vals (ss ++ ns) → Vals ns
behind_of [] ns vs = vs
behind_of (token m ∷ ss) ns vs = behind_of ss ns vs
behind_of (kept_token m ∷ ss) ns vs = behind_of ss ns vs.1
behind_of (opening_token m l ∷ ss) ns vs = behind_of ss ns vs.1
behind_of (form f l ∷ ss) ns vs = behind_of ss ns vs.1

-- what a line builds of what its pieces stand for
abbrev pub fill : {V : Type 0} (l : ℕ) (ps : List Piece) → Builds V ps → Vals (symbols l ps) → V
fill l [] b vs = b
fill l (one m ∷ ps) b vs = fill l ps b vs
fill l (kept m ∷ ps) b vs = fill l ps (b vs.0) vs.1
fill l (opening m ∷ ps) b vs = fill l ps (b vs.0) vs.1
fill l (sub d f ∷ ps) b vs = fill l ps (b vs.0) vs.1

-- What is expected in front of the tokens stands for this, where what is expected behind them
-- stands for that.
abbrev pub value : {allowed : ℕ → Bool} {ss : List Symbol} {ts : List Token} {left : List Symbol}
    → Leads allowed ss ts left → Vals left → Vals ss
value done vs = vs
value (read e d) vs = value d vs
value (keep {m = m} {t = t} e d) vs = (held m t, value d vs)
value (open_level {m = m} {t = t} e ok d) vs = (held m t, value d vs)
value (by_line {l = l} {ss = ss} p is d) vs = (
  fill l p.pieces p.build (front_of (symbols l p.pieces) ss (value d vs)),
  behind_of (symbols l p.pieces) ss
      (value d vs),
)

-- ---- sentences

-- what a whole program is expected by
abbrev pub at_start : List Symbol
at_start = form (common g.program) 0 ∷ []

-- any levels at all
abbrev pub any_level : ℕ → Bool
any_level _ = true

-- no level above 100
abbrev pub few_levels : ℕ → Bool
few_levels level = leb level MOST_LEVELS

-- The tokens are the sentence of a program with these parameters and this body, and the levels that
-- it opens are among the allowed.
pub record IsSentenceOf (allowed : ℕ → Bool) (ts : List Token) (params : List Param)
    (body : Tree) : Type 0 where
  pub reading : Leads allowed at_start ts []
  pub params_are : (value reading tt).0.params ≡ params
  pub body_is : (value reading tt).0.body ≡ body

-- The tokens are a sentence.
pub record IsSentence (ts : List Token) : Type 0 where
  pub params : List Param
  pub body : Tree
  pub spelled : IsSentenceOf any_level ts params body

-- Some sentence begins with these tokens.
pub record Begins (front : List Token) : Type 0 where
  pub rest : List Token
  pub sentence : IsSentence (front ++ rest)

-- Read from the start, these tokens open no level above 100.
pub record HasFewLevels (front : List Token) : Type 0 where
  pub left : List Symbol
  pub reading : Leads few_levels at_start front left

-- Some sentence begins with these tokens, and they open no level above 100.
pub record BeginsLow (front : List Token) : Type 0 where
  pub begins : Begins front
  pub few : HasFewLevels front

-- A list of tokens is the sentence of one program.
abbrev pub OneProgram : Type 0
OneProgram =
    (allowed others : ℕ → Bool) (ts : List Token) (params more : List Param) (body term : Tree)
    → IsSentenceOf allowed ts params body → IsSentenceOf others ts more term
    → (params ≡ more) × (body ≡ term)
