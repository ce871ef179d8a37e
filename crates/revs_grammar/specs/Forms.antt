-- What the lines of the grammar are made of: the forms, what each stands for, and the pieces of a
-- line.
use Rattle.std.specs.Prelude.{◌≡◌, ℕ, ◌+◌, ◌==◌, cond, Option, List, [], ◌∷◌, ◌⊎◌}
use Rattle.revc_base.specs.declared.place.Place.{Place}
use Rattle.revs_lexer.specs.declared.sign.Sign.{Sign}
use Rattle.revs_lexer.specs.declared.sign.Sign.TheVariants as signs
use Rattle.revs_lexer.specs.declared.word.Word.{Word}
use Rattle.revs_lexer.specs.declared.word.Word.TheVariants as words
use Rattle.revs_lexer.specs.declared.token.Tok.{Tok}
use Rattle.revs_lexer.specs.declared.token.Tok.TheVariants as toks
use Rattle.revs_lexer.specs.declared.token.Token.{Token}
use Rattle.revs_terms.specs.declared.term.Name.{Name}
use Rattle.revs_terms.specs.declared.term.Unit as u
use Rattle.revs_terms.specs.declared.term.Step.{Step}
use Rattle.revs_terms.specs.declared.term.Part.{Part}
use Rattle.revs_terms.specs.declared.program.Param.{Param}
use Rattle.revs_terms.specs.Trees.{Tree, ItemTree}
use Rattle.revs_terms.specs.Views.{ProgramView}
use Rattle.revs_grammar.specs.declared.profile.Profile.{Profile}
use Rattle.revs_grammar.specs.declared.profile.Profile.TheVariants as profiles

-- ---- tokens

-- What a line says of a token: any name, the number 2, any other number, this word, or this sign.
pub data Mark : Type 0 where
  any_name : Mark
  two : Mark
  other_number : Mark
  word : Word → Mark
  sign : Sign → Mark

-- a number as it stands in a text: its value and its place
pub record Numeral : Type 0 where
  pub value : ℕ
  pub at : Place

-- what a token stands for by itself
abbrev pub Held : Mark → Type 0
Held any_name = Name
Held two = Numeral
Held other_number = Numeral
Held (word w) = Place
Held (sign s) = Place

-- a number for each word and each sign
abbrev pub word_code : Word → ℕ
word_code words.Main = 0
word_code words.Let = 1
word_code words.Fun = 2
word_code words.Clean = 3
word_code words.Assert = 4
word_code words.Append = 5
word_code words.Rotate = 6
word_code words.Reg = 7
word_code words.True = 8
word_code words.False = 9
word_code words.Bool = 10
word_code words.For = 11
word_code words.In = 12
word_code words.Do = 13
word_code words.Revs = 14

abbrev pub sign_code : Sign → ℕ
sign_code signs.OpenRound = 0
sign_code signs.CloseRound = 1
sign_code signs.OpenSquare = 2
sign_code signs.CloseSquare = 3
sign_code signs.OpenCurly = 4
sign_code signs.CloseCurly = 5
sign_code signs.Colon = 6
sign_code signs.Semi = 7
sign_code signs.Equal = 8
sign_code signs.Xor = 9
sign_code signs.And = 10
sign_code signs.Assign = 11
sign_code signs.Arrow = 12
sign_code signs.Dot = 13
sign_code signs.DotDot = 14
sign_code signs.Plus = 15
sign_code signs.Minus = 16

-- The kind of a token as a number: all names are of one kind, and all numbers but 2, however it is
-- spelled.
abbrev pub code : Tok → ℕ
code toks.End = 0
code (toks.Name text) = 1
code (toks.Number n) = cond (n == 2) 35 2
code (toks.Word w) = 3 + word_code w
code (toks.Sign s) = 18 + sign_code s

abbrev pub mark_code : Mark → ℕ
mark_code any_name = 1
mark_code two = 35
mark_code other_number = 2
mark_code (word w) = 3 + word_code w
mark_code (sign s) = 18 + sign_code s

-- a name as it stands in a text, where no name is bound yet
abbrev pub name_of : List ℕ → Place → Name
name_of text at = record { text = text; at = at; back = 0 }

abbrev pub name_in : Tok → Place → Name
name_in (toks.Name text) at = name_of text at
name_in _ at = name_of [] at

abbrev pub number_in : Tok → ℕ
number_in (toks.Number n) = n
number_in _ = 0

abbrev pub numeral_in : Token → Numeral
numeral_in t = record { value = number_in t.tok; at = t.at }

-- what a token of the marked kind stands for
abbrev pub held : (m : Mark) → Token → Held m
held any_name t = name_in t.tok t.at
held two t = numeral_in t
held other_number t = numeral_in t
held (word w) t = t.at
held (sign s) t = t.at

-- ---- forms

-- What repeats or may be left out is a form of its own, and so is what is left of two lines that
-- begin alike.
pub data Kind : Type 0 where
  program : Kind
  parameter : Kind
  -- { param }
  parameters : Kind
  -- `)` or `[ number ] )`
  width : Kind
  -- { name }
  names : Kind
  -- a number token
  number : Kind
  -- number | name
  unit : Kind
  -- { + unit | - unit }
  units : Kind
  -- a number in profile 1, unit { + unit | - unit } in profile 2
  num : Kind
  expression : Kind
  -- [ <- sum ]
  assigned : Kind
  sum : Kind
  -- { <> product }
  sums : Kind
  product : Kind
  -- { && application }
  products : Kind
  application : Kind
  atom : Kind
  -- { atom }
  atoms : Kind
  part : Kind
  -- `]` or `.. num ]`
  part_end : Kind
  -- { part }
  parts : Kind
  base : Kind
  -- { ; expr }
  elements : Kind
  -- an item that is no expression
  item : Kind
  -- an item of a `for`
  loop_item : Kind
  -- { item } of a `for`
  loop_items : Kind
  -- { item } expr }
  body : Kind
  -- `; { item } expr }` or `}`
  body_end : Kind

-- the items of a block, and its last expression
pub record BodyTree : Type 0 where
  pub items : List ItemTree
  pub last : Tree

-- what a form of this kind stands for
abbrev pub KindVal : Kind → Type 0
KindVal program = ProgramView
KindVal parameter = Param
KindVal parameters = List Param
KindVal width = Option ℕ
KindVal names = List Name
KindVal number = Numeral
KindVal unit = u.Unit
KindVal units = List Step
KindVal num = List Step
KindVal assigned = Option Tree
KindVal sums = List Tree
KindVal products = List Tree
KindVal atoms = List Tree
KindVal part = Part
KindVal part_end = Option (List Step)
KindVal parts = List Part
KindVal elements = List Tree
KindVal item = ItemTree
KindVal loop_item = ItemTree
KindVal loop_items = List ItemTree
KindVal body = BodyTree
KindVal body_end = Option BodyTree
KindVal _ = Tree

-- A form is one of a kind, in a profile of the language.
pub record Form : Type 0 where
  pub kind : Kind
  pub profile : Profile

abbrev pub in_profile : Profile → Kind → Form
in_profile p k = record { kind = k; profile = p }

-- a form whose lines are the same in both profiles
abbrev pub common : Kind → Form
common k = in_profile profiles.One k

abbrev pub Val : Form → Type 0
Val f = KindVal f.kind

-- ---- lines

-- Where a form of a line stands: at the level of the line, a level further in, or where no level
-- counts.
pub data Depth : Type 0 where
  same : Depth
  inside : Depth
  outside : Depth

abbrev pub level : Depth → ℕ → ℕ
level same l = l
level inside l = l + 1
level outside l = 0

-- What stands in a line: tokens and forms.
pub data Piece : Type 0 where
  -- a token that is dropped, one that counts, and one that counts and opens a level
  one : Mark → Piece
  kept : Mark → Piece
  opening : Mark → Piece
  sub : Depth → Form → Piece

-- how a line puts together what its pieces stand for
abbrev pub Builds : Type 0 → List Piece → Type 0
Builds V [] = V
Builds V (one m ∷ ps) = Builds V ps
Builds V (kept m ∷ ps) = Held m → Builds V ps
Builds V (opening m ∷ ps) = Held m → Builds V ps
Builds V (sub d f ∷ ps) = Val f → Builds V ps

pub record Production (V : Type 0) : Type 0 where
  pub pieces : List Piece
  pub build : Builds V pieces

abbrev pub line : {V : Type 0} (pieces : List Piece) → Builds V pieces → Production V
line pieces build = record { pieces = pieces; build = build }

-- The line is one of these.
abbrev pub IsOneOf : {V : Type 0} → Production V → List (Production V) → Type 0
IsOneOf p [] = ⊥
IsOneOf p (q ∷ qs) = (p ≡ q) ⊎ IsOneOf p qs
