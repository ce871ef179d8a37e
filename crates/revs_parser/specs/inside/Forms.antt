-- What the functions read that are no form of the grammar by themselves.
use Rattle.std.specs.Prelude.{◌≡◌, ℕ, ◌+◌, ◌<◌, Bool, true, false, Option, Some, None, List, [], ◌∷◌, ◌++◌, length, take, drop, Result, MatchResult}
use Rattle.revc_base.specs.declared.place.Place.{Place}
use Rattle.revs_lexer.specs.declared.sign.Sign.{Sign}
use Rattle.revs_lexer.specs.declared.sign.Sign.TheVariants as signs
use Rattle.revs_lexer.specs.declared.word.Word.TheVariants as words
use Rattle.revs_lexer.specs.declared.token.Tok.{Tok}
use Rattle.revs_lexer.specs.declared.token.Tok.TheVariants as toks
use Rattle.revs_lexer.specs.declared.token.Token.{Token}
use Rattle.revs_lexer.specs.declared.packed.Rest.{Rest}
use Rattle.revs_lexer.specs.Rest.{left}
use Rattle.revs_grammar.specs.declared.profile.Profile.{Profile}
use Rattle.revs_grammar.specs.declared.profile.Profile.TheVariants as profiles
use Rattle.revs_grammar.specs.Forms.{Mark, sign, word, BodyTree, Kind, KindVal, in_profile, common}
use Rattle.revs_grammar.specs.Forms as g
use Rattle.revs_grammar.specs.Productions.{apply_of, bound_of, index_of, in_front, program_of, function_line, append_line, apply_line}
use Rattle.revs_grammar.specs.Productions.{part_line, register_line, let_line, for_line}
use Rattle.revs_grammar.specs.Sentences.{token, kept_token, opening_token, form}
use Rattle.revs_grammar.specs.Faults.{IsSyntax, IsNesting}
use Rattle.revs_grammar.specs.inside.Machine.{Stack}
use Rattle.revs_terms.specs.Trees.{Tree, ItemTree, trees, item_trees, reg, block, function, append}
use Rattle.revs_terms.specs.Trees.{rotate, clean, assert, assign, ands, xors, loop, bind, run}
use Rattle.revs_terms.specs.Trees.{tree_of, item_tree_of}
use Rattle.revs_terms.specs.declared.term.Name.{Name}
use Rattle.revs_terms.specs.declared.term.Step.{Step}
use Rattle.revs_terms.specs.declared.term.Part.{Part}
use Rattle.revs_terms.specs.declared.program.Param.{Param}
use Rattle.revs_parser.specs.declared.stop.Stop.{Stop}
use Rattle.revs_parser.specs.declared.stop.Stop.TheVariants as stops
use Rattle.revs_parser.specs.declared.expression.Reader.{Reader}
use Rattle.revs_parser.specs.declared.expression.Infix.{Infix}
use Rattle.revs_parser.specs.declared.expression.Infix.TheVariants as infixes
use Rattle.revs_parser.specs.declared.expression.Piece.{Piece}
use Rattle.revs_parser.specs.declared.expression.Piece.TheVariants as pieces
use Rattle.revs_parser.specs.declared.leaf.Fixed.{Fixed}
use Rattle.revs_parser.specs.declared.leaf.Fixed.TheVariants as fixed
use Rattle.revs_parser.specs.declared.front.Operator.{Operator}
use Rattle.revs_parser.specs.declared.front.Operator.TheVariants as operators
use Rattle.revs_parser.specs.declared.front.Opener.{Opener}
use Rattle.revs_parser.specs.declared.front.Opener.TheVariants as openers
use Rattle.revs_parser.specs.inside.Reading.{Passes, Reads, Skips, ReadsForm, GivesForm, Halts}
use Rattle.revs_parser.specs.inside.Reading.{ReadsAnywhere, Heads, NotFirst}

-- a sign or a word as a token, and as a mark of the grammar
abbrev pub fixed_tok : Fixed → Tok
fixed_tok (fixed.Sign s) = toks.Sign s
fixed_tok (fixed.Word w) = toks.Word w

abbrev pub fixed_mark : Fixed → Mark
fixed_mark (fixed.Sign s) = sign s
fixed_mark (fixed.Word w) = word w

-- the pieces of a line, where the forms of which a level counts stand at this one
abbrev pub at_level : ℕ → List g.Piece → Stack
at_level level [] = []
at_level level (g.one m ∷ ps) = token m ∷ at_level level ps
at_level level (g.kept m ∷ ps) = kept_token m ∷ at_level level ps
at_level level (g.opening m ∷ ps) = opening_token m level ∷ at_level level ps
at_level level (g.sub g.outside f ∷ ps) = form f 0 ∷ at_level level ps
at_level level (g.sub d f ∷ ps) = form f level ∷ at_level level ps

-- those behind the first
abbrev pub behind_first : ℕ → List g.Piece → Stack
behind_first level [] = []
behind_first level (p ∷ ps) = at_level level ps

-- A form of this kind is read as the reader goes by, or the machine halts there.
abbrev pub GivesAt : {T : Type 0} (k : Kind) (reader : Reader) → (T → KindVal k) → Rest
    → Result (T × Rest) Stop → Type 0
GivesAt k reader seen tokens result =
    GivesForm (in_profile reader.profile k) reader.level seen tokens result

-- what is expected of the names behind a first one, and of the sign that ends them
abbrev pub names_rest : Sign → Stack
names_rest end = form (common g.names) 0 ∷ token (sign end) ∷ []

-- { name } was read up to a sign, and the names were put behind those before.
pub record ReadsNames (before all : List Name) (end : Sign) (ts rest : List Token) : Type 0 where
  pub more : List Name
  pub all_names : all ≡ before ++ more
  pub reads : Reads (names_rest end) (more, tt) ts rest

-- what is expected of a part behind its dot
abbrev pub in_part : Profile → Stack
in_part p = behind_first 0 (part_line p).pieces

-- what is expected of parts
abbrev pub in_parts : Profile → Stack
in_parts p = form (in_profile p g.parts) 0 ∷ []

-- A part was read, behind its dot at this place.
pub record ReadsPart (p : Profile) (at : Place) (part : Part) (ts rest : List Token) : Type 0 where
  pub first : List Step
  pub last : Option (List Step)
  pub is : part ≡ index_of at first last
  pub reads : Reads (in_part p) (first, (last, tt)) ts rest

-- No part stands behind what was read.
abbrev pub NoPartBehind : {T : Type 0} → Result (T × Rest) Stop → Type 0
NoPartBehind read =
    MatchResult read (λ found. NotFirst (toks.Sign signs.Dot) (left found.1)) (λ stop. Unit {0})

-- what is expected of a function behind its `fun`
abbrev pub in_function : Profile → ℕ → Stack
in_function p level = behind_first level (function_line p).pieces

-- what is expected of a function behind its `fun` and before its body
abbrev pub in_function_names : Stack
in_function_names = take 3 (in_function profiles.One 0)

-- The names of a function were read behind `fun`, and its arrow.
pub record ReadsFunctionNames (all : List Name) (ts rest : List Token) : Type 0 where
  pub first : Name
  pub more : List Name
  pub all_names : all ≡ first ∷ more
  pub reads : Reads in_function_names (first, (more, tt)) ts rest

-- The names and the body of a function were read behind `fun`, which has this place.
pub record ReadsFunction (p : Profile) (level : ℕ) (at : Place) (term : Tree)
    (ts rest : List Token) : Type 0 where
  pub first : Name
  pub more : List Name
  pub inner : Tree
  pub is : term ≡ function (first ∷ more) inner at
  pub reads : Reads (in_function p level) (first, (more, (inner, tt))) ts rest

-- the term of an operator with its operand
abbrev pub operated : Operator → Tree → Tree
operated (operators.Clean at) operand = clean operand at
operated (operators.Assert at) operand = assert operand at
operated (operators.Rotate by at) operand = rotate by operand at

-- An operator was read in front of its operand.
pub record ReadsOperator (p : Profile) (operator : Operator) (ts rest : List Token) : Type 0 where
  pub passes : (level : ℕ) → Passes (form (in_profile p g.application) level ∷ [])
      (form (in_profile p g.atom) level ∷ []) (λ operand. (operated operator operand.0, tt)) ts rest

-- what is expected of an atom
abbrev pub in_atom : Profile → ℕ → Stack
in_atom p level = form (in_profile p g.atom) level ∷ []

-- The operand of an operator was read.
pub record ReadsOperated (p : Profile) (level : ℕ) (operator : Operator) (term : Tree)
    (ts rest : List Token) : Type 0 where
  pub operand : Tree
  pub is : term ≡ operated operator operand
  pub reads : ReadsForm (in_profile p g.atom) level operand ts rest

-- No operator with one operand stands first.
pub record NoOperator (ts : List Token) : Type 0 where
  pub no_clean : NotFirst (toks.Word words.Clean) ts
  pub no_assert : NotFirst (toks.Word words.Assert) ts
  pub no_rotate : NotFirst (toks.Word words.Rotate) ts

-- what is expected of an `append` behind the word
abbrev pub in_append : Profile → ℕ → Stack
in_append p level = behind_first level (append_line p).pieces

-- The operands of an `append` were read behind the word, which has this place.
pub record ReadsAppend (p : Profile) (level : ℕ) (at : Place) (term : Tree)
    (ts rest : List Token) : Type 0 where
  pub first : Tree
  pub second : Tree
  pub is : term ≡ append first second at
  pub reads : Reads (in_append p level) (first, (second, tt)) ts rest

-- the sign between two operands of a chain, and the term of its operands
abbrev pub infix_sign : Infix → Sign
infix_sign infixes.Xor = signs.Xor
infix_sign infixes.And = signs.And

abbrev pub infix_term : Infix → List Tree → Tree
infix_term infixes.Xor operands = xors (trees operands)
infix_term infixes.And operands = ands (trees operands)

-- the forms of a chain, and of an operand of it
abbrev pub chain_kind : Infix → Kind
chain_kind infixes.Xor = g.sum
chain_kind infixes.And = g.product

abbrev pub operand_kind : Infix → Kind
operand_kind infixes.Xor = g.product
operand_kind infixes.And = g.application

-- what is expected of a chain, and of an operand of it
abbrev pub in_chain : Infix → Profile → ℕ → Stack
in_chain operator p level = form (in_profile p (chain_kind operator)) level ∷ []

abbrev pub in_operand : Infix → Profile → ℕ → Stack
in_operand operator p level = form (in_profile p (operand_kind operator)) level ∷ []

abbrev pub IsChain : Infix → Profile → ℕ → Tree → List Token → List Token → Type 0
IsChain infixes.Xor p level term ts rest = ReadsForm (in_profile p g.sum) level term ts rest
IsChain infixes.And p level term ts rest = ReadsForm (in_profile p g.product) level term ts rest

abbrev pub IsOperand : Infix → Profile → ℕ → Tree → List Token → List Token → Type 0
IsOperand infixes.Xor p level term ts rest = ReadsForm (in_profile p g.product) level term ts rest
IsOperand infixes.And p level term ts rest =
    ReadsForm (in_profile p g.application) level term ts rest

-- A chain was read, which is one operand alone or the term of more.
pub record ReadsChain (operator : Infix) (p : Profile) (level : ℕ) (term : Tree)
    (ts rest : List Token) : Type 0 where
  pub reads : IsChain operator p level term ts rest

-- An operand of a chain was read.
pub record ReadsOperand (operator : Infix) (p : Profile) (level : ℕ) (term : Tree)
    (ts rest : List Token) : Type 0 where
  pub reads : IsOperand operator p level term ts rest

-- The sign of a chain comes next.
abbrev pub HeadsInfix : Infix → Place → List Token → List Token → Type 0
HeadsInfix operator at now behind = Heads (toks.Sign (infix_sign operator)) at now behind

-- The operands of a chain behind the first one and a sign were read: from wherever the first was
-- read, the chain is read from there.
pub record ReadsMore (operator : Infix) (p : Profile) (level : ℕ) (first term : Tree)
    (ts rest : List Token) : Type 0 where
  pub chain : (all between : List Token) (at : Place)
      → ReadsOperand operator p level first all between → HeadsInfix operator at between ts
      → ReadsChain operator p level term all rest

-- The machine that expects the chain halts so behind them, from wherever the first was read.
pub record HaltsMore (operator : Infix) (p : Profile) (level : ℕ) (first : Tree)
    (ts : List Token) (stop : Stop) : Type 0 where
  pub chain : (all between : List Token) (at : Place)
      → ReadsOperand operator p level first all between → HeadsInfix operator at between ts
      → Halts (in_chain operator p level) all stop

-- What is assigned to a term was read, behind the sign.
pub record ReadsAssigned (p : Profile) (level : ℕ) (target term : Tree)
    (ts rest : List Token) : Type 0 where
  pub value : Tree
  pub is : term ≡ assign target value
  pub reads : ReadsForm (in_profile p g.sum) level value ts rest

-- the token that opens a level
abbrev pub opening : Opener → Tok
opening openers.Register = toks.Word words.Reg
opening openers.Bracket = toks.Sign signs.OpenRound
opening openers.Block = toks.Sign signs.OpenCurly

-- No token that opens a level in a base stands first.
pub record NoOpener (ts : List Token) : Type 0 where
  pub no_reg : NotFirst (toks.Word words.Reg) ts
  pub no_round : NotFirst (toks.Sign signs.OpenRound) ts
  pub no_curly : NotFirst (toks.Sign signs.OpenCurly) ts

-- an expression and the sign that ends it
abbrev pub closed_by : Profile → Sign → ℕ → Stack
closed_by p end level = form (in_profile p g.expression) level ∷ token (sign end) ∷ []

-- what is expected of an atom and its arguments
abbrev pub in_application : Profile → ℕ → Stack
in_application p level = at_level level (apply_line p).pieces

-- An atom and its arguments were read, which are this term together.
pub record ReadsAtoms (p : Profile) (level : ℕ) (term : Tree) (ts rest : List Token) : Type 0 where
  pub head : Tree
  pub more : List Tree
  pub is : term ≡ apply_of head more
  pub reads : Reads (in_application p level) (head, (more, tt)) ts rest

-- what is expected of a register behind its `reg`
abbrev pub in_register : Profile → ℕ → Stack
in_register p level = behind_first level (register_line p).pieces

-- The elements of a register were read behind `reg`, which has this place.
pub record ReadsRegister (p : Profile) (level : ℕ) (at : Place) (term : Tree)
    (ts rest : List Token) : Type 0 where
  pub first : Tree
  pub more : List Tree
  pub is : term ≡ reg (trees (first ∷ more)) at
  pub reads : Reads (in_register p level) (first, (more, tt)) ts rest

-- what is expected of a block behind its `{`
abbrev pub in_block : Profile → ℕ → Stack
in_block p level = form (in_profile p g.body) level ∷ []

-- The items and the last expression of a block were read behind its `{`, which has this place.
pub record ReadsBlock (p : Profile) (level : ℕ) (at : Place) (term : Tree)
    (ts rest : List Token) : Type 0 where
  pub inside : BodyTree
  pub is : term ≡ block (item_trees inside.items) inside.last at
  pub reads : ReadsForm (in_profile p g.body) level inside ts rest

-- what is expected behind the token that opens a level in a base, at the level inside
abbrev pub in_opened : Opener → Profile → ℕ → Stack
in_opened openers.Register p level = in_register p level
in_opened openers.Bracket p level = closed_by p signs.CloseRound level
in_opened openers.Block p level = in_block p level

abbrev pub IsOpened : Opener → Profile → ℕ → Place → Tree → List Token → List Token → Type 0
IsOpened openers.Register p level at term ts rest = ReadsRegister p level at term ts rest
IsOpened openers.Bracket p level at term ts rest =
    Reads (closed_by p signs.CloseRound level) (term, tt) ts rest
IsOpened openers.Block p level at term ts rest = ReadsBlock p level at term ts rest

-- What stands there was read; the token has this place.
pub record ReadsOpened (opener : Opener) (p : Profile) (level : ℕ) (at : Place) (term : Tree)
    (ts rest : List Token) : Type 0 where
  pub reads : IsOpened opener p level at term ts rest

-- An item of a block was read: it stands in front of the items behind it.
pub record ReadsItem (p : Profile) (level : ℕ) (item : ItemTree)
    (ts rest : List Token) : Type 0 where
  pub passes : Passes (form (in_profile p g.body) level ∷ [])
      (form (in_profile p g.body) level ∷ [])
      (λ inside. (in_front item inside.0, tt)) ts rest
  pub shorter : length rest < length ts

-- An item of a block was read, or its last expression and the `}`.
abbrev pub ReadsPiece : Profile → ℕ → Piece → List Token → List Token → Type 0
ReadsPiece p level (pieces.Item item) ts rest = ReadsItem p level (item_tree_of item) ts rest
ReadsPiece p level (pieces.Last term) ts rest = ReadsForm (in_profile p g.body) level
    (record { items = []; last = tree_of term }) ts rest

-- Behind a term stands a `;`, and it is an item of a block.
pub record EndsItem (term : Tree) (item : ItemTree) (ts rest : List Token) : Type 0 where
  pub is : item ≡ run term
  pub passes : (p : Profile) (level : ℕ) → Passes (form (in_profile p g.body_end) level ∷ [])
      (form (in_profile p g.body) level ∷ []) (λ inside. (Some inside.0, tt)) ts rest

-- Behind a term stands a `}`, and it is the last expression of a block.
pub record EndsBlock (term last : Tree) (ts rest : List Token) : Type 0 where
  pub is : last ≡ term
  pub reads : ReadsAnywhere g.body_end None ts rest

-- A term ends as an item, or as the last expression.
abbrev pub EndsPiece : Tree → Piece → List Token → List Token → Type 0
EndsPiece term (pieces.Item item) ts rest = EndsItem term (item_tree_of item) ts rest
EndsPiece term (pieces.Last last) ts rest = EndsBlock term (tree_of last) ts rest

-- A `for` stands first, in a profile that has it.
pub record HeadsFor (p : Profile) (at : Place) (ts rest : List Token) : Type 0 where
  pub in_two : p ≡ profiles.Two
  pub heads : Heads (toks.Word words.For) at ts rest

-- No `for` of the profile stands first.
abbrev pub NoFor : Profile → List Token → Type 0
NoFor profiles.One ts = Unit {0}
NoFor profiles.Two ts = NotFirst (toks.Word words.For) ts

-- what is expected of a `for` behind the word, whose items stand at this level
abbrev pub in_for : Profile → ℕ → Stack
in_for p inner = behind_first inner (for_line p).pieces

-- what is expected of it before its `{`
abbrev pub in_range : Profile → Stack
in_range p = take 6 (in_for p 0)

-- A `for` was read behind the word, which has this place.
pub record ReadsFor (p : Profile) (level : ℕ) (at : Place) (item : ItemTree)
    (ts rest : List Token) : Type 0 where
  pub name : Name
  pub low : List Step
  pub high : List Step
  pub curly : Place
  pub first : ItemTree
  pub more : List ItemTree
  pub is : item ≡ run (loop name low high (item_trees (first ∷ more)) at)
  pub reads : Reads (in_for p (level + 1))
      (name, (low, (high, (curly, (first, (more, tt)))))) ts rest

-- what is expected of a `for` behind its `{`
abbrev pub in_loop : Profile → ℕ → Stack
in_loop p inner = drop 7 (in_for p inner)

-- The items of a `for` were read behind its `{`, and what ends it.
pub record ReadsLoop (p : Profile) (inner : ℕ) (items : List ItemTree)
    (ts rest : List Token) : Type 0 where
  pub first : ItemTree
  pub more : List ItemTree
  pub all_items : items ≡ first ∷ more
  pub reads : Reads (in_loop p inner) (first, (more, tt)) ts rest

-- the sign in front of a unit that is added, or taken away
abbrev pub step_sign : Bool → Sign
step_sign false = signs.Plus
step_sign true = signs.Minus

-- No such sign stands first.
pub record NoStep (ts : List Token) : Type 0 where
  pub no_plus : NotFirst (toks.Sign signs.Plus) ts
  pub no_minus : NotFirst (toks.Sign signs.Minus) ts

-- what is expected of a `let` behind the word
abbrev pub in_binding : Profile → ℕ → Stack
in_binding p level = behind_first level (let_line p).pieces

-- what is expected of a `let` behind the word and before its value
abbrev pub in_bound_names : Stack
in_bound_names = take 3 (in_binding profiles.One 0)

-- What a `let` binds was read behind the word.
pub record ReadsBinding (p : Profile) (level : ℕ) (item : ItemTree)
    (ts rest : List Token) : Type 0 where
  pub bound : Name
  pub more : List Name
  pub inner : Tree
  pub is : item ≡ bind bound (bound_of more inner)
  pub reads : Reads (in_binding p level) (bound, (more, (inner, tt))) ts rest

-- { param } was read, and the parameters were put behind those before.
pub record ReadsParameters (before all : List Param) (ts rest : List Token) : Type 0 where
  pub more : List Param
  pub all_params : all ≡ before ++ more
  pub skips : Skips (form (common g.parameters) 0 ∷ []) (more, tt) ts rest

-- what is expected of a program of this profile behind its `main`
abbrev pub after_main : Profile → Stack
after_main p =
    form (common g.parameter) 0 ∷ form (common g.parameters) 0 ∷ token (sign signs.Equal)
    ∷ form (in_profile p g.expression) 1 ∷ []

-- The words in front of a program of this profile were read, up to `main`.
pub record ReadsProfile (p : Profile) (ts rest : List Token) : Type 0 where
  pub passes : Passes (form (common g.program) 0 ∷ []) (after_main p)
      (λ us. (program_of us.0 us.1.0 us.1.1.0, tt)) ts rest

-- A whole sentence was read.
abbrev pub ReadsProgram : List Param → Tree → List Token → List Token → Type 0
ReadsProgram params term ts rest =
    ReadsForm (common g.program) 0 (record { params = params; body = term }) ts rest

-- So many tokens are left, the first of which has a number and a place.
pub record Left (tokens : List Token) (left : ℕ) (Why : ℕ → Place → Type 0) : Type 0 where
  pub front : List Token
  pub named : Token
  pub rest : List Token
  pub cut : tokens ≡ front ++ named ∷ rest
  pub count : length rest + 1 ≡ left
  pub why : Why (length front) named.at

-- The first token of those left is refused rightly.
abbrev pub IsRefusal : List Token → Stop → Type 0
IsRefusal tokens (stops.Syntax left) = Left tokens left (IsSyntax tokens)
IsRefusal tokens (stops.Nesting left) = Left tokens left (λ number at. IsNesting tokens at)
IsRefusal tokens (stops.Memory _) = Unit {0}
