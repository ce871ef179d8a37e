-- The grammar of the language, a line for each of its lines: its pieces, and what they build.
use Rattle.std.specs.Prelude.{true, false, Option, Some, None, List, [], ◌∷◌}
use Rattle.revs_lexer.specs.declared.sign.Sign.TheVariants as signs
use Rattle.revs_lexer.specs.declared.word.Word.TheVariants as words
use Rattle.revs_terms.specs.declared.term.Name.{Name}
use Rattle.revs_terms.specs.declared.term.Unit as u
use Rattle.revs_terms.specs.declared.term.Unit.TheVariants as units_of
use Rattle.revs_terms.specs.declared.term.Step.{Step}
use Rattle.revs_terms.specs.declared.term.Part.{Part}
use Rattle.revs_terms.specs.declared.term.Part.TheVariants as part_of
use Rattle.revc_base.specs.declared.place.Place.{Place}
use Rattle.revs_terms.specs.Numbers.{plus, minus}
use Rattle.revs_terms.specs.Trees.{Tree, ItemTree, trees, item_trees}
use Rattle.revs_terms.specs.Trees as t
use Rattle.revs_terms.specs.declared.program.Param.{Param}
use Rattle.revs_terms.specs.Views.{ProgramView}
use Rattle.revs_grammar.specs.declared.profile.Profile.{Profile}
use Rattle.revs_grammar.specs.declared.profile.Profile.TheVariants as profiles
use Rattle.revs_grammar.specs.Forms.{any_name, two, other_number, word, sign, Numeral, Kind, program, parameter, parameters, width, names}
use Rattle.revs_grammar.specs.Forms.{number, unit, units, num, expression, assigned, sum, sums, product, products, application, atom, atoms}
use Rattle.revs_grammar.specs.Forms.{part, part_end, parts, base, elements, item, loop_item, loop_items, body, body_end, BodyTree, KindVal, Form, in_profile}
use Rattle.revs_grammar.specs.Forms.{common, Val, same, inside, outside, Piece, one, kept, opening, sub, Production, line}

-- ---- chains: one operand alone is that operand, and more are one term

abbrev pub assign_of : Tree → Option Tree → Tree
assign_of left None = left
assign_of left (Some right) = t.assign left right

abbrev pub xor_of : Tree → List Tree → Tree
xor_of first [] = first
xor_of first (next ∷ more) = t.xors (trees (first ∷ next ∷ more))

abbrev pub and_of : Tree → List Tree → Tree
and_of first [] = first
and_of first (next ∷ more) = t.ands (trees (first ∷ next ∷ more))

abbrev pub apply_of : Tree → List Tree → Tree
apply_of head [] = head
apply_of head (next ∷ more) = t.apply head (trees (next ∷ more))

abbrev pub parts_of : Tree → List Part → Tree
parts_of inner [] = inner
parts_of inner (next ∷ more) = t.parts inner (next ∷ more)

-- what a `let` binds: a value, or with names behind its own the function of these names, which
-- stands at the first of them
abbrev pub bound_of : List Name → Tree → Tree
bound_of [] term = term
bound_of (first ∷ more) term = t.function (first ∷ more) term first.at

abbrev pub index_of : Place → List Step → Option (List Step) → Part
index_of at i None = part_of.Index i at
index_of at i (Some j) = part_of.Slice i j at

-- ---- numbers

abbrev pub digits_of : Numeral → u.Unit
digits_of n = units_of.Digits n.value n.at

-- ---- blocks

abbrev pub in_front : ItemTree → BodyTree → BodyTree
in_front first rest = record { items = first ∷ rest.items; last = rest.last }

-- An expression is the last one of the block, or an item in front of a rest.
abbrev pub body_of : Tree → Option BodyTree → BodyTree
body_of term None = record { items = []; last = term }
body_of term (Some rest) = in_front (t.run term) rest

abbrev pub block_of : Place → BodyTree → Tree
block_of at all = t.block (item_trees all.items) all.last at

abbrev pub program_of : Param → List Param → Tree → ProgramView
program_of first more term = record { params = first ∷ more; body = term }

-- ---- the lines of each form

-- a form whose lines are the same in both profiles, where no level counts
abbrev pub shared : Kind → Piece
shared k = sub outside (common k)

module _ (profile : Profile) where
  -- a form of the profile, at the level of the line, a level further in, or where no level counts
  abbrev pub here : Kind → Piece
  here k = sub same (in_profile profile k)

  abbrev pub deeper : Kind → Piece
  deeper k = sub inside (in_profile profile k)

  abbrev pub plain : Kind → Piece
  plain k = sub outside (in_profile profile k)

  -- expr = fun name { name } -> expr
  abbrev pub function_line : Production Tree
  function_line =
      line
      (opening (word words.Fun) ∷ kept any_name ∷ shared names ∷ one (sign signs.Arrow)
      ∷ deeper expression ∷ [])
      (λ at first more term. t.function (first ∷ more) term at)

  -- application = append atom atom
  abbrev pub append_line : Production Tree
  append_line =
      line (kept (word words.Append) ∷ here atom ∷ here atom ∷ [])
      (λ at first second. t.append first second at)

  -- application = atom { atom }
  abbrev pub apply_line : Production Tree
  apply_line = line (here atom ∷ here atoms ∷ []) apply_of

  -- part = . [ num ] | . [ num .. num ]
  abbrev pub part_line : Production Part
  part_line =
      line (kept (sign signs.Dot) ∷ one (sign signs.OpenSquare) ∷ plain num ∷ plain part_end ∷ [])
      index_of

  -- base = reg [ expr { ; expr } ]
  abbrev pub register_line : Production Tree
  register_line =
      line
      (
      opening (word words.Reg) ∷ one (sign signs.OpenSquare) ∷ deeper expression ∷ deeper elements
      ∷ one (sign signs.CloseSquare) ∷ []
      )
      (λ at first more. t.reg (trees (first ∷ more)) at)

  -- item = let name { name } = expr ;
  abbrev pub let_line : Production ItemTree
  let_line =
      line
      (
      one (word words.Let) ∷ kept any_name ∷ shared names ∷ one (sign signs.Equal) ∷ here expression
      ∷ one (sign signs.Semi) ∷ []
      )
      (λ bound more value. t.bind bound (bound_of more value))

  -- item = for name in num .. num do { item { item } } ;
  abbrev pub for_line : Production ItemTree
  for_line =
      line
      (
      kept (word words.For) ∷ kept any_name ∷ one (word words.In) ∷ plain num
      ∷ one (sign signs.DotDot) ∷ plain num
      ∷ one (word words.Do) ∷ opening (sign signs.OpenCurly) ∷ deeper loop_item ∷ deeper loop_items
      ∷ one (sign signs.CloseCurly) ∷ one (sign signs.Semi) ∷ []
      )
      (λ at name low high _ this more. t.run (t.loop name low high (item_trees (this ∷ more)) at))

  -- A `for` stands in profile 2 alone.
  abbrev pub loops_in : Profile → List (Production ItemTree)
  loops_in profiles.One = []
  loops_in profiles.Two = for_line ∷ []

  -- In profile 1 a number is a number token, in profile 2 a sum.
  abbrev pub nums_in : Profile → List (Production (List Step))
  nums_in profiles.One = line (shared number ∷ []) (λ n. plus (digits_of n) ∷ []) ∷ []
  nums_in profiles.Two =
      line (shared unit ∷ shared units ∷ []) (λ first more. plus first ∷ more) ∷ []

  abbrev pub lines : (k : Kind) → List (Production (KindVal k))
  -- program = main param { param } = expr
  lines program =
      line
      (
      one (word words.Main) ∷ shared parameter ∷ shared parameters ∷ one (sign signs.Equal)
      ∷ sub inside (in_profile profiles.One expression) ∷ []
      )
      program_of
      -- program = revs 2 main param { param } = expr
      ∷ line
      (
      one (word words.Revs) ∷ one two ∷ one (word words.Main) ∷ shared parameter ∷ shared parameters
      ∷ one (sign signs.Equal)
      ∷ sub inside (in_profile profiles.Two expression) ∷ []
      )
      program_of ∷ []
  -- param = ( name : bool ) | ( name : bool [ number ] )
  lines parameter =
      line
      (one (sign signs.OpenRound) ∷ kept any_name ∷ one (sign signs.Colon) ∷ one (word words.Bool)
      ∷ shared width ∷ [])
      (λ n bits. record { name = n; width = bits }) ∷ []
  lines width =
      line (one (sign signs.CloseRound) ∷ []) None
      ∷ line
      (one (sign signs.OpenSquare) ∷ shared number ∷ one (sign signs.CloseSquare)
      ∷ one (sign signs.CloseRound) ∷ [])
      (λ bits. Some bits.value) ∷ []
  lines parameters =
      line [] []
      ∷ line (shared parameter ∷ shared parameters ∷ []) (λ p more. p ∷ more) ∷ []
  lines names =
      line [] []
      ∷ line (kept any_name ∷ shared names ∷ []) (λ n more. n ∷ more) ∷ []
  lines number =
      line (kept other_number ∷ []) (λ n. n)
      ∷ line (kept two ∷ []) (λ n. n) ∷ []
  -- unit = number | name
  lines unit =
      line (shared number ∷ []) digits_of
      ∷ line (kept any_name ∷ []) units_of.Name ∷ []
  -- num = unit { + unit | - unit }
  lines num = nums_in profile
  lines units =
      line [] []
      ∷ line (one (sign signs.Plus) ∷ shared unit ∷ shared units ∷ [])
      (λ next more. plus next ∷ more)
      ∷ line (one (sign signs.Minus) ∷ shared unit ∷ shared units ∷ [])
      (λ next more. minus next ∷ more) ∷ []
  -- expr = fun name { name } -> expr | sum [ <- sum ]
  lines expression =
      function_line
      ∷ line (here sum ∷ here assigned ∷ []) assign_of ∷ []
  lines assigned =
      line [] None
      ∷ line (one (sign signs.Assign) ∷ here sum ∷ []) (λ right. Some right) ∷ []
  -- sum = product { <> product }
  lines sum = line (here product ∷ here sums ∷ []) xor_of ∷ []
  lines sums =
      line [] []
      ∷ line (one (sign signs.Xor) ∷ here product ∷ here sums ∷ []) (λ next more. next ∷ more) ∷ []
  -- product = application { && application }
  lines product = line (here application ∷ here products ∷ []) and_of ∷ []
  lines products =
      line [] []
      ∷ line (one (sign signs.And) ∷ here application ∷ here products ∷ [])
      (λ next more. next ∷ more) ∷ []
  -- application = clean atom | assert atom | append atom atom | rotate num atom | atom { atom }
  lines application =
      line (kept (word words.Clean) ∷ here atom ∷ []) (λ at operand. t.clean operand at)
      ∷ line (kept (word words.Assert) ∷ here atom ∷ []) (λ at operand. t.assert operand at)
      ∷ append_line
      ∷ line (kept (word words.Rotate) ∷ plain num ∷ here atom ∷ [])
      (λ at by operand. t.rotate by operand at)
      ∷ apply_line ∷ []
  lines atoms =
      line [] []
      ∷ line (here atom ∷ here atoms ∷ []) (λ next more. next ∷ more) ∷ []
  -- atom = base { part }
  lines atom = line (here base ∷ plain parts ∷ []) parts_of ∷ []
  lines parts =
      line [] []
      ∷ line (plain part ∷ plain parts ∷ []) (λ next more. next ∷ more) ∷ []
  -- part = . [ num ] | . [ num .. num ]
  lines part = part_line ∷ []
  lines part_end =
      line (one (sign signs.CloseSquare) ∷ []) None
      ∷ line (one (sign signs.DotDot) ∷ plain num ∷ one (sign signs.CloseSquare) ∷ []) (λ j. Some j)
      ∷ []
  -- base = name | true | false | reg [ expr { ; expr } ] | ( expr ) | block
  lines base =
      line (kept any_name ∷ []) t.used
      ∷ line (kept (word words.True) ∷ []) (t.bool true)
      ∷ line (kept (word words.False) ∷ []) (t.bool false)
      ∷ register_line
      ∷ line
      (opening (sign signs.OpenRound) ∷ deeper expression ∷ one (sign signs.CloseRound) ∷ [])
      (λ _ inner. inner)
      -- block = { { item } expr }
      ∷ line (opening (sign signs.OpenCurly) ∷ deeper body ∷ []) block_of ∷ []
  lines elements =
      line [] []
      ∷ line (one (sign signs.Semi) ∷ here expression ∷ here elements ∷ [])
      (λ next more. next ∷ more) ∷ []
  -- item = let name { name } = expr ; | expr ; | for name in num .. num do { item { item } } ;
  lines item = let_line ∷ loops_in profile
  lines body =
      line (here item ∷ here body ∷ []) in_front
      ∷ line (here expression ∷ here body_end ∷ []) body_of ∷ []
  lines loop_item =
      line (here item ∷ []) (λ this. this)
      ∷ line (here expression ∷ one (sign signs.Semi) ∷ []) (λ term. t.run term) ∷ []
  lines loop_items =
      line [] []
      ∷ line (here loop_item ∷ here loop_items ∷ []) (λ this more. this ∷ more) ∷ []
  lines body_end =
      line (one (sign signs.Semi) ∷ here body ∷ []) (λ rest. Some rest)
      ∷ line (one (sign signs.CloseCurly) ∷ []) None ∷ []

abbrev pub productions : (f : Form) → List (Production (Val f))
productions f = lines f.profile f.kind
