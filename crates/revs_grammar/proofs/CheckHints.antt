-- Two hints on the forms, which the checks confirm: how deep forms stand in one another at the front, and what may follow a form.
use Rattle.std.proofs.Common.{ℕ, ◌==◌, Bool, false, ◌||◌, List, [], ◌∷◌, ◌++◌}
use Rattle.revs_lexer.specs.declared.sign.Sign.TheVariants as signs
use Rattle.revs_lexer.specs.declared.word.Word.TheVariants as words
use Rattle.revs_grammar.specs.Forms.{Mark, any_name, word, sign, mark_code, Kind, Form}
use Rattle.revs_grammar.specs.Forms as g

-- A form stands at the front of a line only of a form with a greater rank.
abbrev pub rank_of : Kind → ℕ
rank_of g.atom = 2
rank_of g.atoms = 3
rank_of g.application = 3
rank_of g.product = 4
rank_of g.sum = 5
rank_of g.expression = 6
rank_of g.body = 7
rank_of g.parameters = 1
rank_of g.parts = 1
rank_of g.base = 1
rank_of g.unit = 1
rank_of g.num = 2
rank_of g.loop_item = 7
rank_of g.loop_items = 8
rank_of _ = 0

abbrev pub rank : Form → ℕ
rank f = rank_of f.kind

-- what begins a base
abbrev pub base_begins : List Mark
base_begins =
    any_name ∷ word words.True ∷ word words.False ∷ word words.Reg ∷ sign signs.OpenRound ∷ sign signs.OpenCurly ∷ []

-- the marks that may stand behind a form
abbrev pub behind_expression : List Mark
behind_expression = sign signs.CloseRound ∷ sign signs.CloseSquare ∷ sign signs.CloseCurly ∷ sign signs.Semi ∷ []

abbrev pub behind_sum : List Mark
behind_sum = sign signs.Assign ∷ behind_expression

abbrev pub behind_product : List Mark
behind_product = sign signs.Xor ∷ behind_sum

abbrev pub behind_application : List Mark
behind_application = sign signs.And ∷ behind_product

abbrev pub behind_atom : List Mark
behind_atom = base_begins ++ behind_application

abbrev pub behind_base : List Mark
behind_base = sign signs.Dot ∷ behind_atom

abbrev pub behind_num : List Mark
behind_num = sign signs.CloseSquare ∷ sign signs.DotDot ∷ word words.Do ∷ base_begins

abbrev pub behind_unit : List Mark
behind_unit = sign signs.Plus ∷ sign signs.Minus ∷ behind_num

abbrev pub behind_item : List Mark
behind_item =
    sign signs.CloseCurly ∷ word words.Let ∷ word words.For ∷ word words.Fun ∷ word words.Clean ∷ word words.Assert ∷ word words.Append ∷ word words.Rotate
    ∷ base_begins

abbrev pub follow : Kind → List Mark
follow g.program = []
follow g.parameter = sign signs.OpenRound ∷ sign signs.Equal ∷ []
follow g.width = sign signs.OpenRound ∷ sign signs.Equal ∷ []
follow g.parameters = sign signs.Equal ∷ []
follow g.names = sign signs.Equal ∷ sign signs.Arrow ∷ []
follow g.number = behind_unit
follow g.unit = behind_unit
follow g.num = behind_num
follow g.units = behind_num
follow g.expression = behind_expression
follow g.assigned = behind_expression
follow g.sum = behind_sum
follow g.sums = behind_sum
follow g.product = behind_product
follow g.products = behind_product
follow g.application = behind_application
follow g.atoms = behind_application
follow g.atom = behind_atom
follow g.parts = behind_atom
follow g.item = behind_item
follow g.loop_item = behind_item
follow g.loop_items = sign signs.CloseCurly ∷ []
follow g.elements = sign signs.CloseSquare ∷ []
follow _ = behind_base

abbrev pub is_marked : ℕ → List Mark → Bool
is_marked c [] = false
is_marked c (m ∷ ms) = (c == mark_code m) || is_marked c ms

abbrev pub may_follow : Form → ℕ → Bool
may_follow f c = is_marked c (follow f.kind)
