use Rattle.std.proofs.Common.{ℕ, suc, ◌+◌, ◌-◌, ◌*◌, List, length, map}
use Rattle.revc_base.specs.declared.place.Place.{Place}
use Rattle.revs_lexer.specs.declared.token.Tok.TheVariants as toks
use Rattle.revs_lexer.specs.declared.token.Token.{Token}
use Rattle.revs_terms.specs.Trees.{tree_of, item_tree_of}
use Rattle.revs_lexer.specs.Rest.{left}
use Rattle.revs_parser.proofs.ReadingLemmas.{InChain, InArguments, InRegister, InBlock}
use Rattle.revs_parser.proofs.ItemLemmas.{InLoop}
use Rattle.revs_parser.specs.inside.Reading.{Heads}
use Rattle.revs_parser.specs.inside.Forms.{ReadsOperand, infix_sign}
use Rattle.revs_parser.specs.declared.expression.Infix.{Infix}
use Rattle.revs_parser.specs.declared.expression.Infix.TheVariants as infixes
use Rattle.revs_parser.proofs.expression.Reader.+read.Given as goal

-- how far an operand of a chain stands above an application
abbrev operand_height : Infix → ℕ
operand_height infixes.Xor = 8
operand_height infixes.And = 5

abbrev pub decreases-expression : goal.decreases-expression
decreases-expression l = (101 - l.self.level) * 32 + 12

abbrev pub decreases-function : goal.decreases-function
decreases-function l = (101 - l.self.level) * 32 + 13

abbrev pub decreases-application : goal.decreases-application
decreases-application l = (101 - l.self.level) * 32 + 4

abbrev pub decreases-append : goal.decreases-append
decreases-append l = (101 - l.self.level) * 32 + 3

abbrev pub decreases-atom : goal.decreases-atom
decreases-atom l = (101 - l.self.level) * 32 + 2

abbrev pub decreases-atoms : goal.decreases-atoms
decreases-atoms l = (101 - l.self.level) * 32 + 3

abbrev pub decreases-base : goal.decreases-base
decreases-base l = (101 - l.self.level) * 32 + 1

abbrev pub decreases-binding : goal.decreases-binding
decreases-binding l = (101 - l.self.level) * 32 + 14

abbrev pub decreases-opened : goal.decreases-opened
decreases-opened l = (101 - l.self.level) * 32 + 18

abbrev pub decreases-block : goal.decreases-block
decreases-block l = (101 - l.self.level) * 32 + 17

abbrev pub decreases-closed : goal.decreases-closed
decreases-closed l = (101 - l.self.level) * 32 + 13

abbrev pub decreases-item_or_last : goal.decreases-item_or_last
decreases-item_or_last l = (101 - l.self.level) * 32 + 16

abbrev pub decreases-item : goal.decreases-item
decreases-item l = (101 - l.self.level) * 32 + 15

abbrev pub decreases-repetition : goal.decreases-repetition
decreases-repetition l = (101 - l.self.level) * 32 + 1

abbrev pub decreases-loop_items : goal.decreases-loop_items
decreases-loop_items l = (101 - l.self.level) * 32 + 17

abbrev pub decreases-loop_item : goal.decreases-loop_item
decreases-loop_item l = (101 - l.self.level) * 32 + 16

abbrev pub decreases-register : goal.decreases-register
decreases-register l = (101 - l.self.level) * 32 + 13

abbrev pub decreases-sum : goal.decreases-sum
decreases-sum l = (101 - l.self.level) * 32 + 10

abbrev pub decreases-product : goal.decreases-product
decreases-product l = (101 - l.self.level) * 32 + 7

abbrev pub decreases-chained_behind : goal.decreases-chained_behind
decreases-chained_behind l = (101 - l.self.level) * 32 + suc (operand_height l.operator)

abbrev pub decreases-assigned : goal.decreases-assigned
decreases-assigned l = (101 - l.self.level) * 32 + 11

abbrev pub decreases-operated : goal.decreases-operated
decreases-operated l = (101 - l.self.level) * 32 + 3

abbrev pub decreases-operand : goal.decreases-operand
decreases-operand l = (101 - l.self.level) * 32 + operand_height l.operator

abbrev pub invariant-chained_behind-operands : goal.invariant-chained_behind-operands
invariant-chained_behind-operands l = record {
  read : (all between : List Token) (at : Place) → ReadsOperand l.fn.operator l.fn.self.profile l.fn.self.level (tree_of l.fn.first) all between
      → Heads (toks.Sign (infix_sign l.fn.operator)) at between (left l.fn.tokens)
      → InChain l.fn.self.profile l.fn.operator l.fn.self.level (map tree_of l.terms.items) all (left l.behind);
}

abbrev pub decreases-chained_behind-operands : goal.decreases-chained_behind-operands
decreases-chained_behind-operands l = length (left l.behind)

abbrev pub invariant-atoms-arguments : goal.invariant-atoms-arguments
invariant-atoms-arguments l =
    record { read : InArguments l.fn.self.profile l.fn.self.level (tree_of l.head.value) (map tree_of l.arguments.items) (left l.fn.tokens) (left l.rest) }

abbrev pub decreases-atoms-arguments : goal.decreases-atoms-arguments
decreases-atoms-arguments l = length (left l.rest)

abbrev pub invariant-register-elements : goal.invariant-register-elements
invariant-register-elements l = record { read : InRegister l.fn.self.profile l.fn.self.level (map tree_of l.elements.items) (left l.fn.tokens) (left l.behind) }

abbrev pub decreases-register-elements : goal.decreases-register-elements
decreases-register-elements l = length (left l.behind)

abbrev pub invariant-block-items : goal.invariant-block-items
invariant-block-items l = record { read : InBlock l.fn.self.profile l.fn.self.level (map item_tree_of l.items.items) (left l.fn.tokens) (left l.rest) }

abbrev pub decreases-block-items : goal.decreases-block-items
decreases-block-items l = length (left l.rest)

abbrev pub invariant-loop_items-items : goal.invariant-loop_items-items
invariant-loop_items-items l = record { read : InLoop l.fn.self.profile l.fn.self.level (map item_tree_of l.items.items) (left l.fn.tokens) (left l.rest) }

abbrev pub decreases-loop_items-items : goal.decreases-loop_items-items
decreases-loop_items-items l = length (left l.rest)
