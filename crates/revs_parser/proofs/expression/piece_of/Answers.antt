use Rattle.revs_terms.specs.Trees.{tree_of}
use Rattle.revs_terms.proofs.ShapeLemmas.{item_tree_of-Do}
use Rattle.revs_parser.proofs.PassingLemmas.{halts_on}
use Rattle.revs_parser.proofs.ItemLemmas.{ends_item, ends_block, block_unclosed}
use Rattle.revs_parser.proofs.expression.piece_of.Goals as goal

pub returns-in-Some : goal.returns-in-Some
returns-in-Some c = ends_item c.in-Some.ensures.found (item_tree_of-Do c.args.term)

pub returns-in_err-term : goal.returns-in_err-term
returns-in_err-term c =
    halts_on _ _ _ c.from_residual.ensures.1 (block_unclosed c.in_default.ensures.none (rw c.in_err-term.ensures at c.expect.ensures.halts))

pub returns : goal.returns
returns c =
    let both = c.in_ok-term.ensures in rw both.0 (ends_block c.in_default.ensures.none (tree_of c.args.term) (rw both.1 at c.expect.ensures.ok))
