use Rattle.revs_terms.proofs.ShapeLemmas.{tree_of-Name, tree_of-Bool}
use Rattle.revs_parser.proofs.PassingLemmas.{halts_on}
use Rattle.revs_parser.proofs.ReadingLemmas.{base_true, base_false, base_use, base_no_use}
use Rattle.revs_parser.proofs.leaf.single_base.Goals as goal

pub returns-in-Some : goal.returns-in-Some
returns-in-Some c = base_true c.in-Some.ensures.found (tree_of-Bool _ c.in-Some.at)

pub returns-in-Some-after_word : goal.returns-in-Some-after_word
returns-in-Some-after_word c = base_false c.in-Some-after_word.ensures.found (tree_of-Bool _ c.in-Some-after_word.at)

pub returns-in_err-used : goal.returns-in_err-used
returns-in_err-used c =
    halts_on _ _ _ c.from_residual.ensures.1
    (base_no_use c.requires c.in_default.ensures.none c.in_default-after_word.ensures.none c.in_err-used.ensures.halts)

pub returns : goal.returns
returns c =
    base_use c.requires c.in_default.ensures.none c.in_default-after_word.ensures.none c.in_ok-used.ensures.ok (tree_of-Name c.in_ok-used.used)
