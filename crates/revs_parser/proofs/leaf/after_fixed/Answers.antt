use Rattle.revs_parser.specs.inside.Forms.{fixed_tok}
use Rattle.revs_parser.proofs.TokenLemmas.{heads, not_first, nothing_first}
use Rattle.revs_parser.proofs.leaf.after_fixed.Goals as goal

pub returns-in_err-first-clause-none : goal.returns-in_err-first-clause-none
returns-in_err-first-clause-none c = rw c.from_residual.ensures (nothing_first (fixed_tok c.args.fixed) _ c.in_err-first.ensures.none)

pub returns-then-is_fixed-clause-found : goal.returns-then-is_fixed-clause-found
returns-then-is_fixed-clause-found c = heads c.in_ok-first.ensures.found (c.is_fixed.ensures.is c.if-is_fixed.true)

pub returns-else-is_fixed-clause-none : goal.returns-else-is_fixed-clause-none
returns-else-is_fixed-clause-none c = not_first (fixed_tok c.args.fixed) c.in_ok-first.ensures.found (c.is_fixed.ensures.other c.if-is_fixed.false)
