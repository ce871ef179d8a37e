use Rattle.std.proofs.Common.{◌∙◌, sym, arith}
use Rattle.flip_lists.proofs.IndexLemmas.{none_before, none_at_all, partner_at, unlike_more}
use Rattle.flip_lists.proofs.index.partner.Goals as goal

pub returns-then-place-bound : goal.returns-then-place-bound
returns-then-place-bound c =
    none_before c.args.slots.now c.args.flip c.args.bound c.args.places.now c.search.left c.requires c.search-test.true c.search.invariant.0
    c.search.invariant.1 c.if-place-bound.true

pub returns-then-is_like : goal.returns-then-is_like
returns-then-is_like c =
    partner_at c.args.slots.now c.args.flip c.args.bound c.args.places.now c.search.left c.requires c.search-test.true c.search.invariant.0
    c.search.invariant.1 c.if-place-bound.false (sym c.is_like.ensures ∙ c.if-is_like.true)

pub search-preserved : goal.search-preserved
search-preserved c = (
  omega arith,
  unlike_more c.args.slots.now c.args.flip c.args.places.now c.search.left c.search-test.true c.search.invariant.0 c.search.invariant.1
      (sym c.is_like.ensures ∙ c.if-is_like.false),
)

pub returns : goal.returns
returns c =
    none_at_all c.args.slots.now c.args.flip c.args.bound c.args.places.now c.search.left c.requires (omega arith) c.search.invariant.1
