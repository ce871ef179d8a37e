use Rattle.revs_lexer.proofs.PackedLemmas.{takes_gap, takes_token}
use Rattle.revs_lexer.proofs.lexer.take_piece.Goals as goal

pub returns-then-gap-gt0-clause-taken : goal.returns-then-gap-gt0-clause-taken
returns-then-gap-gt0-clause-taken c =
    takes_gap c.args.start c.args.at c.args.text.now c.gap_len-gap.result c.args.packed.now.items (c.gap_len-gap.ensures.found c.if-gap-gt0.true)

pub returns-clause-taken : goal.returns-clause-taken
returns-clause-taken c =
    let token = c.in_ok-kind.ensures in
    takes_token c.args.start c.args.at c.args.text.now c.in_ok-kind.len c.in_ok-kind.kind c.args.packed.now.items _ token.longest token.within token.stands
    token.in_range.1 c.in_ok-push.ensures.items
