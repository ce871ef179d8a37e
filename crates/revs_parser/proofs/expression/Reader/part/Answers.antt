use Rattle.std.proofs.lemmas.Result.{MatchResult-weaker}
use Rattle.revs_parser.proofs.PassingLemmas.{halts_on}
use Rattle.revs_parser.proofs.ReadingLemmas.{part_index, part_slice, part_unclosed, part_in_last, slice_unclosed, part_unopened, part_in_first}
use Rattle.revs_parser.proofs.expression.Reader.part.Goals as goal

pub returns-in_err-rest : goal.returns-in_err-rest
returns-in_err-rest c = halts_on _ _ _ c.from_residual.ensures.1 (part_unopened c.in_err-rest.ensures.halts)

pub returns-in_err-i : goal.returns-in_err-i
returns-in_err-i c = halts_on _ _ _ c.from_residual-in_err-i.ensures.1 (part_in_first c.in_ok-rest.ensures.ok c.in_err-i.ensures)

pub returns-in_default : goal.returns-in_default
returns-in_default c = MatchResult-weaker c.both.result c.both.ensures
    (λ x e. rw e.0 (part_index c.in_ok-rest.ensures.ok c.in_ok-i.ensures c.args.at c.in_default.ensures.none (rw e.1 at c.expect-in_default.ensures.ok)))
    (λ x e. part_unclosed c.in_ok-rest.ensures.ok c.in_ok-i.ensures c.in_default.ensures.none (rw e at c.expect-in_default.ensures.halts))

pub returns-in_err-i-2 : goal.returns-in_err-i-2
returns-in_err-i-2 c =
    halts_on _ _ _ c.from_residual-in_err-i-2.ensures.1
    (part_in_last c.in_ok-rest.ensures.ok c.in_ok-i.ensures c.in-Some.ensures.found (rw c.in_err-i-2.ensures at c.num-2.ensures))

pub returns : goal.returns
returns c =
    let last = c.in_ok-i-2.ensures in
    MatchResult-weaker c.both-3.result c.both-3.ensures
    (λ x e. rw (e.0, last.0) (part_slice c.in_ok-rest.ensures.ok c.in_ok-i.ensures c.args.at c.in-Some.ensures.found
    (rw last.1 at c.num-2.ensures) (rw e.1 at c.expect-2.ensures.ok)))
    (λ x e. slice_unclosed c.in_ok-rest.ensures.ok c.in_ok-i.ensures c.in-Some.ensures.found (rw last.1 at c.num-2.ensures)
    (rw e at c.expect-2.ensures.halts))
