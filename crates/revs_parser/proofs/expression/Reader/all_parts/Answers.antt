use Rattle.std.proofs.Common.{ap, length, arith}
use Rattle.revs_lexer.specs.Rest.{left}
use Rattle.revs_parser.proofs.PassingLemmas.{halts_on, lacks}
use Rattle.revs_parser.proofs.ReadingLemmas.{parts_begun, parts_more, parts_halt, parts_done}
use Rattle.revs_parser.proofs.expression.Reader.all_parts.Goals as goal

pub loop-at-preserved : goal.loop-at-preserved
loop-at-preserved c =
    let put = c.in_ok-rest.ensures in
    record { read = parts_more c.loop-at.invariant.read c.in-Some.ensures.found (rw put.was_read at c.part.ensures) put.all }

pub returns : goal.returns
returns c = parts_done c.loop-at.invariant.read c.in_default.ensures.none

pub loop-at-init : goal.loop-at-init
loop-at-init c = record { read = parts_begun c.new-parts.result.items (left c.args.tokens) c.new-parts.ensures.items }

pub returns-in_err-rest : goal.returns-in_err-rest
returns-in_err-rest c =
    halts_on _ _ _ c.from_residual.ensures.1
    (parts_halt c.loop-at.invariant.read c.in-Some.ensures.found (lacks c.in_err-rest.ensures (λ e. rw e at c.part.ensures)))

pub loop-at-smaller : goal.loop-at-smaller
loop-at-smaller c =
    let read = rw c.in_ok-rest.ensures.was_read at c.part.ensures in
    let shorter = read.reads.shorter in
    let cut = ap length c.in-Some.ensures.found.cut in omega (arith, shorter, cut)
