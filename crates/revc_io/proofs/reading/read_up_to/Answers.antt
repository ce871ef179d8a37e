use Rattle.std.proofs.Common.{take, arith, length-append, length-take}
use Rattle.std.proofs.lemmas.Result.{err_from_is_err_and}
use Rattle.revc_io.proofs.ReadingLemmas.{stops}
use Rattle.revc_io.proofs.reading.read_up_to.Goals as goal

pub returns-then-count-limit-clause-stops : goal.returns-then-count-limit-clause-stops
returns-then-count-limit-clause-stops g c =
    let all = c.loop-all.all.items in
    let more = take c.in_ok-count.count c.read.new.buf in
    stops _ _ _ c.args.limit _ all more c.loop-all.invariant.taken c.in_ok-count.ensures.bytes.0
    (omega (arith, length-append all more, c.in_ok-count.ensures.bound, length-take c.min-most.result c.loop-all.chunk))

pub returns-in_err-extend_from_slice-clause-stops : goal.returns-in_err-extend_from_slice-clause-stops
returns-in_err-extend_from_slice-clause-stops g c =
    let all = c.loop-all.all.items in
    let more = take c.in_ok-count.count c.read.new.buf in
    let refusal = c.from_residual-in_err-extend_from_slice in
    let fault = err_from_is_err_and refusal.result refusal.ensures.1 in
    rw (fault.1, fault.2) (stops _ _ _ c.args.limit _ all more c.loop-all.invariant.taken c.in_ok-count.ensures.bytes.0
    (omega (arith, length-append all more, c.in_ok-count.ensures.bound)))
