use Rattle.std.proofs.Common.{refl}
use Rattle.revc_words.specs.Words.{order_of, words_of}
use Rattle.revc_driver.specs.inside.Outcomes.{text_of}
use Rattle.revc_words.proofs.LimitLemmas.{orders_are_within_limits}
use Rattle.revc_driver.proofs.EndLemmas.{ends_failed, not_prepared, not_written, read_failed, usage_of, words_failed, written}
use Rattle.revc_driver.proofs.OutcomeLemmas.{outcome_of}
use Rattle.revc_driver.proofs.top.run.Goals as goal

pub returns-in-Err : goal.returns-in-Err
returns-in-Err g c =
    rw c.words_fault.ensures (words_failed g.S.Source.rest g.S.Source.faults g.K.Sink.held g.K.Sink.faults c.args.source.now c.args.out.now
    (words_of c.args.words.now) c.in-Err.fault
    (usage_of (words_of c.args.words.now) c.in-Err.fault c.read_words.result c.in-Err.is c.read_words.ensures.usage))

pub returns-in_err-text : goal.returns-in_err-text
returns-in_err-text g c =
    ends_failed _ c.from_residual.result c.from_residual.ensures.1
    (read_failed _ (order_of c.in-Ok.order) _ c.in-Ok.ensures.ok (outcome_of c.in-Ok.order.command)
    (rw c.limit_of.ensures.limit at c.in_err-text.ensures.err) refl refl)

pub returns-in_err-prepared : goal.returns-in_err-prepared
returns-in_err-prepared g c =
    ends_failed _ c.from_residual-in_err-prepared.result c.from_residual-in_err-prepared.ensures.1
    (not_prepared _ (order_of c.in-Ok.order) c.in_ok-text.text.items c.in_ok-text.text.items _ c.in-Ok.ensures.ok (outcome_of c.in-Ok.order.command)
    (rw c.limit_of.ensures.limit at c.in_ok-text.ensures.ok) refl c.in_err-prepared.ensures.err refl refl)

pub returns-in-Ok-write : goal.returns-in-Ok-write
returns-in-Ok-write g c =
    written _ (order_of c.in-Ok.order) c.in_ok-text.text.items c.in_ok-text.text.items (text_of c.in_ok-prepared.prepared) c.in-Ok.ensures.ok
    (outcome_of c.in-Ok.order.command) (rw c.limit_of.ensures.limit at c.in_ok-text.ensures.ok) refl c.in_ok-prepared.ensures.ok
    c.in-Ok-write.ensures.bytes.0 c.in-Ok-write.ensures.bytes.1 c.in-Ok-write.ensures.cause.stays

pub returns : goal.returns
returns g c =
    not_written _ (order_of c.in-Ok.order) c.in_ok-text.text.items c.in_ok-text.text.items (text_of c.in_ok-prepared.prepared) c.in-Ok.ensures.ok
    (outcome_of c.in-Ok.order.command) (rw c.limit_of.ensures.limit at c.in_ok-text.ensures.ok) refl c.in_ok-prepared.ensures.ok
    c.in-Err-write.ensures.bytes c.in-Err-write.ensures.cause.failed

pub prepare-requires-clause-limits : goal.prepare-requires-clause-limits
prepare-requires-clause-limits g c = orders_are_within_limits (words_of c.args.words.now) (order_of c.in-Ok.order) c.in-Ok.ensures.ok
