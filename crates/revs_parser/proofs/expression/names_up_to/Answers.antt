use Rattle.std.proofs.Common.{sym, ◌∙◌}
use Rattle.std.proofs.lemmas.Result.{MatchResult-weaker}
use Rattle.revs_lexer.specs.Rest.{left}
use Rattle.revs_parser.proofs.PassingLemmas.{halts_on, lacks}
use Rattle.revs_parser.proofs.ReadingLemmas.{names_begun, names_more, names_done, names_halt, names_unended}
use Rattle.revs_parser.proofs.expression.names_up_to.Goals as goal

pub returns-in_err-rest : goal.returns-in_err-rest
returns-in_err-rest c =
    halts_on _ _ _ c.from_residual.ensures.1
    (names_halt c.loop-names.invariant.read c.args.end (sym c.begins_name.ensures ∙ c.loop-names-test.true)
    (lacks c.in_err-rest.ensures (λ e. rw e at c.name.ensures.halts)))

pub loop-names-preserved : goal.loop-names-preserved
loop-names-preserved c =
    let put = c.in_ok-rest.ensures in
    record {
      read = names_more c.loop-names.invariant.read (sym c.begins_name.ensures ∙ c.loop-names-test.true) (rw put.was_read at c.name.ensures.ok) put.all;
    }

pub returns : goal.returns
returns c =
    let last = sym c.begins_name.ensures ∙ c.loop-names-test.false in
    MatchResult-weaker c.both.result c.both.ensures
    (λ x e. rw e.0 (names_done c.loop-names.invariant.read last (rw e.1 at c.expect.ensures.ok)))
    (λ x e. names_unended c.loop-names.invariant.read c.args.end last (rw e at c.expect.ensures.halts))

pub loop-names-init : goal.loop-names-init
loop-names-init c = record { read = names_begun c.args.names.items (left c.args.tokens) }

pub loop-names-smaller : goal.loop-names-smaller
loop-names-smaller c = let read = rw c.in_ok-rest.ensures.was_read at c.name.ensures.ok in read.shorter
