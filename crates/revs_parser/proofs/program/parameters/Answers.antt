use Rattle.revs_lexer.specs.Rest.{left}
use Rattle.revs_parser.proofs.PassingLemmas.{halts_on, lacks}
use Rattle.revs_parser.proofs.ProgramLemmas.{parameters_begun, parameters_more, parameters_done, parameters_halt}
use Rattle.revs_parser.proofs.program.parameters.Goals as goal

pub loop-params-init : goal.loop-params-init
loop-params-init c = record { read = parameters_begun c.args.params.items (left c.args.tokens) }

pub loop-params-preserved : goal.loop-params-preserved
loop-params-preserved c =
    let put = c.in_ok-rest.ensures in
    record { read = parameters_more c.loop-params.invariant.read c.in-Some.ensures.found (rw put.was_read at c.parameter.ensures) put.all }

pub returns-in_err-rest : goal.returns-in_err-rest
returns-in_err-rest c =
    halts_on _ _ _ c.from_residual.ensures.1
    (parameters_halt c.loop-params.invariant.read c.in-Some.ensures.found (lacks c.in_err-rest.ensures (λ e. rw e at c.parameter.ensures)))

pub returns : goal.returns
returns c = parameters_done c.loop-params.invariant.read c.in_default.ensures.none

pub loop-params-smaller : goal.loop-params-smaller
loop-params-smaller c = let read = rw c.in_ok-rest.ensures.was_read at c.parameter.ensures in read.shorter
