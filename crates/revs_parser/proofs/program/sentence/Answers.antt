use Rattle.revs_parser.proofs.PassingLemmas.{halts_on, only}
use Rattle.revs_parser.proofs.ProgramLemmas.{a_sentence, sentence_halts, in_first, in_parameters, no_equal, in_body}
use Rattle.revs_parser.proofs.program.sentence.Goals as goal

pub returns-in_err-first : goal.returns-in_err-first
returns-in_err-first c =
    halts_on _ _ _ c.from_residual-in_err-first.ensures.1
    (sentence_halts c.in_ok-profile.ensures.ok (in_first c.in_ok-profile.profile c.in_err-first.ensures))

pub returns-in_err-params : goal.returns-in_err-params
returns-in_err-params c =
    halts_on _ _ _ c.from_residual-in_err-params.ensures.1
    (sentence_halts c.in_ok-profile.ensures.ok (in_parameters c.in_ok-first.ensures c.in_err-params.ensures))

pub returns-in_err-rest : goal.returns-in_err-rest
returns-in_err-rest c =
    halts_on _ _ _ c.from_residual-in_err-rest.ensures.1
    (sentence_halts c.in_ok-profile.ensures.ok (no_equal c.in_ok-first.ensures c.in_ok-params.ensures c.in_err-rest.ensures.halts))

pub returns-in_err-body : goal.returns-in_err-body
returns-in_err-body c =
    halts_on _ _ _ c.from_residual-in_err-body.ensures.1
    (sentence_halts c.in_ok-profile.ensures.ok (in_body c.in_ok-first.ensures c.in_ok-params.ensures c.in_ok-rest.ensures.ok c.in_err-body.ensures))

pub returns : goal.returns
returns c =
    a_sentence c.in_ok-profile.ensures.ok c.in_ok-first.ensures
    (only c.new-params.result.items c.in_ok-first.first c.in_ok-push.ensures.items c.new-params.ensures.items)
    c.in_ok-params.ensures c.in_ok-rest.ensures.ok c.in_ok-body.ensures
