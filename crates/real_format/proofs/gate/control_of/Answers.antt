use Rattle.real_format.specs.inside.Reading.{Refuses, control_of}
use Rattle.real_format.specs.inside.Stamps.{is_stamped}
use Rattle.std.proofs.Common.{sym, ◌∙◌}
use Rattle.revc_base.proofs.ResultLemmas.{passes_on}
use Rattle.real_format.proofs.StampLemmas.{refused_control}
use Rattle.real_format.proofs.gate.control_of.Goals as goal

pub returns-in_err-line-clause-err : goal.returns-in_err-line-clause-err
returns-in_err-line-clause-err c =
    passes_on (Refuses (control_of c.args.names.now
    (is_stamped c.args.stamps.now c.args.stamp) c.args.word.now)) c.from_residual.result c.from_residual.ensures.1
    (refused_control c.args.names.now (is_stamped c.args.stamps.now c.args.stamp) c.args.word.now c.split_at.result.1.now _ (sym c.has_sign.ensures
    ∙ c.if-has_sign.true)
    c.split_at.ensures.back c.in_err-line.ensures.err)
