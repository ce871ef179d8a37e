use Rattle.std.proofs.Common.{subst}
use Rattle.revc_io.specs.Passing.{Writes}
use Rattle.revc_io.proofs.PieceLemmas.{joined_is}
use Rattle.command_answers.proofs.digits.write_numbers.Goals as goal

pub returns-clause-bytes : goal.returns-clause-bytes
returns-clause-bytes g c =
    subst (Writes c.write_whole.result (g.K.Sink.held c.args.out.now) (g.K.Sink.held c.write_whole.new.out))
    (joined_is _ c.args.lines.now) c.write_whole.ensures.bytes
