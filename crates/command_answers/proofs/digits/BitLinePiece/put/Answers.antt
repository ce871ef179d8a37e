use Rattle.std.proofs.Common.{ap, subst, ◌++◌, codes}
use Rattle.revc_io.specs.Passing.{Gathers}
use Rattle.revc_io.proofs.PieceLemmas.{bytes_are}
use Rattle.command_answers.specs.Lines.{digits_of}
use Rattle.command_answers.proofs.digits.BitLinePiece.put.Goals as goal

pub returns-clause-bytes : goal.returns-clause-bytes
returns-clause-bytes g c =
    subst (Gathers c.put.result (g.K.Sink.held c.args.out.now) (g.K.Sink.held c.put.new.out) c.args.buffer.now c.put.new.buffer)
    (ap (λ digits. digits ++ codes "\n") (bytes_are (digits_of c.args.self.0.now))) c.put.ensures.bytes
