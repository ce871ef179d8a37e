use Rattle.std.proofs.Common.{subst}
use Rattle.revc_io.specs.Passing.{Writes}
use Rattle.qasm_format.proofs.TextLemmas.{text_is}
use Rattle.qasm_format.proofs.writer.write_file.Goals as goal

pub returns-clause-bytes : goal.returns-clause-bytes
returns-clause-bytes g c =
    subst (Writes c.write_circuit.result (g.K.Sink.held c.args.out.now) (g.K.Sink.held c.write_circuit.new.out))
    (text_is c.args.naming c.args.circuit.now.gates c.requires.narrow) c.write_circuit.ensures.bytes
