use Rattle.std.proofs.Common.{Err, ap, ◌∙◌}
use Rattle.circuit_commands.proofs.ConvertLemmas.{own_some, own_split}
use Rattle.circuit_commands.proofs.convert.split_on_lines.Goals as goal

pub returns-in-Ok-clause-ok : goal.returns-in-Ok-clause-ok
returns-in-Ok-clause-ok c =
    own_split c.args.most c.args.source.now c.circuit-circuit.result.now c.in-Ok.narrow c.lines.result c.circuit-circuit.ensures.lines
    c.circuit-circuit.ensures.gates c.lines.ensures.lines c.in-Ok.ensures.gates c.in-Ok.ensures.size c.in-Ok.ensures.map

pub returns-in-Err-Memory-clause-err : goal.returns-in-Err-Memory-clause-err
returns-in-Err-Memory-clause-err c =
    own_some c.args.most c.args.source.now c.circuit-circuit.result.now c.lines.result c.circuit-circuit.ensures.lines c.circuit-circuit.ensures.gates
    c.lines.ensures.lines (c.split.ensures.memory (c.in-Err-Memory.is ∙ ap Err c.in-Err-Memory.field-0-is))
