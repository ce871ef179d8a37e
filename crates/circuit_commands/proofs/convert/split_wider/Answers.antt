use Rattle.std.proofs.Common.{Err, ap, arith, ◌∙◌}
use Rattle.circuit_commands.proofs.ConvertLemmas.{wider_some, wider_split}
use Rattle.circuit_commands.proofs.WiderLemmas.{never_wants}
use Rattle.circuit_commands.proofs.convert.split_wider.Goals as goal

pub returns-in-Ok-clause-ok : goal.returns-in-Ok-clause-ok
returns-in-Ok-clause-ok c =
    let few = c.requires.lines.few in
    let other = c.if-lines-eq-MOST_LINES.false in
    let own = c.circuit-circuit.ensures.lines in
    let counted = c.lines-lines.ensures.lines in
    wider_split c.args.most c.args.source.now c.circuit-circuit.result.now c.in-Ok.narrow c.lines-lines.result own c.circuit-circuit.ensures.gates counted
    c.lines-lines.ensures.gates c.requires.wants (omega arith) c.in-Ok.ensures.gates c.in-Ok.ensures.size c.in-Ok.ensures.map

pub unreachable-requires : goal.unreachable-requires
unreachable-requires c =
    never_wants c.circuit-circuit.result.now.lines c.args.most c.in-Err-NoIdle.field-0-0 c.lines-lines.result c.circuit-circuit.result.now.gates c.split.result
    c.in-Err-NoIdle.field-0 c.lines-lines.ensures.gates c.lines-lines.ensures.lines c.in-Err-NoIdle.is c.in-Err-NoIdle.field-0-is c.split.ensures.no_idle

pub returns-in-Err-Memory-clause-err : goal.returns-in-Err-Memory-clause-err
returns-in-Err-Memory-clause-err c =
    let few = c.requires.lines.few in
    let other = c.if-lines-eq-MOST_LINES.false in
    let own = c.circuit-circuit.ensures.lines in
    let counted = c.lines-lines.ensures.lines in
    wider_some c.args.most c.args.source.now c.circuit-circuit.result.now c.lines-lines.result own c.circuit-circuit.ensures.gates counted
    c.requires.wants (omega arith) (c.split.ensures.memory (c.in-Err-Memory.is ∙ ap Err c.in-Err-Memory.field-0-is))
