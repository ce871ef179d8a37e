use Rattle.std.proofs.Common.{arith}
use Rattle.circuit_verify.specs.Compared.{comparison}
use Rattle.circuit_verify.proofs.StepLemmas.{held_found, held_inside, many_bits}
use Rattle.circuit_verify.proofs.outputs.number_held.Goals as goal

pub split_at-requires : goal.split_at-requires
split_at-requires c = omega (arith, c.inputs.ensures, many_bits (comparison c.args.compared.now) c.args.diagram.now.nodes c.args.bits.now c.requires)

pub held_numbers-requires : goal.held_numbers-requires
held_numbers-requires c =
    held_inside c.args.compared.now c.args.diagram.now.nodes c.args.bits.now c.split_at.result.1.now c.placing.result c.output_lines-lines.result
    c.inputs.result c.placing.ensures c.output_lines-lines.ensures c.inputs.ensures c.split_at.ensures.back c.requires

pub returns : goal.returns
returns c =
    held_found c.args.compared.now c.args.diagram.now.nodes c.args.bits.now c.split_at.result.1.now c.in_ok-held.held.items c.placing.result
    c.output_lines-lines.result c.inputs.result c.truth-never.result c.placing.ensures c.output_lines-lines.ensures c.inputs.ensures
    c.split_at.ensures.back c.in_ok-held.ensures c.requires c.truth-never.ensures.stands
