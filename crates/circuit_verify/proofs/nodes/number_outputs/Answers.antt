use Rattle.circuit_verify.specs.Compared.{comparison}
use Rattle.circuit_verify.proofs.NumberLemmas.{numbers-grown}
use Rattle.circuit_verify.proofs.nodes.number_outputs.Goals as goal

pub number_made-requires-clause-bits : goal.number_made-requires-clause-bits
number_made-requires-clause-bits c =
    numbers-grown (comparison c.args.compared.now) c.args.diagram.now c.number_nodes.new.diagram c.number_nodes.ensures.grows.kept c.args.bits.now (λ b. b)
    c.requires.bits
