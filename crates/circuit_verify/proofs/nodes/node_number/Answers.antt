use Rattle.std.proofs.Common.{◌&&◌, length, subst}
use Rattle.std.specs.Bool.{xor}
use Rattle.dependency_graph.specs.declared.node.Node.TheVariants.{And, Xor}
use Rattle.dependency_graph.specs.Graphs.{IsKnownNode}
use Rattle.circuit_verify.proofs.ValueLemmas.{and_is, not_made, two_made, xor_is}
use Rattle.circuit_verify.proofs.nodes.node_number.Goals as goal

pub returns-in-Not : goal.returns-in-Not
returns-in-Not c =
    not_made c.args.bits.now c.args.nodes.now c.in-Not.a c.args.node c.base_number.result c.truth-always.result c.args.diagram.now c.xor.new.self
    c.xor.result c.in-Not.is c.base_number.ensures c.requires.known c.truth-always.ensures.stands c.xor.ensures

pub returns-in-Xor : goal.returns-in-Xor
returns-in-Xor c =
    let x = c.in-Xor.a in let y = c.in-Xor.b in
    let known = subst (IsKnownNode (length c.args.bits.now) (length c.args.nodes.now)) c.in-Xor.is c.requires.known in
    two_made xor c.args.bits.now c.args.nodes.now x y (Xor x y) c.args.node c.base_number-in-Xor.result c.base_number-in-Xor-2.result c.args.diagram.now
    c.xor-in-Xor.new.self c.xor-in-Xor.result c.in-Xor.is c.base_number-in-Xor.ensures c.base_number-in-Xor-2.ensures
    (xor_is c.args.diagram.now.nodes c.args.bits.now c.args.nodes.now x y known.0 known.1) c.xor-in-Xor.ensures

pub returns-in-And : goal.returns-in-And
returns-in-And c =
    let x = c.in-And.a in let y = c.in-And.b in
    let known = subst (IsKnownNode (length c.args.bits.now) (length c.args.nodes.now)) c.in-And.is c.requires.known in
    two_made (λ a b. a && b) c.args.bits.now c.args.nodes.now x y (And x y) c.args.node c.base_number-in-And.result c.base_number-in-And-2.result
    c.args.diagram.now c.and.new.self c.and.result c.in-And.is c.base_number-in-And.ensures c.base_number-in-And-2.ensures
    (and_is c.args.diagram.now.nodes c.args.bits.now c.args.nodes.now x y known.0 known.1) c.and.ensures
