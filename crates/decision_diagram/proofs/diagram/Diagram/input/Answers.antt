use Rattle.std.proofs.Common.{arith}
use Rattle.decision_diagram.specs.Diagrams.{Triple}
use Rattle.decision_diagram.specs.inside.Flipping.{node_function}
use Rattle.decision_diagram.proofs.GrowthLemmas.{computes, computes_same, constant_behind, input_function}
use Rattle.decision_diagram.proofs.diagram.Diagram.input.Goals as goal

pub node-requires-clause-low : goal.node-requires-clause-low
node-requires-clause-low c =
    let d = c.args.self.now in
    constant_behind d.vars d.nodes c.args.var c.truth-low.result c.requires (omega (arith, c.truth-low.ensures.number))

pub node-requires-clause-high : goal.node-requires-clause-high
node-requires-clause-high c =
    let d = c.args.self.now in
    constant_behind d.vars d.nodes c.args.var c.truth-high.result c.requires (omega (arith, c.truth-high.ensures.number))

pub returns : goal.returns
returns c =
    let d = c.args.self.now in
    let now = c.node.new.self in
    let node : Triple = record { variable = c.args.var; low = c.truth-low.result; high = c.truth-high.result } in
    computes_same (λ a. a c.args.var) (node_function d.nodes node) d now c.node.result
    (input_function d.nodes c.args.var c.truth-low.result c.truth-high.result c.truth-low.ensures.stands c.truth-high.ensures.stands)
    (computes (node_function d.nodes node) d now c.node.result c.node.ensures.grows c.node.ensures.answer c.node.ensures.refused)
