use Rattle.std.proofs.Common.{◌++◌, ℕ, List, ap, arith, subst, sym, ◌∙◌}
use Rattle.circuit_verify.specs.Comparisons.{input_bits, output_bits}
use Rattle.claim_check.specs.Settled.{settled_outputs}
use Rattle.circuit_verify.specs.Compared.{ComparedView, comparison}
use Rattle.circuit_verify.specs.inside.Numbers.{AreNumbersOf, GrowsBy, HoldsNodesOf, first_ports}
use Rattle.circuit_verify.proofs.AskLemmas.{grows-further}
use Rattle.circuit_verify.proofs.NumberLemmas.{numbers-append, numbers-grown}
use Rattle.circuit_verify.proofs.StepLemmas.{input_numbers, many_bits, program_graph}
use Rattle.circuit_verify.proofs.outputs.port_numbers.Goals as goal
use Rattle.circuit_verify.proofs.outputs.port_numbers.Goals.{After-number_outputs, After-number_wanted}

of_bits : (c : After-number_outputs) → AreNumbersOf (comparison c.args.compared.now) c.number_outputs.new.diagram.nodes c.args.bits.now (λ b. b)
of_bits c =
    numbers-grown (comparison c.args.compared.now) c.args.diagram.now c.number_outputs.new.diagram c.number_outputs.ensures.grows.kept c.args.bits.now (λ b. b)
    c.requires.bits

grown : (c : After-number_wanted) → GrowsBy (comparison c.args.compared.now) c.args.diagram.now c.number_wanted.new.diagram
grown c =
    grows-further (comparison c.args.compared.now) c.args.diagram.now c.number_outputs.new.diagram c.number_wanted.new.diagram c.number_outputs.ensures.grows
    c.number_wanted.ensures.grows

pub number_outputs-requires-clause-graph : goal.number_outputs-requires-clause-graph
number_outputs-requires-clause-graph c =
    subst (λ (w : ComparedView). HoldsNodesOf (comparison c.args.compared.now) w.graph) (sym c.compared.view_is)
    (program_graph c.args.compared.now c.variables.ensures.ready)

pub number_held-requires : goal.number_held-requires
number_held-requires c = of_bits (goal.at.number_held-requires c).After-number_outputs

pub split_at-requires : goal.split_at-requires
split_at-requires c =
    omega (arith, c.inputs.ensures, many_bits (comparison c.args.compared.now) c.args.diagram.now.nodes c.args.bits.now c.requires.bits)

pub number_wanted-requires-clause-bits : goal.number_wanted-requires-clause-bits
number_wanted-requires-clause-bits c = of_bits (goal.at.number_wanted-requires-clause-bits c).After-number_outputs

pub number_wanted-requires-clause-held : goal.number_wanted-requires-clause-held
number_wanted-requires-clause-held c =
    subst (λ (ns : List ℕ). AreNumbersOf (comparison c.args.compared.now) c.number_outputs.new.diagram.nodes ns (output_bits (comparison c.args.compared.now)))
    (sym c.deref-2.ensures.value) c.in_ok-held.ensures

pub number_wanted-requires-clause-outputs : goal.number_wanted-requires-clause-outputs
number_wanted-requires-clause-outputs c =
    let q = comparison c.args.compared.now in
    subst (λ (w : ComparedView). AreNumbersOf q c.number_outputs.new.diagram.nodes c.in_ok-outputs.outputs.items
    (λ b. settled_outputs w.graph (input_bits q b))) c.compared.view_is c.in_ok-outputs.ensures.numbers

pub returns-in_err-wanted-clause-grows : goal.returns-in_err-wanted-clause-grows
returns-in_err-wanted-clause-grows c = grown (goal.at.returns-in_err-wanted-clause-grows c).After-number_wanted

pub returns-clause-grows : goal.returns-clause-grows
returns-clause-grows c = grown (goal.at.returns-clause-grows c).After-number_wanted

pub returns-clause-first : goal.returns-clause-first
returns-clause-first c =
    let q = comparison c.args.compared.now in
    let old = c.number_outputs.new.diagram in
    let front = c.split_at.result.0.now in
    let held = c.in_ok-held.held.items in
    let whole = c.in_ok-first.ensures ∙ ap (λ (ns : List ℕ). front ++ ns) c.deref.ensures.value in
    let inputs = input_numbers q old.nodes c.args.bits.now front c.inputs.result c.inputs.ensures c.split_at.ensures.front
    (of_bits (goal.at.returns-clause-first c).After-number_outputs) in
    numbers-grown q old c.number_wanted.new.diagram c.number_wanted.ensures.grows.kept c.in_ok-first.first.items (first_ports q)
    (subst (λ (ns : List ℕ). AreNumbersOf q old.nodes ns (first_ports q)) (sym whole)
    (numbers-append q old.nodes front held (input_bits q) (output_bits q) inputs c.in_ok-held.ensures))
