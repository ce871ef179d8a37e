use Rattle.std.proofs.Common.{◌++◌, ℕ, List, ap, arith, subst, sym, ◌∙◌}
use Rattle.circuit_verify.specs.Comparisons.{input_bits}
use Rattle.circuit_verify.specs.Compared.{comparison}
use Rattle.circuit_verify.specs.Comparisons.{IsAdded}
use Rattle.circuit_verify.proofs.NumberLemmas.{numbers-grown}
use Rattle.circuit_verify.proofs.StepLemmas.{input_numbers, many_bits, ports_added}
use Rattle.circuit_verify.proofs.outputs.number_wanted.Goals as goal

pub split_at-requires : goal.split_at-requires
split_at-requires c =
    omega (arith, c.inputs.ensures, many_bits (comparison c.args.compared.now) c.args.diagram.now.nodes c.args.bits.now c.requires.bits)

pub returns-in_ok-joined-in-Added-clause-numbers : goal.returns-in_ok-joined-in-Added-clause-numbers
returns-in_ok-joined-in-Added-clause-numbers c =
    let v = c.args.compared.now in
    let q = comparison v in
    let old = c.args.diagram.now in
    let new = c.number_added.new.diagram in
    let front = c.split_at.result.0.now in
    ports_added v new.nodes front c.in_ok-added-in-Added.added.items c.in_ok-joined-in-Added.field-0.items
    (subst IsAdded (sym c.in-Added.is ∙ c.placing.ensures) tt)
    (c.in_ok-joined-in-Added.ensures ∙ ap (λ (ns : List ℕ). front ++ ns) c.deref-in-Added.ensures.value)
    (numbers-grown q old new c.number_added.ensures.grows.kept front (input_bits q)
    (input_numbers q old.nodes c.args.bits.now front c.inputs.result c.inputs.ensures c.split_at.ensures.front c.requires.bits))
    c.in_ok-added-in-Added.ensures.numbers
