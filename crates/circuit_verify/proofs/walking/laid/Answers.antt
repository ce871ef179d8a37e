use Rattle.std.proofs.Common.{◌≡◌, ◌++◌, ℕ, List, length, drop, replicate, ap, ap₂, ◌∙◌, arith}
use Rattle.std.proofs.lemmas.List.{length-drop}
use Rattle.std.proofs.lemmas.Result.{IfOk-weaker}
use Rattle.circuit_verify.specs.Compared.{comparison}
use Rattle.circuit_verify.proofs.StepLemmas.{lines_laid, many_bits}
use Rattle.circuit_verify.proofs.walking.laid.Goals as goal

pub split_at-requires : goal.split_at-requires
split_at-requires c = omega (arith, c.inputs.ensures, many_bits (comparison c.args.compared.now) c.args.diagram.now.nodes c.args.bits.now c.requires)

pub split_at-requires-2 : goal.split_at-requires-2
split_at-requires-2 c =
    omega (
      arith,
      c.output_variables.ensures.count,
      ap (λ (ns : List ℕ). length ns) c.split_at.ensures.back,
      length-drop c.inputs.result c.args.bits.now,
      c.inputs.ensures,
      many_bits (comparison c.args.compared.now) c.args.diagram.now.nodes c.args.bits.now c.requires,
    )

pub returns : goal.returns
returns c =
    let q = comparison c.args.compared.now in
    let bits = c.args.bits.now in
    let ports = c.args.ports.now in
    let rest = c.split_at-2.ensures.back ∙ ap (λ (ns : List ℕ). drop c.output_variables.result ns) c.split_at.ensures.back in
    let idle : c.deref.result.now ≡ replicate c.work.result c.truth-never.result =
    c.deref.ensures.value ∙ c.in_ok-idle.ensures.items_if_clones_equal (λ y same. same) in
    IfOk-weaker c.all_lines.result _ _
    (λ lines is. lines_laid q c.args.diagram.now.nodes bits ports lines.items c.inputs.result c.output_variables.result c.work.result c.truth-never.result
    c.inputs.ensures c.output_variables.ensures.count c.work.ensures
    (is ∙ ap₂ (λ (w b : List ℕ). ports ++ (w ++ b)) idle rest)
    c.requires c.truth-never.ensures.stands)
    c.all_lines.ensures
