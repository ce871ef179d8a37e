use Rattle.std.proofs.Common.{◌<◌, ◌+◌, ℕ, List, false, get_or, length, map, take, sym, subst, ap, arith}
use Rattle.dependency_graph.specs.declared.node.Sig.{Sig}
use Rattle.dependency_graph.specs.declared.node.Sig.TheVariants.{Const}
use Rattle.dependency_graph.specs.Graphs.{IsKnownSig}
use Rattle.decision_diagram.specs.Growth.{StandsFor}
use Rattle.claim_check.specs.Settled.{settled_value}
use Rattle.circuit_verify.specs.Comparisons.{input_bits}
use Rattle.circuit_verify.specs.Compared.{comparison}
use Rattle.circuit_verify.specs.inside.Numbers.{AreNumbersOf, sig_function_of}
use Rattle.circuit_verify.proofs.StepLemmas.{all_outputs, outputs_more, sig_placed}
use Rattle.circuit_verify.proofs.nodes.number_made.Goals as goal

pub sig_number-requires-clause-known : goal.sig_number-requires-clause-known
sig_number-requires-clause-known c =
    let s = c.args.graph.now in
    let i = c.loop-sig.sig-index in
    let sigs = c.outputs-sig-items.ensures.outputs in
    let low : i < length s.outputs = omega (arith, c.loop-sig-test.true, ap length sigs) in
    subst (λ (xs : List Sig). IsKnownSig (length c.args.bits.now) (length c.args.nodes.now) (get_or xs i (Const false))) (sym sigs)
    (sig_placed (comparison c.args.compared.now) s c.requires.graph c.args.diagram.now.nodes c.args.bits.now c.args.nodes.now i (Const false) low
    c.requires.bits c.requires.nodes)

pub loop-sig-preserved : goal.loop-sig-preserved
loop-sig-preserved c =
    let q = comparison c.args.compared.now in
    let s = c.args.graph.now in
    let nodes = c.args.diagram.now.nodes in
    let i = c.loop-sig.sig-index in
    let sigs = c.outputs-sig-items.ensures.outputs in
    let low : i < length s.outputs = omega (arith, c.loop-sig-test.true, ap length sigs) in
    let stands = subst (λ (xs : List Sig). StandsFor nodes c.sig_number.result
    (sig_function_of nodes c.args.bits.now c.args.nodes.now (get_or xs i (Const false)))) sigs c.sig_number.ensures in
    subst (λ (ns : List ℕ). AreNumbersOf q nodes ns (λ b. map (settled_value s (input_bits q b)) (take (i + 1) s.outputs)))
    (sym c.in_ok-push.ensures.items)
    (outputs_more q s c.requires.graph nodes c.args.bits.now c.args.nodes.now c.loop-sig.outputs.items c.sig_number.result i (Const false) low
    c.requires.bits c.requires.nodes stands c.loop-sig.invariant)

pub returns : goal.returns
returns c =
    let sigs = c.outputs-sig-items.ensures.outputs in
    all_outputs (comparison c.args.compared.now) c.args.graph.now c.args.diagram.now.nodes c.loop-sig.outputs.items c.loop-sig.sig-index
    (omega (arith, c.loop-sig-test.false, ap length sigs)) c.loop-sig.invariant
