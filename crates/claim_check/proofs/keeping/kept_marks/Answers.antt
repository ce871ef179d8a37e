use Rattle.std.proofs.Common.{◌≡◌, ℕ, Bool, false, List, length, drop, replicate, refl, ap, ◌∙◌, arith}
use Rattle.std.specs.List.{flat_map}
use Rattle.std.proofs.lemmas.List.{length-replicate}
use Rattle.dependency_graph.specs.declared.node.Sig.{Sig}
use Rattle.dependency_graph.specs.Graphs.{base_of}
use Rattle.claim_check.specs.inside.Marks.{with_marks, with_nodes}
use Rattle.claim_check.proofs.OutcomeLemmas.{whole_list}
use Rattle.claim_check.proofs.keeping.kept_marks.Goals as goal

pub mark_nodes-requires : goal.mark_nodes-requires
mark_nodes-requires c =
    let filled : c.in_ok-marks.marks.items ≡ replicate (length c.args.graph.now.nodes) false =
    c.in_ok-marks.ensures.items_if_clones_equal (λ y same. same) ∙ ap (λ (n : ℕ). replicate n false) c.nodes.ensures.nodes in
    let size : length c.in_ok-marks.marks.items ≡ length c.args.graph.now.nodes =
    ap length filled ∙ length-replicate (length c.args.graph.now.nodes) false in
    omega (arith, size, ap length c.as_mut_slice-all.ensures.value, c.mark_outputs.auto.marks)

pub returns-clause-one_each : goal.returns-clause-one_each
returns-clause-one_each c =
    let filled : c.in_ok-marks.marks.items ≡ replicate (length c.args.graph.now.nodes) false =
    c.in_ok-marks.ensures.items_if_clones_equal (λ y same. same) ∙ ap (λ (n : ℕ). replicate n false) c.nodes.ensures.nodes in
    let size : length c.in_ok-marks.marks.items ≡ length c.args.graph.now.nodes =
    ap length filled ∙ length-replicate (length c.args.graph.now.nodes) false in
    let rest = drop (length c.mark_nodes.new.marks) c.in_ok-marks.marks.items in
    let whole = whole_list c.in_ok-marks.marks.len _ c.mark_nodes.new.marks rest refl
    (omega (arith, c.in_ok-marks.marks.ok.0, ap length c.as_mut_slice-all.ensures.value, c.mark_outputs.auto.marks, c.mark_nodes.auto.marks)) in
    ap length whole ∙ omega (arith, size, ap length c.as_mut_slice-all.ensures.value, c.mark_outputs.auto.marks, c.mark_nodes.auto.marks)

pub returns-clause-marks : goal.returns-clause-marks
returns-clause-marks c =
    let filled : c.in_ok-marks.marks.items ≡ replicate (length c.args.graph.now.nodes) false =
    c.in_ok-marks.ensures.items_if_clones_equal (λ y same. same) ∙ ap (λ (n : ℕ). replicate n false) c.nodes.ensures.nodes in
    let rest = drop (length c.mark_nodes.new.marks) c.in_ok-marks.marks.items in
    let whole = whole_list c.in_ok-marks.marks.len _ c.mark_nodes.new.marks rest refl
    (omega (arith, c.in_ok-marks.marks.ok.0, ap length c.as_mut_slice-all.ensures.value, c.mark_outputs.auto.marks, c.mark_nodes.auto.marks)) in
    let bases = flat_map base_of c.outputs.result.now in
    whole ∙ c.mark_nodes.ensures
    ∙ ap (λ (m : List Bool). with_nodes m 0 c.args.graph.now.nodes) (c.mark_outputs.ensures
    ∙ ap (λ (m : List Bool). with_marks m bases) (c.as_mut_slice-all.ensures.value ∙ filled)
    ∙ ap (λ (o : List Sig). with_marks (replicate (length c.args.graph.now.nodes) false) (flat_map base_of o)) c.outputs.ensures.outputs)
