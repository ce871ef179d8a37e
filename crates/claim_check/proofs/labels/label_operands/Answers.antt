use Rattle.std.proofs.Common.{◌≡◌, ◌+◌, ◌-◌, ◌<◌, length, subst, arith, ℕ, get_or, refl}
use Rattle.revs_tape.specs.Measures.{inputs_of}
use Rattle.claim_check.specs.inside.Labels.{ArePassedOn}
use Rattle.claim_check.proofs.LabelLemmas.{write_passed, operands_have_slots}
use Rattle.claim_check.proofs.labels.label_operands.Goals as goal

pub pass_on-requires : goal.pass_on-requires
pass_on-requires c =
    let t = c.args.tape.now in
    let j : ℕ = c.loop-j.j - 1 in
    let inside : j < length t.entries = omega (arith, c.loop-j.auto.j, c.loop-j-test.true, c.len-j.ensures.len) in
    operands_have_slots t c.inputs.ensures.tape c.inputs-in-loop-j.result c.inputs-in-loop-j.ensures.inputs c.loop-j.labels
    (c.loop-j.invariant.0).size j c.entry.result c.entry.ensures inside

pub loop-j-preserved : goal.loop-j-preserved
loop-j-preserved c =
    let t = c.args.tape.now in
    let j : ℕ = c.loop-j.j - 1 in
    let inside : j < length t.entries = omega (arith, c.loop-j.auto.j, c.loop-j-test.true, c.len-j.ensures.len) in
    let back : c.loop-j.j ≡ j + 1 = omega (arith, c.loop-j-test.true) in
    let named : get_or c.loop-j.labels (c.inputs.result + j) 0 ≡ get_or c.loop-j.labels (inputs_of t + j) 0 =
    subst (λ (n : ℕ). get_or c.loop-j.labels (c.inputs.result + j) 0 ≡ get_or c.loop-j.labels (n + j) 0) c.inputs.ensures.inputs refl in
    write_passed t c.inputs.ensures.tape c.inputs-in-loop-j.result c.inputs-in-loop-j.ensures.inputs j c.entry.result _
    c.loop-j.labels c.pass_on.new.labels c.entry.ensures inside named c.loop-j.invariant.0 c.loop-j.invariant.1
    (subst (λ (k : ℕ). ArePassedOn t k c.loop-j.labels) back c.loop-j.invariant.2) c.pass_on.ensures
