use Rattle.std.proofs.Common.{◌≡◌, ℕ, ◌+◌, ◌≤◌, ◌∙◌, ap, arith}
use Rattle.revs_tape.specs.declared.limits.TheConstants.{MOST_INPUTS}
use Rattle.revs_terms.specs.Programs.{width_of}
use Rattle.revs_parser.proofs.ProgramLemmas.{limits_more}
use Rattle.revs_parser.proofs.program.passed_at.Goals as goal

pub loop-param-preserved : goal.loop-param-preserved
loop-param-preserved c =
    let w : c.bits_of-bits.result ≡ width_of c.in-Some.param.now.width = c.bits_of-bits.ensures in
    let some : ¬ (width_of c.in-Some.param.now.width ≡ 0) = λ none. c.if-bits-eq0.false (w ∙ none) in
    let fine = c.loop-param.invariant.so_far.fine.inputs in
    let total = c.loop-param.invariant.so_far.total in
    let room = c.if-inputs-bits.false in
    let few : c.loop-param.inputs + width_of c.in-Some.param.now.width ≤ MOST_INPUTS = omega (arith, fine, total, room, w) in
    record {
      so_far = limits_more c.in-Some.param.now c.in-Some.behind.now _ c.loop-param.invariant.so_far c.in-Some.ensures.cases.0 some few
          (ap (λ (z : ℕ). c.loop-param.inputs + z) w);
    }
