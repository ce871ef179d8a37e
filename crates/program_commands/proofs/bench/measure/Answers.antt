use Rattle.std.proofs.Common.{length, ◌≤◌, ◌∙◌, subst, sym, List, ℕ}
use Rattle.program_texts.specs.Settling.{LeavesTape}
use Rattle.program_commands.proofs.BenchLemmas.{adds, bench_faults}
use Rattle.program_commands.proofs.PlanLemmas.{stops_compile}
use Rattle.arith_templates.specs.Adder.{adder_text}
use Rattle.revc_words.specs.Words.{order_of}
use Rattle.revs_parser.specs.declared.limits.TheConstants.{MOST_BYTES}
use Rattle.revc_base.proofs.ResultLemmas.{passes_on}
use Rattle.program_commands.proofs.bench.measure.Goals as goal

pub text-requires-clause-factor : goal.text-requires-clause-factor
text-requires-clause-factor c = λ e. absurd cc

pub returns-in_err-tape-clause-err : goal.returns-in_err-tape-clause-err
returns-in_err-tape-clause-err c =
    let order = order_of c.args.order.now in
    bench_faults order c.from_residual-in_err-tape.result c.requires.size
    (passes_on _ c.from_residual-in_err-tape.result c.from_residual-in_err-tape.ensures.1
    (stops_compile order (adder_text order.number) c.in_err-tape.field-0.0
    (rw (c.as_slice.ensures.value ∙ c.in_ok-text.ensures.bytes) at c.in_err-tape.ensures.err)))

pub tape_of_text-requires : goal.tape_of_text-requires
tape_of_text-requires c =
    subst (λ (text : List ℕ). length text ≤ MOST_BYTES) (sym (c.as_slice.ensures.value ∙ c.in_ok-text.ensures.bytes))
    (adds c.args.order.now.number c.requires.size).formed.text_of.short

pub measure_tape-requires-clause-left : goal.measure_tape-requires-clause-left
measure_tape-requires-clause-left c =
    subst (λ (text : List ℕ). LeavesTape text c.in_ok-tape.tape) (c.as_slice.ensures.value ∙ c.in_ok-text.ensures.bytes) c.in_ok-tape.ensures.left

pub returns-clause-err : goal.returns-clause-err
returns-clause-err c = bench_faults (order_of c.args.order.now) c.measure_tape.result c.requires.size c.measure_tape.ensures.err
