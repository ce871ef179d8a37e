use Rattle.program_commands.proofs.BenchLemmas.{benched, memory_stops}
use Rattle.arith_templates.specs.Adder.{adder_text}
use Rattle.revc_words.specs.Words.{order_of}
use Rattle.revc_base.proofs.ResultLemmas.{passes_on}
use Rattle.program_commands.proofs.bench.measure_tape.Goals as goal

pub returns-in_err-laid-clause-err : goal.returns-in_err-laid-clause-err
returns-in_err-laid-clause-err c =
    passes_on _ c.from_residual.result c.from_residual.ensures.1
    (c.in_err-laid.ensures.err.of_text (adder_text c.args.order.now.number) c.requires.left)

pub returns-clause-ok : goal.returns-clause-ok
returns-clause-ok c =
    benched (order_of c.args.order.now) c.args.tape.now c.in_ok-laid.laid c.sizes_of.result
    (c.in_ok-laid.ensures.ok.of_text (adder_text c.args.order.now.number) c.requires.left) c.sizes_of.ensures.ok

pub returns-clause-err : goal.returns-clause-err
returns-clause-err c = memory_stops (order_of c.args.order.now) (adder_text c.args.order.now.number) c.sizes_of.result c.sizes_of.ensures.err
