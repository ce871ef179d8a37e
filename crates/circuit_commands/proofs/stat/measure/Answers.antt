use Rattle.circuit_commands.proofs.CircuitLemmas.{measured_of, memory_stops}
use Rattle.circuit_commands.proofs.stat.measure.Goals as goal

pub returns-clause-ok : goal.returns-clause-ok
returns-clause-ok c =
    measured_of c.args.from c.args.text.now c.in_ok-source.source c.sizes_of.result c.in_ok-source.ensures.ok c.sizes_of.ensures.ok

pub returns-clause-err : goal.returns-clause-err
returns-clause-err c = memory_stops c.args.from c.args.text.now c.sizes_of.result c.sizes_of.ensures.err
