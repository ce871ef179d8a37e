use Rattle.revc_words.specs.Words.{order_of}
use Rattle.verify_command.proofs.ComparingLemmas.{texts_stop, texts_verified}
use Rattle.verify_command.proofs.verify.verify_texts.Goals as goal

pub returns-clause-ok : goal.returns-clause-ok
returns-clause-ok c =
    texts_verified (order_of c.args.order.now) c.args.program.now c.args.circuit.now c.in_ok-tape.tape c.in_ok-graph.graph c.in_ok-read.read
    c.circuit-circuit.result.now c.compare.result c.compare.ensures.tape c.in_ok-tape.ensures.left c.in_ok-read.ensures.ok
    c.in_ok-graph.ensures.ok c.circuit-circuit.ensures.lines c.circuit-circuit.ensures.gates c.lines.ensures.gates c.compare.ensures.ok

pub returns-clause-err : goal.returns-clause-err
returns-clause-err c =
    texts_stop (order_of c.args.order.now) c.args.program.now c.args.circuit.now c.in_ok-tape.tape c.in_ok-graph.graph c.in_ok-read.read
    c.circuit-circuit.result.now c.compare.result c.requires.program c.in_ok-tape.ensures.left c.in_ok-read.ensures.ok c.in_ok-graph.ensures.ok
    c.circuit-circuit.ensures.lines c.circuit-circuit.ensures.gates c.compare.ensures.err
