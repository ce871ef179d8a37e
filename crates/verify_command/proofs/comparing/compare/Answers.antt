use Rattle.std.proofs.lemmas.Result.{IfErr-weaker, on_ok_weaker}
use Rattle.revc_words.specs.Words.{order_of}
use Rattle.verify_command.proofs.ComparingLemmas.{named_in, tape_not_comparable, tape_stopped, tape_verified}
use Rattle.verify_command.proofs.comparing.compare.Goals as goal

pub returns-in-Ok-clause-ok : goal.returns-in-Ok-clause-ok
returns-in-Ok-clause-ok c =
    on_ok_weaker c.compare_ready.result
    (tape_verified c.args.tape.now c.args.graph.now c.args.assumed.now c.params.result.now c.args.circuit.now (order_of c.args.order.now) c.in-Ok.compared
    c.in-Ok.ensures.made c.params.ensures.params c.requires.settled c.requires.assumed) c.compare_ready.ensures.ok

pub returns-in-Ok-clause-err : goal.returns-in-Ok-clause-err
returns-in-Ok-clause-err c =
    IfErr-weaker c.compare_ready.result _ _
    (λ fault h. tape_stopped c.args.tape.now c.args.graph.now c.args.assumed.now c.params.result.now c.args.circuit.now (order_of c.args.order.now)
    c.in-Ok.compared fault
    c.in-Ok.ensures.made c.params.ensures.params c.requires.settled c.requires.assumed h) c.compare_ready.ensures.err

pub not_comparable_fault-requires : goal.not_comparable_fault-requires
not_comparable_fault-requires c =
    named_in c.params.result.now c.args.graph.now c.args.assumed.now c.args.circuit.now (order_of c.args.order.now) c.in-Err.why c.in-Err.ensures.refused

pub returns-in-Err-clause-err : goal.returns-in-Err-clause-err
returns-in-Err-clause-err c =
    rw c.not_comparable_fault.ensures
    (tape_not_comparable c.args.tape.now c.args.graph.now c.args.assumed.now c.params.result.now c.args.circuit.now (order_of c.args.order.now) c.in-Err.why
    c.params.ensures.params c.requires.settled c.requires.assumed c.in-Err.ensures.refused)
