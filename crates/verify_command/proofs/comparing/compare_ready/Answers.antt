use Rattle.revc_words.specs.Words.{order_of}
use Rattle.verify_command.proofs.ComparingLemmas.{comparing, countable}
use Rattle.verify_command.proofs.comparing.compare_ready.Goals as goal

pub unverified_fault-requires : goal.unverified_fault-requires
unverified_fault-requires c =
    countable c.args.order.now.values.way c.args.compared c.args.order.now.values.nodes c.in-Err.why c.requires.ready.few c.in-Err.ensures.refused

pub returns-in-Err-clause-err : goal.returns-in-Err-clause-err
returns-in-Err-clause-err c =
    rw c.unverified_fault.ensures (comparing (order_of c.args.order.now) c.args.compared c.in-Err.why c.in-Err.ensures.refused)
