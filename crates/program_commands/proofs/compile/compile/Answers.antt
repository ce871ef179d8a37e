use Rattle.revc_base.proofs.ResultLemmas.{passes_on}
use Rattle.revc_words.specs.Words.{order_of}
use Rattle.program_commands.specs.inside.Plans.{IsPlannedFor}
use Rattle.program_commands.proofs.OrderingLemmas.{ordered_plan}
use Rattle.program_commands.proofs.PlanLemmas.{compiled_file}
use Rattle.program_commands.proofs.compile.compile.Goals as goal
use Rattle.program_commands.proofs.compile.compile.Goals.{In_ok-ordered}

pub returns-in_err-laid-clause-err : goal.returns-in_err-laid-clause-err
returns-in_err-laid-clause-err c =
    passes_on _ c.from_residual-in_err-laid.result c.from_residual-in_err-laid.ensures.1
    (c.in_err-laid.ensures.err.of_text c.args.text.now c.in_ok-tape.ensures.left)

planned : (c : In_ok-ordered) → IsPlannedFor (order_of c.args.order.now) c.args.text.now c.in_ok-tape.tape c.in_ok-ordered.ordered
planned c =
    ordered_plan (order_of c.args.order.now) c.args.text.now c.in_ok-tape.tape c.in_ok-laid.laid c.in_ok-ordered.ordered
    (c.in_ok-laid.ensures.ok.of_text c.args.text.now c.in_ok-tape.ensures.left) c.in_ok-ordered.ensures

pub returns-clause-ok : goal.returns-clause-ok
returns-clause-ok c =
    compiled_file (order_of c.args.order.now) c.args.text.now c.in_ok-ordered.ordered c.in_ok-tape.tape
    (planned (goal.at.returns-clause-ok c).In_ok-ordered)

pub returns-clause-writable : goal.returns-clause-writable
returns-clause-writable c = (planned (goal.at.returns-clause-writable c).In_ok-ordered).can
