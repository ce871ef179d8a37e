use Rattle.std.proofs.Common.{length, ◌+◌, ◌≤◌, arith}
use Rattle.std.proofs.lemmas.Result.{IfOk-weaker}
use Rattle.revc_base.proofs.ResultLemmas.{passes_on}
use Rattle.plan_choice.specs.inside.Tried.{IsLaidAsIs, IsLeanFault, IsRow}
use Rattle.plan_choice.proofs.LeanLemmas.{lean_ports, row_fault, row_laid}
use Rattle.plan_choice.proofs.SplitLemmas.{memory_wanted}
use Rattle.plan_choice.proofs.lean.lay_row.Goals as goal

pub returns-clause-ok : goal.returns-clause-ok
returns-clause-ok c =
    let l = c.args.lean.now in let b = c.args.budget.now in let planned = c.in_ok-planned.ensures in
    let covers : length l.nodes ≤ c.nodes-block.result + 1 = omega (arith, c.nodes-block.ensures.nodes) in
    IfOk-weaker c.lay_narrow.result (IsLaidAsIs c.in_ok-planned.planned b) (IsRow l b)
    (row_laid (c.nodes-block.result + 1) covers planned.plan planned.few planned.lines planned.products) c.lay_narrow.ensures.ok

pub returns-clause-refused : goal.returns-clause-refused
returns-clause-refused c =
    memory_wanted c.lay_narrow.result (IsLeanFault c.args.lean.now c.args.budget.now) (lean_ports c.in_ok-planned.ensures.plan)
    c.lay_narrow.ensures.memory

pub returns-in_err-planned-clause-refused : goal.returns-in_err-planned-clause-refused
returns-in_err-planned-clause-refused c =
    let l = c.args.lean.now in
    let covers : length l.nodes ≤ c.nodes-block.result + 1 = omega (arith, c.nodes-block.ensures.nodes) in
    passes_on _ c.from_residual.result c.from_residual.ensures.1
    (row_fault l (c.nodes-block.result + 1) c.args.budget.now _ covers c.in_err-planned.ensures.refused)
