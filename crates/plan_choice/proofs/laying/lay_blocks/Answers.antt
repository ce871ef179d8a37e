use Rattle.std.proofs.Common.{length}
use Rattle.std.proofs.lemmas.Result.{IfOk-weaker}
use Rattle.circuit_plans.specs.Plans.{roles_of_plan}
use Rattle.revc_base.proofs.ResultLemmas.{passes_on}
use Rattle.circuit_plans.specs.declared.roles.Start.TheVariants.{Any}
use Rattle.plan_choice.specs.Blocks.{IsPebblingFault}
use Rattle.plan_choice.specs.Choices.{IsLaidFor}
use Rattle.plan_choice.specs.inside.Tried.{IsLaidAsIs, IsLaidInBlocks}
use Rattle.plan_choice.proofs.SplitLemmas.{block_fault, block_within, laid_blocks, laid_for, memory_wanted, plain_ports, port_lines}
use Rattle.eager_cleanup.proofs.PlanLemmas.{plain_clean}
use Rattle.plan_choice.proofs.laying.lay_blocks.Goals as goal

pub returns-clause-refused : goal.returns-clause-refused
returns-clause-refused c =
    let s = c.args.graph.now in let b = c.args.budget.now in let p = c.in_ok-planned.planned in
    memory_wanted c.lay_narrow.result (IsPebblingFault s c.args.block b)
    (port_lines s b p (plain_ports s p (rw c.requires.plain at c.in_ok-planned.ensures.plan).ports)
    c.in_ok-planned.ensures.plan.within.lines) c.lay_narrow.ensures.memory

pub returns-clause-within : goal.returns-clause-within
returns-clause-within c =
    let s = c.args.graph.now in let b = c.args.budget.now in let p = c.in_ok-planned.planned in
    IfOk-weaker c.lay_narrow.result (IsLaidAsIs p b) (IsLaidInBlocks s c.args.block b)
    (λ laid is. laid_blocks s c.args.block b p laid
    (block_within s c.args.block 0 p.circuit.lines (length p.circuit.gates) (rw c.requires.plain at c.in_ok-planned.ensures.few)) is)
    c.lay_narrow.ensures.ok

pub returns-clause-ok : goal.returns-clause-ok
returns-clause-ok c =
    let s = c.args.graph.now in let b = c.args.budget.now in let p = c.in_ok-planned.planned in
    IfOk-weaker c.lay_narrow.result (IsLaidAsIs p b) (IsLaidFor Any s b)
    (λ laid is. laid_for s b p laid (plain_ports s p (rw c.requires.plain at c.in_ok-planned.ensures.plan).ports)
    (plain_clean s (roles_of_plan p) p.circuit.gates (rw c.requires.plain at c.in_ok-planned.ensures.plan).clean) is.laid_of) c.lay_narrow.ensures.ok

pub returns-in_err-planned-clause-refused : goal.returns-in_err-planned-clause-refused
returns-in_err-planned-clause-refused c =
    passes_on _ c.from_residual.result c.from_residual.ensures.1
    (block_fault c.args.graph.now c.args.block c.args.budget.now _ (rw c.requires.plain at c.in_err-planned.ensures.refused))
