use Rattle.std.proofs.Common.{rules, ◌≤◌, Ok, length, sym, subst}
use Rattle.mct_circuit.specs.Gates.{AreNarrow, CircuitView}
use Rattle.gate_split.specs.Split.{IsSplitList, Splits}
use Rattle.gate_split.proofs.PieceLemmas.{stay}
use Rattle.gate_split.proofs.WalkLemmas.{fails_so, no_memory, splits_so}
use Rattle.gate_split.proofs.walk.split_owned.Goals as goal
use Rattle.gate_split.proofs.walk.split_owned.Goals.{After-widened}

-- narrow gates are their own split list
kept : (c : After-widened) → IsSplitList c.args.lines c.args.limit c.args.circuit.gates c.args.circuit.gates
kept c =
    let narrow : AreNarrow c.args.circuit.gates = search rules in
    let few : length c.args.circuit.gates ≤ c.args.limit = search rules in
    stay c.args.lines c.args.limit c.args.circuit.gates narrow few

pub returns-in_err-widened : goal.returns-in_err-widened
returns-in_err-widened c =
    let gates = c.args.circuit.gates in
    fails_so c.args.lines c.args.limit gates c.from_residual.result c.from_residual.ensures.1
    (no_memory c.args.lines c.args.limit gates (record { narrow = gates; split = kept (goal.at.returns-in_err-widened c).After-widened }))

pub returns-then-are_narrow : goal.returns-then-are_narrow
returns-then-are_narrow c =
    let gates = c.args.circuit.gates in
    subst (λ (n : CircuitView). Splits c.args.lines c.args.limit gates (Ok n)) (sym c.in_ok-widened.ensures)
    (splits_so c.args.lines c.args.limit gates (kept (goal.at.returns-then-are_narrow c).After-widened))
