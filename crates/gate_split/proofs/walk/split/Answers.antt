use Rattle.std.proofs.Common.{rules, ◌≡◌, ◌++◌, List, ap, sym, subst, ◌∙◌}
use Rattle.mct_circuit.specs.Gates.{AreGatesOn, AreNarrow, CircuitView, GateView, line_map}
use Rattle.gate_split.proofs.NegativeLemmas.{DoesAll, split_gates_do}
use Rattle.gate_split.proofs.WalkLemmas.{fails_so, no_memory, on_more, refused}
use Rattle.gate_split.proofs.walk.split.Goals as goal
use Rattle.gate_split.proofs.walk.split.Goals.{After-new-narrow, In-Ok}

-- what the gates that were made do
does : (c : After-new-narrow) → DoesAll c.args.lines c.args.circuit.now.gates c.in_ok-gates.gates.items
does c = split_gates_do c.args.lines c.args.circuit.now.gates c.in_ok-gates.gates.items
    (on_more c.args.circuit.now.lines c.args.lines c.args.circuit.now.gates c.requires c.gates.ensures.placed)
    (rw c.gates.ensures.gates at c.in_ok-gates.ensures)

-- the circuit's gates are those that were made
gates_are : (c : In-Ok) → c.append.new.self.gates ≡ c.in_ok-gates.gates.items
gates_are c =
    ap (λ (v : CircuitView). v.gates) (rw c.in-Ok.is at c.append.ensures.ok)
    ∙ ap (λ (v : CircuitView). v.gates ++ c.in_ok-gates.gates.items) c.new-narrow.ensures

pub split_gates-requires-clause-placed : goal.split_gates-requires-clause-placed
split_gates-requires-clause-placed c =
    rw c.gates.ensures.gates (on_more c.args.circuit.now.lines c.args.lines c.args.circuit.now.gates c.requires c.gates.ensures.placed)

pub append-requires : goal.append-requires
append-requires c =
    subst (λ (v : CircuitView). AreGatesOn v.lines c.in_ok-gates.gates.items) (sym c.new-narrow.ensures)
    (does (goal.at.append-requires c).After-new-narrow).placed

pub new-requires : goal.new-requires
new-requires c =
    subst AreNarrow (sym (gates_are (goal.at.new-requires c).In-Ok)) (does (goal.at.new-requires c).After-new-narrow).narrow

pub returns-in_err-decide : goal.returns-in_err-decide
returns-in_err-decide c =
    let gates = c.args.circuit.now.gates in
    fails_so c.args.lines c.args.limit gates c.from_residual.result c.from_residual.ensures.1
    (refused c.args.lines c.args.limit gates c.in_err-decide.field-0.0 c.in_err-decide.ensures.none)

pub returns-in_err-gates : goal.returns-in_err-gates
returns-in_err-gates c =
    let gates = c.args.circuit.now.gates in
    fails_so c.args.lines c.args.limit gates c.from_residual-in_err-gates.result c.from_residual-in_err-gates.ensures.1
    (no_memory c.args.lines c.args.limit gates c.in_ok-decide.ensures.some)

pub returns-in-Ok : goal.returns-in-Ok
returns-in-Ok c =
    let same = gates_are (goal.at.returns-in-Ok c).In-Ok in
    record {
      gates = search rules;
      size = search rules;
      map = λ bits long.
          ap (λ (v : CircuitView). line_map v.gates bits) c.new.ensures
          ∙ ap (λ (gs : List GateView). line_map gs bits) same
          ∙ (does (goal.at.returns-in-Ok c).After-new-narrow).effect bits long;
      no_idle = λ gate e. absurd cc;
      over = λ e. absurd cc;
      memory = λ e. absurd cc;
    }

pub returns : goal.returns
returns c = no_memory c.args.lines c.args.limit c.args.circuit.now.gates c.in_ok-decide.ensures.some
