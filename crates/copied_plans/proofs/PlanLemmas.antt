-- The copied plan: its row, its values and its Toffoli depth.
use Rattle.std.proofs.Common.{◌≡◌, ℕ, ◌+◌, ◌*◌, ◌≤◌, false, List, ◌++◌, length, map, replicate, reverse}
use Rattle.std.proofs.Common.{sym, ap, ◌∙◌, arith}
use Rattle.std.proofs.lemmas.List.{append_assoc, length-map}
use Rattle.circuit_plans.specs.declared.roles.Start.TheVariants.{Any}
use Rattle.circuit_plans.specs.Plans.{AddsOutputs, BudgetView, HasPorts, PlannedView, added, roles_of_plan}
use Rattle.claim_check.specs.Settled.{IsSettled, SettledView, settled_outputs}
use Rattle.mct_circuit.specs.Gates.{GateView}
use Rattle.mct_circuit.specs.Sizes.{toffoli_depth_of, toffoli_weight}
use Rattle.gate_chains.proofs.DepthLemmas.{depth_undone}
use Rattle.sum_graph.specs.Graphs.{first_work}
use Rattle.held_nodes.specs.Moves.{copies_from}
use Rattle.copied_plans.specs.Levels.{and_depth}
use Rattle.copied_plans.specs.Plans.{CopiedFits, IsCopiedPlan}
use Rattle.copied_plans.specs.inside.Copied.{copied_of, copied_output}
use Rattle.copied_plans.specs.inside.Straight.{IsStraightPlan, StraightFits, straight_gates}
use Rattle.copied_plans.proofs.CopiedLemmas.{copied_alike, nodes_many}
use Rattle.copied_plans.proofs.GateLemmas.{all_gates, gates_are_shallow}
use Rattle.copied_plans.proofs.JoinLemmas.{copies_weightless, gates_joined, nodes_weigh, outputs_weigh}

-- where the row fits, there is room for the straight plan of the copied graph
pub row_is_room : (s : SettledView) (b : BudgetView) → CopiedFits s b → StraightFits (copied_of s) b
row_is_room s b fits =
    let many = nodes_many 0 s.nodes in
    let outputs = length-map s.outputs copied_output in
    record {
      lines = omega (arith, many, outputs, fits.lines);
      gates = omega (arith, nodes_weigh 0 s.nodes, outputs_weigh s.outputs, fits.gates);
    }

module _ (s : SettledView) (b : BudgetView) (p : PlannedView) (is : IsSettled s) (plan : IsStraightPlan (copied_of s) b p) where
  outputs : length (map copied_output s.outputs) ≡ length s.outputs
  outputs = length-map s.outputs copied_output

  ports : HasPorts s.inputs (length s.outputs) p
  ports = record {
    inputs = plan.plan.ports.inputs;
    outputs = plan.plan.ports.outputs ∙ outputs;
    lines = plan.plan.ports.lines ∙ ap (λ (n : ℕ). s.inputs + n + p.work) outputs;
  }

  clean : AddsOutputs Any (roles_of_plan p) p.circuit.gates (settled_outputs s)
  clean =
      let was = plan.plan.clean in
      record {
        size = λ input size. sym (ap length (copied_alike s input is)) ∙ was.size input size;
        adds = λ input held borrowed size wide may long. record {
          mapped = (was.adds input held borrowed size wide may long).mapped
              ∙ ap (λ bits. input ++ (added held bits ++ (replicate (roles_of_plan p).work false ++ borrowed))) (copied_alike s input is);
        };
      }

  abbrev first : ℕ
  first = first_work (copied_of s)

  abbrev copies : List GateView
  copies = copies_from first plan.lines s.inputs (map copied_output s.outputs)

  straight_is : straight_gates (copied_of s) ≡ all_gates first 0 s.nodes
  straight_is = gates_joined first 0 first s.nodes (omega arith)

  gates_are : p.circuit.gates ≡ all_gates first 0 s.nodes ++ (copies ++ reverse (all_gates first 0 s.nodes))
  gates_are =
      plan.gates
      ∙ ap (λ (gates : List GateView). gates ++ copies ++ reverse gates) straight_is
      ∙ append_assoc (all_gates first 0 s.nodes) copies (reverse (all_gates first 0 s.nodes))

  shallow : toffoli_depth_of p.circuit.gates ≤ 2 * and_depth s.nodes
  shallow =
      let undone = depth_undone toffoli_weight (all_gates first 0 s.nodes) copies (copies_weightless first plan.lines s.inputs s.outputs) in
      let once = gates_are_shallow s.inputs first s.nodes (omega arith) is.nodes in
      let same : toffoli_depth_of p.circuit.gates ≡ toffoli_depth_of (all_gates first 0 s.nodes ++ (copies ++ reverse (all_gates first 0 s.nodes))) =
      ap toffoli_depth_of gates_are in
      omega (arith, same, undone, once)

  pub copied_plan : IsCopiedPlan s b p
  copied_plan = record {
    plan = record {
      ports = ports;
      clean = clean;
      within = plan.plan.within;
      narrow = plan.plan.narrow;
    };
    shallow = shallow;
  }
