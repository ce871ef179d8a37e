-- Plans of a lean graph, laid.
use Rattle.std.proofs.Common.{◌≡◌, ℕ, ◌+◌, ◌*◌, ◌≤◌, Bool, false, true, List, [], ◌∷◌, length, Ok}
use Rattle.std.proofs.Common.{ap, subst, sym, ◌∙◌, inl, inr, arith}
use Rattle.std.specs.List.{AllByRecursion}
use Rattle.std.specs.Prelude.{◌⊎◌, if◌then◌else◌, sum_by, IfErr, IfOk, Result}
use Rattle.std.proofs.lemmas.List.Sums.{sum_by-cons}
use Rattle.std.proofs.lemmas.Result.{IfErr-weaker, IfOk-weaker}
use Rattle.bennett_pebbling.specs.Pebbling as sums
use Rattle.bennett_pebbling.specs.Pebbling.{plain_weight}
use Rattle.bit_sums.specs.Products.{IsProduct}
use Rattle.bit_sums.specs.Sums.{ProductView, SumView, weight_of}
use Rattle.circuit_plans.specs.declared.choice.Plan.TheVariants.{Compact, Lean}
use Rattle.circuit_plans.specs.declared.plan.PlanFault.{PlanFault}
use Rattle.circuit_plans.specs.declared.plan.PlanFault.TheVariants.{Lines, Gates, Memory}
use Rattle.circuit_plans.specs.declared.roles.Start.{Start}
use Rattle.circuit_plans.specs.declared.roles.Start.TheVariants.{Any, Zero}
use Rattle.circuit_plans.specs.Plans.{BudgetView, HasPortLines, IsNarrowPlan, LaidView, PlannedView, roles_of_plan, wanted_lines}
use Rattle.claim_check.specs.Budgets.{Measures, lean_gates}
use Rattle.claim_check.specs.Measures.{IsWithin}
use Rattle.claim_check.specs.Settled.{SettledView, settled_outputs}
use Rattle.eager_cleanup.specs.Eager.{ports_of}
use Rattle.mct_circuit.specs.Gates.{AreNarrow, GateView}
use Rattle.mct_circuit.specs.Sizes.{counts_of}
use Rattle.sum_graph.specs.Graphs.{HasFewBits, HasNoConstant, IsLeanOf, SumGraphView, first_work, products_in, sum_outputs, weight_in}
use Rattle.sum_toggles.specs.Toggles.{product_weight, toggle_weight}
use Rattle.plan_choice.specs.declared.lean.Most.{Most}
use Rattle.plan_choice.specs.Choices.{IsChoiceFault, IsLaidFor, IsLean, IsOfLean, LeanFits, LinesAreFew}
use Rattle.plan_choice.specs.Lean.{OneBlockFits, HasFewToffoliGates, toffoli}
use Rattle.plan_choice.specs.inside.Tried as tried
use Rattle.plan_choice.specs.inside.Tried.{IsLaidAsIs, IsLaidLean, IsLeanFault, IsMost, IsRow}
use Rattle.eager_cleanup.proofs.PlanLemmas.{same_outputs}

-- ---- the row

-- a plan by one block of all nodes
module _ {l : SumGraphView} {b : BudgetView} {p : PlannedView} (block : ℕ) (covers : length l.nodes ≤ block)
    (is : IsNarrowPlan Any l.inputs (length l.outputs) (sum_outputs l) b p) (within : sums.IsWithinBlock l block p) (each : sums.HasLineEach l p)
    (few : sums.HasFewProducts l block p)
  where
    pub row_laid : (laid : LaidView) → IsLaidAsIs p b laid → IsRow l b laid
    row_laid laid kept =
        let same : toffoli laid ≡ (counts_of p.circuit.gates).ccx = ap (λ (gs : List GateView). (counts_of gs).ccx) kept.same in
        let as_many : length laid.circuit.gates ≡ length p.circuit.gates = ap (λ (gs : List GateView). length gs) kept.same in
        record {
          laid_of = record { plan = p; is_plan = is; as_is = kept };
          lines = omega (arith, kept.laid_of.size, each.few);
          products = omega (arith, same, few.plain covers);
          gates = let size = within.plain covers in omega (arith, as_many, size.1);
        }

pub row_fault : (l : SumGraphView) (block : ℕ) (b : BudgetView) (fault : PlanFault) → length l.nodes ≤ block → sums.IsPebblingFault l block b fault
    → IsLeanFault l b fault
row_fault l block b (Lines need) covers h = (h.0, h.1.1)
row_fault l block b Gates covers h = h.plain covers
row_fault l block b (Memory _) covers h = h

pub lean_ports : {start : Start} {n o : ℕ} {value : List Bool → List Bool} {b : BudgetView} {p : PlannedView} → IsNarrowPlan start n o value b p
    → HasPortLines (n + o) b
lean_ports is = omega (arith, is.ports.lines, is.within.lines)

-- where the row was refused though memory was not wanting, it does not fit
no_lines : (l : SumGraphView) (b : BudgetView) (need : ℕ) → IsLeanFault l b (Lines need) → ¬ OneBlockFits l b
no_lines l b need h fits = let few = h.0 in let lines = fits.lines in omega (arith, few, lines)

no_gates : (l : SumGraphView) (b : BudgetView) → IsLeanFault l b Gates → ¬ OneBlockFits l b
no_gates l b h fits = let gates = fits.gates in omega (arith, h, gates)

-- ---- plans beside the row

row_gates : (start : Start) (l : SumGraphView) (b : BudgetView) (laid : LaidView) → IsRow l b laid
    → tried.HasFewGates start l b (length laid.circuit.gates)
row_gates Any l b laid row = λ fits. (let few = row.gates in omega (arith, few))
row_gates Zero l b laid row = tt

-- a plan for any bits on the output lines is one for those that they may hold
pub any_start : (start : Start) (l : SumGraphView) (b : BudgetView) (laid : LaidView) → IsRow l b laid → IsLaidLean start l b laid
any_start start l b laid row = record {
  laid_of = record {
    plan = row.laid_of.plan;
    is_plan = record {
      ports = row.laid_of.is_plan.ports;
      clean = record {
        size = row.laid_of.is_plan.clean.size;
        adds = λ input held borrowed size wide may long. row.laid_of.is_plan.clean.adds input held borrowed size wide tt long;
      };
      within = row.laid_of.is_plan.within;
      narrow = row.laid_of.is_plan.narrow;
    };
    as_is = row.laid_of.as_is;
  };
  lines = row.lines;
  products = λ fits. row.products;
  gates = row_gates start l b laid row;
}

few_gates : (start : Start) (l : SumGraphView) (b : BudgetView) (laid : LaidView) (gates : ℕ) → IsRow l b laid → tried.AreFewBeside start l laid gates
    → tried.HasFewGates start l b gates
few_gates Any l b laid gates row (inl none) = λ fits. omega (arith, none)
few_gates Any l b laid gates row (inr less) = λ fits. (let few = row.gates in omega (arith, less, few))
few_gates Zero l b laid gates row beside = tt

any_gates : (start : Start) (l : SumGraphView) (b : BudgetView) (gates : ℕ) → ¬ OneBlockFits l b → tried.HasFewGates start l b gates
any_gates Any l b gates none = λ fits. absurd (none fits)
any_gates Zero l b gates none = tt

no_gates_are_few : (start : Start) (l : SumGraphView) (b : BudgetView) (gates : ℕ) → gates ≡ 0 → tried.HasFewGates start l b gates
no_gates_are_few Any l b gates none = λ fits. omega (arith, none)
no_gates_are_few Zero l b gates none = tt

fewer_gates : (start : Start) (l : SumGraphView) (b : BudgetView) (more few : ℕ) → few ≤ more → tried.HasFewGates start l b more
    → tried.HasFewGates start l b few
fewer_gates Any l b more few less has = λ fits. (let gates = has fits in omega (arith, less, gates))
fewer_gates Zero l b more few less has = tt

pub most_of_row : (start : Start) (l : SumGraphView) (b : BudgetView) (laid : LaidView) (most : Most) → IsRow l b laid
    → most.lines ≡ first_work l + length l.nodes + b.borrow → most.toffoli ≡ toffoli laid → tried.AreFewBeside start l laid most.gates → IsMost start l b most
most_of_row start l b laid most row lines same twice = record {
  lines = omega (arith, lines);
  toffoli = λ fits. (let few = row.products in omega (arith, same, few));
  gates = few_gates start l b laid most.gates row twice;
}

pub most_of_nothing : (start : Start) (l : SumGraphView) (b : BudgetView) (most : Most) → most.lines ≡ first_work l + length l.nodes + b.borrow
    → most.toffoli ≡ 0 → most.gates ≡ 0 → IsMost start l b most
most_of_nothing start l b most lines toffoli gates = record {
  lines = omega (arith, lines);
  toffoli = λ fits. omega (arith, toffoli);
  gates = no_gates_are_few start l b most.gates gates;
}

pub most_of_none : (start : Start) (l : SumGraphView) (b : BudgetView) (most : Most) → ¬ OneBlockFits l b
    → most.lines ≡ first_work l + length l.nodes + b.borrow → IsMost start l b most
most_of_none start l b most none lines = record {
  lines = omega (arith, lines);
  toffoli = λ fits. absurd (none fits);
  gates = any_gates start l b most.gates none;
}

pub within_most : (start : Start) (l : SumGraphView) (b : BudgetView) (most : Most) (p : PlannedView) (laid : LaidView) → IsMost start l b most
    → IsNarrowPlan start l.inputs (length l.outputs) (sum_outputs l) b p → IsLaidAsIs p b laid → tried.IsWithin most laid → IsLaidLean start l b laid
within_most start l b most p laid is plan kept within = record {
  laid_of = record { plan = p; is_plan = plan; as_is = kept };
  lines = omega (arith, within.lines, is.lines);
  products = λ fits. (let few = is.toffoli fits in omega (arith, within.toffoli, few));
  gates = fewer_gates start l b most.gates (length laid.circuit.gates) within.gates is.gates;
}

pub better_fits : (start : Start) (l : SumGraphView) (b : BudgetView) (was now : Result LaidView PlanFault) (found : LaidView)
    → IfOk was (IsLaidLean start l b) → IsLaidLean start l b found → (now ≡ was) ⊎ (now ≡ Ok found) → IfOk now (IsLaidLean start l b)
better_fits start l b was now found is new (inl same) = subst (λ (r : Result LaidView PlanFault). IfOk r (IsLaidLean start l b)) (sym same) is
better_fits start l b was now found is new (inr other) = subst (λ (r : Result LaidView PlanFault). IfOk r (IsLaidLean start l b)) (sym other) new

pub better_refused : (l : SumGraphView) (b : BudgetView) (was now : Result LaidView PlanFault) (found : LaidView) → IfErr was (IsLeanFault l b)
    → (now ≡ was) ⊎ (now ≡ Ok found) → IfErr now (IsLeanFault l b)
better_refused l b was now found is (inl same) = subst (λ (r : Result LaidView PlanFault). IfErr r (IsLeanFault l b)) (sym same) is
better_refused l b was now found is (inr other) = subst (λ (r : Result LaidView PlanFault). IfErr r (IsLeanFault l b)) (sym other) tt

-- ---- the row of the settled graph

constant_weight : (one : Bool) → (if one then 1 else 0) ≤ 1
constant_weight true = omega arith
constant_weight false = omega arith

products_light : (products : List ProductView) → AllByRecursion IsProduct products → sum_by product_weight products ≤ 21 * length products
products_light [] few = omega arith
products_light (p ∷ ps) few =
    omega (arith, sum_by-cons product_weight p ps, products_light ps few.1, few.0.first.few, few.0.second.few)

toggle_light : (s : SumView) → HasFewBits s → toggle_weight s ≤ weight_of s + 1
toggle_light s few = omega (arith, products_light s.products few, constant_weight s.one)

node_light : (s : SumView) → HasFewBits s → HasNoConstant s → toggle_weight s ≤ weight_of s
node_light s few none =
    let no_gate : ◌≡◌ {A = ℕ} (if s.one then 1 else 0) 0 = ap (λ (b : Bool). if b then 1 else 0) none in
    omega (arith, products_light s.products few, no_gate)

nodes_light : (nodes : List SumView) → AllByRecursion HasFewBits nodes → AllByRecursion HasNoConstant nodes → sum_by toggle_weight nodes ≤ weight_in nodes
nodes_light [] few none = omega arith
nodes_light (s ∷ rest) few none =
    omega (arith, sum_by-cons toggle_weight s rest, sum_by-cons weight_of s rest, node_light s few.0 none.0, nodes_light rest few.1 none.1)

outputs_light : (outputs : List SumView) → AllByRecursion HasFewBits outputs → sum_by toggle_weight outputs ≤ weight_in outputs + length outputs
outputs_light [] few = omega arith
outputs_light (s ∷ rest) few =
    omega (arith, sum_by-cons toggle_weight s rest, sum_by-cons weight_of s rest, toggle_light s few.0, outputs_light rest few.1)

-- the plan of the lean graph's row weighs no more than the gates of the settled graph's
row_weight : (s : SettledView) (l : SumGraphView) (m : Measures) → IsLeanOf s l → IsWithin s m → plain_weight l ≤ lean_gates m
row_weight s l m lean within =
    let nodes : sum_by toggle_weight l.nodes ≤ weight_in l.nodes = nodes_light l.nodes lean.few_bits lean.no_constants in
    let outputs : sum_by toggle_weight l.outputs ≤ weight_in l.outputs + length l.outputs = outputs_light l.outputs lean.few_output_bits in
    omega (arith, nodes, outputs, lean.light, lean.light_nodes, lean.outputs, within.outputs, within.steps)

-- where the settled graph's row fits, the lean graph's does
row_covers : (s : SettledView) (l : SumGraphView) (b : BudgetView) (m : Measures) → IsLeanOf s l → IsWithin s m → LeanFits b m → OneBlockFits l b
row_covers s l b m lean within fit = record {
  lines = omega (arith, lean.inputs, lean.outputs, lean.few, within.inputs, within.outputs, within.steps, fit.few_lines);
  gates = omega (arith, row_weight s l m lean within, fit.few_gates);
}

module _ (s : SettledView) (l : SumGraphView) (b : BudgetView) (lean : IsLeanOf s l) where
  ports_same : first_work l ≡ ports_of s
  ports_same = omega (arith, lean.inputs, lean.outputs)

  no_row : (¬ OneBlockFits l b) → (m : Measures) → IsWithin s m → ¬ LeanFits b m
  no_row none m within fit = none (row_covers s l b m lean within fit)

  need_same : (need : ℕ) → need ≡ wanted_lines (first_work l) b → need ≡ wanted_lines (ports_of s) b
  need_same need is = is ∙ ap (λ (n : ℕ). wanted_lines n b) ports_same

  few_lines : (need : ℕ) → IsLeanFault l b (Lines need) → LinesAreFew Lean s b
  few_lines need h = record {
    few = λ m within. (let few = h.0 in
        omega (arith, few, lean.inputs, lean.outputs, lean.few, within.inputs, within.outputs, within.steps));
    no_row = no_row (no_lines l b need h);
  }

  lean_fault : (fault : PlanFault) → IsLeanFault l b fault → IsChoiceFault Lean s b fault
  lean_fault (Lines need) h = (few_lines need h, need_same need h.1)
  lean_fault Gates h = record { few = no_row (no_gates l b h); no_row = no_row (no_gates l b h) }
  lean_fault (Memory _) h = subst (λ (n : ℕ). HasPortLines n b) ports_same h

  compact_fault : (fault : PlanFault) → IsLeanFault l b fault → IsChoiceFault Compact s b fault
  compact_fault (Lines need) h = let lines = few_lines need h in (record { few = lines.few; no_row = lines.no_row }, need_same need h.1)
  compact_fault Gates h = record { few = no_row (no_gates l b h); no_row = no_row (no_gates l b h) }
  compact_fault (Memory _) h = subst (λ (n : ℕ). HasPortLines n b) ports_same h

  pub lean_refused : (tried : Result LaidView PlanFault) → IfErr tried (IsLeanFault l b) → IfErr tried (IsChoiceFault Lean s b)
  lean_refused tried h = IfErr-weaker tried (IsLeanFault l b) (IsChoiceFault Lean s b) lean_fault h

  pub compact_refused : (tried : Result LaidView PlanFault) → IfErr tried (IsLeanFault l b) → IfErr tried (IsChoiceFault Compact s b)
  compact_refused tried h = IfErr-weaker tried (IsLeanFault l b) (IsChoiceFault Compact s b) compact_fault h

  -- ---- what is laid for the settled graph

  for_settled : (start : Start) (laid : LaidView) → IsLaidLean start l b laid → IsLaidFor start s b laid
  for_settled start laid is =
      let p = is.laid_of.plan in let plan = is.laid_of.is_plan in let of = is.laid_of.as_is.laid_of in
      record {
        inputs = of.inputs ∙ plan.ports.inputs ∙ lean.inputs;
        outputs = of.outputs ∙ plan.ports.outputs ∙ lean.outputs;
        borrowed = of.borrowed;
        lines = of.lines;
        gates = of.gates;
        clean = of.clean start (settled_outputs s)
            (same_outputs start (roles_of_plan p) p.circuit.gates (sum_outputs l) (settled_outputs s) lean.values plan.clean);
      }

  thrifty : (laid : LaidView) → toffoli laid ≤ 2 * products_in l.nodes + products_in l.outputs → HasFewToffoliGates s laid
  thrifty laid few = record {
    all = omega (arith, few, lean.products);
    lone = λ lone go. omega (arith, few, lean.products, lean.nodes_beside lone go);
  }

  is_lean : (laid : LaidView) → IsLaidLean Any l b laid → IsLean s b laid
  is_lean laid is = record {
    graph = l;
    lean = lean;
    narrow = subst AreNarrow (sym is.laid_of.as_is.same) is.laid_of.is_plan.narrow;
    lines = is.lines;
    one_block = λ fits. record { products = is.products fits; gates = is.gates fits };
    row_lines = λ m within. omega (arith, is.lines, lean.inputs, lean.outputs, lean.few, within.inputs, within.outputs, within.steps);
    row_gates = λ m within fit. (let gates = is.gates (row_covers s l b m lean within fit) in omega (arith, gates, row_weight s l m lean within));
    few = λ m within fit. thrifty laid (is.products (row_covers s l b m lean within fit));
  }

  of_lean : (start : Start) (laid : LaidView) → IsLaidLean start l b laid → IsOfLean start s b laid
  of_lean Any laid is = is_lean laid is
  of_lean Zero laid is = record {
    narrow = subst AreNarrow (sym is.laid_of.as_is.same) is.laid_of.is_plan.narrow;
    few = λ m within fit. thrifty laid (is.products (row_covers s l b m lean within fit));
  }

  pub laid_for_lean : (start : Start) (tried : Result LaidView PlanFault) → IfOk tried (IsLaidLean start l b) → IfOk tried (IsLaidFor start s b)
  laid_for_lean start tried is = IfOk-weaker tried (IsLaidLean start l b) (IsLaidFor start s b) (for_settled start) is

  pub laid_lean : (start : Start) (tried : Result LaidView PlanFault) → IfOk tried (IsLaidLean start l b) → IfOk tried (IsOfLean start s b)
  laid_lean start tried is = IfOk-weaker tried (IsLaidLean start l b) (IsOfLean start s b) (of_lean start) is
