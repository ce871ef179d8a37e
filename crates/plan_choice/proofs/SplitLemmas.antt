-- What the split of a plan keeps, and when it is refused.
use Rattle.std.proofs.Common.{◌≡◌, ℕ, ◌+◌, ◌*◌, ◌<◌, ◌≤◌, Bool, false, List, [], ◌∷◌, ◌++◌, length, map}
use Rattle.std.proofs.Common.{replicate, Ok, Err, inl, inr, refl, sym, ap, ap₂, subst, ◌∙◌, arith}
use Rattle.std.specs.List.{AllByRecursion, sum_by}
use Rattle.std.specs.Prelude.{IfErr, Result}
use Rattle.std.proofs.lemmas.Bool.{cases_lt}
use Rattle.std.proofs.lemmas.Bool.Decides.{leb_tells}
use Rattle.std.proofs.lemmas.List.{length-append, length-map, length-replicate}
use Rattle.std.proofs.lemmas.List.Sums.{sum_by-cons}
use Rattle.std.proofs.lemmas.Result.{IfErr-weaker}
use Rattle.revs_tape.specs.Cuts.{cut_at}
use Rattle.bit_sums.specs.Sums.{SumView}
use Rattle.dependency_graph.specs.declared.node.Node.{Node}
use Rattle.dependency_graph.specs.declared.node.Node.TheVariants.{Not, Xor, And}
use Rattle.dependency_graph.specs.declared.node.Sig.{Sig}
use Rattle.claim_check.specs.Budgets.{Measures}
use Rattle.claim_check.specs.Measures.{IsWithin}
use Rattle.claim_check.specs.Settled.{SettledView, settled_outputs}
use Rattle.sum_graph.specs.Plain.{plain_of, plain_output, plain_sum}
use Rattle.sum_graph.proofs.PlainLemmas.{plain_graphs_are_alike}
use Rattle.sum_toggles.specs.Toggles.{toggle_weight}
use Rattle.sum_graph.specs.Graphs.{first_work}
use Rattle.bennett_pebbling.specs.Pebbling as sums
use Rattle.bennett_pebbling.proofs.OutputLemmas.{light_weight}
use Rattle.bennett_pebbling.specs.Blocks.{AreWithinBlock, InEachRow, IsHalved}
use Rattle.plan_choice.specs.Blocks.{IsPebblingFault, extent_of}
use Rattle.eager_cleanup.specs.Eager.{IsWithinEager, ports_of}
use Rattle.gate_split.specs.declared.fault.SplitFault.TheVariants as split
use Rattle.circuit_plans.specs.declared.plan.PlanFault.{PlanFault}
use Rattle.circuit_plans.specs.declared.plan.PlanFault.TheVariants.{Lines, Gates, Memory}
use Rattle.gate_split.specs.Costs.{IsRoomyFlip, NarrowStay, RoomyFlipsAreSplit, most_gates}
use Rattle.circuit_plans.specs.declared.roles.Start.{Start}
use Rattle.circuit_plans.specs.declared.roles.Start.TheVariants.{Any}
use Rattle.circuit_plans.specs.Plans.{AddsOutputs, BudgetView, CleanCircuitsBorrow, LaidView, PlannedView, lines_in, with_borrowed}
use Rattle.gate_split.specs.Split.{IsSplitList, PassesLimit}
use Rattle.gate_split.proofs.SplitListLemmas.{one_split}
use Rattle.circuit_plans.specs.Plans.{roles_of_plan}
use Rattle.mct_circuit.specs.Sizes.{weight_in}
use Rattle.circuit_plans.specs.Plans.{HasPortLines, HasPorts, IsInBudget, wanted_lines}
use Rattle.mct_circuit.specs.Gates.{AreGatesOn, AreNarrow, CircuitView, GateView, flip_of, line_map, positive}
use Rattle.mct_circuit.specs.Sizes.{weight_of}
use Rattle.mct_circuit.proofs.WeightLemmas.{length-le-weight}
use Rattle.plan_choice.specs.Choices.{IsEager, IsLaidFor}
use Rattle.plan_choice.specs.inside.Tried.{IsLaidAsIs, IsLaidInBlocks, IsLaidOf, IsSplitFault}

-- ---- narrow gates

flip_stays : (controls : List ℕ) (target : ℕ) → length controls ≤ 2 → most_gates (flip_of controls target) ≡ weight_of (flip_of controls target)
flip_stays controls target few =
    let long : length (flip_of controls target).controls ≡ length controls = length-map controls positive in
    elim (leb_tells (length (flip_of controls target).controls) 2) [ inl t ↦ rw t.0 refl | inr t ↦ absurd (omega (arith, t.1)) ]

-- the most gates in place of narrow ones are as many as they weigh
pub narrow_weight : (gates : List GateView) → AreNarrow gates → sum_by most_gates gates ≡ weight_in gates
narrow_weight [] narrow = refl
narrow_weight (gate ∷ gates) narrow =
    let here : most_gates gate ≡ weight_of gate = rw narrow.0.is_flip (flip_stays narrow.0.controls narrow.0.target narrow.0.few) in
    let there = narrow_weight gates narrow.1 in
    let most = sum_by-cons most_gates gate gates in
    let weight = sum_by-cons weight_of gate gates in
    omega arith

-- ---- refusals of a split

-- gates with room whose split passes the limit may become more gates than the limit
pub many_gates : (n more limit : ℕ) (gates : List GateView) → RoomyFlipsAreSplit → n ≤ more → AllByRecursion (IsRoomyFlip n) gates
    → PassesLimit more limit gates → limit < sum_by most_gates gates
many_gates n more limit gates law few roomy refused = elim (cases_lt limit (sum_by most_gates gates)) [
  | inl over ↦ over
  | inr within ↦ (let made = law.split more limit gates (law.wider n more gates few roomy) within in
      let both = one_split more limit gates (Ok made.narrow) (Err split.Gates) made.is refused in absurd (cc))
]

-- the split of narrow gates within the budget is refused only for want of memory
pub narrow_refused : (p : PlannedView) (b : BudgetView) (tried : Result LaidView PlanFault) → AreNarrow p.circuit.gates → IsInBudget b p
    → IfErr tried (IsSplitFault p b) → IfErr tried (λ fault. fault ≡ Memory _)
narrow_refused p b (Ok laid) narrow within h = tt
narrow_refused p b (Err (Lines need)) narrow within h = absurd h
narrow_refused p b (Err Gates) narrow within h = absurd (omega (arith, h, narrow_weight p.circuit.gates narrow, within.gates))
narrow_refused p b (Err (Memory _)) narrow within h = refl

-- a refusal for want of memory, where that says no more than that the lines suffice
pub memory_wanted : (tried : Result LaidView PlanFault) (IsFault : PlanFault → Type 0) → IsFault (Memory _) → IfErr tried (λ fault. fault ≡ Memory _)
    → IfErr tried IsFault
memory_wanted tried IsFault memory alone =
    IfErr-weaker tried (λ (fault : PlanFault). fault ≡ Memory _) IsFault (λ fault is. subst IsFault (sym is) memory) alone

-- ---- the numbers of a laid plan

-- gates with room become no more than their most gates
few_split : (n more limit : ℕ) (gates narrow : List GateView) → RoomyFlipsAreSplit → n ≤ more → AllByRecursion (IsRoomyFlip n) gates
    → IsSplitList more limit gates narrow → length narrow ≤ sum_by most_gates gates
few_split n more limit gates narrow law few roomy is = elim (cases_lt limit (sum_by most_gates gates)) [
  | inl over ↦ omega (arith, over, is.within)
  | inr light ↦ (let made = law.split more limit gates (law.wider n more gates few roomy) light in
      let both : Ok made.narrow ≡ Ok narrow = one_split more limit gates (Ok made.narrow) (Ok narrow) made.is is in
      let same : made.narrow ≡ narrow = cc in
      omega (arith, ap (λ (gs : List GateView). length gs) same, made.few))
]

pub laid_eager : (s : SettledView) (b : BudgetView) (p : PlannedView) (laid : LaidView) → RoomyFlipsAreSplit
    → AllByRecursion (IsRoomyFlip p.circuit.lines) p.circuit.gates → IsWithinEager s p → IsLaidOf p b laid → IsEager s b laid
laid_eager s b p laid law roomy within is =
    let few = few_split p.circuit.lines (p.circuit.lines + b.borrow) b.gates p.circuit.gates laid.circuit.gates law (omega arith) roomy is.split in
    record {
      few_lines = λ m w. omega (arith, within.few_lines m w, is.size);
      few_gates = λ m w. omega (arith, within.few_gates m w, few);
    }

-- narrow gates are laid as they are
pub as_is : (b : BudgetView) (p : PlannedView) (laid : LaidView) → NarrowStay → AreNarrow p.circuit.gates → IsInBudget b p → IsLaidOf p b laid
    → IsLaidAsIs p b laid
as_is b p laid law narrow within is =
    let few = length-le-weight p.circuit.gates in
    let stay = law (p.circuit.lines + b.borrow) b.gates p.circuit.gates narrow (omega (arith, few, within.gates)) in
    let both : Ok p.circuit.gates ≡ Ok laid.circuit.gates =
    one_split (p.circuit.lines + b.borrow) b.gates p.circuit.gates (Ok p.circuit.gates) (Ok laid.circuit.gates) stay is.split in
    record { laid_of = is; same = cc }

pub laid_blocks : (s : SettledView) (block : ℕ) (b : BudgetView) (p : PlannedView) (laid : LaidView)
    → AreWithinBlock (extent_of s) block 0 p.circuit.lines (length p.circuit.gates) → IsLaidAsIs p b laid → IsLaidInBlocks s block b laid
laid_blocks s block b p laid within is =
    let size = is.laid_of.size in
    let same : length laid.circuit.gates ≡ length p.circuit.gates = ap (λ (gs : List GateView). length gs) is.same in
    record {
      halved = λ m levels h. let row = within.halved m levels h in (omega (arith, row.0, size), omega (arith, row.1, same));
      fine = λ m levels one h. let row = within.fine m levels one h in (omega (arith, row.0, size), omega (arith, row.1, same));
      plain = λ covers. let row = within.plain covers in (omega (arith, row.0, size), omega (arith, row.1, same));
    }

-- a plan of the plain graph has the inputs and outputs of the settled one
pub plain_ports : (s : SettledView) (p : PlannedView) → HasPorts s.inputs (length (plain_of s).outputs) p → HasPorts s.inputs (length s.outputs) p
plain_ports s p ports =
    let same : length (map plain_output s.outputs) ≡ length s.outputs = length-map s.outputs plain_output in
    record { inputs = ports.inputs; outputs = ports.outputs ∙ same; lines = omega (arith, ports.lines, same) }

-- a plan within the budget has the lines of the inputs and outputs
pub port_lines : (s : SettledView) (b : BudgetView) (p : PlannedView) → HasPorts s.inputs (length s.outputs) p → p.circuit.lines + b.borrow ≤ b.lines
    → HasPortLines (ports_of s) b
port_lines s b p ports within = omega (arith, ports.lines, within)

-- ---- the laid plan

-- the lines of a plan and the borrowed ones
all_lines : (input held work borrowed : List Bool)
    → length (input ++ (held ++ (work ++ borrowed))) ≡ length input + length held + length work + length borrowed
all_lines input held work borrowed =
    let first = length-append input (held ++ (work ++ borrowed)) in
    let second = length-append held (work ++ borrowed) in
    let third = length-append work borrowed in
    omega arith

-- gates that change all lines as clean gates do are clean
clean_too : (p : PlannedView) (count : ℕ) (gates : List GateView) (start : Start) (value : List Bool → List Bool) → CleanCircuitsBorrow
    → p.inputs + p.outputs + p.work ≡ p.circuit.lines → AreGatesOn p.circuit.lines p.circuit.gates
    → ((bits : List Bool) → length bits ≡ p.circuit.lines + count → line_map gates bits ≡ line_map p.circuit.gates bits)
    → AddsOutputs start (roles_of_plan p) p.circuit.gates value → AddsOutputs start (with_borrowed (roles_of_plan p) count) gates value
clean_too p count gates start value law lines on map clean =
    let all : p.circuit.lines ≡ lines_in (with_borrowed (roles_of_plan p) 0) = omega (arith, lines) in
    let beside = law start (roles_of_plan p) p.circuit.gates value count (subst (λ n. AreGatesOn n p.circuit.gates) all on) clean in
    record {
      size = clean.size;
      adds = λ input held borrowed size wide may long. (let bits = input ++ (held ++ (replicate p.work false ++ borrowed)) in
          let many : length bits ≡ p.circuit.lines + count =
          omega (
            arith,
            all_lines input held (replicate p.work false) borrowed,
            length-replicate p.work false,
            size,
            wide,
            long,
            lines,
          ) in
          record { mapped = map bits many ∙ (beside.adds input held borrowed size wide may long).mapped });
    }

-- a plan with its gates split, beside the borrowed lines
abbrev pub laid_as : PlannedView → ℕ → CircuitView → LaidView
laid_as p borrowed narrow = record { circuit = narrow; inputs = p.inputs; outputs = p.outputs; work = p.work; borrowed = borrowed }

pub is_laid_of : (p : PlannedView) (b : BudgetView) (narrow : CircuitView) → CleanCircuitsBorrow → p.inputs + p.outputs + p.work ≡ p.circuit.lines
    → AreGatesOn p.circuit.lines p.circuit.gates → p.circuit.lines + b.borrow ≤ b.lines → narrow.lines ≡ p.circuit.lines + b.borrow
    → IsSplitList (p.circuit.lines + b.borrow) b.gates p.circuit.gates narrow.gates
    → ((bits : List Bool) → length bits ≡ p.circuit.lines + b.borrow → line_map narrow.gates bits ≡ line_map p.circuit.gates bits)
    → IsLaidOf p b (laid_as p b.borrow narrow)
is_laid_of p b narrow law lines on within size split map = record {
  inputs = refl;
  outputs = refl;
  borrowed = refl;
  size = size;
  lines = omega arith;
  split = split;
  gates = split.within;
  clean = λ start value clean. clean_too p b.borrow narrow.gates start value law lines on map clean;
}

-- ---- a settled graph and its plain graph

light_node : (node : Node) → toggle_weight (plain_sum node) ≤ 2
light_node (Not a) = omega arith
light_node (Xor a b) = omega arith
light_node (And a b) = omega arith

light_nodes : (nodes : List Node) → AllByRecursion (λ (s : SumView). toggle_weight s ≤ 2) (map plain_sum nodes)
light_nodes [] = tt
light_nodes (x ∷ xs) = (light_node x, light_nodes xs)

copied_outputs : (sigs : List Sig) → AllByRecursion sums.IsCopy (map plain_output sigs)
copied_outputs [] = tt
copied_outputs (x ∷ xs) = (record { sig = x; is = refl }, copied_outputs xs)

plain_light : (s : SettledView) → sums.IsLight (plain_of s)
plain_light s = record { toggles = light_nodes s.nodes; outputs = copied_outputs s.outputs }

plain_within : (s : SettledView) (m : Measures) → IsWithin s m → sums.IsSumWithin (plain_of s) m
plain_within s m within =
    let nodes = length-map s.nodes plain_sum in
    let alike = plain_graphs_are_alike s in
    record {
      light = plain_light s;
      inputs = within.inputs;
      outputs = length-map s.outputs plain_output ∙ within.outputs;
      steps = omega (arith, nodes, within.steps);
      cuts = λ j low. subst (λ (n : ℕ). n ≤ m.width) (sym (ap₂ (λ steps outputs. length (cut_at steps outputs j)) alike.steps alike.output_nodes))
          (within.cuts j (omega (arith, low, nodes)));
    }

plain_halved : (s : SettledView) (block levels : ℕ) (m : Measures) → IsHalved (extent_of s) block levels m
    → IsHalved (sums.extent_of (plain_of s)) block levels m
plain_halved s block levels m h =
    record { within = plain_within s m h.within; enough = omega (arith, h.enough, length-map s.nodes plain_sum) }

-- what holds in each row of the plain graph holds in each of the settled one, where it does in that of one block
settled_rows : (s : SettledView) (block borrowed : ℕ) (holds : ℕ → ℕ → Type 0)
    → (holds (first_work (plain_of s) + length (plain_of s).nodes + borrowed) (sums.plain_weight (plain_of s))
    → holds (ports_of s + length s.nodes + borrowed) (4 * length s.nodes + length s.outputs))
    → InEachRow (sums.extent_of (plain_of s)) block borrowed holds → InEachRow (extent_of s) block borrowed holds
settled_rows s block borrowed holds to rows = record {
  halved = λ m levels h. rows.halved m levels (plain_halved s block levels m h);
  fine = λ m levels one h. rows.fine m levels one (plain_halved s 1 levels m h);
  plain = λ covers. to (rows.plain (omega (arith, covers, length-map s.nodes plain_sum)));
}

ports_same : (s : SettledView) → first_work (plain_of s) ≡ ports_of s
ports_same s = ap (λ (n : ℕ). s.inputs + n) (length-map s.outputs plain_output)

-- the lines and gates of one block of all nodes
one_block : (s : SettledView) (borrowed : ℕ) → (first_work (plain_of s) + length (plain_of s).nodes + borrowed ≡ ports_of s + length s.nodes + borrowed)
    × (sums.plain_weight (plain_of s) ≤ 4 * length s.nodes + length s.outputs)
one_block s borrowed =
    let nodes = length-map s.nodes plain_sum in
    let outputs = length-map s.outputs plain_output in
    (omega (arith, nodes, ports_same s), omega (arith, light_weight (plain_of s) (plain_light s), nodes, outputs))

pub block_within : (s : SettledView) (block borrowed lines gates : ℕ) → AreWithinBlock (sums.extent_of (plain_of s)) block borrowed lines gates
    → AreWithinBlock (extent_of s) block borrowed lines gates
block_within s block borrowed lines gates w =
    let one = one_block s borrowed in
    settled_rows s block borrowed (λ most_lines most_gates. (lines ≤ most_lines) × (gates ≤ most_gates))
    (λ row. (omega (arith, row.0, one.0), omega (arith, row.1, one.1))) w

pub block_fault : (s : SettledView) (block : ℕ) (b : BudgetView) (e : PlanFault) → sums.IsPebblingFault (plain_of s) block b e → IsPebblingFault s block b e
block_fault s block b (Lines need) h = (
  let one = one_block s b.borrow in
      settled_rows s block b.borrow (λ lines gates. b.lines < lines) (λ few. omega (arith, few, one.0)) h.1.0,
  h.1.1 ∙ ap (λ (n : ℕ). wanted_lines n b) (ports_same s),
)
block_fault s block b Gates h =
    let one = one_block s b.borrow in
    settled_rows s block b.borrow (λ lines gates. b.gates < gates) (λ few. omega (arith, few, one.1)) h
block_fault s block b (Memory _) h = omega (arith, h, ports_same s)

pub laid_for : (s : SettledView) (b : BudgetView) (p : PlannedView) (laid : LaidView) → HasPorts s.inputs (length s.outputs) p
    → AddsOutputs Any (roles_of_plan p) p.circuit.gates (settled_outputs s) → IsLaidOf p b laid → IsLaidFor Any s b laid
laid_for s b p laid ports clean is = record {
  inputs = is.inputs ∙ ports.inputs;
  outputs = is.outputs ∙ ports.outputs;
  borrowed = is.borrowed;
  lines = is.lines;
  gates = is.gates;
  clean = is.clean Any (settled_outputs s) clean;
}
