-- The text of a clean plan is a clean file for the one program of a text, and why there is no plan.
use Rattle.std.proofs.Common.{◌≡◌, ℕ, ◌+◌, ◌*◌, ◌≤◌, suc, Bool, cond, List, Result, Ok, Err, length, sum, max, refl, sym, ap, ◌∙◌, subst, inl, inr, arith}
use Rattle.std.specs.Prelude.{nat_lt}
use Rattle.std.specs.Result.{IfOk, IfErr}
use Rattle.std.proofs.lemmas.Bool.Decides.{leb_tells}
use Rattle.std.proofs.lemmas.List.{length-map}
use Rattle.claim_check.specs.Budgets.{Measures, lean_gates, lean_lines}
use Rattle.claim_check.specs.Measures.{AreMeasuresOf, IsNoLarger, IsWithin}
use Rattle.claim_check.specs.Settled.{SettledView, IsSettledOf}
use Rattle.claim_check.proofs.BudgetLemmas.{settled_graphs_are_within}
use Rattle.claim_check.proofs.MeasureLemmas.{tapes_have_measures}
use Rattle.circuit_plans.specs.declared.plan.TheConstants.{MOST_LINES, MOST_GATES}
use Rattle.circuit_plans.specs.declared.choice.Plan.{Plan}
use Rattle.format_parts.specs.Fits.{FitAFile}
use Rattle.circuit_plans.specs.declared.roles.Start.{Start}
use Rattle.circuit_plans.specs.Plans.{AddsOutput, BudgetView, LaidView, roles_of, lines_in, start_of}
use Rattle.mct_circuit.specs.Gates.{AreGatesOn, AreNarrow, GateView}
use Rattle.qasm_format.proofs.MeaningLemmas as qasm
use Rattle.real_format.proofs.MeaningLemmas as real
use Rattle.mct_circuit.specs.Sizes.{counts_of}
use Rattle.circuit_plans.specs.declared.choice.Plan.TheVariants.{Auto, Compact, Eager, Lean, Pebble, Shallow}
use Rattle.flip_orders.proofs.ReorderingLemmas.{AreReordered-refl}
use Rattle.plan_choice.specs.Choices.{IsChosen, IsCompact, IsLean, IsShallow, LeanFits, ShallowFits}
use Rattle.program_commands.specs.Outcomes.{IsCompileFault, IsWritable, file_of}
use Rattle.program_texts.specs.Outcomes.{IsSettlingFault, IsTextFault}
use Rattle.revc_words.specs.declared.order.Format.{Format}
use Rattle.revc_words.specs.declared.order.Format.TheVariants.{Real, Qasm}
use Rattle.revs_tape.specs.Measures.{ands_of}
use Rattle.revs_tape.specs.Tapes.{TapeView, bit_on, outputs_on}
use Rattle.revc_words.specs.Words.{OrderView, IsWithinLimits}
use Rattle.revs_parser.proofs.OneTextLemmas.{one_formed}
use Rattle.revs_terms.specs.Runs.{IsInput}
use Rattle.revs_terms.specs.Views.{ProgramView}
use Rattle.revs_terms.proofs.TapeLemmas.{tape_gives_output}
use Rattle.command_answers.specs.declared.fault.Fault.{Fault}
use Rattle.command_answers.specs.declared.fault.Fault.TheVariants as faults
use Rattle.program_texts.specs.Clean.{AddsOn}
use Rattle.program_commands.specs.Clean.{MeansCompiledIn}
use Rattle.program_commands.specs.Compile.{AreWrittenFor, HasFewToffoliGates, HasLeanSize, HasSmallDepth, IsCompiled, LeanRowFits, ShallowRowFits, budget_of, least_lines, row_gates, row_lines}
use Rattle.program_texts.specs.Settling.{LeavesTape, LeavesSettled, ForTexts, IsSettledWithin}
use Rattle.program_commands.specs.inside.Plans.{IsCleanPlan, IsPlanOf, IsPlannedFor, IsPlanningFault}
use Rattle.program_texts.proofs.FormedLemmas.{some_output}
use Rattle.program_texts.proofs.TextLemmas.{stops_settling}

-- ---- the plan of the graph

clean_plan : (plan : Plan) (text : List ℕ) (laid : LaidView) (tape : TapeView) (s : SettledView) (b : BudgetView) (l : LeavesTape text tape)
    → IsSettledOf tape s → IsPlanOf plan s b laid → b.lines ≤ MOST_LINES → b.gates ≤ MOST_GATES → IsCleanPlan (start_of plan) laid l.program b
clean_plan plan text laid tape s b l is planned lines gates =
    let some = some_output text l.program tape l.formed l.tape_of in
    let count = is.outputs in
    let outputs = planned.is.outputs in
    let sum_of = planned.sum_of in
    record { tape = tape; tape_of = l.tape_of; graph = s; graph_of = is; plan = planned.is; some = omega arith; most_lines = lines; most_gates = gates }

computes_on : (start : Start) (laid : LaidView) (p : ProgramView) (b : BudgetView) → IsCleanPlan start laid p b → (input rest : List Bool)
    → IsInput p.params input → length rest ≡ b.borrow → AddsOn p start (roles_of laid) laid.circuit.gates input rest
computes_on start laid p b c input rest size many = record {
  output = outputs_on c.tape input;
  is = tape_gives_output p.params p.body c.tape c.tape_of input size;
  size = length-map c.tape.outputs (bit_on c.tape input) ∙ sym c.graph_of.outputs ∙ sym c.plan.outputs;
  adds = λ held wide may.
      subst (λ bits. AddsOutput (roles_of laid) laid.circuit.gates input held bits rest) (c.graph_of.values input)
      (c.plan.clean.adds input held rest (size ∙ ap sum (sym c.tape_of.widths) ∙ sym c.graph_of.inputs ∙ sym c.plan.inputs) wide may
      (many ∙ sym c.plan.borrowed));
}

writable : (start : Start) (laid : LaidView) (p : ProgramView) (b : BudgetView) → IsCleanPlan start laid p b → IsWritable laid
writable start laid p b c =
    let lines = c.plan.lines in
    let gates = c.plan.gates in
    let most = c.most_lines in
    let most_gates = c.most_gates in
    record { some = c.some; few = omega arith; few_gates = omega arith }

-- a plan of a settled graph, by what the run of its program writes
module _ (order : OrderView) (laid : LaidView) (tape : TapeView) (s : SettledView) (is : IsSettledOf tape s) (no_larger : IsNoLarger tape s)
    (chosen : IsChosen order.plan s (budget_of order) laid)
  where
    m : Measures
    m = (tapes_have_measures tape).measures

    are : AreMeasuresOf tape m
    unfolding m
    are = (tapes_have_measures tape).are

    within : IsWithin s m
    within = settled_graphs_are_within tape s m is no_larger are

    same_lines : lean_lines m order.borrow ≡ row_lines tape order
    same_lines = omega (arith, are.inputs, are.outputs, are.steps)

    same_gates : lean_gates m ≡ row_gates tape
    same_gates = omega (arith, are.outputs, are.steps)

    row_fits : LeanRowFits order tape → LeanFits (budget_of order) m
    row_fits fit = record { few_lines = omega (arith, same_lines, fit.lines); few_gates = omega (arith, same_gates, fit.gates) }

    lean_plan : order.plan ≡ Lean → IsLean s (budget_of order) laid
    lean_plan lean = subst (λ (p : Plan). IsChosen p s (budget_of order) laid) lean chosen

    -- no more ANDs stand in a settled graph than the run of its program writes
    few_toffoli_gates : HasFewToffoliGates order tape laid.circuit.gates
    few_toffoli_gates = record {
      few = λ which fit. elim which as (λ _. (counts_of laid.circuit.gates).ccx ≤ 2 * ands_of tape) [
        | inl lean ↦ omega (arith, ((lean_plan lean).few m within (row_fits fit)).all, no_larger.ands)
        | inr compact ↦
            let plan : IsCompact s (budget_of order) laid = subst (λ (p : Plan). IsChosen p s (budget_of order) laid) compact chosen in
            omega (arith, (plan.few m within (row_fits fit)).all, no_larger.ands)
      ];
    }

    lean_size : HasLeanSize order tape laid.circuit.lines (length laid.circuit.gates)
    lean_size = record {
      few_lines = λ lean. omega (arith, (lean_plan lean).row_lines m within, same_lines);
      few_gates = λ lean fit. omega (arith, (lean_plan lean).row_gates m within (row_fits fit), same_gates);
    }

    shallow_fits : ShallowRowFits order tape → ShallowFits (budget_of order) m
    shallow_fits fit = record {
      few_lines = omega (arith, are.inputs, are.outputs, are.steps, fit.lines);
      few_gates = omega (arith, are.outputs, are.steps, fit.gates);
    }

    small_depth : HasSmallDepth order tape s laid.circuit.gates
    small_depth = record {
      small = λ shallow fit.
          (let plan : IsShallow s (budget_of order) laid = subst (λ (p : Plan). IsChosen p s (budget_of order) laid) shallow chosen in
          plan.depth m within (shallow_fits fit));
    }

-- gates that are not put in another order are written as they may be
as_laid : (plan : Plan) (gates : List GateView) → AreWrittenFor plan gates gates
as_laid Auto gates = refl
as_laid Compact gates = AreReordered-refl gates
as_laid Eager gates = refl
as_laid Lean gates = AreReordered-refl gates
as_laid Pebble gates = refl
as_laid Shallow gates = refl

planned : (order : OrderView) (text : List ℕ) (laid : LaidView) (tape : TapeView) (s : SettledView) (l : LeavesSettled text order.assume order.nodes tape)
    → IsSettledWithin tape order.assume order.nodes s → IsPlanOf order.plan s (budget_of order) laid
    → IsCleanPlan (start_of order.plan) laid l.left.program (budget_of order)
    → IsPlannedFor order text tape laid
planned order text laid tape s l settled plan c =
    let lines = c.plan.lines in
    let sum_of = plan.sum_of in
    record {
      circuit = record {
        settled = l;
        only = λ q is. one_formed text q l.left.program is l.left.formed;
        clean = record {
          inputs = c.plan.inputs ∙ c.graph_of.inputs ∙ ap sum c.tape_of.widths;
          borrows = c.plan.borrowed;
          placed = subst (λ n. AreGatesOn n laid.circuit.gates) (sym plan.sum_of) plan.on;
          narrow = plan.narrow;
          computes = λ input rest size met many. computes_on (start_of order.plan) laid l.left.program (budget_of order) c input rest size many;
        };
        few_lines = omega arith;
        few_gates = c.plan.gates;
        planned = record {
          graph = s;
          graph_of = settled.of_tape;
          no_larger = settled.no_larger;
          laid = laid;
          roles_are = refl;
          lines_are = plan.sum_of;
          gates_are = as_laid order.plan laid.circuit.gates;
          chosen = plan.chosen;
          few_toffoli_gates = few_toffoli_gates order laid tape s settled.of_tape settled.no_larger plan.chosen;
          lean_size =
              subst (λ (n : ℕ). HasLeanSize order tape n (length laid.circuit.gates)) (sym plan.sum_of)
              (lean_size order laid tape s settled.of_tape settled.no_larger plan.chosen);
          small_depth = small_depth order laid tape s settled.of_tape settled.no_larger plan.chosen;
        };
      };
      can = writable (start_of order.plan) laid l.left.program (budget_of order) c;
      sum_of = plan.sum_of;
      on = plan.on;
    }

-- a plan of a tape's settled graph is one of each text that leaves the tape
pub plan_of_texts : {E : Type 0} (order : OrderView) (tape : TapeView) (s : SettledView) (r : Result LaidView E) → IsWithinLimits order
    → IsSettledWithin tape order.assume order.nodes s → IfOk r (IsPlanOf order.plan s (budget_of order))
    → IfOk r (λ laid. ForTexts tape (λ text. IsPlannedFor order text tape laid))
plan_of_texts order tape s (Err e) limits settled h = tt
plan_of_texts order tape s (Ok laid) limits settled plan = record {
  of_text = λ text left.
      let l : LeavesSettled text order.assume order.nodes tape = record { left = left; hold = settled.hold } in
      planned order text laid tape s l settled plan
      (clean_plan order.plan text laid tape s (budget_of order) left settled.of_tape plan limits.lines limits.gates);
}

-- the file of a plan means the plan, in each format
pub means_itself : (format : Format) (laid : LaidView) → IsWritable laid → laid.inputs + laid.outputs + laid.work + laid.borrowed ≡ laid.circuit.lines
    → AreGatesOn laid.circuit.lines laid.circuit.gates → AreNarrow laid.circuit.gates
    → MeansCompiledIn format (file_of format laid) (roles_of laid) laid.circuit.gates
means_itself format laid can sum_of on narrow =
    let some = can.some in
    let few = can.few in
    let same : laid.circuit.lines ≡ lines_in (roles_of laid) = sym sum_of in
    of_format format (record {
      some = omega arith;
      few = omega arith;
      few_gates = can.few_gates;
      placed = subst (λ n. AreGatesOn n laid.circuit.gates) same on;
      narrow = narrow;
    })
  where
    of_format : (format : Format) → FitAFile (lines_in (roles_of laid)) laid.circuit.gates
        → MeansCompiledIn format (file_of format laid) (roles_of laid) laid.circuit.gates
    of_format Real fits = real.compiled_has_meaning (roles_of laid) laid.circuit.gates fits
    of_format Qasm fits = qasm.compiled_has_meaning (roles_of laid) laid.circuit.gates fits

pub compiled_file : (order : OrderView) (text : List ℕ) (laid : LaidView) (tape : TapeView) → IsPlannedFor order text tape laid
    → IsCompiled order text (file_of order.format laid)
compiled_file order text laid tape p = record {
  tape = tape;
  settled = p.circuit.settled;
  only = p.circuit.only;
  clean = record {
    roles = roles_of laid;
    gates = laid.circuit.gates;
    meaning = means_itself order.format laid p.can p.sum_of p.on p.circuit.clean.narrow;
    circuit = p.circuit.clean;
  };
  few_lines = p.circuit.few_lines;
  few_gates = p.circuit.few_gates;
  planned = p.circuit.planned;
  written = refl;
}

-- ---- the budgets

greatest : (a limit : ℕ) → cond (nat_lt limit a) a (limit + 1) ≡ max a (limit + 1)
greatest a limit = elim (leb_tells (suc limit) a) [ inl t ↦ rw t.0 (omega arith) | inr t ↦ rw t.0 (omega arith) ]

-- a settled graph has no plan only where the measures of its tape leave no row
pub planning_fault : (order : OrderView) (text : List ℕ) (tape : TapeView) (s : SettledView) (fault : Fault) → LeavesSettled text order.assume order.nodes tape
    → IsSettledOf tape s → IsNoLarger tape s → IsPlanningFault order.plan s (budget_of order) fault → IsCompileFault order text fault
planning_fault order text tape s (faults.Lines need limit) l is no_larger h =
    let within : (m : Measures) → AreMeasuresOf tape m → IsWithin s m = λ m are. settled_graphs_are_within tape s m is no_larger are in
    let inputs = is.inputs in
    let outputs = is.outputs in
    let same : s.inputs + length s.outputs + order.borrow ≡ least_lines tape order = omega arith in
    record {
      tape = tape;
      settled = l;
      few = λ m are. h.0.few m (within m are);
      no_row = λ m are. h.0.no_row m (within m are);
      needed = h.1 ∙ greatest (s.inputs + length s.outputs + order.borrow) order.lines ∙ ap (λ n. max n (order.lines + 1)) same
          ∙ ap (λ n. max (least_lines tape order) (n + 1)) (sym h.2);
      limit_is = h.2;
    }
planning_fault order text tape s (faults.Gates limit) l is no_larger h =
    let within : (m : Measures) → AreMeasuresOf tape m → IsWithin s m = λ m are. settled_graphs_are_within tape s m is no_larger are in
    record {
      tape = tape;
      settled = l;
      few = λ m are. h.0.few m (within m are);
      no_row = λ m are. h.0.no_row m (within m are);
      limit_is = h.1;
    }
planning_fault order text tape s (faults.Memory _) l is no_larger h = tt
planning_fault order text tape s fault l is no_larger h = absurd h

-- what stops the claims stops the file
pub settling_fault : (order : OrderView) (text : List ℕ) (fault : Fault) → IsSettlingFault text order.assume order.nodes fault → IsCompileFault order text fault
settling_fault order text (faults.Memory _) h = tt
settling_fault order text (faults.Lines need limit) h = absurd h
settling_fault order text (faults.Gates limit) h = absurd h
settling_fault order text fault h = h

-- and so does what refuses a text
pub stops_compile : (order : OrderView) (text : List ℕ) (fault : Fault) → IsTextFault text fault → IsCompileFault order text fault
stops_compile order text fault h = settling_fault order text fault (stops_settling text order.assume order.nodes fault h)

pub settling_stops : (order : OrderView) (tape : TapeView) (fault : Fault) → ForTexts tape (λ text. IsSettlingFault text order.assume order.nodes fault)
    → ForTexts tape (λ text. IsCompileFault order text fault)
settling_stops order tape fault h = record { of_text = λ text left. settling_fault order text fault (h.of_text text left) }

-- and what leaves a settled graph without a plan
pub planning_stops : {T : Type 0} (order : OrderView) (tape : TapeView) (s : SettledView) (r : Result T Fault) → IsSettledWithin tape order.assume order.nodes s
    → IfErr r (IsPlanningFault order.plan s (budget_of order)) → IfErr r (λ fault. ForTexts tape (λ text. IsCompileFault order text fault))
planning_stops order tape s (Ok laid) settled h = tt
planning_stops order tape s (Err fault) settled h = record {
  of_text = λ text left.
      planning_fault order text tape s fault (record { left = left; hold = settled.hold }) settled.of_tape settled.no_larger h;
}
