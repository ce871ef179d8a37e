-- The circuit of a text that computes with numbers computes with numbers, and only a budget stops it.
use Rattle.std.proofs.Common.{◌≡◌, ℕ, Bool, false, List, [], Result, Ok, Err, length, replicate, refl, sym, ◌∙◌, subst, arith}
use Rattle.std.specs.Result.{IfOk, IfErr}
use Rattle.std.proofs.lemmas.List.{length-replicate}
use Rattle.program_commands.specs.Arith.{Gives, IsCircuitOf, IsProgramOf, IsWrittenAs, AddsNumbers, StopsAs, compile_order, program_text}
use Rattle.program_commands.specs.Outcomes.{IsArithFault, made_text}
use Rattle.program_commands.specs.declared.arith.Made.{Made}
use Rattle.arith_laws.specs.Computes.{Computes}
use Rattle.arith_templates.specs.Meets.{inputs_of, outputs_of}
use Rattle.arith_templates.specs.declared.kind.Kind.TheVariants.{Add, Mul}
use Rattle.command_answers.specs.declared.fault.Fault.{Fault}
use Rattle.command_answers.specs.declared.fault.Fault.TheVariants as faults
use Rattle.circuit_plans.specs.declared.roles.Roles.{Roles}
use Rattle.circuit_plans.specs.declared.roles.Placing.TheVariants.{Added}
use Rattle.circuit_plans.specs.declared.roles.Start.TheVariants.{Any}
use Rattle.mct_circuit.specs.Gates.{GateView}
use Rattle.program_texts.specs.Clean.{IsCleanCircuit}
use Rattle.program_commands.specs.Compile.{IsCompiled, PassesBudget}
use Rattle.program_commands.specs.Outcomes.{IsBudgetFault, IsCompileFault}
use Rattle.program_commands.proofs.CompileLemmas.{budgets_alone}
use Rattle.revc_words.specs.Words.{IsWithinLimits, OrderView}
use Rattle.revc_words.specs.declared.order.Format.{Format}
use Rattle.revc_words.specs.declared.order.Write.{Write}
use Rattle.revc_words.specs.declared.order.Write.TheVariants.{Program}
use Rattle.revs_terms.specs.Runs.{IsInput}
use Rattle.revs_terms.specs.Views.{ProgramView}

-- ---- the order of `compile`

no_product : Add ≡ Mul → ⊥
no_product e = absurd cc

pub usual_within : (format : Format) → IsWithinLimits (compile_order format)
usual_within format = record {
  some_lines = omega arith;
  lines = omega arith;
  some_gates = omega arith;
  gates = omega arith;
  borrow = omega arith;
  nodes = omega arith;
  few_nodes = omega arith;
  few_assumed = omega arith;
  few_bits = omega arith;
  some_bits = tt;
  some_factor = λ e. absurd (no_product e);
  small_factor = omega arith;
}

-- ---- the circuit

-- a clean circuit of the program adds what the kind says
numbers_added : (order : OrderView) (text : List ℕ) (t : Computes order.kind order.number order.by text) (roles : Roles) (gates : List GateView)
    → IsCleanCircuit t.program 0 (Added Any) 0 roles gates → (input : List Bool) → length input ≡ inputs_of order.kind order.number
    → AddsNumbers order roles gates input
numbers_added order text t roles gates clean input whole =
    let is : IsInput t.program.params input = whole ∙ sym t.inputs in
    let on = clean.computes input [] is (λ tape of. tt) refl in
    record { output = on.output; size = t.outputs input on.output is on.is; meets = t.meets input on.output is on.is; adds = λ held wide. on.adds held wide tt }

-- it has an output line for each output
outputs_are : (order : OrderView) (text : List ℕ) (t : Computes order.kind order.number order.by text) (roles : Roles) (gates : List GateView)
    → IsCleanCircuit t.program 0 (Added Any) 0 roles gates → roles.outputs ≡ outputs_of order.kind order.number order.by
outputs_are order text t roles gates clean =
    let count = inputs_of order.kind order.number in
    let input : List Bool = replicate count false in
    let is : IsInput t.program.params input = length-replicate count false ∙ sym t.inputs in
    let on = clean.computes input [] is (λ tape of. tt) refl in
    sym on.size ∙ t.outputs input on.output is on.is

circuit_of : (format : Format) (order : OrderView) (file : List ℕ) → Computes order.kind order.number order.by (program_text order)
    → IsCompiled (compile_order format) (program_text order) file → IsCircuitOf format order file
circuit_of format order file t c =
    let roles = c.clean.roles in
    let gates = c.clean.gates in
    let same : t.program ≡ c.settled.left.program = c.only t.program t.formed in
    let clean : IsCleanCircuit t.program 0 (Added Any) 0 roles gates =
    subst (λ (p : ProgramView). IsCleanCircuit p 0 (Added Any) 0 roles gates) (sym same) c.clean.circuit in
    record {
      roles = roles;
      gates = gates;
      meaning = c.clean.meaning;
      placed = clean.placed;
      narrow = clean.narrow;
      inputs = clean.inputs ∙ t.inputs;
      outputs = outputs_are order (program_text order) t roles gates clean;
      no_borrowed = clean.borrows;
      few_lines = c.few_lines;
      few_gates = c.few_gates;
      computes = numbers_added order (program_text order) t roles gates clean;
      compiled = c;
    }

-- ---- the answers

pub program_gives : (order : OrderView) (written : List ℕ) → order.write ≡ Program → Computes order.kind order.number order.by (program_text order)
    → written ≡ program_text order → Gives order [] written
program_gives order written is t same =
    let whole : IsProgramOf order written = record {
      text = same;
      computes = subst (λ (text : List ℕ). Computes order.kind order.number order.by text) (sym same) t;
    } in
    subst (λ (write : Write). IsWrittenAs write order written) (sym is) whole

-- a file that `compile` makes of the text is that of such a circuit
pub file_gives : {E : Type 0} (write : Write) (format : Format) (order : OrderView) (text : List ℕ) (r : Result Made E) → order.write ≡ write
    → ((file : List ℕ) → IsCircuitOf format order file → IsWrittenAs write order file) → Computes order.kind order.number order.by (program_text order)
    → text ≡ program_text order → IfOk r (λ made. IsCompiled (compile_order format) text (made_text made)) → IfOk r (λ made. Gives order [] (made_text made))
file_gives write format order text (Err e) is written t same h = tt
file_gives write format order text (Ok made) is written t same h =
    let file = made_text made in
    let compiled = subst (λ (text : List ℕ). IsCompiled (compile_order format) text file) same h in
    subst (λ (write : Write). IsWrittenAs write order file) (sym is) (written file (circuit_of format order file t compiled))

-- a budget that is passed, or want of memory, is a fault of `arith`
arith_fault : (write : Write) (format : Format) (order : OrderView) (fault : Fault) → order.write ≡ write
    → (PassesBudget (compile_order format) (program_text order) fault → StopsAs write order fault)
    → IsBudgetFault (compile_order format) (program_text order) fault → IsArithFault order fault
arith_fault write format order (faults.Memory _) is stops h = tt
arith_fault write format order fault is stops h = subst (λ (write : Write). StopsAs write order fault) (sym is) (stops h)

-- nothing else stops `compile` at the text
pub file_stops : {T : Type 0} (write : Write) (format : Format) (order : OrderView) (text : List ℕ) (r : Result T Fault) → order.write ≡ write
    → ((fault : Fault) → PassesBudget (compile_order format) (program_text order) fault → StopsAs write order fault)
    → Computes order.kind order.number order.by (program_text order)
    → text ≡ program_text order → IfErr r (IsCompileFault (compile_order format) text) → IfErr r (IsArithFault order)
file_stops write format order text (Ok x) is stops t same h = tt
file_stops write format order text (Err fault) is stops t same h =
    let own = subst (λ (text : List ℕ). IsCompileFault (compile_order format) text fault) same h in
    arith_fault write format order fault is (stops fault)
    (budgets_alone (compile_order format) (program_text order) t.program fault t.formed t.no_claims own)
