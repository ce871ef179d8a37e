-- `gen` gives a text always, and `bench` the sizes of what `compile` gives for that text, which only a budget stops.
use Rattle.std.proofs.Common.{◌≡◌, List, ℕ, Result, Ok, Err, refl, sym, subst}
use Rattle.std.specs.Result.{IfOk, IfErr}
use Rattle.command_answers.specs.declared.fault.Fault.{Fault}
use Rattle.command_answers.specs.declared.fault.Fault.TheVariants as faults
use Rattle.program_commands.specs.Outcomes.{IsAdderSize, IsBudgetFault, IsCompileFault}
use Rattle.arith_laws.proofs.AdderLemmas.{adders_add}
use Rattle.arith_laws.specs.Computes.{Computes}
use Rattle.arith_templates.specs.declared.kind.Kind.TheVariants.{Add}
use Rattle.command_answers.specs.Outcomes.{HasOneOutcome}
use Rattle.circuit_plans.specs.Plans.{LaidView, roles_of}
use Rattle.program_commands.specs.declared.bench.BenchSizes.{BenchSizes}
use Rattle.program_commands.specs.Bench as bench
use Rattle.program_commands.specs.Bench.{AreSizesOf, IsBenched, bench_text}
use Rattle.program_commands.specs.Gen as gen
use Rattle.program_commands.specs.inside.Plans.{IsPlannedFor}
use Rattle.program_commands.proofs.CompileLemmas.{among_budgets, budgets_alone, fits_free, no_exact_budget}
use Rattle.arith_templates.specs.Adder.{adder_text}
use Rattle.revs_tape.specs.Tapes.{TapeView}
use Rattle.revc_words.specs.Words.{OrderView}

pub gen_outcome : HasOneOutcome gen.promise
gen_outcome = record {
  never_both = λ order text written fault given cause exact. cause;
  one_cause = λ order text fault exact cause other is. absurd cause;
  free = λ order text fault served cause. cause;
  long = tt;
  among = λ order text fault cause. absurd cause;
}

pub bench_outcome : HasOneOutcome bench.promise
bench_outcome = record {
  never_both = λ order text written fault given cause exact. no_exact_budget order (adder_text order.number) fault cause exact;
  one_cause = λ order text fault exact cause other is. absurd (no_exact_budget order (adder_text order.number) exact other is);
  free = λ order text fault served cause. fits_free order (adder_text order.number) fault served cause;
  long = tt;
  among = λ order text fault cause. among_budgets order (adder_text order.number) fault cause;
}

-- the text of the adder adds, so it is well formed, and makes no claim
pub adds : (number : ℕ) → IsAdderSize number → Computes Add number 0 (adder_text number)
adds number size = adders_add number 0 size.some size.few

-- and so only a budget stops it
pub bench_faults : {T : Type 0} (order : OrderView) (r : Result T Fault) → IsAdderSize order.number
    → IfErr r (IsCompileFault order (adder_text order.number)) → IfErr r (IsBudgetFault order (adder_text order.number))
bench_faults order (Ok x) size h = tt
bench_faults order (Err fault) size h =
    let text = adds order.number size in
    budgets_alone order (adder_text order.number) text.program fault text.formed text.no_claims h

-- the sizes of a plan of the adder's text are what `bench` gives
pub benched : {E : Type 0} (order : OrderView) (tape : TapeView) (laid : LaidView) (r : Result BenchSizes E)
    → IsPlannedFor order (adder_text order.number) tape laid → IfOk r (AreSizesOf tape (roles_of laid) laid.circuit.gates)
    → IfOk r (λ sizes. IsBenched order (bench_text sizes))
benched order tape laid (Err e) plan h = tt
benched order tape laid (Ok sizes) plan are = record {
  tape = tape;
  roles = roles_of laid;
  gates = laid.circuit.gates;
  circuit = plan.circuit;
  sizes = sizes;
  are = are;
  lines = refl;
}

-- want of memory is a fault of `bench`
pub memory_stops : {T : Type 0} (order : OrderView) (text : List ℕ) (r : Result T Fault) → IfErr r (λ fault. fault ≡ faults.Memory _)
    → IfErr r (IsCompileFault order text)
memory_stops order text (Ok x) h = tt
memory_stops order text (Err fault) h = subst (IsCompileFault order text) (sym h) tt
