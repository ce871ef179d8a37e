-- `compile` by where its order puts the outputs: it gives a file, or has one exact cause.
use Rattle.std.proofs.Common.{◌≡◌, ℕ, ◌<◌, List, [], ◌∷◌, Result, Ok, Err, inl, refl, sym, ap, ap₂, ◌∙◌, subst, arith, length}
use Rattle.std.specs.Result.{IfOk, IfErr}
use Rattle.circuit_plans.specs.declared.roles.Placing.{Placing}
use Rattle.circuit_plans.specs.declared.roles.Placing.TheVariants.{Added, InPlace}
use Rattle.circuit_plans.specs.declared.roles.Start.{Start}
use Rattle.circuit_plans.specs.Plans.{LaidView}
use Rattle.command_answers.specs.Outcomes.{HasOneOutcome, IsFaultOfText, IsNoBudget}
use Rattle.command_answers.specs.declared.fault.Fault.{Fault}
use Rattle.command_answers.specs.declared.fault.Fault.TheVariants as faults
use Rattle.command_answers.specs.declared.fault.Refusal.TheVariants as refusals
use Rattle.program_texts.proofs.SettlingLemmas.{one_left, one_stop, settled_or_stopped}
use Rattle.revc_words.specs.Words.{OrderView}
use Rattle.revs_parser.specs.declared.limits.TheConstants.{MOST_BYTES}
use Rattle.revs_tape.specs.Measures.{inputs_of, outputs_of}
use Rattle.program_commands.specs.InPlace.{FindsNone, IsCompiledInPlace, LacksOutputs, StopsInPlace}
use Rattle.program_commands.specs.Outcomes.{IsCompileFault, file_of}
use Rattle.program_commands.specs.Placed.{Gives, IsCompilingFault, causes_by, gives_by, promise, serves_by}
use Rattle.program_commands.specs.inside.InPlace.{IsInPlaceFault}
use Rattle.program_commands.proofs.CompileLemmas as plans

-- ---- what is given, and what is not

pub given : {E : Type 0} (order : OrderView) (text : List ℕ) (placing : Placing) (r : Result LaidView E) → order.outputs ≡ placing
    → IfOk r (λ laid. gives_by placing order text (file_of order.format laid)) → IfOk r (λ laid. Gives order text (file_of order.format laid))
given order text placing (Ok laid) same h = subst (λ (q : Placing). gives_by q order text (file_of order.format laid)) (sym same) h
given order text placing (Err e) same h = tt

compiling : (order : OrderView) (text : List ℕ) (placing : Placing) (fault : Fault) → order.outputs ≡ placing → causes_by placing order text fault
    → causes_by order.outputs order text fault
compiling order text placing fault same h = subst (λ (q : Placing). causes_by q order text fault) (sym same) h

stopped_beside : (order : OrderView) (text : List ℕ) (start : Start) (fault : Fault) → order.outputs ≡ Added start → IsCompileFault order text fault
    → IsCompilingFault order text fault
stopped_beside order text start (faults.Memory _) same h = tt
stopped_beside order text start (faults.Lines need limit) same h = compiling order text (Added start) (faults.Lines need limit) same h
stopped_beside order text start (faults.Gates limit) same h = compiling order text (Added start) (faults.Gates limit) same h
stopped_beside order text start fault same h = compiling order text (Added start) fault same h

stopped_in_place : (order : OrderView) (text : List ℕ) (fault : Fault) → order.outputs ≡ InPlace → IsInPlaceFault order text fault
    → IsCompilingFault order text fault
stopped_in_place order text (faults.Memory _) same h = tt
stopped_in_place order text (faults.FewOutputs inputs outputs) same h = compiling order text InPlace (faults.FewOutputs inputs outputs) same h
stopped_in_place order text faults.NoCircuit same h = compiling order text InPlace faults.NoCircuit same h
stopped_in_place order text fault same h = compiling order text InPlace fault same h

pub not_given_beside : {T : Type 0} (order : OrderView) (text : List ℕ) (start : Start) (r : Result T Fault) → order.outputs ≡ Added start
    → IfErr r (IsCompileFault order text) → IfErr r (IsCompilingFault order text)
not_given_beside order text start (Ok t) same h = tt
not_given_beside order text start (Err fault) same h = stopped_beside order text start fault same h

pub not_given_in_place : {T : Type 0} (order : OrderView) (text : List ℕ) (r : Result T Fault) → order.outputs ≡ InPlace
    → IfErr r (IsInPlaceFault order text) → IfErr r (IsCompilingFault order text)
not_given_in_place order text (Ok t) same h = tt
not_given_in_place order text (Err fault) same h = stopped_in_place order text fault same h

-- ---- one outcome in place

never_both : (order : OrderView) (text written : List ℕ) (fault : Fault) → IsCompiledInPlace order text written → StopsInPlace order text fault
    → IsNoBudget fault → ⊥
never_both order text written (faults.FewOutputs inputs outputs) given cause exact =
    let same : given.tape ≡ cause.tape = one_left text cause.tape given.tape cause.settled.left given.settled.left in
    omega (arith, given.enough, cause.few, cause.inputs_are, cause.outputs_are, ap inputs_of same, ap outputs_of same)
never_both order text written faults.NoCircuit given cause exact = absurd exact
never_both order text written (faults.Lines need limit) given cause exact = absurd exact
never_both order text written (faults.Gates limit) given cause exact = absurd exact
never_both order text written fault given cause exact = settled_or_stopped text order.assume order.nodes given.tape fault given.settled cause

-- outputs lack, or there are enough
lacks_or_has : (order : OrderView) (text : List ℕ) (inputs outputs : ℕ) → LacksOutputs order text inputs outputs → FindsNone order text → ⊥
lacks_or_has order text inputs outputs a b =
    let same : a.tape ≡ b.tape = one_left text b.tape a.tape b.settled.left a.settled.left in
    omega (arith, b.enough, a.few, a.inputs_are, a.outputs_are, ap inputs_of same, ap outputs_of same)

one_cause : (order : OrderView) (text : List ℕ) (fault exact : Fault) → StopsInPlace order text fault → StopsInPlace order text exact → IsNoBudget exact
    → exact ≡ fault
one_cause order text fault faults.NoCircuit a b is = absurd is
one_cause order text fault (faults.Lines need limit) a b is = absurd is
one_cause order text fault (faults.Gates limit) a b is = absurd is
one_cause order text (faults.FewOutputs inputs outputs) (faults.FewOutputs i o) a b is =
    let same : b.tape ≡ a.tape = one_left text a.tape b.tape a.settled.left b.settled.left in
    ap₂ faults.FewOutputs (b.inputs_are ∙ ap inputs_of same ∙ sym a.inputs_are) (b.outputs_are ∙ ap outputs_of same ∙ sym a.outputs_are)
one_cause order text faults.NoCircuit (faults.FewOutputs i o) a b is = absurd (lacks_or_has order text i o b a)
one_cause order text fault (faults.FewOutputs i o) a b is = absurd (settled_or_stopped text order.assume order.nodes b.tape fault b.settled a)
one_cause order text (faults.FewOutputs inputs outputs) exact a b is =
    absurd (settled_or_stopped text order.assume order.nodes a.tape exact a.settled b)
one_cause order text faults.NoCircuit exact a b is = absurd (settled_or_stopped text order.assume order.nodes a.tape exact a.settled b)
one_cause order text fault exact a b is = one_stop text order.assume order.nodes exact fault b a

-- ---- by where the outputs are

never_both_by : (placing : Placing) (order : OrderView) (text written : List ℕ) (fault : Fault) → gives_by placing order text written
    → causes_by placing order text fault → IsNoBudget fault → ⊥
never_both_by (Added start) order text written fault given cause exact =
    plans.planned_or_caused order text given.tape fault given.settled cause exact
never_both_by InPlace order text written fault given cause exact = never_both order text written fault given cause exact

one_cause_by : (placing : Placing) (order : OrderView) (text : List ℕ) (fault exact : Fault) → causes_by placing order text fault
    → causes_by placing order text exact → IsNoBudget exact → exact ≡ fault
one_cause_by (Added start) order text fault exact a b is = plans.one_cause order text fault exact a b is
one_cause_by InPlace order text fault exact a b is = one_cause order text fault exact a b is

free_by : (placing : Placing) (order : OrderView) (text : List ℕ) (fault : Fault) → serves_by placing order text → causes_by placing order text fault → ⊥
free_by (Added start) order text fault served cause = plans.keeps_free order text fault served cause
free_by InPlace order text fault served cause = served

long_by : (placing : Placing) (order : OrderView) (text : List ℕ) → MOST_BYTES < length text → causes_by placing order text (faults.Refused refusals.TooLong)
long_by (Added start) order text over = over
long_by InPlace order text over = over

-- the statuses of the causes
among_by : (placing : Placing) (order : OrderView) (text : List ℕ) (fault : Fault) → causes_by placing order text fault
    → IsFaultOfText (3 ∷ 4 ∷ 5 ∷ 6 ∷ 7 ∷ 18 ∷ 19 ∷ 20 ∷ []) fault
among_by placing order text (faults.Refused refusal) cause = record { of_text = tt; status = (0, omega arith, refl) }
among_by placing order text (faults.Claim number at digits) cause = record { of_text = tt; status = (1, omega arith, refl) }
among_by placing order text (faults.Diagram number at limit) cause = record { of_text = tt; status = (2, omega arith, refl) }
among_by placing order text (faults.Lines need limit) cause = record { of_text = tt; status = (3, omega arith, refl) }
among_by placing order text (faults.Gates limit) cause = record { of_text = tt; status = (4, omega arith, refl) }
among_by placing order text (faults.FewOutputs inputs outputs) cause = record { of_text = tt; status = (5, omega arith, refl) }
among_by placing order text faults.NoCircuit cause = record { of_text = tt; status = (6, omega arith, refl) }
among_by placing order text faults.NoInput cause = record { of_text = tt; status = (7, omega arith, refl) }
among_by (Added start) order text fault cause = absurd cause
among_by InPlace order text fault cause = absurd cause

pub one_outcome : HasOneOutcome promise
one_outcome = record {
  never_both = λ order text written fault given cause exact. never_both_by order.outputs order text written fault given cause exact;
  one_cause = λ order text fault exact cause other is. inl (one_cause_by order.outputs order text fault exact cause other is);
  free = λ order text fault served cause. free_by order.outputs order text fault served cause;
  long = λ order text over. long_by order.outputs order text over;
  among = λ order text fault cause. among_by order.outputs order text fault cause;
}
