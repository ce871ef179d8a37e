-- A circuit text means one circuit, or has one refusal; words are inputs of it, or one is the first that is not.
use Rattle.std.proofs.Common.{◌≡◌, ℕ, ◌+◌, ◌<◌, ◌≤◌, ◌⊎◌, inl, inr, List, [], ◌∷◌, Result, Ok, Err, length, refl, sym, ap, ◌∙◌, subst, arith}
use Rattle.std.specs.List.{AllByRecursion}
use Rattle.std.specs.Result.{IfOk, IfErr}
use Rattle.std.proofs.lemmas.List.{length-replicate}
use Rattle.real_format.proofs.VerdictLemmas as real
use Rattle.real_format.specs.Faults.{IsRealFault, IsTextFault as IsRealTextFault}
use Rattle.real_format.specs.Real.{RealView}
use Rattle.real_format.specs.Real as real_files
use Rattle.real_format.specs.declared.file.RealFault.{RealFault}
use Rattle.real_format.specs.declared.file.RealFault.TheVariants as reals
use Rattle.qasm_format.proofs.OneReadingLemmas as qasm
use Rattle.qasm_format.specs.Faults.{IsQasmFault, IsTextFault as IsQasmTextFault}
use Rattle.qasm_format.specs.Qasm.{QasmView}
use Rattle.qasm_format.specs.Qasm as qasm_files
use Rattle.qasm_format.specs.Registers.{lines_of_all}
use Rattle.qasm_format.specs.declared.file.QasmFault.{QasmFault}
use Rattle.qasm_format.specs.declared.file.QasmFault.TheVariants as qasms
use Rattle.real_format.specs.declared.file.Mark.TheVariants.{Free}
use Rattle.revc_words.specs.declared.order.Format.{Format}
use Rattle.revc_words.specs.declared.order.Format.TheVariants.{Real, Qasm}
use Rattle.revc_words.specs.Words.{OrderView}
use Rattle.command_answers.specs.declared.fault.CircuitRefusal.{CircuitRefusal}
use Rattle.command_answers.specs.declared.fault.CircuitRefusal.TheVariants.{TooLong, Line, LineLimit, Token, TokenLimit}
use Rattle.command_answers.specs.declared.fault.Fault.{Fault}
use Rattle.command_answers.specs.declared.fault.Fault.TheVariants as faults
use Rattle.circuit_commands.specs.declared.limits.TheConstants.{MOST_CIRCUIT_BYTES}
use Rattle.circuit_commands.specs.Circuits.{ReadCircuit, of_qasm, of_real, Means, MeansIn, IsCircuitRefusal, IsRefusalIn, IsRefusedIn}
use Rattle.circuit_commands.specs.Outcomes.{IsCircuitFault}
use Rattle.circuit_commands.specs.inside.Mappings.{qasm_fault, real_fault}
use Rattle.circuit_commands.specs.inside.Splitting.{HasLines}
use Rattle.command_answers.specs.Outcomes.{HasOneOutcome, IsFaultOfText}
use Rattle.command_answers.specs.BitWords.{IsInputWord}
use Rattle.circuit_commands.specs.Run as run
use Rattle.circuit_commands.specs.Run.{AreInputs, IsFirstUnfit, HasBadWord, free_lines}
use Rattle.circuit_commands.specs.Stat as stat
use Rattle.circuit_commands.specs.declared.stat.Sizes.{Sizes}
use Rattle.list_facts.proofs.FirstLemmas.{all_at, first_same}

-- ---- refusals are those of the readers

-- the refusal for a fault of a reader; none is for want of memory
abbrev real_refusal : RealFault → CircuitRefusal
real_refusal (reals.Line number) = Line number
real_refusal (reals.Limit number) = LineLimit number
real_refusal (reals.Memory _) = TooLong

abbrev qasm_refusal : QasmFault → CircuitRefusal
qasm_refusal (qasms.Token at) = Token at
qasm_refusal (qasms.Limit at) = TokenLimit at
qasm_refusal (qasms.Memory _) = TooLong

-- a fault of the reader for which this is the refusal
record IsRealCause (text : List ℕ) (refusal : CircuitRefusal) : Type 0 where
  fault : RealFault
  is : IsRealTextFault text fault
  same : refusal ≡ real_refusal fault

record IsQasmCause (text : List ℕ) (refusal : CircuitRefusal) : Type 0 where
  fault : QasmFault
  is : IsQasmTextFault text fault
  same : refusal ≡ qasm_refusal fault

real_cause : (text : List ℕ) (refusal : CircuitRefusal) → IsRefusalIn Real text refusal → IsRealCause text refusal
real_cause text TooLong h = absurd h
real_cause text (Line number) h = record { fault = reals.Line number; is = h; same = refl }
real_cause text (LineLimit number) h = record { fault = reals.Limit number; is = h; same = refl }
real_cause text (Token at) h = absurd h
real_cause text (TokenLimit at) h = absurd h

qasm_cause : (text : List ℕ) (refusal : CircuitRefusal) → IsRefusalIn Qasm text refusal → IsQasmCause text refusal
qasm_cause text TooLong h = absurd h
qasm_cause text (Line number) h = absurd h
qasm_cause text (LineLimit number) h = absurd h
qasm_cause text (Token at) h = record { fault = qasms.Token at; is = h; same = refl }
qasm_cause text (TokenLimit at) h = record { fault = qasms.Limit at; is = h; same = refl }

-- ---- one circuit or one refusal, by the meaning of a format

one_in : (from : Format) (text : List ℕ) (circuit other : ReadCircuit) → MeansIn from text circuit → MeansIn from text other → circuit ≡ other
one_in Real text circuit other m n = m.same ∙ ap of_real ((real.one_reading text).one_meaning m.file n.file m.meaning n.meaning) ∙ sym n.same
one_in Qasm text circuit other m n = m.same ∙ ap of_qasm ((qasm.one_reading text).one_meaning m.file n.file m.meaning n.meaning) ∙ sym n.same

in_or_refused : (from : Format) (text : List ℕ) (circuit : ReadCircuit) (refusal : CircuitRefusal) → MeansIn from text circuit
    → IsRefusalIn from text refusal → ⊥
in_or_refused Real text circuit refusal m h =
    let cause = real_cause text refusal h in
    (real.one_reading text).never_both m.file cause.fault m.meaning cause.is
in_or_refused Qasm text circuit refusal m h =
    let cause = qasm_cause text refusal h in
    (qasm.one_reading text).never_both m.file cause.fault m.meaning cause.is

one_refusal_in : (from : Format) (text : List ℕ) (refusal other : CircuitRefusal) → IsRefusalIn from text refusal → IsRefusalIn from text other
    → refusal ≡ other
one_refusal_in Real text refusal other a b =
    let one = real_cause text refusal a in
    let two = real_cause text other b in
    one.same ∙ ap real_refusal ((real.one_reading text).one_fault one.fault two.fault one.is two.is) ∙ sym two.same
one_refusal_in Qasm text refusal other a b =
    let one = qasm_cause text refusal a in
    let two = qasm_cause text other b in
    one.same ∙ ap qasm_refusal ((qasm.one_reading text).one_fault one.fault two.fault one.is two.is) ∙ sym two.same

-- ---- one circuit or one refusal

-- a refusal is the limit of bytes, or stands within it
long_or_in : (from : Format) (text : List ℕ) (refusal : CircuitRefusal) → IsCircuitRefusal from text refusal
    → ((refusal ≡ TooLong) × (MOST_CIRCUIT_BYTES < length text)) ⊎ IsRefusedIn from text refusal
long_or_in from text TooLong h = inl (refl, h)
long_or_in from text (Line number) h = inr h
long_or_in from text (LineLimit number) h = inr h
long_or_in from text (Token at) h = inr h
long_or_in from text (TokenLimit at) h = inr h

pub means_or_refused : (from : Format) (text : List ℕ) (circuit : ReadCircuit) (refusal : CircuitRefusal) → Means from text circuit
    → IsCircuitRefusal from text refusal → ⊥
means_or_refused from text circuit refusal m h = elim (long_or_in from text refusal h) [
  | inl long ↦ (let short = m.short in omega (arith, long.1))
  | inr refused ↦ in_or_refused from text circuit refusal m.meaning refused.cause
]

pub one_circuit_refusal : (from : Format) (text : List ℕ) (refusal other : CircuitRefusal) → IsCircuitRefusal from text refusal
    → IsCircuitRefusal from text other → refusal ≡ other
one_circuit_refusal from text refusal other a b = elim (long_or_in from text refusal a) [
  | inl long ↦ elim (long_or_in from text other b) [
    | inl too ↦ long.0 ∙ sym too.0
    | inr in_text ↦ (let short = in_text.short in absurd (omega (arith, long.1)))
  ]
  | inr refused ↦ elim (long_or_in from text other b) [
    | inl long ↦ (let short = refused.short in absurd (omega (arith, long.1)))
    | inr too ↦ one_refusal_in from text refusal other refused.cause too.cause
  ]
]

-- a text means one circuit
pub one_circuit : (from : Format) (text : List ℕ) (circuit other : ReadCircuit) → Means from text circuit → Means from text other → circuit ≡ other
one_circuit from text circuit other m n = one_in from text circuit other m.meaning n.meaning

-- each has a line, and keeps the limit of lines
pub has_lines : (from : Format) (text : List ℕ) (circuit : ReadCircuit) → MeansIn from text circuit → HasLines circuit
has_lines Real text circuit m =
    let file = real.meanings_are_files text m.file m.meaning in
    subst HasLines (sym m.same) (record { some = omega (arith, file.constants, file.some); few = omega (arith, file.constants, file.few) })
has_lines Qasm text circuit m =
    let file = qasm.meanings_are_files text m.file m.meaning in
    let marks = length-replicate (lines_of_all m.file.registers) Free in
    subst HasLines (sym m.same) (record { some = omega (arith, marks, file.some); few = omega (arith, marks, file.few) })

-- ---- `stat`

stat_stops : (order : OrderView) (text : List ℕ) (circuit : ReadCircuit) (fault : Fault) → Means order.from text circuit → stat.IsCause order text fault → ⊥
stat_stops order text circuit (faults.Circuit refusal) m h = means_or_refused order.from text circuit refusal m h
stat_stops order text circuit fault m h = h

stat_cause : (order : OrderView) (text : List ℕ) (fault other : Fault) → stat.IsCause order text fault → stat.IsCause order text other → other ≡ fault
stat_cause order text (faults.Circuit refusal) (faults.Circuit other) a b =
    ap (λ (r : CircuitRefusal). faults.Circuit r) (one_circuit_refusal order.from text other refusal b a)
stat_cause order text (faults.Circuit refusal) other a b = absurd b
stat_cause order text fault other a b = absurd a

stat_among : (order : OrderView) (text : List ℕ) (fault : Fault) → stat.IsCause order text fault → IsFaultOfText (8 ∷ []) fault
stat_among order text (faults.Circuit refusal) cause = record { of_text = tt; status = (0, omega arith, refl) }
stat_among order text fault cause = absurd cause

pub stat_outcome : HasOneOutcome stat.promise
stat_outcome = record {
  never_both = λ order text written fault given cause exact. stat_stops order text given.circuit fault given.means cause;
  one_cause = λ order text fault exact cause other is. inl (stat_cause order text fault exact cause other);
  free = λ order text fault served cause. stat_stops order text served.0 fault served.1 cause;
  long = λ order text over. over;
  among = λ order text fault cause. stat_among order text fault cause;
}

pub measured_of : {E : Type 0} (from : Format) (text : List ℕ) (circuit : ReadCircuit) (r : Result Sizes E) → Means from text circuit
    → IfOk r (λ sizes. sizes ≡ stat.sizes_of circuit) → IfOk r (λ sizes. stat.IsMeasured from text (stat.stat_text sizes))
measured_of from text circuit (Ok sizes) means is = record { circuit = circuit; means = means; lines = ap stat.stat_text is }
measured_of from text circuit (Err fault) means is = tt

pub memory_stops : {T : Type 0} (from : Format) (text : List ℕ) (r : Result T Fault) → IfErr r (λ fault. fault ≡ faults.Memory _)
    → IfErr r (IsCircuitFault from text)
memory_stops from text (Ok sizes) is = tt
memory_stops from text (Err fault) is = subst (IsCircuitFault from text) (sym is) tt

-- ---- `run`

fit_or_bad : (from : Format) (words : List (List ℕ)) (text : List ℕ) (circuit : ReadCircuit) (number : ℕ) → Means from text circuit → AreInputs circuit words
    → HasBadWord from words text number → ⊥
fit_or_bad from words text circuit number m fit h =
    let same : circuit ≡ h.circuit = one_circuit from text circuit h.circuit m h.means in
    let P : List ℕ → Type 0 = IsInputWord (free_lines h.circuit.constants) in
    let all : AllByRecursion P words = subst (λ (c : ReadCircuit). AreInputs c words) same fit in
    h.first.unfit (all_at P h.first.before h.first.word h.first.behind (subst (AllByRecursion P) h.first.cut all))

run_stops : (order : OrderView) (text : List ℕ) (circuit : ReadCircuit) (fault : Fault) → Means order.from text circuit → AreInputs circuit order.bits
    → run.IsCause order text fault → ⊥
run_stops order text circuit (faults.Circuit refusal) m fit h = means_or_refused order.from text circuit refusal m h
run_stops order text circuit (faults.BadBits number) m fit h = fit_or_bad order.from order.bits text circuit number m fit h
run_stops order text circuit fault m fit h = h

one_unfit : (circuit : ReadCircuit) (words : List (List ℕ)) (number other : ℕ) → IsFirstUnfit circuit words number → IsFirstUnfit circuit words other
    → number ≡ other
one_unfit circuit words number other a b =
    let one = first_same (IsInputWord (free_lines circuit.constants)) a.before b.before a.word b.word a.behind b.behind (sym a.cut ∙ b.cut) a.fit b.fit a.unfit
    b.unfit in
    a.count ∙ ap (λ n. n + 1) one.count ∙ sym b.count

one_bad : (from : Format) (words : List (List ℕ)) (text : List ℕ) (number other : ℕ) → HasBadWord from words text number → HasBadWord from words text other
    → number ≡ other
one_bad from words text number other a b =
    let same : a.circuit ≡ b.circuit = one_circuit from text a.circuit b.circuit a.means b.means in
    one_unfit b.circuit words number other (subst (λ (c : ReadCircuit). IsFirstUnfit c words number) same a.first) b.first

run_cause : (order : OrderView) (text : List ℕ) (fault other : Fault) → run.IsCause order text fault → run.IsCause order text other → other ≡ fault
run_cause order text (faults.Circuit refusal) (faults.Circuit other) a b =
    ap (λ (r : CircuitRefusal). faults.Circuit r) (one_circuit_refusal order.from text other refusal b a)
run_cause order text (faults.Circuit refusal) (faults.BadBits number) a b = absurd (means_or_refused order.from text b.circuit refusal b.means a)
run_cause order text (faults.BadBits number) (faults.Circuit refusal) a b = absurd (means_or_refused order.from text a.circuit refusal a.means b)
run_cause order text (faults.BadBits number) (faults.BadBits other) a b = ap (λ n. faults.BadBits n) (one_bad order.from order.bits text other number b a)
run_cause order text (faults.Circuit refusal) other a b = absurd b
run_cause order text (faults.BadBits number) other a b = absurd b
run_cause order text fault other a b = absurd a

run_among : (order : OrderView) (text : List ℕ) (fault : Fault) → run.IsCause order text fault → IsFaultOfText (8 ∷ 12 ∷ []) fault
run_among order text (faults.Circuit refusal) cause = record { of_text = tt; status = (0, omega arith, refl) }
run_among order text (faults.BadBits number) cause = record { of_text = tt; status = (1, omega arith, refl) }
run_among order text fault cause = absurd cause

pub run_outcome : HasOneOutcome run.promise
run_outcome = record {
  never_both = λ order text written fault given cause exact. run_stops order text given.circuit fault given.means given.fit cause;
  one_cause = λ order text fault exact cause other is. inl (run_cause order text fault exact cause other);
  free = λ order text fault served cause. run_stops order text served.circuit fault served.means served.fit cause;
  long = λ order text over. over;
  among = λ order text fault cause. run_among order text fault cause;
}

-- ---- what the readers answer

pub means_real : (text : List ℕ) (file : RealView) (circuit : ReadCircuit) → length text ≤ MOST_CIRCUIT_BYTES → real_files.MeansFile text file
    → circuit ≡ of_real file → Means Real text circuit
means_real text file circuit short meaning same = record { short = short; meaning = record { file = file; meaning = meaning; same = same } }

pub means_qasm : (text : List ℕ) (file : QasmView) (circuit : ReadCircuit) → length text ≤ MOST_CIRCUIT_BYTES → qasm_files.MeansFile text file
    → circuit ≡ of_qasm file → Means Qasm text circuit
means_qasm text file circuit short meaning same = record { short = short; meaning = record { file = file; meaning = meaning; same = same } }

pub refused_real : (text : List ℕ) (fault : RealFault) → length text ≤ MOST_CIRCUIT_BYTES → IsRealFault text fault
    → IsCircuitFault Real text (real_fault fault)
refused_real text (reals.Line number) short h = record { short = short; cause = h }
refused_real text (reals.Limit number) short h = record { short = short; cause = h }
refused_real text (reals.Memory _) short h = tt

pub refused_qasm : (text : List ℕ) (fault : QasmFault) → length text ≤ MOST_CIRCUIT_BYTES → IsQasmFault text fault
    → IsCircuitFault Qasm text (qasm_fault fault)
refused_qasm text (qasms.Token at) short h = record { short = short; cause = h }
refused_qasm text (qasms.Limit at) short h = record { short = short; cause = h }
refused_qasm text (qasms.Memory _) short h = tt
