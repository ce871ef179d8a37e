-- What the comparison of a settled graph with a circuit says of the tape and of the two texts.
use Rattle.std.proofs.Common.{◌≡◌, inr, ℕ, ◌<◌, ◌≤◌, ◌^◌, List, ◌∷◌, Result}
use Rattle.std.proofs.Common.{Ok, Err, length, refl, sym, ap, ◌∙◌, subst, arith, length-append}
use Rattle.std.specs.Prelude.{OnOk}
use Rattle.std.specs.Result.{IfErr}
use Rattle.circuit_commands.specs.Circuits.{ReadCircuit, Means, line_count}
use Rattle.circuit_commands.specs.Outcomes.{IsCircuitFault}
use Rattle.circuit_commands.specs.declared.limits.TheConstants.{MOST_CIRCUIT_BYTES}
use Rattle.circuit_verify.specs.Compared.{ComparedView, comparison}
use Rattle.circuit_verify.specs.Comparisons.{Comparison, of_tape}
use Rattle.circuit_verify.specs.Verdicts.{IsFirstWide, IsNotComparable, IsVerified, IsVerifyFault}
use Rattle.circuit_verify.specs.declared.fault.NotComparable.{NotComparable}
use Rattle.circuit_verify.specs.declared.fault.NotComparable.TheVariants as reasons
use Rattle.circuit_verify.specs.declared.fault.VerifyFault.{VerifyFault}
use Rattle.circuit_verify.specs.declared.fault.VerifyFault.TheVariants as verdicts
use Rattle.circuit_verify.proofs.TapeLemmas.{said_of_tapes}
use Rattle.claim_assumptions.specs.Assumptions.{premise}
use Rattle.claim_check.specs.Settled.{SettledView, IsSettledOf}
use Rattle.command_answers.specs.declared.fault.CircuitRefusal.TheVariants as circuits
use Rattle.command_answers.specs.declared.fault.Fault.{Fault}
use Rattle.command_answers.specs.declared.fault.Fault.TheVariants as faults
use Rattle.command_answers.specs.declared.fault.Refusal.TheVariants as refusals
use Rattle.mct_circuit.specs.Gates.{AreGatesOn, CircuitView}
use Rattle.program_texts.proofs.CleanLemmas.{clean_circuit}
use Rattle.program_texts.specs.Outcomes.{IsSettlingFault, IsTextFault}
use Rattle.program_texts.specs.Settling.{ForTexts, IsSettledWithin, LeavesSettled, LeavesTape}
use Rattle.revc_words.specs.Words.{OrderView}
use Rattle.revc_words.specs.declared.order.Way.{Way}
use Rattle.revc_words.specs.declared.order.Way.TheVariants as ways
use Rattle.revs_parser.specs.declared.limits.TheConstants.{MOST_BYTES}
use Rattle.revs_tape.specs.Tapes.{TapeView, IsTape}
use Rattle.sum_verify.specs.declared.fault.SumsFault.TheVariants as sums
use Rattle.verify_command.specs.Parting.{IsParted}
use Rattle.verify_command.specs.Outcomes.{IsVerifyingFault}
use Rattle.verify_command.specs.Verify.{AreVerified, Gives, HasDiagrams, comparison_of, verified_text}
use Rattle.verify_command.specs.declared.limits.TheConstants.{MOST_SOURCE_BYTES}
use Rattle.verify_command.specs.declared.ways.Unverified.{Unverified}
use Rattle.verify_command.specs.declared.ways.Unverified.TheVariants as reached
use Rattle.verify_command.specs.inside.Mappings.{AreCountable, IsCountable, IsNamedIn, diagrams_fault, not_comparable_fault, unverified_fault}
use Rattle.verify_command.specs.inside.Stages.{IsComparingFault, IsPartsFault, comparison_with}
use Rattle.verify_command.specs.inside.Ways.{IsUnverified}
use Rattle.verify_command.proofs.LimitLemmas.{stops_circuit, verified_circuit}

-- ---- why the two are not verified

named_gate : (circuit : CircuitView) (gate : ℕ) → IsFirstWide circuit.gates gate → gate < length circuit.gates
named_gate circuit gate first =
    let long = ap length first.cut ∙ length-append first.before (first.named ∷ first.behind) in
    let count = first.count in
    omega arith

named : (q : Comparison) (why : NotComparable) → IsNotComparable q why → IsNamedIn q.circuit why
named q (reasons.Outputs inputs outputs) is = tt
named q (reasons.Lines need) is = tt
named q (reasons.Gate gate) is = named_gate q.circuit gate is.2

not_comparing : (order : OrderView) (q : Comparison) (why : NotComparable) → IsNotComparable q why
    → IsComparingFault order (not_comparable_fault q.circuit why) q
not_comparing order q (reasons.Outputs inputs outputs) is = is
not_comparing order q (reasons.Lines need) is = (is.0, refl, is.1, is.2)
not_comparing order q (reasons.Gate gate) is = record { outputs = is.0; enough = is.1; before = gate; first = is.2; count = refl }

by_diagrams : (order : OrderView) (q : Comparison) (fault : VerifyFault) → HasDiagrams order.way → IsVerifyFault q order.nodes fault
    → IsComparingFault order (diagrams_fault fault) q
by_diagrams order q (verdicts.Diagram nodes) way is = (way, is.0, is.1, is.2)
by_diagrams order q (verdicts.Differs line bits) way is = (way, record { comparable = is.0; before = line; first = is.1; count = refl })
by_diagrams order q (verdicts.Memory _) way is = is

by_way : (order : OrderView) (way : Way) (v : ComparedView) (why : Unverified) → order.way ≡ way → IsUnverified way v order.nodes why
    → IsComparingFault order (unverified_fault why) (comparison v)
by_way order ways.Diagrams v (reached.Diagrams fault) is h = by_diagrams order (comparison v) fault (subst HasDiagrams (sym is) tt) h
by_way order ways.Sums v (reached.Sums (sums.Unsettled left)) is h = (is, h.0)
by_way order ways.Sums v (reached.Sums (sums.Memory _)) is h = h
by_way order ways.Both v (reached.Sums (sums.Memory _)) is h = h
by_way order ways.Both v (reached.Both left fault) is h = by_diagrams order (comparison v) fault (subst HasDiagrams (sym is) tt) h.1
by_way order way v why is h = absurd h

pub comparing : (order : OrderView) (v : ComparedView) (why : Unverified) → IsUnverified order.way v order.nodes why
    → IsComparingFault order (unverified_fault why) (comparison v)
comparing order v why h = by_way order order.way v why refl h

one_countable : (q : Comparison) (limit : ℕ) (fault : VerifyFault) → q.circuit.lines < 2 ^ 32 → IsVerifyFault q limit fault → IsCountable fault
one_countable q limit (verdicts.Diagram nodes) few is = tt
one_countable q limit (verdicts.Differs line bits) few is = let low = is.1.in_range in omega arith
one_countable q limit (verdicts.Memory _) few is = tt

pub countable : (way : Way) (v : ComparedView) (limit : ℕ) (why : Unverified) → v.circuit.lines < 2 ^ 32 → IsUnverified way v limit why → AreCountable why
countable ways.Diagrams v limit (reached.Diagrams fault) few is = one_countable (comparison v) limit fault few is
countable ways.Both v limit (reached.Both left fault) few is = one_countable (comparison v) limit fault few is.1
countable way v limit (reached.Sums fault) few is = tt
countable way v limit why few is = absurd is

-- ---- the comparison of a tape

-- the two, as they are compared
abbrev pub settled_beside : List ℕ → (graph premise : SettledView) → CircuitView → OrderView → ComparedView
settled_beside params s g circuit order =
    record { graph = s; premise = g; params = params; circuit = circuit; placing = order.outputs; borrow = order.borrow }

pub tape_verified : (t : TapeView) (s g : SettledView) (params : List ℕ) (circuit : CircuitView) (order : OrderView) (v : ComparedView)
    → v ≡ settled_beside params s g circuit order → params ≡ t.params → IsSettledOf t s → IsSettledOf (premise order.assume t) g → IsVerified (comparison v)
    → IsVerified (comparison_with order t circuit)
tape_verified t s g params circuit order v made same is its h =
    (said_of_tapes t (premise order.assume t) s g is its circuit order.outputs order.borrow order.nodes).verified
    (subst (λ (ps : List ℕ). IsVerified (comparison (settled_beside ps s g circuit order))) same
    (subst (λ (w : ComparedView). IsVerified (comparison w)) made h))

-- what stops the comparison with a settled graph stops that with its tape
stops_tape : (t : TapeView) (s g : SettledView) (circuit : CircuitView) (order : OrderView) (fault : Fault) → IsSettledOf t s
    → IsSettledOf (premise order.assume t) g → IsComparingFault order fault (comparison (settled_beside t.params s g circuit order))
    → IsComparingFault order fault (comparison_with order t circuit)
stops_tape t s g circuit order (faults.FewOutputs inputs outputs) is its h =
    (said_of_tapes t (premise order.assume t) s g is its circuit order.outputs order.borrow order.nodes).not_comparable (reasons.Outputs inputs outputs) h
stops_tape t s g circuit order (faults.FewLines lines need) is its h =
    let said = (said_of_tapes t (premise order.assume t) s g is its circuit order.outputs order.borrow order.nodes).not_comparable (reasons.Lines need)
    (h.0, subst (λ (n : ℕ). n < need) h.1 h.2, h.3) in
    (said.0, h.1, h.2, said.2)
stops_tape t s g circuit order (faults.WideGate number) is its h =
    let said = (said_of_tapes t (premise order.assume t) s g is its circuit order.outputs order.borrow order.nodes).not_comparable (reasons.Gate h.before)
    (h.outputs, h.enough, h.first) in
    record { outputs = said.0; enough = said.1; before = h.before; first = said.2; count = h.count }
stops_tape t s g circuit order (faults.CircuitDiagram limit) is its h =
    let said = (said_of_tapes t (premise order.assume t) s g is its circuit order.outputs order.borrow order.nodes).refused (verdicts.Diagram limit)
    (h.1, h.2, h.3) in
    (h.0, said.0, said.1, said.2)
stops_tape t s g circuit order (faults.Differs number bits) is its h =
    let d = h.1 in
    let said = (said_of_tapes t (premise order.assume t) s g is its circuit order.outputs order.borrow order.nodes).refused (verdicts.Differs d.before bits)
    (d.comparable, d.first) in
    (h.0, record { comparable = said.0; before = d.before; first = said.1; count = d.count })
stops_tape t s g circuit order faults.Unsettled is its h =
    (h.0, (said_of_tapes t (premise order.assume t) s g is its circuit order.outputs order.borrow order.nodes).comparable h.1)
stops_tape t s g circuit order (faults.Memory _) is its h =
    (said_of_tapes t (premise order.assume t) s g is its circuit order.outputs order.borrow order.nodes).comparable h
stops_tape t s g circuit order fault is its h = absurd h

pub tape_stopped : (t : TapeView) (s g : SettledView) (params : List ℕ) (circuit : CircuitView) (order : OrderView) (v : ComparedView) (fault : Fault)
    → v ≡ settled_beside params s g circuit order → params ≡ t.params → IsSettledOf t s → IsSettledOf (premise order.assume t) g
    → IsComparingFault order fault (comparison v) → IsComparingFault order fault (comparison_with order t circuit)
tape_stopped t s g params circuit order v fault made same is its h =
    stops_tape t s g circuit order fault is its
    (subst (λ (ps : List ℕ). IsComparingFault order fault (comparison (settled_beside ps s g circuit order))) same
    (subst (λ (w : ComparedView). IsComparingFault order fault (comparison w)) made h))

pub named_in : (params : List ℕ) (s g : SettledView) (circuit : CircuitView) (order : OrderView) (why : NotComparable)
    → IsNotComparable (comparison (settled_beside params s g circuit order)) why → IsNamedIn circuit why
named_in params s g circuit order why is = named (comparison (settled_beside params s g circuit order)) why is

pub tape_not_comparable : (t : TapeView) (s g : SettledView) (params : List ℕ) (circuit : CircuitView) (order : OrderView) (why : NotComparable)
    → params ≡ t.params → IsSettledOf t s → IsSettledOf (premise order.assume t) g → IsNotComparable (comparison (settled_beside params s g circuit order)) why
    → IsComparingFault order (not_comparable_fault circuit why) (comparison_with order t circuit)
tape_not_comparable t s g params circuit order why same is its h =
    not_comparing order (comparison_with order t circuit) why
    ((said_of_tapes t (premise order.assume t) s g is its circuit order.outputs order.borrow order.nodes).not_comparable why
    (subst (λ (ps : List ℕ). IsNotComparable (comparison (settled_beside ps s g circuit order)) why) same h))

-- ---- the comparison of two texts

pub texts_verified : {T E : Type 0} (order : OrderView) (program text : List ℕ) (tape : TapeView) (graph : SettledView) (read : ReadCircuit)
    (circuit : CircuitView) (r : Result T E) → IsTape tape → LeavesTape program tape → Means order.from text read
    → IsSettledWithin tape order.assume order.nodes graph
    → circuit.lines ≡ line_count read → circuit.gates ≡ read.gates → AreGatesOn circuit.lines circuit.gates
    → OnOk r (IsVerified (comparison_with order tape circuit)) → OnOk r (AreVerified order program text)
texts_verified {T} {E} order program text tape graph read circuit (Ok x) known left means within lines gates on h =
    let settled : LeavesSettled program order.assume order.nodes tape = record { left = left; hold = within.hold } in
    let v : IsVerified (comparison_of order tape read) =
    verified_circuit (of_tape tape) (of_tape (premise order.assume tape)) circuit (line_count read) (length read.gates) read.gates order.outputs
    order.borrow lines gates h in
    record {
      compared = record { tape = tape; settled = settled; read = read; means = means; holds = v };
      clean = clean_circuit left.program order.assume tape (record { lines = line_count read; limit = length read.gates; gates = read.gates })
          order.outputs order.borrow known left.tape_of
          (subst (λ gs. AreGatesOn (line_count read) gs) gates (subst (λ n. AreGatesOn n circuit.gates) lines on)) v;
    }
texts_verified {T} {E} order program text tape graph read circuit (Err e) known left means within lines gates on h = tt

-- ---- why they are not

pub text_stops : (order : OrderView) (program text : List ℕ) (fault : Fault) → length program ≤ MOST_BYTES → length text ≤ MOST_CIRCUIT_BYTES
    → IsTextFault program fault
    → IsPartsFault order program text fault
text_stops order program text (faults.Refused (refusals.At kind at)) few short h = (short, h)
text_stops order program text (faults.Refused refusals.TooLong) few short h = absurd h
text_stops order program text (faults.Memory _) few short h = (few, short)
text_stops order program text fault few short h = absurd h

pub circuit_stops : (order : OrderView) (program text : List ℕ) (tape : TapeView) (fault : Fault) → length program ≤ MOST_BYTES
    → length text ≤ MOST_CIRCUIT_BYTES → LeavesTape program tape → IsCircuitFault order.from text fault → IsPartsFault order program text fault
circuit_stops order program text tape (faults.Circuit circuits.TooLong) few short left h = absurd (omega (arith, h, short))
circuit_stops order program text tape (faults.Circuit (circuits.Line number)) few short left h = (tape, left, h)
circuit_stops order program text tape (faults.Circuit (circuits.LineLimit number)) few short left h = (tape, left, h)
circuit_stops order program text tape (faults.Circuit (circuits.Token at)) few short left h = (tape, left, h)
circuit_stops order program text tape (faults.Circuit (circuits.TokenLimit at)) few short left h = (tape, left, h)
circuit_stops order program text tape (faults.Memory _) few short left h = (few, short)
circuit_stops order program text tape fault few short left h = absurd h

settling_stops : (order : OrderView) (program text : List ℕ) (read : ReadCircuit) (fault : Fault) → length program ≤ MOST_BYTES → Means order.from text read
    → IsSettlingFault program order.assume order.nodes fault → IsPartsFault order program text fault
settling_stops order program text read (faults.Refused refusals.TooLong) few means h = h
settling_stops order program text read (faults.Refused (refusals.At kind at)) few means h = (means.short, h)
settling_stops order program text read faults.NoInput few means h = (read, means, h)
settling_stops order program text read (faults.Claim number at bits) few means h = (read, means, h)
settling_stops order program text read (faults.Diagram number at limit) few means h = (read, means, h)
settling_stops order program text read (faults.Memory _) few means h = (few, means.short)
settling_stops order program text read fault few means h = absurd h

pub claims_stop : (order : OrderView) (program text : List ℕ) (tape : TapeView) (read : ReadCircuit) (fault : Fault) → length program ≤ MOST_BYTES
    → LeavesTape program tape → Means order.from text read → ForTexts tape (λ own. IsSettlingFault own order.assume order.nodes fault)
    → IsPartsFault order program text fault
claims_stop order program text tape read fault few left means h = settling_stops order program text read fault few means (h.of_text program left)

comparison_stops : (order : OrderView) (program text : List ℕ) (tape : TapeView) (read : ReadCircuit) (fault : Fault) → length program ≤ MOST_BYTES
    → LeavesSettled program order.assume order.nodes tape → Means order.from text read → IsComparingFault order fault (comparison_of order tape read)
    → IsPartsFault order program text fault
comparison_stops order program text tape read (faults.FewOutputs inputs outputs) few settled means h =
    record { tape = tape; settled = settled; read = read; means = means; holds = h }
comparison_stops order program text tape read (faults.FewLines lines need) few settled means h =
    record { tape = tape; settled = settled; read = read; means = means; holds = h }
comparison_stops order program text tape read (faults.WideGate number) few settled means h =
    record { tape = tape; settled = settled; read = read; means = means; holds = h }
comparison_stops order program text tape read (faults.CircuitDiagram limit) few settled means h =
    record { tape = tape; settled = settled; read = read; means = means; holds = h }
comparison_stops order program text tape read (faults.Differs number bits) few settled means h =
    record { tape = tape; settled = settled; read = read; means = means; holds = h }
comparison_stops order program text tape read faults.Unsettled few settled means h =
    record { tape = tape; settled = settled; read = read; means = means; holds = h }
comparison_stops order program text tape read (faults.Memory _) few settled means h = (few, means.short)
comparison_stops order program text tape read fault few settled means h = absurd h

pub texts_stop : {T : Type 0} (order : OrderView) (program text : List ℕ) (tape : TapeView) (graph : SettledView) (read : ReadCircuit)
    (circuit : CircuitView) (r : Result T Fault) → length program ≤ MOST_BYTES → LeavesTape program tape → Means order.from text read
    → IsSettledWithin tape order.assume order.nodes graph → circuit.lines ≡ line_count read → circuit.gates ≡ read.gates
    → IfErr r (λ fault. IsComparingFault order fault (comparison_with order tape circuit))
    → IfErr r (IsPartsFault order program text)
texts_stop {T} order program text tape graph read circuit (Ok x) few left means within lines gates h = tt
texts_stop {T} order program text tape graph read circuit (Err fault) few left means within lines gates h =
    comparison_stops order program text tape read fault few (record { left = left; hold = within.hold }) means
    (stops_circuit (of_tape tape) (of_tape (premise order.assume tape)) circuit (line_count read) (length read.gates) read.gates order.outputs
    order.borrow order fault lines gates h)

-- ---- a source

pub source_verified : {T E : Type 0} (order : OrderView) (source program circuit : List ℕ) (r : Result T E) → length source ≤ MOST_SOURCE_BYTES
    → IsParted source program circuit → OnOk r (AreVerified order program circuit) → OnOk r (Gives order source verified_text)
source_verified {T} {E} order source program circuit (Ok x) short parted h =
    (record { short = short; program = program; circuit = circuit; parted = parted; holds = h }, refl)
source_verified {T} {E} order source program circuit (Err e) short parted h = tt

source_stops : (order : OrderView) (source program circuit : List ℕ) (fault : Fault) → length source ≤ MOST_SOURCE_BYTES → IsParted source program circuit
    → IsPartsFault order program circuit fault → IsVerifyingFault order source fault
source_stops order source program circuit (faults.Memory _) short parted h =
    record { short = short; program = program; circuit = circuit; parted = parted; holds = h }
source_stops order source program circuit faults.NoPart short parted h = absurd h.holds
source_stops order source program circuit (faults.Circuit circuits.TooLong) short parted h =
    inr (record { short = short; program = program; circuit = circuit; parted = parted; holds = h })
source_stops order source program circuit (faults.Circuit (circuits.Line number)) short parted h =
    record { short = short; program = program; circuit = circuit; parted = parted; holds = h }
source_stops order source program circuit (faults.Circuit (circuits.LineLimit number)) short parted h =
    record { short = short; program = program; circuit = circuit; parted = parted; holds = h }
source_stops order source program circuit (faults.Circuit (circuits.Token at)) short parted h =
    record { short = short; program = program; circuit = circuit; parted = parted; holds = h }
source_stops order source program circuit (faults.Circuit (circuits.TokenLimit at)) short parted h =
    record { short = short; program = program; circuit = circuit; parted = parted; holds = h }
source_stops order source program circuit fault short parted h =
    record { short = short; program = program; circuit = circuit; parted = parted; holds = h }

pub source_stopped : {T : Type 0} (order : OrderView) (source program circuit : List ℕ) (r : Result T Fault) → length source ≤ MOST_SOURCE_BYTES
    → IsParted source program circuit → IfErr r (IsPartsFault order program circuit) → IfErr r (IsVerifyingFault order source)
source_stopped {T} order source program circuit (Ok x) short parted h = tt
source_stopped {T} order source program circuit (Err fault) short parted h = source_stops order source program circuit fault short parted h
