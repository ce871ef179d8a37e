-- A source is verified, or has one exact cause, and no cause where it is served.
use Rattle.std.proofs.Common.{◌≡◌, ◌⊎◌, inl, inr, ℕ, ◌+◌, ◌<◌, ◌≤◌, Bool, List, [], ◌∷◌, length, refl, sym, ap, ◌∙◌, subst, arith}
use Rattle.circuit_commands.specs.declared.limits.TheConstants.{MOST_CIRCUIT_BYTES}
use Rattle.circuit_commands.specs.Circuits.{ReadCircuit, Means, IsCircuitRefusal}
use Rattle.circuit_commands.proofs.CircuitLemmas.{means_or_refused, one_circuit, one_circuit_refusal}
use Rattle.circuit_verify.specs.Comparisons.{Comparison, inputs_in, least_lines}
use Rattle.circuit_verify.specs.Verdicts.{HasEnoughOutputs, HasFewOutputs, IsVerified}
use Rattle.circuit_verify.proofs.LawLemmas.{comparisons_end_in_one_way}
use Rattle.command_answers.specs.Outcomes.{HasOneOutcome, IsFaultOfText}
use Rattle.command_answers.specs.declared.fault.CircuitRefusal.{CircuitRefusal}
use Rattle.command_answers.specs.declared.fault.CircuitRefusal.TheVariants as circuits
use Rattle.command_answers.specs.declared.fault.Fault.{Fault}
use Rattle.command_answers.specs.declared.fault.Fault.TheVariants as faults
use Rattle.command_answers.specs.declared.fault.Refusal.{Refusal}
use Rattle.command_answers.specs.declared.fault.Refusal.TheVariants as refusals
use Rattle.program_texts.specs.Refusals.{IsRefusal}
use Rattle.program_texts.specs.Settling.{LeavesTape, StopsSettling}
use Rattle.program_texts.proofs.RefusalLemmas.{never_refused, one_refusal}
use Rattle.program_texts.proofs.SettlingLemmas.{one_left, one_stop, settled_or_stopped}
use Rattle.revc_words.specs.Words.{OrderView}
use Rattle.revs_parser.specs.declared.limits.TheConstants.{MOST_BYTES}
use Rattle.revs_tape.specs.Tapes.{TapeView}
use Rattle.verify_command.specs.declared.limits.TheConstants.{MOST_SOURCE_BYTES}
use Rattle.verify_command.specs.Parting.{HasNoPart}
use Rattle.verify_command.specs.Verify.{AreVerified, Compares, DiffersAt, HasDiagrams, HasParts, HasWideGate}
use Rattle.verify_command.specs.Verify.{IsCause, IsVerifiedWithin, LeavesNothingOpen, LeavesOpen}
use Rattle.verify_command.specs.Verify.{StopsComparing, StopsParts, comparison_of, promise}
use Rattle.verify_command.proofs.PartingLemmas.{one_way}

-- the exact fault is the other one, or that may come in its place
abbrev pub OneOf : Fault → Fault → Type 0
OneOf exact fault = (exact ≡ fault) ⊎ LeavesOpen fault

-- two stages, each of which stops or is passed
pub meet : {A B C D R : Type 0} → A ⊎ B → C ⊎ D → (A → C → R) → (A → D → ⊥) → (B → C → ⊥) → (B → D → R) → R
meet {A} {B} {C} {D} {R} (inl a) (inl c) both first second rest = both a c
meet {A} {B} {C} {D} {R} (inl a) (inr d) both first second rest = absurd (first a d)
meet {A} {B} {C} {D} {R} (inr b) (inl c) both first second rest = absurd (second b c)
meet {A} {B} {C} {D} {R} (inr b) (inr d) both first second rest = rest b d

-- ---- the comparison

one_few_lines : (lines need other most : ℕ) → lines ≡ other → need ≡ most → faults.FewLines lines need ≡ faults.FewLines other most
one_few_lines lines need other most l n = cc

one_differs : (line other : ℕ) (bits others : List Bool) → line ≡ other → bits ≡ others → faults.Differs line bits ≡ faults.Differs other others
one_differs line other bits others l b = cc

one_wide : (q : Comparison) (number other : ℕ) → HasWideGate q number → HasWideGate q other → number ≡ other
one_wide q number other a b =
    a.count ∙ ap (λ n. n + 1) ((comparisons_end_in_one_way q).one_gate a.before b.before a.first b.first) ∙ sym b.count

one_difference : (q : Comparison) (number other : ℕ) (bits others : List Bool) → DiffersAt q number bits → DiffersAt q other others
    → faults.Differs number bits ≡ faults.Differs other others
one_difference q number other bits others a b =
    let one = (comparisons_end_in_one_way q).one_difference a.before b.before bits others a.first b.first in
    one_differs number other bits others (a.count ∙ ap (λ n. n + 1) one.0 ∙ sym b.count) one.1

abbrev StopsOutputs : Comparison → ℕ → ℕ → Type 0
StopsOutputs q inputs outputs = HasFewOutputs q × (inputs ≡ inputs_in q) × (outputs ≡ q.program.outputs)

abbrev StopsLines : Comparison → ℕ → ℕ → Type 0
StopsLines q lines need = HasEnoughOutputs q × (lines ≡ q.circuit.lines) × (lines < need) × (need ≡ least_lines q)

one_few_outputs : (inputs outputs others most : ℕ) → inputs ≡ others → outputs ≡ most → faults.FewOutputs inputs outputs ≡ faults.FewOutputs others most
one_few_outputs inputs outputs others most i o = cc

few_or_enough : (q : Comparison) (lines need : ℕ) → StopsLines q lines need → least_lines q ≤ q.circuit.lines → ⊥
few_or_enough q lines need few enough =
    let same = few.1 in
    let less = few.2 in
    let least = few.3 in
    omega arith

lacks_or_fills : (q : Comparison) (inputs outputs : ℕ) → StopsOutputs q inputs outputs → HasEnoughOutputs q → ⊥
lacks_or_fills q inputs outputs few enough = (comparisons_end_in_one_way q).few_or_enough few.0 enough

one_comparing : (order : OrderView) (q : Comparison) (fault exact : Fault) → StopsComparing order fault q → StopsComparing order exact q
    → LeavesNothingOpen exact → OneOf exact fault
one_comparing order q (faults.CircuitDiagram limit) exact a b is = inr tt
one_comparing order q faults.Unsettled exact a b is = inr tt
one_comparing order q fault (faults.CircuitDiagram limit) a b is = absurd is
one_comparing order q fault faults.Unsettled a b is = absurd is
one_comparing order q (faults.FewOutputs inputs outputs) (faults.FewOutputs others most) a b is =
    inl (one_few_outputs others most inputs outputs (b.1 ∙ sym a.1) (b.2 ∙ sym a.2))
one_comparing order q (faults.FewOutputs inputs outputs) (faults.FewLines lines need) a b is = absurd (lacks_or_fills q inputs outputs a b.0)
one_comparing order q (faults.FewOutputs inputs outputs) (faults.WideGate number) a b is = absurd (lacks_or_fills q inputs outputs a b.outputs)
one_comparing order q (faults.FewOutputs inputs outputs) (faults.Differs number bits) a b is =
    absurd (lacks_or_fills q inputs outputs a b.1.comparable.outputs)
one_comparing order q (faults.FewLines lines need) (faults.FewOutputs inputs outputs) a b is = absurd (lacks_or_fills q inputs outputs b a.0)
one_comparing order q (faults.WideGate number) (faults.FewOutputs inputs outputs) a b is = absurd (lacks_or_fills q inputs outputs b a.outputs)
one_comparing order q (faults.Differs number bits) (faults.FewOutputs inputs outputs) a b is =
    absurd (lacks_or_fills q inputs outputs b a.1.comparable.outputs)
one_comparing order q (faults.FewLines lines need) (faults.FewLines other most) a b is =
    inl (one_few_lines other most lines need (b.1 ∙ sym a.1) (b.3 ∙ sym a.3))
one_comparing order q (faults.FewLines lines need) (faults.WideGate number) a b is = absurd (few_or_enough q lines need a b.enough)
one_comparing order q (faults.FewLines lines need) (faults.Differs number bits) a b is = absurd (few_or_enough q lines need a b.1.comparable.lines)
one_comparing order q (faults.WideGate number) (faults.FewLines lines need) a b is = absurd (few_or_enough q lines need b a.enough)
one_comparing order q (faults.WideGate number) (faults.WideGate other) a b is = inl (ap (λ n. faults.WideGate n) (one_wide q other number b a))
one_comparing order q (faults.WideGate number) (faults.Differs other bits) a b is =
    absurd ((comparisons_end_in_one_way q).no_gate a.before b.1.comparable.narrow a.first)
one_comparing order q (faults.Differs number bits) (faults.FewLines lines need) a b is = absurd (few_or_enough q lines need b a.1.comparable.lines)
one_comparing order q (faults.Differs number bits) (faults.WideGate other) a b is =
    absurd ((comparisons_end_in_one_way q).no_gate b.before a.1.comparable.narrow b.first)
one_comparing order q (faults.Differs number bits) (faults.Differs other others) a b is = inl (one_difference q other number others bits b.1 a.1)
one_comparing order q (faults.FewOutputs inputs outputs) exact a b is = absurd b
one_comparing order q (faults.FewLines lines need) exact a b is = absurd b
one_comparing order q (faults.WideGate number) exact a b is = absurd b
one_comparing order q (faults.Differs line bits) exact a b is = absurd b
one_comparing order q fault exact a b is = absurd a

verified_or_stopped : (order : OrderView) (q : Comparison) (fault : Fault) → IsVerified q → StopsComparing order fault q → LeavesNothingOpen fault → ⊥
verified_or_stopped order q (faults.CircuitDiagram limit) v stops is = is
verified_or_stopped order q faults.Unsettled v stops is = is
verified_or_stopped order q (faults.FewOutputs inputs outputs) v stops is = lacks_or_fills q inputs outputs stops v.comparable.outputs
verified_or_stopped order q (faults.FewLines lines need) v stops is = few_or_enough q lines need stops v.comparable.lines
verified_or_stopped order q (faults.WideGate number) v stops is = (comparisons_end_in_one_way q).no_gate stops.before v.comparable.narrow stops.first
verified_or_stopped order q (faults.Differs number bits) v stops is =
    (comparisons_end_in_one_way q).no_difference stops.1.before bits v.agrees stops.1.first
verified_or_stopped order q fault v stops is = stops

served_or_stopped : (order : OrderView) (q : Comparison) (fault : Fault) → HasDiagrams order.way → IsVerifiedWithin order.nodes q
    → StopsComparing order fault q → ⊥
served_or_stopped order q (faults.CircuitDiagram limit) way v stops = v.few stops.2
served_or_stopped order q faults.Unsettled way v stops = subst HasDiagrams stops.0 way
served_or_stopped order q (faults.FewOutputs inputs outputs) way v stops =
    verified_or_stopped order q (faults.FewOutputs inputs outputs) v.verified stops tt
served_or_stopped order q (faults.FewLines lines need) way v stops = verified_or_stopped order q (faults.FewLines lines need) v.verified stops tt
served_or_stopped order q (faults.WideGate number) way v stops = verified_or_stopped order q (faults.WideGate number) v.verified stops tt
served_or_stopped order q (faults.Differs number bits) way v stops = verified_or_stopped order q (faults.Differs number bits) v.verified stops tt
served_or_stopped order q fault way v stops = stops

-- ---- the stages of two parts

record IsRefusedBy (program : List ℕ) (fault : Fault) : Type 0 where
  refusal : Refusal
  named : fault ≡ faults.Refused refusal
  is : IsRefusal program refusal

record IsUnreadBy (order : OrderView) (circuit : List ℕ) (fault : Fault) : Type 0 where
  refusal : CircuitRefusal
  named : fault ≡ faults.Circuit refusal
  is : IsCircuitRefusal order.from circuit refusal

abbrev LastStage : OrderView → List ℕ → List ℕ → Fault → Type 0
LastStage order program circuit fault =
    StopsSettling program order.assume order.nodes fault ⊎ Compares order (StopsComparing order fault) program circuit

abbrev ReadStage : OrderView → List ℕ → List ℕ → Fault → Type 0
ReadStage order program circuit fault =
    IsUnreadBy order circuit fault ⊎ (((read : ReadCircuit) × Means order.from circuit read) × LastStage order program circuit fault)

abbrev TextStage : OrderView → List ℕ → List ℕ → Fault → Type 0
TextStage order program circuit fault =
    IsRefusedBy program fault ⊎ (((tape : TapeView) × LeavesTape program tape) × ReadStage order program circuit fault)

abbrev CircuitStage : OrderView → List ℕ → List ℕ → Fault → Type 0
CircuitStage order program circuit fault =
    ((fault ≡ faults.Circuit circuits.TooLong) × (MOST_CIRCUIT_BYTES < length circuit))
    ⊎ ((length circuit ≤ MOST_CIRCUIT_BYTES) × TextStage order program circuit fault)

abbrev Stages : OrderView → List ℕ → List ℕ → Fault → Type 0
Stages order program circuit fault =
    ((fault ≡ faults.Refused refusals.TooLong) × (MOST_BYTES < length program))
    ⊎ ((length program ≤ MOST_BYTES) × CircuitStage order program circuit fault)

short_program : (program : List ℕ) (tape : TapeView) → LeavesTape program tape → length program ≤ MOST_BYTES
short_program program tape left = left.formed.text_of.short

unread : (order : OrderView) (program circuit : List ℕ) (refusal : CircuitRefusal) (tape : TapeView) → LeavesTape program tape
    → length circuit ≤ MOST_CIRCUIT_BYTES → IsCircuitRefusal order.from circuit refusal → Stages order program circuit (faults.Circuit refusal)
unread order program circuit refusal tape left short is =
    inr (short_program program tape left, inr (short, inr ((tape, left), inl (record { refusal = refusal; named = refl; is = is }))))

last : (order : OrderView) (program circuit : List ℕ) (fault : Fault) (tape : TapeView) (read : ReadCircuit) → LeavesTape program tape
    → Means order.from circuit read → LastStage order program circuit fault → Stages order program circuit fault
last order program circuit fault tape read left means stops =
    inr (short_program program tape left, inr (means.short, inr ((tape, left), inr ((read, means), stops))))

staged : (order : OrderView) (program circuit : List ℕ) (fault : Fault) → StopsParts order fault program circuit → Stages order program circuit fault
staged order program circuit (faults.Refused refusals.TooLong) h = inl (refl, h)
staged order program circuit (faults.Circuit circuits.TooLong) h = inr (h.0, inl (refl, h.1))
staged order program circuit (faults.Refused (refusals.At kind at)) h =
    inr (h.1.0, inr (h.0, inl (record { refusal = refusals.At kind at; named = refl; is = h.1 })))
staged order program circuit (faults.Circuit (circuits.Line number)) h = unread order program circuit (circuits.Line number) h.0 h.1 h.2.short h.2
staged order program circuit (faults.Circuit (circuits.LineLimit number)) h =
    unread order program circuit (circuits.LineLimit number) h.0 h.1 h.2.short h.2
staged order program circuit (faults.Circuit (circuits.Token at)) h = unread order program circuit (circuits.Token at) h.0 h.1 h.2.short h.2
staged order program circuit (faults.Circuit (circuits.TokenLimit at)) h = unread order program circuit (circuits.TokenLimit at) h.0 h.1 h.2.short h.2
staged order program circuit faults.NoInput h = last order program circuit faults.NoInput h.2.tape h.0 h.2.left h.1 (inl h.2)
staged order program circuit (faults.Claim number at bits) h =
    last order program circuit (faults.Claim number at bits) h.2.tape h.0 h.2.left h.1 (inl h.2)
staged order program circuit (faults.Diagram number at limit) h =
    last order program circuit (faults.Diagram number at limit) h.2.0.tape h.0 h.2.0.left h.1 (inl h.2)
staged order program circuit fault h = last order program circuit fault h.tape h.read h.settled.left h.means (inr h)

-- ---- one cause of two parts

same_two : (order : OrderView) (program circuit : List ℕ) (one other : Comparison → Type 0) (a : Compares order one program circuit)
    (b : Compares order other program circuit) → comparison_of order a.tape a.read ≡ comparison_of order b.tape b.read
same_two order program circuit one other a b =
    let tapes = one_left program b.tape a.tape b.settled.left a.settled.left in
    let reads = one_circuit order.from circuit a.read b.read a.means b.means in
    ap (λ t. comparison_of order t a.read) tapes ∙ ap (λ r. comparison_of order b.tape r) reads

both_compared : (order : OrderView) (program circuit : List ℕ) (fault exact : Fault) → LeavesNothingOpen exact
    → Compares order (StopsComparing order fault) program circuit → Compares order (StopsComparing order exact) program circuit → OneOf exact fault
both_compared order program circuit fault exact is a b =
    let same = same_two order program circuit (StopsComparing order fault) (StopsComparing order exact) a b in
    one_comparing order (comparison_of order b.tape b.read) fault exact (subst (StopsComparing order fault) same a.holds) b.holds is

left_or_refused : (program : List ℕ) (fault : Fault) (left : (tape : TapeView) × LeavesTape program tape) → IsRefusedBy program fault → ⊥
left_or_refused program fault left r = never_refused program left.1.program r.refusal left.1.formed r.is

read_or_refused : (order : OrderView) (circuit : List ℕ) (fault : Fault) (read : (c : ReadCircuit) × Means order.from circuit c)
    → IsUnreadBy order circuit fault → ⊥
read_or_refused order circuit fault read u = means_or_refused order.from circuit read.0 u.refusal read.1 u.is

same_fault : (fault exact named other : Fault) → fault ≡ named → exact ≡ other → other ≡ named → OneOf exact fault
same_fault fault exact named other f e same = inl (e ∙ same ∙ sym f)

pub one_of_parts : (order : OrderView) (program circuit : List ℕ) (fault exact : Fault) → LeavesNothingOpen exact → StopsParts order fault program circuit
    → StopsParts order exact program circuit → OneOf exact fault
one_of_parts order program circuit fault exact is a b =
    meet (staged order program circuit fault a) (staged order program circuit exact b)
    (λ x y. same_fault fault exact (faults.Refused refusals.TooLong) (faults.Refused refusals.TooLong) x.0 y.0 refl)
    (λ x y. let long = x.1 in let short = y.0 in omega arith) (λ x y. let short = x.0 in let long = y.1 in omega arith)
    (λ x y. circuits_meet x.1 y.1)
  where
    lasts_meet : LastStage order program circuit fault → LastStage order program circuit exact → OneOf exact fault
    lasts_meet one other = meet one other (λ x y. inl (one_stop program order.assume order.nodes exact fault y x))
        (λ x y. settled_or_stopped program order.assume order.nodes y.tape fault y.settled x)
        (λ x y. settled_or_stopped program order.assume order.nodes x.tape exact x.settled y)
        (both_compared order program circuit fault exact is)

    reads_meet : ReadStage order program circuit fault → ReadStage order program circuit exact → OneOf exact fault
    reads_meet one other = meet one other
        (λ x y. same_fault fault exact (faults.Circuit x.refusal) (faults.Circuit y.refusal) x.named y.named
        (ap (λ (r : CircuitRefusal). faults.Circuit r) (one_circuit_refusal order.from circuit y.refusal x.refusal y.is x.is)))
        (λ x y. read_or_refused order circuit fault y.0 x) (λ x y. read_or_refused order circuit exact x.0 y) (λ x y. lasts_meet x.1 y.1)

    texts_meet : TextStage order program circuit fault → TextStage order program circuit exact → OneOf exact fault
    texts_meet one other = meet one other
        (λ x y. same_fault fault exact (faults.Refused x.refusal) (faults.Refused y.refusal) x.named y.named
        (ap (λ (r : Refusal). faults.Refused r) (one_refusal program y.refusal x.refusal y.is x.is)))
        (λ x y. left_or_refused program fault y.0 x) (λ x y. left_or_refused program exact x.0 y) (λ x y. reads_meet x.1 y.1)

    circuits_meet : CircuitStage order program circuit fault → CircuitStage order program circuit exact → OneOf exact fault
    circuits_meet one other = meet one other
        (λ x y. same_fault fault exact (faults.Circuit circuits.TooLong) (faults.Circuit circuits.TooLong) x.0 y.0 refl)
        (λ x y. let long = x.1 in let short = y.0 in omega arith) (λ x y. let short = x.0 in let long = y.1 in omega arith)
        (λ x y. texts_meet x.1 y.1)

-- where the two are compared, what stops them stops the comparison
pub compared_or_stopped : (order : OrderView) (OfTwo : Comparison → Type 0) (program circuit : List ℕ) (fault : Fault) → Compares order OfTwo program circuit
    → ((q : Comparison) → OfTwo q → StopsComparing order fault q → ⊥) → StopsParts order fault program circuit → ⊥
compared_or_stopped order OfTwo program circuit fault c apart h = elim (staged order program circuit fault h) [
  | inl long ↦ (let short = short_program program c.tape c.settled.left in let over = long.1 in omega arith)
  | inr more ↦ at_circuit more.1
]
  where
    at_last : LastStage order program circuit fault → ⊥
    at_last (inl stops) = settled_or_stopped program order.assume order.nodes c.tape fault c.settled stops
    at_last (inr other) =
        let same = same_two order program circuit OfTwo (StopsComparing order fault) c other in
        apart (comparison_of order other.tape other.read) (subst OfTwo same c.holds) other.holds

    at_read : ReadStage order program circuit fault → ⊥
    at_read (inl u) = read_or_refused order circuit fault (c.read, c.means) u
    at_read (inr more) = at_last more.1

    at_text : TextStage order program circuit fault → ⊥
    at_text (inl r) = left_or_refused program fault (c.tape, c.settled.left) r
    at_text (inr more) = at_read more.1

    at_circuit : CircuitStage order program circuit fault → ⊥
    at_circuit (inl long) = (let short = c.means.short in let over = long.1 in omega arith)
    at_circuit (inr more) = at_text more.1

-- ---- the source

abbrev PartStage : OrderView → List ℕ → Fault → Type 0
PartStage order source fault = ((fault ≡ faults.NoPart) × HasNoPart source) ⊎ HasParts source (StopsParts order fault)

abbrev SourceStages : OrderView → List ℕ → Fault → Type 0
SourceStages order source fault =
    ((fault ≡ faults.Circuit circuits.TooLong) × (MOST_SOURCE_BYTES < length source))
    ⊎ ((length source ≤ MOST_SOURCE_BYTES) × PartStage order source fault)

parts_staged : (order : OrderView) (source : List ℕ) (fault : Fault) → HasParts source (StopsParts order fault) → SourceStages order source fault
parts_staged order source fault h = inr (h.short, inr h)

source_staged : (order : OrderView) (source : List ℕ) (fault : Fault) → IsCause order source fault → SourceStages order source fault
source_staged order source faults.NoPart h = inr (h.0, inl (refl, h.1))
source_staged order source (faults.Circuit circuits.TooLong) (inl long) = inl (refl, long)
source_staged order source (faults.Circuit circuits.TooLong) (inr h) = parts_staged order source (faults.Circuit circuits.TooLong) h
source_staged order source (faults.Circuit (circuits.Line number)) h = parts_staged order source (faults.Circuit (circuits.Line number)) h
source_staged order source (faults.Circuit (circuits.LineLimit number)) h = parts_staged order source (faults.Circuit (circuits.LineLimit number)) h
source_staged order source (faults.Circuit (circuits.Token at)) h = parts_staged order source (faults.Circuit (circuits.Token at)) h
source_staged order source (faults.Circuit (circuits.TokenLimit at)) h = parts_staged order source (faults.Circuit (circuits.TokenLimit at)) h
source_staged order source fault h = parts_staged order source fault h

-- what holds of the parts of a source holds of its other parts, which are the same
same_parts : (source : List ℕ) (one other : List ℕ → List ℕ → Type 0) (a : HasParts source one) (b : HasParts source other) → one b.program b.circuit
same_parts source one other a b =
    let programs = (one_way source).one_program a.program b.program a.circuit b.circuit a.parted b.parted in
    let circuits = (one_way source).one_circuit a.program b.program a.circuit b.circuit a.parted b.parted in
    subst (λ c. one b.program c) circuits (subst (λ p. one p a.circuit) programs a.holds)

one_cause : (order : OrderView) (source : List ℕ) (fault exact : Fault) → IsCause order source fault → IsCause order source exact → LeavesNothingOpen exact
    → OneOf exact fault
one_cause order source fault exact a b is =
    meet (source_staged order source fault a) (source_staged order source exact b)
    (λ x y. same_fault fault exact (faults.Circuit circuits.TooLong) (faults.Circuit circuits.TooLong) x.0 y.0 refl)
    (λ x y. let long = x.1 in let short = y.0 in omega arith) (λ x y. let short = x.0 in let long = y.1 in omega arith)
    (λ x y. parts_meet x.1 y.1)
  where
    parts_meet : PartStage order source fault → PartStage order source exact → OneOf exact fault
    parts_meet one other = meet one other (λ x y. same_fault fault exact faults.NoPart faults.NoPart x.0 y.0 refl)
        (λ x y. (one_way source).never_both y.program y.circuit y.parted x.1) (λ x y. (one_way source).never_both x.program x.circuit x.parted y.1)
        (λ x y. one_of_parts order y.program y.circuit fault exact is (same_parts source (StopsParts order fault) (StopsParts order exact) x y) y.holds)

-- where the parts of a source are compared, what stops it stops the comparison
parts_or_stopped : (order : OrderView) (source : List ℕ) (OfTwo : Comparison → Type 0) (fault : Fault) → HasParts source (Compares order OfTwo)
    → ((q : Comparison) → OfTwo q → StopsComparing order fault q → ⊥) → IsCause order source fault → ⊥
parts_or_stopped order source OfTwo fault p apart cause = elim (source_staged order source fault cause) [
  | inl long ↦ (let short = p.short in let over = long.1 in omega arith)
  | inr more ↦ at_parts more.1
]
  where
    at_parts : PartStage order source fault → ⊥
    at_parts (inl none) = (one_way source).never_both p.program p.circuit p.parted none.1
    at_parts (inr stops) = compared_or_stopped order OfTwo stops.program stops.circuit fault
        (same_parts source (Compares order OfTwo) (StopsParts order fault) p stops) apart stops.holds

-- what was verified was compared
as_compared : (order : OrderView) (source : List ℕ) → HasParts source (AreVerified order) → HasParts source (Compares order IsVerified)
as_compared order source p =
    record { short = p.short; program = p.program; circuit = p.circuit; parted = p.parted; holds = p.holds.compared }

among : (order : OrderView) (source : List ℕ) (fault : Fault) → IsCause order source fault
    → IsFaultOfText (3 ∷ 4 ∷ 5 ∷ 8 ∷ 13 ∷ 14 ∷ 15 ∷ 16 ∷ 17 ∷ 18 ∷ 20 ∷ []) fault
among order source (faults.Refused refusal) cause = record { of_text = tt; status = (0, omega arith, refl) }
among order source (faults.Claim number at bits) cause = record { of_text = tt; status = (1, omega arith, refl) }
among order source (faults.Diagram number at limit) cause = record { of_text = tt; status = (2, omega arith, refl) }
among order source (faults.CircuitDiagram limit) cause = record { of_text = tt; status = (2, omega arith, refl) }
among order source (faults.Circuit refusal) cause = record { of_text = tt; status = (3, omega arith, refl) }
among order source (faults.FewLines lines need) cause = record { of_text = tt; status = (4, omega arith, refl) }
among order source (faults.WideGate number) cause = record { of_text = tt; status = (5, omega arith, refl) }
among order source (faults.Differs number bits) cause = record { of_text = tt; status = (6, omega arith, refl) }
among order source faults.NoPart cause = record { of_text = tt; status = (7, omega arith, refl) }
among order source faults.Unsettled cause = record { of_text = tt; status = (8, omega arith, refl) }
among order source (faults.FewOutputs inputs outputs) cause = record { of_text = tt; status = (9, omega arith, refl) }
among order source faults.NoInput cause = record { of_text = tt; status = (10, omega arith, refl) }
among order source fault cause = absurd cause.holds.holds

pub one_outcome : HasOneOutcome promise
one_outcome = record {
  never_both = λ order source written fault given cause exact. parts_or_stopped order source IsVerified fault (as_compared order source given.0)
      (λ q v stops. verified_or_stopped order q fault v stops exact) cause;
  one_cause = λ order source fault exact cause other is. one_cause order source fault exact cause other is;
  free = λ order source fault served cause. parts_or_stopped order source (IsVerifiedWithin order.nodes) fault served.1
      (λ q v stops. served_or_stopped order q fault served.0 v stops) cause;
  long = λ order source over. inl over;
  among = λ order source fault cause. among order source fault cause;
}
