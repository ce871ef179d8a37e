-- `convert`: the split list of a text's circuit, and the file of it.
use Rattle.std.proofs.Common.{◌≡◌, ℕ, ◌+◌, ◌<◌, ◌≤◌, Bool, true, false, List, [], ◌∷◌, ◌++◌}
use Rattle.std.proofs.Common.{append-nil, length, Ok, Err, inl, refl, sym, ap, ◌∙◌, subst, arith}
use Rattle.format_parts.specs.Fits.{FitAFile}
use Rattle.std.proofs.lemmas.List.{length-append}
use Rattle.mct_circuit.specs.Gates.{CircuitView, GateView, AreGatesOn, AreNarrow, line_map}
use Rattle.mct_circuit.proofs.MoreLinesLemmas.{more_lines}
use Rattle.gate_split.specs.declared.fault.SplitFault.TheVariants as splits
use Rattle.circuit_plans.specs.declared.plan.TheConstants.{MOST_LINES, MOST_GATES}
use Rattle.gate_split.specs.Split.{HasSplitList, IsSplitList}
use Rattle.gate_split.proofs.PieceLemmas.{stay}
use Rattle.gate_split.proofs.SplitListLemmas.{one_split}
use Rattle.real_format.specs.declared.file.Mark.{Mark}
use Rattle.real_format.proofs.MeaningLemmas as real
use Rattle.qasm_format.specs.declared.file.Register.{Register}
use Rattle.qasm_format.specs.Registers.{lines_of_all}
use Rattle.qasm_format.specs.Converted.{converted_registers}
use Rattle.qasm_format.proofs.MeaningLemmas as qasm
use Rattle.revc_words.specs.declared.order.Format.{Format}
use Rattle.revc_words.specs.declared.order.Format.TheVariants.{Real, Qasm}
use Rattle.revc_words.specs.Words.{OrderView}
use Rattle.command_answers.specs.declared.fault.Fault.{Fault}
use Rattle.command_answers.specs.declared.fault.Fault.TheVariants as faults
use Rattle.command_answers.specs.declared.fault.CircuitRefusal.{CircuitRefusal}
use Rattle.command_answers.specs.Outcomes.{HasOneOutcome, IsFaultOfText}
use Rattle.circuit_commands.specs.Circuits.{ReadCircuit, Means, MeansIn, line_count, marked, unmarked}
use Rattle.circuit_commands.specs.Convert.{IsCause, CanSplit, HasSplit, IsSplitInto, Narrowing, promise, promise_within}
use Rattle.circuit_commands.specs.Convert.{WantsLine, LacksLine, PassesLines, PassesGates, DoesTheSame}
use Rattle.circuit_commands.specs.Convert.{IsFileOf, added_lines, converted, file_text, said_in}
use Rattle.circuit_commands.specs.Outcomes.{ConvertedView, IsConversion}
use Rattle.circuit_commands.specs.inside.Splitting.{HasSomeSplit, IsMarked, IsNarrowOf, IsPlaced, IsSplitOf, IsWritable, SplitsText}
use Rattle.circuit_commands.proofs.CircuitLemmas.{means_or_refused, one_circuit, one_circuit_refusal}

-- ---- a split has one answer

pub ok_or_many : (most : ℕ) (circuit : ReadCircuit) (added other : Bool) (gates : List GateView) → HasSplit most circuit added (Ok gates)
    → HasSplit most circuit other (Err splits.Gates) → ⊥
ok_or_many most circuit false false gates a b = let both = one_split (line_count circuit) most circuit.gates (Ok gates) (Err splits.Gates) a b in cc
ok_or_many most circuit false true gates a b =
    let both = one_split (line_count circuit) most circuit.gates (Ok gates) (Err (splits.NoIdle b.wants.gate)) a b.wants.none in cc
ok_or_many most circuit true false gates a b =
    let both = one_split (line_count circuit) most circuit.gates (Err (splits.NoIdle a.wants.gate)) (Err splits.Gates) a.wants.none b in cc
ok_or_many most circuit true true gates a b =
    let both = one_split (line_count circuit + 1) most circuit.gates (Ok gates) (Err splits.Gates) a.split b.split in cc

pub lacks_or_ok : (most : ℕ) (circuit : ReadCircuit) (need limit : ℕ) (added : Bool) (gates : List GateView) → LacksLine most circuit need limit
    → HasSplit most circuit added (Ok gates) → ⊥
lacks_or_ok most circuit need limit false gates a b =
    let both = one_split (line_count circuit) most circuit.gates (Err (splits.NoIdle a.wants.gate)) (Ok gates) a.wants.none b in cc
lacks_or_ok most circuit need limit true gates a b = let full = a.full in let room = b.room in omega arith

pub lacks_or_many : (most : ℕ) (circuit : ReadCircuit) (need limit : ℕ) (added : Bool) → LacksLine most circuit need limit
    → HasSplit most circuit added (Err splits.Gates) → ⊥
lacks_or_many most circuit need limit false a b =
    let both = one_split (line_count circuit) most circuit.gates (Err (splits.NoIdle a.wants.gate)) (Err splits.Gates) a.wants.none b in cc
lacks_or_many most circuit need limit true a b = let full = a.full in let room = b.room in omega arith

-- ---- one outcome

split_stops : (most : ℕ) (order : OrderView) (text : List ℕ) (circuit : ReadCircuit) (added : Bool) (gates : List GateView) (fault : Fault)
    → Means order.from text circuit → HasSplit most circuit added (Ok gates) → IsCause most order text fault → ⊥
split_stops most order text circuit added gates (faults.Circuit refusal) m split h = means_or_refused order.from text circuit refusal m h
split_stops most order text circuit added gates (faults.Lines need limit) m split h =
    let same = one_circuit order.from text h.circuit circuit h.means m in
    lacks_or_ok most circuit need limit added gates (subst (λ (c : ReadCircuit). LacksLine most c need limit) same h.lacks) split
split_stops most order text circuit added gates (faults.Gates limit) m split h =
    let same = one_circuit order.from text circuit h.circuit m h.means in
    ok_or_many most h.circuit added h.many.added gates (subst (λ (c : ReadCircuit). HasSplit most c added (Ok gates)) same split) h.many.split
split_stops most order text circuit added gates fault m split h = h

lines_or_gates : (most : ℕ) (order : OrderView) (text : List ℕ) (need limit other : ℕ) → PassesLines most order.from text need limit
    → PassesGates most order.from text other → ⊥
lines_or_gates most order text need limit other a b =
    let same = one_circuit order.from text a.circuit b.circuit a.means b.means in
    lacks_or_many most b.circuit need limit b.many.added (subst (λ (c : ReadCircuit). LacksLine most c need limit) same a.lacks) b.many.split

same_lines : (need limit other most : ℕ) → need ≡ other → limit ≡ most → faults.Lines need limit ≡ faults.Lines other most
same_lines need limit other most one two = ap (λ n. faults.Lines n limit) one ∙ ap (λ n. faults.Lines other n) two

split_cause : (most : ℕ) (order : OrderView) (text : List ℕ) (fault other : Fault) → IsCause most order text fault → IsCause most order text other
    → other ≡ fault
split_cause most order text (faults.Circuit refusal) (faults.Circuit other) a b =
    ap (λ (r : CircuitRefusal). faults.Circuit r) (one_circuit_refusal order.from text other refusal b a)
split_cause most order text (faults.Circuit refusal) (faults.Lines need limit) a b =
    absurd (means_or_refused order.from text b.circuit refusal b.means a)
split_cause most order text (faults.Circuit refusal) (faults.Gates limit) a b = absurd (means_or_refused order.from text b.circuit refusal b.means a)
split_cause most order text (faults.Lines need limit) (faults.Circuit refusal) a b =
    absurd (means_or_refused order.from text a.circuit refusal a.means b)
split_cause most order text (faults.Lines need limit) (faults.Lines other many) a b =
    same_lines other many need limit (b.lacks.needs ∙ sym a.lacks.needs) (b.lacks.limit_is ∙ sym a.lacks.limit_is)
split_cause most order text (faults.Lines need limit) (faults.Gates other) a b = absurd (lines_or_gates most order text need limit other a b)
split_cause most order text (faults.Gates limit) (faults.Circuit refusal) a b = absurd (means_or_refused order.from text a.circuit refusal a.means b)
split_cause most order text (faults.Gates other) (faults.Lines need limit) a b = absurd (lines_or_gates most order text need limit other b a)
split_cause most order text (faults.Gates limit) (faults.Gates other) a b = ap (λ n. faults.Gates n) (b.many.limit_is ∙ sym a.many.limit_is)
split_cause most order text (faults.Circuit refusal) other a b = absurd b
split_cause most order text (faults.Lines need limit) other a b = absurd b
split_cause most order text (faults.Gates limit) other a b = absurd b
split_cause most order text fault other a b = absurd a

among : (most : ℕ) (order : OrderView) (text : List ℕ) (fault : Fault) → IsCause most order text fault → IsFaultOfText (6 ∷ 7 ∷ 8 ∷ []) fault
among most order text (faults.Lines need limit) cause = record { of_text = tt; status = (0, omega arith, refl) }
among most order text (faults.Gates limit) cause = record { of_text = tt; status = (1, omega arith, refl) }
among most order text (faults.Circuit refusal) cause = record { of_text = tt; status = (2, omega arith, refl) }
among most order text fault cause = absurd cause

can_stop : (most : ℕ) (order : OrderView) (text : List ℕ) (fault : Fault) → CanSplit most order.from text → IsCause most order text fault → ⊥
can_stop most order text fault can cause = split_stops most order text can.circuit can.added can.gates fault can.means can.split cause

-- of each command that gives something only where there is a split list
pub split_outcome : (most : OrderView → ℕ) (Gives : OrderView → List ℕ → List ℕ → Type 0)
    → ((order : OrderView) (text written : List ℕ) → Gives order text written → CanSplit (most order) order.from text)
    → HasOneOutcome (promise_within most Gives)
split_outcome most Gives can = record {
  never_both = λ order text written fault given cause exact. can_stop (most order) order text fault (can order text written given) cause;
  one_cause = λ order text fault exact cause other is. inl (split_cause (most order) order text fault exact cause other);
  free = λ order text fault served cause. can_stop (most order) order text fault served cause;
  long = λ order text over. over;
  among = λ order text fault cause. among (most order) order text fault cause;
}

pub convert_outcome : HasOneOutcome promise
convert_outcome =
    split_outcome (λ order. MOST_GATES) promise.Gives
    (λ order text written given. record { circuit = given.circuit; means = given.means; added = given.added; gates = given.gates; split = given.made })

-- ---- what the file means

lines_of_converted : (lines : ℕ) (added : Bool) → added_lines added < lines → lines_of_all (converted_registers lines added) ≡ lines
lines_of_converted lines false own = omega arith
lines_of_converted lines true own = omega arith

two_lines : (lines : ℕ) (added : Bool) → added_lines added < lines → added ≡ true → 2 ≤ lines
two_lines lines false own is = absurd cc
two_lines lines true own is = omega arith

-- what is written fits a file
fits_written : (made : ConvertedView) → IsWritable made → FitAFile (line_count made.circuit) made.circuit.gates
fits_written made w =
    let own = w.own in
    record { some = omega arith; few = w.few; few_gates = w.few_gates; placed = w.placed; narrow = w.narrow }

means_written : (to : Format) (made : ConvertedView) → IsWritable made
    → MeansIn to (file_text to made.circuit made.added) (said_in to made.circuit)
means_written Real made w =
    let circuit = made.circuit in
    let m = real.converted_has_meaning circuit.constants circuit.garbage circuit.gates w.garbage (fits_written made w) in
    record {
      file = m.file;
      meaning = m.meaning;
      same = sym (ap (λ (marks : List Mark). marked marks m.file.garbage m.file.gates) m.constants_are
          ∙ ap (λ (useless : List Bool). marked circuit.constants useless m.file.gates) m.garbage_are
          ∙ ap (λ (gates : List GateView). marked circuit.constants circuit.garbage gates) m.gates_are);
    }
means_written Qasm made w =
    let own = w.own in
    let lines = line_count made.circuit in
    let m = qasm.converted_has_meaning lines made.added made.circuit.gates (two_lines lines made.added own) (fits_written made w) in
    record {
      file = m.file;
      meaning = m.meaning;
      same = sym (ap (λ (registers : List Register). unmarked (lines_of_all registers) m.file.gates) m.registers_are
          ∙ ap (λ n. unmarked n m.file.gates) (lines_of_converted lines made.added own)
          ∙ ap (unmarked lines) m.gates_are);
    }

pub converted_gates : (circuit : ReadCircuit) (added : Bool) (gates : List GateView) → (converted circuit added gates).gates ≡ gates
converted_gates circuit false gates = refl
converted_gates circuit true gates = refl

-- the file of gates that wait to be written, in each format
pub file_of : (to : Format) (circuit : ReadCircuit) (gates : List GateView) (made : ConvertedView) → IsPlaced circuit gates made
    → IsFileOf to circuit made.added gates (file_text to made.circuit made.added)
file_of to circuit gates made p = record {
  lines = ap (λ (c : ReadCircuit). file_text to c made.added) p.are;
  meaning = subst (λ (c : ReadCircuit). MeansIn to (file_text to made.circuit made.added) (said_in to c)) p.are (means_written to made p.writable);
  narrow = subst AreNarrow (ap (λ (c : ReadCircuit). c.gates) p.are ∙ converted_gates circuit made.added gates) p.writable.narrow;
  same = p.same;
}

-- what is made of a text's circuit is written in each format
pub conversion : (Makes : Narrowing) (from : Format) (text : List ℕ) (circuit : ReadCircuit) (gates : List GateView) (made : ConvertedView)
    → Means from text circuit → Makes circuit made.added gates → IsPlaced circuit gates made → IsConversion Makes from text made
conversion Makes from text circuit gates made m by placed = record {
  in_each = λ to. record {
    circuit = circuit;
    means = m;
    added = made.added;
    gates = gates;
    made = by;
    file = file_of to circuit gates made placed;
  };
}

-- ---- splits

same_on_more : (circuit : ReadCircuit) (gates : List GateView) → AreGatesOn (line_count circuit) circuit.gates
    → ((bits : List Bool) → length bits ≡ line_count circuit + 1 → line_map gates bits ≡ line_map circuit.gates bits) → DoesTheSame circuit true gates
same_on_more circuit gates placed same bits more long one =
    let all = length-append bits more in
    same (bits ++ more) (omega arith) ∙ more_lines circuit.gates bits more (subst (λ n. AreGatesOn n circuit.gates) (sym long) placed)

same_on_own : (circuit : ReadCircuit) (gates : List GateView)
    → ((bits : List Bool) → length bits ≡ line_count circuit → line_map gates bits ≡ line_map circuit.gates bits) → DoesTheSame circuit false gates
same_on_own circuit gates same bits [] long none =
    ap (line_map gates) (append-nil bits) ∙ same bits long ∙ sym (append-nil (line_map circuit.gates bits))
same_on_own circuit gates same bits (bit ∷ more) long none = absurd cc

-- on the circuit's own lines
pub own_split : (most : ℕ) (source : ReadCircuit) (circuit narrow : CircuitView) (lines : ℕ) → circuit.lines ≡ line_count source → circuit.gates ≡ source.gates
    → lines ≡ circuit.lines → IsSplitList lines most circuit.gates narrow.gates → narrow ≡ record { lines = lines; limit = most; gates = narrow.gates }
    → ((bits : List Bool) → length bits ≡ lines → line_map narrow.gates bits ≡ line_map circuit.gates bits) → IsNarrowOf most source narrow
own_split most source circuit narrow lines own gates counted split size same =
    let all : lines ≡ line_count source = counted ∙ own in
    let wide : narrow.lines ≡ lines = ap (λ (c : CircuitView). c.lines) size in
    record {
      added = false;
      lines = omega (arith, wide, all);
      split = rw (← gates, ← all) split;
      few_gates = split.within;
      same = same_on_own source narrow.gates
          (λ bits long. same bits (long ∙ sym all) ∙ ap (λ (gs : List GateView). line_map gs bits) gates);
    }

-- on one line more
pub wider_split : (most : ℕ) (source : ReadCircuit) (circuit narrow : CircuitView) (lines : ℕ) → circuit.lines ≡ line_count source
    → circuit.gates ≡ source.gates → lines ≡ circuit.lines → AreGatesOn circuit.lines circuit.gates → WantsLine most source → line_count source < MOST_LINES
    → IsSplitList (lines + 1) most circuit.gates narrow.gates → narrow ≡ record { lines = lines + 1; limit = most; gates = narrow.gates }
    → ((bits : List Bool) → length bits ≡ lines + 1 → line_map narrow.gates bits ≡ line_map circuit.gates bits) → IsNarrowOf most source narrow
wider_split most source circuit narrow lines own gates counted placed wants room split size same =
    let on : AreGatesOn (line_count source) source.gates = rw (← gates, ← own) placed in
    let all : lines ≡ line_count source = counted ∙ own in
    let wide : narrow.lines ≡ lines + 1 = ap (λ (c : CircuitView). c.lines) size in
    record {
      added = true;
      lines = omega (arith, wide, all);
      split = record { wants = wants; room = room; split = rw (← gates, ← all) split };
      few_gates = split.within;
      same = same_on_more source narrow.gates on
          (λ bits long. same bits (long ∙ ap (λ n. n + 1) (sym all)) ∙ ap (λ (gs : List GateView). line_map gs bits) gates);
    }

pub own_some : (most : ℕ) (source : ReadCircuit) (circuit : CircuitView) (lines : ℕ) → circuit.lines ≡ line_count source → circuit.gates ≡ source.gates
    → lines ≡ circuit.lines → HasSplitList lines most circuit.gates → HasSomeSplit most source
own_some most source circuit lines own gates counted some =
    let all : lines ≡ line_count source = counted ∙ own in
    let split = some.split in
    record { added = false; gates = some.narrow; split = rw (← gates, ← all) split }

pub wider_some : (most : ℕ) (source : ReadCircuit) (circuit : CircuitView) (lines : ℕ) → circuit.lines ≡ line_count source → circuit.gates ≡ source.gates
    → lines ≡ circuit.lines → WantsLine most source → line_count source < MOST_LINES → HasSplitList (lines + 1) most circuit.gates
    → HasSomeSplit most source
wider_some most source circuit lines own gates counted wants room some =
    let all : lines ≡ line_count source = counted ∙ own in
    let split = some.split in
    record { added = true; gates = some.narrow; split = record { wants = wants; room = room; split = rw (← gates, ← all) split } }

-- ---- marks

-- whether a line was added is seen by the number of lines
pub same_added : (lines : ℕ) (added other : Bool) → lines + added_lines added ≡ lines + added_lines other → added ≡ other
same_added lines false false e = refl
same_added lines false true e = absurd (omega (arith, e))
same_added lines true false e = absurd (omega (arith, e))
same_added lines true true e = refl

-- the split list on the lines that are written
pub split_as : (most : ℕ) (source : ReadCircuit) (narrow : CircuitView) (added : Bool) → IsNarrowOf most source narrow
    → narrow.lines ≡ line_count source + added_lines added → HasSplit most source added (Ok narrow.gates) × DoesTheSame source added narrow.gates
split_as most source narrow added n lines =
    let same = same_added (line_count source) n.added added (sym n.lines ∙ lines) in (
      subst (λ (b : Bool). HasSplit most source b (Ok narrow.gates)) same n.split,
      subst (λ (b : Bool). DoesTheSame source b narrow.gates) same n.same,
    )

-- the split list with the marks of the circuit's lines
pub split_marked : (most : ℕ) (source : ReadCircuit) (narrow : CircuitView) (made : ConvertedView) → IsNarrowOf most source narrow
    → IsMarked source narrow made → IsSplitOf most source made
split_marked most source narrow made n m =
    let split = split_as most source narrow made.added n m.lines in
    record { gates = narrow.gates; split = split.0; placed = record { are = m.are; writable = m.writable; same = split.1 } }

-- gates that are narrow already are their own split list
pub split_as_it_is : (most : ℕ) (source : ReadCircuit) (made : ConvertedView) → AreNarrow source.gates → length source.gates ≤ most
    → made ≡ record { circuit = converted source false source.gates; added = false } → IsWritable made → IsSplitOf most source made
split_as_it_is most source made narrow few is writable =
    let circuit : made.circuit ≡ source = ap (λ (m : ConvertedView). m.circuit) is in
    let added : false ≡ made.added = sym (ap (λ (m : ConvertedView). m.added) is) in
    record {
      gates = source.gates;
      split = subst (λ (b : Bool). HasSplit most source b (Ok source.gates)) added (stay (line_count source) most source.gates narrow few);
      placed = record {
        are = circuit ∙ ap (λ (b : Bool). converted source b source.gates) added;
        writable = writable;
        same = subst (λ (b : Bool). DoesTheSame source b source.gates) added (same_on_own source source.gates (λ bits long. refl));
      };
    }

-- the split list of a text is written in each format
pub split_written : (from : Format) (text : List ℕ) (made : ConvertedView) → SplitsText MOST_GATES from text made
    → IsConversion IsSplitInto from text made
split_written from text made s = conversion IsSplitInto from text s.circuit s.split.gates made s.means s.split.split s.split.placed
