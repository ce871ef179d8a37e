-- Arguments of gates and barriers, as the reader takes them.
use Rattle.std.proofs.Common.{◌≡◌, ℕ, ◌+◌, ◌<◌, ◌≤◌, Bool, true, false, List, [], ◌∷◌, ◌++◌, length, codes, refl, sym, ap, ◌∙◌, subst, arith}
use Rattle.std.proofs.lemmas.Bool.{false≢true}
use Rattle.std.specs.List.{AllByRecursion}
use Rattle.list_facts.proofs.AllLemmas.{AllByRecursion-push, AllByRecursion-weaker, AllByRecursion-append}
use Rattle.std.proofs.lemmas.List.{length-append}
use Rattle.revc_base.specs.declared.place.Place.{Place}
use Rattle.qasm_format.specs.declared.file.QasmFault.{QasmFault}
use Rattle.qasm_format.specs.declared.file.QasmFault.TheVariants.{Token, Limit, Memory}
use Rattle.qasm_format.specs.declared.file.Register.{Register}
use Rattle.qasm_format.specs.declared.words.Use.{Use}
use Rattle.qasm_format.specs.declared.words.Use.TheVariants.{Barrier, Flip}
use Rattle.qasm_format.specs.declared.spots.Spot.{Spot}
use Rattle.qasm_format.specs.declared.spots.Spot.TheVariants.{Line, Whole}
use Rattle.mct_circuit.specs.Gates.{GateView, IsGateOn, AreGatesOn}
use Rattle.circuit_plans.specs.declared.plan.TheConstants.{MOST_LINES}
use Rattle.qasm_lexer.specs.Tokens.{Left}
use Rattle.qasm_format.specs.Registers.{IsLaid, lines_of_all}
use Rattle.qasm_format.specs.Stages.{Said, starts, wants_argument, behind_name, wants_index, behind_argument, StandForGates, nothing_said}
use Rattle.qasm_format.specs.Qasm.{Reads}
use Rattle.qasm_format.specs.Faults.{IsStop, BreaksRule, BreaksLimit}
use Rattle.qasm_lexer.specs.Tokens.{Takes}
use Rattle.qasm_format.specs.inside.Says.{TakesName, IsNameFault, TakesNumber, IsNumberFault, ReadsWord, StopsAtWord, behind_spot, ReadsArgument}
use Rattle.qasm_format.specs.inside.Says.{StopsAtArgument, ReadsIndex, StopsAtIndex, ReadsBarrier, StopsAtBarrier}
use Rattle.qasm_format.specs.inside.Says.{SpotBelow, AddsGates, IsGateFault}
use Rattle.qasm_format.specs.inside.Says.{ReadsSpots, StopsAtSpots}
use Rattle.qasm_format.proofs.DeclaredLemmas.{laid_within}
use Rattle.qasm_lexer.proofs.MoveLemmas.{moves_within, takes_within, takes_fewer}
use Rattle.qasm_format.proofs.ReadingLemmas.{reads_none, reads_then, stops_later}
use Rattle.qasm_format.proofs.StageLemmas.{some_identifier, fault_at_argument, unlaid_at_argument, reads_argument, opens_index, fault_at_index, beyond_at_index}
use Rattle.qasm_format.proofs.StageLemmas.{reads_index, reads_comma, reads_end, stops_behind_argument, limit_behind_argument, comma_or_end}

is_line : Spot → Bool
is_line (Line at) = true
is_line (Whole first size) = false

line_is_no_register : (at first size : ℕ) → ¬ (Line at ≡ Whole first size)
unfolding is_line
line_is_no_register at first size e = false≢true (sym (ap is_line e))

-- ---- a register was named

pub named : (old new : Left) (word : List ℕ) (at : Place) (first size : ℕ) (registers : List Register) (usage : Use) (spots : List Spot) (said : Said)
    → TakesName old new word at → IsLaid registers word first size → said.registers ≡ registers
    → Reads old new (wants_argument usage spots said) (behind_name usage spots first size said)
named old new word at first size registers usage spots said taken laid same =
    reads_argument first size usage spots said taken (subst (λ (rs : List Register). IsLaid rs word first size) (sym same) laid)

pub unnamed : (old new : Left) (word : List ℕ) (at : Place) (registers : List Register) → TakesName old new word at
    → ((first size : ℕ) → ¬ IsLaid registers word first size) → StopsAtArgument old registers (Token at)
unnamed old new word at registers taken none = record {
  says = λ usage spots said same. unlaid_at_argument usage spots said taken
      (λ first size laid. none first size (subst (λ (rs : List Register). IsLaid rs word first size) same laid));
}

pub no_name : (old : Left) (fault : QasmFault) (registers : List Register) → IsNameFault old fault → StopsAtArgument old registers fault
no_name old fault registers h = record { says = λ usage spots said same. fault_at_argument old fault usage spots said h }

name_fewer : (old new : Left) (word : List ℕ) (at : Place) → TakesName old new word at → length new.bytes < length old.bytes
name_fewer old new word at taken = takes_fewer old new word at taken.takes (some_identifier word taken.spelled)

-- a whole register
pub whole_read : (old mid new : Left) (word behind : List ℕ) (at place : Place) (first size : ℕ) (registers : List Register) → TakesName old mid word at
    → IsLaid registers word first size → Takes mid new behind place → ¬ (behind ≡ codes "[")
    → ReadsArgument old new registers (Whole first size) behind place
whole_read old mid new word behind at place first size registers taken laid takes other = record {
  below = laid_within registers word first size laid;
  mid = mid;
  reads = λ usage spots said same. named old mid word at first size registers usage spots said taken laid same;
  takes = takes;
  closed = λ f s e. other;
  fewer = let fewer = name_fewer old mid word at taken in let within = takes_within mid new behind place takes in omega arith;
}

-- a register and the bracket behind it
pub record Opens (old new : Left) (registers : List Register) (first size : ℕ) : Type 0 where
  pub fewer : length new.bytes < length old.bytes
  pub within : first + size ≤ lines_of_all registers
  pub says : (usage : Use) (spots : List Spot) (said : Said) → said.registers ≡ registers
      → Reads old new (wants_argument usage spots said) (wants_index usage spots first size said)

pub opened : (old mid new : Left) (word bracket : List ℕ) (at place : Place) (first size : ℕ) (registers : List Register) → TakesName old mid word at
    → IsLaid registers word first size → Takes mid new bracket place → bracket ≡ codes "[" → Opens old new registers first size
opened old mid new word bracket at place first size registers taken laid takes same = record {
  says = λ usage spots said equal. reads_then (named old mid word at first size registers usage spots said taken laid equal)
      (opens_index usage spots first size said takes same);
  within = laid_within registers word first size laid;
  fewer = let fewer = name_fewer old mid word at taken in let within = takes_within mid new bracket place takes in omega arith;
}

-- ---- an index behind its bracket

pub no_index : (old : Left) (fault : QasmFault) (first size : ℕ) → IsNumberFault old fault → StopsAtIndex old first size fault
no_index old fault first size h = record { says = λ usage spots said. fault_at_index old fault usage spots first size said h }

pub beyond : (old new : Left) (at : Place) (index first size : ℕ) → TakesNumber old new index at → size ≤ index → StopsAtIndex old first size (Token at)
beyond old new at index first size taken over = record { says = λ usage spots said. beyond_at_index index usage spots first size said taken over }

pub unclosed : (old mid : Left) (at : Place) (index first size : ℕ) (fault : QasmFault) → TakesNumber old mid index at → index < size
    → StopsAtWord mid (codes "]") fault → StopsAtIndex old first size fault
unclosed old mid at index first size fault taken inside stops = record {
  says = λ usage spots said. stops_later fault (reads_index index usage spots first size said taken inside)
      (stops.says (behind_argument usage (spots ++ Line (first + index) ∷ []) said));
}

pub index_read : (old mid last new : Left) (at place : Place) (index first size : ℕ) (behind : List ℕ) → TakesNumber old mid index at → index < size
    → ReadsWord mid last (codes "]") → Takes last new behind place → ReadsIndex old new first size (Line (first + index)) behind place
index_read old mid last new at place index first size behind taken inside closed takes = record {
  index = index;
  line = refl;
  inside = inside;
  mid = last;
  reads = λ usage spots said. reads_then (reads_index index usage spots first size said taken inside)
      (closed.says (behind_argument usage (spots ++ Line (first + index) ∷ []) said));
  takes = takes;
}

pub line_read : (old mid new : Left) (registers : List Register) (first size : ℕ) (spot : Spot) (behind : List ℕ) (place : Place)
    → Opens old mid registers first size → ReadsIndex mid new first size spot behind place → ReadsArgument old new registers spot behind place
line_read old mid new registers first size spot behind place open_bracket read =
    subst (λ (s : Spot). ReadsArgument old new registers s behind place) (sym read.line) (record {
      below = let within = open_bracket.within in let inside = read.inside in omega arith;
      mid = read.mid;
      reads = λ usage spots said same. reads_then (open_bracket.says usage spots said same) (read.reads usage spots said);
      takes = read.takes;
      closed = λ f s e. absurd (line_is_no_register (first + read.index) f s e);
      fewer = let fewer = open_bracket.fewer in let number = moves_within (read.reads Barrier [] nothing_said).moves in
          let within = takes_within read.mid new behind place read.takes in omega arith;
    })

pub index_stops : (old mid : Left) (registers : List Register) (first size : ℕ) (fault : QasmFault) → Opens old mid registers first size
    → StopsAtIndex mid first size fault → StopsAtArgument old registers fault
index_stops old mid registers first size fault open_bracket stops =
    record { says = λ usage spots said same. stops_later fault (open_bracket.says usage spots said same) (stops.says usage spots said) }

-- ---- numbers of arguments

one_longer : (spots : List Spot) (spot : Spot) → length (spots ++ spot ∷ []) ≡ length spots + 1
one_longer spots spot = length-append spots (spot ∷ [])

-- the arguments that stand for gates are one more than the controls
stand_counted : {controls : ℕ} {spots : List Spot} {gates : List GateView} → StandForGates controls spots gates → length spots ≡ controls + 1
stand_counted {controls} {spots} h =
    ap length h.parts ∙ length-append h.controlling (h.target ∷ []) ∙ ap (λ (n : ℕ). n + 1) h.counted

too_few : (controls : ℕ) (spots : List Spot) (spot : Spot) (gates : List GateView) → length spots < controls
    → ¬ StandForGates controls (spots ++ spot ∷ []) gates
too_few controls spots spot gates fewer stand =
    let counted = stand_counted stand in let longer = one_longer spots spot in absurd (omega arith)

-- ---- barriers

-- the arguments so far, each with the comma behind it
pub record InBarrier (old new : Left) (registers : List Register) : Type 0 where
  pub spots : List Spot
  pub reads : (said : Said) → said.registers ≡ registers → Reads old new (wants_argument Barrier [] said) (wants_argument Barrier spots said)

pub barrier_begun : (old : Left) (registers : List Register) → InBarrier old old registers
barrier_begun old registers = record { spots = []; reads = λ said equal. reads_none old (wants_argument Barrier [] said) }

pub barrier_fails : (old mid : Left) (registers : List Register) (fault : QasmFault) → InBarrier old mid registers → StopsAtArgument mid registers fault
    → StopsAtBarrier old registers fault
barrier_fails old mid registers fault so_far stops =
    record { says = λ said equal. stops_later fault (so_far.reads said equal) (stops.says Barrier so_far.spots said equal) }

pub barrier_more : (old mid new : Left) (registers : List Register) (spot : Spot) (word : List ℕ) (at : Place) → InBarrier old mid registers
    → ReadsArgument mid new registers spot word at → word ≡ codes "," → InBarrier old new registers
barrier_more old mid new registers spot word at so_far read same = record {
  spots = so_far.spots ++ spot ∷ [];
  reads = λ said equal. reads_then (so_far.reads said equal)
      (reads_then (read.reads Barrier so_far.spots said equal) (reads_comma Barrier so_far.spots spot said read.takes same tt));
}

pub barrier_ends : (old mid new : Left) (registers : List Register) (spot : Spot) (word : List ℕ) (at : Place) → InBarrier old mid registers
    → ReadsArgument mid new registers spot word at → word ≡ codes ";" → ReadsBarrier old new registers
barrier_ends old mid new registers spot word at so_far read same = record {
  reads = λ said equal. reads_then (so_far.reads said equal)
      (reads_then (read.reads Barrier so_far.spots said equal) (reads_end Barrier so_far.spots spot said said read.takes same refl));
}

pub barrier_open : (old mid new : Left) (registers : List Register) (spot : Spot) (word : List ℕ) (at : Place) → InBarrier old mid registers
    → ReadsArgument mid new registers spot word at → ¬ (word ≡ codes ",") → ¬ (word ≡ codes ";") → StopsAtBarrier old registers (Token at)
barrier_open old mid new registers spot word at so_far read no_comma no_end = record {
  says = λ said equal. stops_later (Token at) (reads_then (so_far.reads said equal) (read.reads Barrier so_far.spots said equal))
      (stops_behind_argument Barrier so_far.spots spot said read.takes read.closed (λ same more. no_comma same) (λ same after ends. no_end same)
      (λ same many. many));
}

-- ---- gates

-- the controls so far
pub record InGate (old new : Left) (registers : List Register) (controls : ℕ) (spots : List Spot) : Type 0 where
  pub reads : (said : Said) → said.registers ≡ registers → Reads old new (wants_argument (Flip controls) [] said) (wants_argument (Flip controls) spots said)
  pub below : AllByRecursion (SpotBelow (lines_of_all registers)) spots

pub gate_begun : (old : Left) (registers : List Register) (controls : ℕ) → InGate old old registers controls []
gate_begun old registers controls = record { reads = λ said equal. reads_none old (wants_argument (Flip controls) [] said); below = tt }

pub gate_more : (old mid new : Left) (registers : List Register) (controls : ℕ) (spots : List Spot) (spot : Spot) (word : List ℕ) (at : Place)
    → InGate old mid registers controls spots → ReadsArgument mid new registers spot word at → word ≡ codes "," → length spots < controls
    → InGate old new registers controls (spots ++ spot ∷ [])
gate_more old mid new registers controls spots spot word at so_far read same fewer = record {
  reads = λ said equal. reads_then (so_far.reads said equal) (reads_then (read.reads (Flip controls) spots said equal)
      (reads_comma (Flip controls) spots spot said read.takes same (let longer = one_longer spots spot in omega arith)));
  below = AllByRecursion-push (SpotBelow (lines_of_all registers)) spots spot so_far.below read.below;
}

-- no comma behind a control
pub gate_stops : (old mid new : Left) (registers : List Register) (controls : ℕ) (spots : List Spot) (spot : Spot) (word : List ℕ) (at : Place)
    → InGate old mid registers controls spots → ReadsArgument mid new registers spot word at → ¬ (word ≡ codes ",") → length spots < controls
    → StopsAtSpots old registers controls (Token at)
gate_stops old mid new registers controls spots spot word at so_far read other fewer = record {
  says = λ said equal. stops_later (Token at) (reads_then (so_far.reads said equal) (read.reads (Flip controls) spots said equal))
      (stops_behind_argument (Flip controls) spots spot said read.takes read.closed (λ same more. other same)
      (λ same after ends. too_few controls spots spot ends.0 fewer ends.1) (λ same many. too_few controls spots spot many.0 fewer many.1));
}

pub argument_fails : (old mid : Left) (registers : List Register) (controls : ℕ) (spots : List Spot) (fault : QasmFault)
    → InGate old mid registers controls spots → StopsAtArgument mid registers fault → StopsAtSpots old registers controls fault
argument_fails old mid registers controls spots fault so_far stops =
    record { says = λ said equal. stops_later fault (so_far.reads said equal) (stops.says (Flip controls) spots said equal) }

-- the gate has all arguments, and no end
pub gate_open : (old mid new : Left) (registers : List Register) (controls : ℕ) (spots : List Spot) (spot : Spot) (word : List ℕ) (at : Place)
    → InGate old mid registers controls spots → ReadsArgument mid new registers spot word at → length spots ≡ controls → ¬ (word ≡ codes ";")
    → StopsAtSpots old registers controls (Token at)
gate_open old mid new registers controls spots spot word at so_far read all other = record {
  says = λ said equal. stops_later (Token at) (reads_then (so_far.reads said equal) (read.reads (Flip controls) spots said equal))
      (stops_behind_argument (Flip controls) spots spot said read.takes read.closed
      (λ same more. let longer = one_longer spots spot in absurd (omega (arith, more, longer, all)))
      (λ same after ends. other same) (λ same many. other same));
}

gate_ends : (old mid new : Left) (registers : List Register) (controls : ℕ) (spots : List Spot) (spot : Spot) (word : List ℕ) (at : Place)
    (said : Said) (gates : List GateView) → InGate old mid registers controls spots → ReadsArgument mid new registers spot word at
    → said.registers ≡ registers → length spots ≡ controls → word ≡ codes ";" → AddsGates (spots ++ spot ∷ []) said.gates gates
    → Reads old new (wants_argument (Flip controls) [] said) (starts (record said { gates = gates }))
gate_ends old mid new registers controls spots spot word at said gates so_far read equal all same adds =
    let longer = one_longer spots spot in
    reads_then (so_far.reads said equal) (reads_then (read.reads (Flip controls) spots said equal)
    (reads_end (Flip controls) spots spot said (record said { gates = gates }) read.takes same
    (adds.more, adds.stand controls (omega arith), adds.few, ap (λ (gs : List GateView). record said { gates = gs }) adds.added)))

-- the arguments stand for no gates, or for too many
gates_fail : (old mid new : Left) (registers : List Register) (controls : ℕ) (spots : List Spot) (spot : Spot) (word : List ℕ) (at : Place)
    (said : Said) (fault : QasmFault) → InGate old mid registers controls spots → ReadsArgument mid new registers spot word at
    → said.registers ≡ registers → length spots ≡ controls → word ≡ codes ";" → IsGateFault at (spots ++ spot ∷ []) said.gates fault
    → IsStop old (wants_argument (Flip controls) [] said) fault
gates_fail old mid new registers controls spots spot word at said (Token place) so_far read equal all same h =
    stops_later (Token place) (reads_then (so_far.reads said equal) (read.reads (Flip controls) spots said equal))
    (subst (λ (p : Place). BreaksRule read.mid (behind_spot (Flip controls) spots spot said) p) (sym h.0)
    (stops_behind_argument (Flip controls) spots spot said read.takes read.closed (λ comma more. comma_or_end word comma same)
    (λ semicolon after ends. h.1.says controls ends.0 ends.1) (λ semicolon many. h.1.says controls many.0 many.1)))
gates_fail old mid new registers controls spots spot word at said (Limit place) so_far read equal all same h =
    let longer = one_longer spots spot in
    stops_later (Limit place) (reads_then (so_far.reads said equal) (read.reads (Flip controls) spots said equal))
    (subst (λ (p : Place). BreaksLimit read.mid (behind_spot (Flip controls) spots spot said) p) (sym h.0)
    (limit_behind_argument (Flip controls) spots spot said read.takes same
    (λ after ends. let many = h.1.all controls ends.0 ends.1 in let few = ends.2 in absurd (omega (arith, many, few)))
    (h.1.more, h.1.stand controls (omega arith), h.1.many) read.closed))
gates_fail old mid new registers controls spots spot word at said (Memory _) so_far read equal all same h = tt

-- all arguments and the end of the statement were read
pub spots_read : (old mid new : Left) (registers : List Register) (controls : ℕ) (spots all_spots : List Spot) (spot : Spot) (word : List ℕ) (at : Place)
    → lines_of_all registers ≤ MOST_LINES → InGate old mid registers controls spots → ReadsArgument mid new registers spot word at
    → length spots ≡ controls → all_spots ≡ spots ++ spot ∷ [] → word ≡ codes ";" → ReadsSpots old new registers controls all_spots at
spots_read old mid new registers controls spots all_spots spot word at few so_far read all whole same =
    let longer = one_longer spots spot in
    subst (λ (ss : List Spot). ReadsSpots old new registers controls ss at) (sym whole) (record {
      counted = omega arith;
      below = AllByRecursion-push (SpotBelow (lines_of_all registers)) spots spot so_far.below read.below;
      few = few;
      ends = λ said gates equal adds. gate_ends old mid new registers controls spots spot word at said gates so_far read equal all same adds;
      fails = λ said fault equal h. gates_fail old mid new registers controls spots spot word at said fault so_far read equal all same h;
    })

below_more : (n m : ℕ) → n ≤ m → (spot : Spot) → SpotBelow n spot → SpotBelow m spot
below_more n m le (Line at) h = omega arith
below_more n m le (Whole first size) h = omega arith

pub all_below_most : (n : ℕ) (spots : List Spot) → n ≤ 16384 → AllByRecursion (SpotBelow n) spots → AllByRecursion (SpotBelow 16384) spots
all_below_most n spots le all = AllByRecursion-weaker (SpotBelow n) (SpotBelow 16384) (below_more n 16384 le) spots all

pub sound_after : (spots : List Spot) (old gates : List GateView) (lines : ℕ) → AreGatesOn lines old → AllByRecursion (SpotBelow lines) spots
    → AddsGates spots old gates → AreGatesOn lines gates × (length gates ≤ 4000000)
sound_after spots old gates lines on below adds =
    let few = ap length adds.added ∙ length-append old adds.more in (
      subst (AreGatesOn lines) (sym adds.added) (AllByRecursion-append (IsGateOn lines) old adds.more on (adds.placed lines below)),
      omega (arith, few, adds.few),
    )
