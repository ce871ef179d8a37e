-- A circuit in place that is found is the file of a text, and why there is none.
use Rattle.std.proofs.Common.{ℕ, List, refl, sym, subst, arith}
use Rattle.circuit_plans.specs.declared.roles.Placing.TheVariants.{InPlace}
use Rattle.circuit_plans.specs.declared.roles.Roles.{Roles}
use Rattle.circuit_plans.specs.Plans.{LaidView, roles_of}
use Rattle.command_answers.specs.declared.fault.Fault.{Fault}
use Rattle.command_answers.specs.declared.fault.Fault.TheVariants as faults
use Rattle.program_texts.proofs.CleanLemmas.{clean_circuit}
use Rattle.program_texts.proofs.FormedLemmas.{some_output}
use Rattle.program_texts.proofs.TextLemmas.{stops_settling}
use Rattle.program_texts.specs.Clean.{IsCleanCircuit}
use Rattle.program_texts.specs.Outcomes.{IsSettlingFault, IsTextFault}
use Rattle.revc_words.specs.Words.{IsWithinLimits, OrderView}
use Rattle.revs_parser.proofs.OneTextLemmas.{one_formed}
use Rattle.revs_tape.specs.Tapes.{TapeView}
use Rattle.program_commands.specs.InPlace.{IsCompiledInPlace}
use Rattle.program_commands.specs.Outcomes.{IsWritable, file_of}
use Rattle.program_commands.specs.inside.InPlace.{IsInPlaceFault, IsPlacedFor}
use Rattle.program_commands.proofs.PlanLemmas.{means_itself}

-- ---- the file

pub placed_writable : (order : OrderView) (text : List ℕ) (tape : TapeView) (laid : LaidView) → IsWithinLimits order → IsPlacedFor order text tape laid
    → IsWritable laid
placed_writable order text tape laid limits placed =
    let some = some_output text placed.settled.left.program tape placed.settled.left.formed placed.settled.left.tape_of in
    let enough = placed.found.verified.comparable.lines in
    let outputs = placed.found.verified.comparable.outputs in
    let few_lines = placed.found.few_lines in
    let few_gates = placed.found.few_gates in
    record {
      some = omega (arith, some, enough, outputs);
      few = omega (arith, few_lines, limits.lines);
      few_gates = omega (arith, few_gates, limits.gates);
    }

pub placed_file : (order : OrderView) (text : List ℕ) (tape : TapeView) (laid : LaidView) → IsWithinLimits order → IsPlacedFor order text tape laid
    → IsCompiledInPlace order text (file_of order.format laid)
placed_file order text tape laid limits placed =
    let l = placed.settled in
    let verified = placed.found.verified in
    let clean = clean_circuit l.left.program order.assume tape laid.circuit InPlace order.borrow placed.keeps l.left.tape_of placed.on verified in
    record {
      tape = tape;
      settled = l;
      only = λ q is. one_formed text q l.left.program is l.left.formed;
      enough = verified.comparable.outputs;
      roles = roles_of laid;
      gates = laid.circuit.gates;
      meaning = means_itself order.format laid (placed_writable order text tape laid limits placed) placed.sum_of placed.on verified.comparable.narrow;
      clean = subst (λ (roles : Roles). IsCleanCircuit l.left.program order.assume InPlace order.borrow roles laid.circuit.gates)
          (sym placed.found.roles) clean;
      few_lines = omega (arith, placed.sum_of, placed.found.few_lines);
      few_gates = placed.found.few_gates;
      written = refl;
    }

-- ---- the faults

-- what stops the claims stops the file
pub claims_stop : (order : OrderView) (text : List ℕ) (fault : Fault) → IsSettlingFault text order.assume order.nodes fault → IsInPlaceFault order text fault
claims_stop order text (faults.Memory _) h = tt
claims_stop order text (faults.FewOutputs inputs outputs) h = absurd h
claims_stop order text faults.NoCircuit h = absurd h
claims_stop order text fault h = h

-- and so does what refuses a text
pub text_stops : (order : OrderView) (text : List ℕ) (fault : Fault) → IsTextFault text fault → IsInPlaceFault order text fault
text_stops order text fault h = claims_stop order text fault (stops_settling text order.assume order.nodes fault h)
