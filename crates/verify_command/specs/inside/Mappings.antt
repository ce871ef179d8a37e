-- The fault of the command for each reason why a circuit is not verified. Want of memory comes from
-- want of memory alone.
use Rattle.std.specs.Prelude.{◌+◌, ◌<◌, ◌^◌, length}
use Rattle.circuit_verify.specs.declared.fault.NotComparable.{NotComparable}
use Rattle.circuit_verify.specs.declared.fault.NotComparable.TheVariants as reasons
use Rattle.circuit_verify.specs.declared.fault.VerifyFault.{VerifyFault}
use Rattle.circuit_verify.specs.declared.fault.VerifyFault.TheVariants as faults
use Rattle.command_answers.specs.declared.fault.Fault.{Fault}
use Rattle.command_answers.specs.declared.fault.Fault.TheVariants.{CircuitDiagram, Differs, FewLines, FewOutputs, WideGate, Unsettled, Memory}
use Rattle.mct_circuit.specs.Gates.{CircuitView}
use Rattle.sum_verify.specs.declared.fault.SumsFault.{SumsFault}
use Rattle.sum_verify.specs.declared.fault.SumsFault.TheVariants as sums
use Rattle.verify_command.specs.declared.ways.Unverified.{Unverified}
use Rattle.verify_command.specs.declared.ways.Unverified.TheVariants as ways

-- gates and lines are counted from 1
abbrev pub not_comparable_fault : CircuitView → NotComparable → Fault
not_comparable_fault circuit (reasons.Outputs inputs outputs) = FewOutputs inputs outputs
not_comparable_fault circuit (reasons.Lines need) = FewLines circuit.lines need
not_comparable_fault circuit (reasons.Gate gate) = WideGate (gate + 1)

abbrev pub diagrams_fault : VerifyFault → Fault
diagrams_fault (faults.Diagram nodes) = CircuitDiagram nodes
diagrams_fault (faults.Differs line bits) = Differs (line + 1) bits
diagrams_fault (faults.Memory _) = Memory _

abbrev pub sums_fault : SumsFault → Fault
sums_fault (sums.Unsettled left) = Unsettled
sums_fault (sums.Memory _) = Memory _

abbrev pub unverified_fault : Unverified → Fault
unverified_fault (ways.Diagrams fault) = diagrams_fault fault
unverified_fault (ways.Sums fault) = sums_fault fault
unverified_fault (ways.Both left fault) = diagrams_fault fault

-- the gate that is named is one of the circuit
abbrev pub IsNamedIn : CircuitView → NotComparable → Type 0
IsNamedIn circuit (reasons.Outputs inputs outputs) = Unit {0}
IsNamedIn circuit (reasons.Lines need) = Unit {0}
IsNamedIn circuit (reasons.Gate gate) = gate < length circuit.gates

-- the line that is named can be counted from 1
abbrev pub IsCountable : VerifyFault → Type 0
IsCountable (faults.Diagram nodes) = Unit {0}
IsCountable (faults.Differs line bits) = line + 1 < 2 ^ 32
IsCountable (faults.Memory _) = Unit {0}

abbrev pub AreCountable : Unverified → Type 0
AreCountable (ways.Diagrams fault) = IsCountable fault
AreCountable (ways.Sums fault) = Unit {0}
AreCountable (ways.Both left fault) = IsCountable fault
