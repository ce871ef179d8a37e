-- The fault of a command for each fault of a reader. Want of memory comes from want of memory
-- alone.
use Rattle.real_format.specs.declared.file.RealFault.{RealFault}
use Rattle.real_format.specs.declared.file.RealFault.TheVariants as reals
use Rattle.qasm_format.specs.declared.file.QasmFault.{QasmFault}
use Rattle.qasm_format.specs.declared.file.QasmFault.TheVariants as qasms
use Rattle.command_answers.specs.declared.fault.Fault.{Fault}
use Rattle.command_answers.specs.declared.fault.Fault.TheVariants.{Circuit, Memory}
use Rattle.command_answers.specs.declared.fault.CircuitRefusal.TheVariants as circuits

abbrev pub real_fault : RealFault → Fault
real_fault (reals.Line number) = Circuit (circuits.Line number)
real_fault (reals.Limit number) = Circuit (circuits.LineLimit number)
real_fault (reals.Memory _) = Memory _

abbrev pub qasm_fault : QasmFault → Fault
qasm_fault (qasms.Token at) = Circuit (circuits.Token at)
qasm_fault (qasms.Limit at) = Circuit (circuits.TokenLimit at)
qasm_fault (qasms.Memory _) = Memory _
