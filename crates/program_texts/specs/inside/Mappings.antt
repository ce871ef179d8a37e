-- The fault of a command for each fault of a layer. Want of memory comes from want of memory alone.
use Rattle.revc_base.specs.declared.bits.BitsFault.{BitsFault}
use Rattle.revc_base.specs.declared.bits.BitsFault.TheVariants as bits
use Rattle.command_answers.specs.declared.fault.Fault.{Fault}
use Rattle.command_answers.specs.declared.fault.Fault.TheVariants.{BadBits, Memory}

-- the fault of the only word of bits
abbrev pub bits_fault : BitsFault → Fault
bits_fault (bits.BadDigit at) = BadBits 1
bits_fault (bits.Memory _) = Memory _
