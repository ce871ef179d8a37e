-- The fault of the program for each fault of reading words and texts. Want of memory comes from
-- want of memory alone.
use Rattle.revc_io.specs.declared.reading.ReadFault.{ReadFault}
use Rattle.revc_io.specs.declared.reading.ReadFault.TheVariants as reads
use Rattle.command_answers.specs.declared.fault.Fault.{Fault}
use Rattle.command_answers.specs.declared.fault.Fault.TheVariants.{Usage, Read, Memory}
use Rattle.command_answers.specs.declared.limit.TextLimit.{TextLimit}
use Rattle.revc_words.specs.declared.fault.WordsFault.{WordsFault}
use Rattle.revc_words.specs.declared.fault.WordsFault.TheVariants as words

abbrev pub words_fault : WordsFault → Fault
words_fault words.Usage = Usage
words_fault (words.Memory _) = Memory _

abbrev pub reading_fault : TextLimit → ReadFault → Fault
reading_fault limit reads.Failed = Read
reading_fault limit reads.TooLong = limit.fault
reading_fault limit (reads.Memory _) = Memory _
