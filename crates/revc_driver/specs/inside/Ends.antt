-- How a run ends, before its message is written.
use Rattle.std.specs.Prelude.{◌≡◌, ◌≢◌, ◌⊎◌, ℕ, ◌+◌, ◌<◌, ◌≤◌, Option, Some, None, IfSome, List, Result, Ok, Err, length}
use Rattle.std.specs.Io.KnownBytes.{IsAtEnd}
use Rattle.revc_io.specs.Reading.{TakesCount}
use Rattle.revc_io.specs.declared.reading.ReadFault.{ReadFault}
use Rattle.revc_io.specs.declared.reading.ReadFault.TheVariants as reads
use Rattle.command_answers.specs.Faults.{status_of}
use Rattle.command_answers.specs.declared.fault.Fault.{Fault}
use Rattle.command_answers.specs.declared.fault.Fault.TheVariants.{Usage, Read, Write, Memory}
use Rattle.command_answers.specs.declared.limit.TextLimit.{TextLimit}
use Rattle.revc_driver.specs.Commands.{Gives, IsCause, most_bytes, text_told}
use Rattle.revc_driver.specs.Top.{Device, EndsWell, Grows, GrowsByPrefix, IsCalm, IsReadWhole, IsStatusOfAll}
use Rattle.revc_driver.specs.Top.{MayEnd, ReadsFew, ReadsNothing, Rises, Run, HoldsOfOrder}
use Rattle.revc_driver.specs.inside.Mappings.{reading_fault}
use Rattle.revc_words.specs.Words.{OrderView, HasNoOrder}

-- a fault of a prepared order has its cause in the text, or is want of memory
abbrev pub IsCauseOrMemory : OrderView → List ℕ → Fault → Type 0
IsCauseOrMemory order text (Memory _) = Unit {0}
IsCauseOrMemory order text fault = IsCause order text fault

-- ---- the text

-- the text of a command was read whole, or there is none
pub record IsReadFrom (limit : Option TextLimit) (source : Device) (text : List ℕ) : Type 0 where
  pub told : IfSome (text_told limit source.old.bytes) (λ told. text ≡ told)
  pub short : length text ≤ most_bytes limit
  pub unread : limit ≡ None → source.IsUnchanged
  pub at_end : IfSome limit (λ _. IsAtEnd source.new.bytes)
  pub few : TakesCount source.old.bytes source.new.bytes (λ count. count ≤ most_bytes limit)
  pub calm : IsCalm source

-- why it was not
pub record IsUnreadFor (limit : Option TextLimit) (source : Device) (fault : Fault) : Type 0 where
  pub own : TextLimit
  pub is_own : limit ≡ Some own
  pub why : ReadFault
  pub is : fault ≡ reading_fault own why
  pub long : why ≡ reads.TooLong → IfSome source.old.bytes (λ rest. own.bytes < length rest)
  pub few : TakesCount source.old.bytes source.new.bytes (λ count. count ≤ own.bytes + 1)
  pub failed : why ≡ reads.Failed → Rises source
  pub calm : why ≢ reads.Failed → IsCalm source

-- ---- the end

-- a fault that rests on the text has its cause there; the words, the devices and memory are no
-- matter of the text
abbrev pub IsCausedBy : Fault → OrderView → List ℕ → Type 0
IsCausedBy Usage order text = Unit {0}
IsCausedBy Read order text = Unit {0}
IsCausedBy Write order text = Unit {0}
IsCausedBy (Memory _) order text = Unit {0}
IsCausedBy fault order text = IsCause order text fault

-- what holds of each end
pub record Reads (run : Run) : Type 0 where
  pub unread : ReadsNothing run.words → run.source.IsUnchanged
  pub few : ReadsFew run

pub record Succeeds (run : Run) : Type 0 where
  pub ordered : ¬ HasNoOrder run.words
  pub gives : HoldsOfOrder run (λ order text. Grows (Gives order text) run.out)
  pub may : MayEnd run.words 0
  pub exact : HoldsOfOrder run (λ order text. IsStatusOfAll order text 0)
  pub whole : HoldsOfOrder run (IsReadWhole run.source)
  pub reads : Reads run
  pub read_well : IsCalm run.source
  pub written_well : IsCalm run.out

pub record Fails (run : Run) (fault : Fault) : Type 0 where
  pub usage : fault ≡ Usage → HasNoOrder run.words
  pub no_order : HasNoOrder run.words → (fault ≡ Usage) ⊎ (fault ≡ Memory _)
  pub may : fault ≢ Usage → MayEnd run.words (status_of fault)
  pub cause : HoldsOfOrder run (IsCausedBy fault)
  pub begins : fault ≡ Write
      → HoldsOfOrder run (λ order text. GrowsByPrefix (Gives order text) run.out)
  pub silent : fault ≢ Write → run.out.IsUnchanged
  pub exact : fault ≢ Read → fault ≢ Memory _
      → HoldsOfOrder run (λ order text. IsStatusOfAll order text (status_of fault))
  pub completes : fault ≢ Read → fault ≢ Write
      → HoldsOfOrder run (λ order text. EndsWell order text (status_of fault))
  pub whole : fault ≢ Usage → fault ≢ Read → fault ≢ Memory _
      → HoldsOfOrder run (IsReadWhole run.source)
  pub reads : Reads run
  pub read_fault : fault ≡ Read → Rises run.source
  pub read_well : fault ≢ Read → IsCalm run.source
  pub write_fault : fault ≡ Write → Rises run.out
  pub written_well : fault ≢ Write → IsCalm run.out

abbrev pub Ends : {T : Type 0} → Run → Result T Fault → Type 0
Ends run (Ok x) = Succeeds run
Ends run (Err fault) = Fails run fault
