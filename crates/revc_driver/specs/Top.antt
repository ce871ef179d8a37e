-- What the top call answers, and what it leaves.
use Rattle.std.specs.Prelude.{◌≡◌, ◌≢◌, ℕ, ◌+◌, ◌≤◌, Option, None, IfSome, List, ◌⊎◌, Contains, length}
use Rattle.std.specs.Io.KnownBytes.{IsAtEnd}
use Rattle.revc_io.specs.Faults.{Rose}
use Rattle.revc_io.specs.Held.{Held, IsFlushed, Took, TookFront, bytes_alone}
use Rattle.revc_io.specs.Reading.{TakesCount}
use Rattle.command_answers.specs.declared.fault.Fault.{Fault}
use Rattle.command_answers.specs.declared.limit.TextLimit.{TextLimit}
use Rattle.command_answers.specs.Faults.{Receives, status_of, line_of}
use Rattle.revc_driver.specs.Commands.{Gives, IsCause, Serves, promise_of, reads_of, statuses_of, text_told}
use Rattle.revc_words.specs.Words.{OrderView, HasNoOrder, IsOrder}

-- ---- a run

-- a source or a sink before a run and behind it: what it says, its count of faults, and that it is
-- as it was
pub record Device : Type 1 where
  pub old : Held
  pub new : Held
  pub before : ℕ
  pub now : ℕ
  pub IsUnchanged : Type 0

-- a sink
abbrev pub device : {T : Type 0} → (T → Held) → (T → ℕ) → (old new : T) → Device
device held faults old new = record {
  old = held old;
  new = held new;
  before = faults old;
  now = faults new;
  IsUnchanged = new ≡ old;
}

-- a source, which says at most what bytes are left
abbrev pub source_device : {T : Type 0} → (T → Option (List ℕ)) → (T → ℕ) → (old new : T) → Device
source_device rest faults = device (λ source. bytes_alone (rest source)) faults

-- its count of faults rose
abbrev pub Rises : Device → Type 0
Rises device = Rose device.before device.now

-- its count of faults stayed
abbrev pub IsCalm : Device → Type 0
IsCalm device = device.now ≡ device.before

pub record Run : Type 1 where
  pub words : List (List ℕ)
  pub source : Device
  pub out : Device

abbrev pub run_of : List (List ℕ) → Device → Device → Run
run_of words source out = record { words = words; source = source; out = out }

-- this holds of the order that the words give and of its text, where the source tells it
pub record HoldsOfOrder (run : Run) (P : OrderView → List ℕ → Type 0) : Type 0 where
  pub each : (order : OrderView) → IsOrder run.words order
      → IfSome (text_told (reads_of order) run.source.old.bytes) (P order)

-- ---- what is written

-- the bytes that a sink took have this property, and it holds none of them back, where it tells
-- that
pub record Grows (P : List ℕ → Type 0) (out : Device) : Type 0 where
  pub bytes : List ℕ
  pub is : P bytes
  pub took : Took out.old out.new bytes
  pub flushed : IsFlushed out.new

-- the bytes that a sink took are a prefix of some that have this property, for which it had
-- promised no room
pub record GrowsByPrefix (P : List ℕ → Type 0) (out : Device) : Type 0 where
  pub bytes : List ℕ
  pub is : P bytes
  pub took : TookFront out.old out.new bytes

-- the sink promises to take whatever has this property
pub record IsSureOf (P : List ℕ → Type 0) (out : Device) : Type 0 where
  pub each : (bytes : List ℕ) → P bytes → out.old.promises (length bytes)

-- the sink received the line of a fault with this status
pub record Reports (status : ℕ) (err : Device) : Type 0 where
  pub fault : Fault
  pub caused : status ≡ status_of fault
  pub line : Receives err.old err.new err.before err.now (line_of fault)

-- ---- the causes of a status

-- the status is one of those with which the command may end
pub record MayEnd (words : List (List ℕ)) (status : ℕ) : Type 0 where
  pub each : (order : OrderView) → IsOrder words order
      → Contains (statuses_of (promise_of order.command)) status

-- the status says neither success nor a fault of the words, of a device or of memory
pub record RestsOnText (status : ℕ) : Type 0 where
  pub no_success : status ≢ 0
  pub no_words : status ≢ 2
  pub no_read : status ≢ 9
  pub no_write : status ≢ 10
  pub no_memory : status ≢ 11

-- the status is that of a fault that the text lets the order end with, and the sink received the
-- line of this fault
pub record Stopped (order : OrderView) (text : List ℕ) (status : ℕ) (err : Device) : Type 0 where
  pub fault : Fault
  pub cause : IsCause order text fault
  pub caused : status ≡ status_of fault
  pub line : Receives err.old err.new err.before err.now (line_of fault)

-- the status is that of a fault that the text lets the order end with, and that may come in place
-- of an exact one
pub record IsPreceded (order : OrderView) (text : List ℕ) (status : ℕ) : Type 0 where
  pub fault : Fault
  pub may : (promise_of order.command).MayPrecede fault
  pub cause : IsCause order text fault
  pub caused : status ≡ status_of fault

-- each exact fault that the text lets the order end with has this status, unless another may come
-- in its place
pub record IsStatusOfAll (order : OrderView) (text : List ℕ) (status : ℕ) : Type 0 where
  pub each : (fault : Fault) → (promise_of order.command).IsExact fault
      → IsCause order text fault → (status ≡ status_of fault) ⊎ IsPreceded order text status

-- success, or want of memory, where the order serves the text
pub record EndsWell (order : OrderView) (text : List ℕ) (status : ℕ) : Type 0 where
  pub end : Serves order text → (status ≡ 0) ⊎ (status ≡ 11)

-- ---- what is read

-- no order of the words reads the source
pub record ReadsNothing (words : List (List ℕ)) : Type 0 where
  pub each : (order : OrderView) → IsOrder words order → reads_of order ≡ None

-- at most one byte past the limit of the command was taken
pub record ReadsFew (run : Run) : Type 0 where
  pub each : (order : OrderView) → IsOrder run.words order
      → IfSome (reads_of order) (λ (limit : TextLimit).
      TakesCount run.source.old.bytes run.source.new.bytes (λ count. count ≤ limit.bytes + 1))

-- a source that is read, and that told a text within the command's limit, is at its end
abbrev pub IsReadWhole : Device → OrderView → List ℕ → Type 0
IsReadWhole source order text = IfSome (reads_of order) (λ (limit : TextLimit).
    length text ≤ limit.bytes → IsAtEnd source.new.bytes)

-- ---- the answer

-- what the status says of a run, and of the sink of its message
pub record Answers (run : Run) (err : Device) (status : ℕ) : Type 0 where
  -- at 0 what the order gives for the text was written and flushed, at 10 a prefix of it, and else
  -- nothing
  pub gives : status ≡ 0 → HoldsOfOrder run (λ order text. Grows (Gives order text) run.out)
  pub begins : status ≡ 10
      → HoldsOfOrder run (λ order text. GrowsByPrefix (Gives order text) run.out)
  pub silent : status ≢ 0 → status ≢ 10 → run.out.IsUnchanged
  -- 2 comes exactly where the words give no order, unless memory is wanting; else the status is one
  -- of the command's
  pub usage : status ≡ 2 → HasNoOrder run.words
  pub no_order : HasNoOrder run.words → (status ≡ 2) ⊎ (status ≡ 11)
  pub statuses : status ≢ 2 → MayEnd run.words status
  -- a status that rests on the text has its cause there, and its line was written
  pub stops : RestsOnText status → HoldsOfOrder run (λ order text. Stopped order text status err)
  -- where an exact cause holds, its status comes, unless a device or memory is wanting
  pub exact : status ≢ 9 → status ≢ 11
      → HoldsOfOrder run (λ order text. IsStatusOfAll order text status)
  -- where the order serves, success comes, unless a device or memory is wanting
  pub completes : ¬ Rises run.source → ¬ Rises run.out
      → HoldsOfOrder run (λ order text. EndsWell order text status)
  -- so it does where the source does not fail, and the sink promises to take what the order gives
  pub surely : ¬ Rises run.source → HoldsOfOrder run (λ order text.
      IsSureOf (Gives order text) run.out → EndsWell order text status)
  -- 9 comes only where the source failed, and 10 only where the sink did; at each other status it
  -- did not
  pub read_fault : status ≡ 9 → Rises run.source
  pub read_well : status ≢ 9 → IsCalm run.source
  pub write_fault : status ≡ 10 → Rises run.out
  pub written_well : status ≢ 10 → IsCalm run.out
  -- the line of a fault with the status was written, and nothing at 0
  pub message : status ≢ 0 → Reports status err
  pub quiet : status ≡ 0 → err.IsUnchanged
  -- where no order of the words reads the source, it is as it was
  pub unread : ReadsNothing run.words → run.source.IsUnchanged
  -- a text within the limit is read to its end before all else, and no more than one byte past the
  -- limit
  pub read_whole : status ≢ 2 → status ≢ 9 → status ≢ 11
      → HoldsOfOrder run (IsReadWhole run.source)
  pub reads_few : ReadsFew run
