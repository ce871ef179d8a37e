-- What reading a whole text does to the bytes that a source still has to give, where it tells them.
use Rattle.std.specs.Prelude.{◌≡◌, ℕ, ◌+◌, ◌<◌, ◌≤◌, List, length, Option, IfSome, Result, IfErr, OnOk}
use Rattle.std.specs.Io.KnownBytes.{Consumes, IsAtEnd}
use Rattle.revc_io.specs.Faults.{Rose}
use Rattle.revc_io.specs.declared.reading.ReadFault.{ReadFault}
use Rattle.revc_io.specs.declared.reading.ReadFault.TheVariants.{Failed, TooLong, Memory}

-- some bytes were taken from the front of the rest, and their number has this property
abbrev pub TakesCount : Option (List ℕ) → Option (List ℕ) → (ℕ → Type 0) → Type 0
TakesCount old new P = (taken : List ℕ) × Consumes old new taken × P (length taken)

-- how many bytes were taken at each refusal: one more than the limit at `TooLong`, at most the
-- limit at each other
abbrev pub TakenAt : ReadFault → ℕ → ℕ → Type 0
TakenAt TooLong limit count = count ≡ limit + 1
TakenAt Failed limit count = count ≤ limit
TakenAt (Memory _) limit count = count ≤ limit

-- the count of faults at each refusal: it rose where the source failed, and stays at each other
abbrev pub CountsAt : ReadFault → ℕ → ℕ → Type 0
CountsAt Failed before now = Rose before now
CountsAt TooLong before now = now ≡ before
CountsAt (Memory _) before now = now ≡ before

-- all bytes of the rest were taken, to its end, and they are within the limit
pub record ReadsAll (old new : Option (List ℕ)) (limit : ℕ) (all : List ℕ) : Type 0 where
  pub taken : Consumes old new all
  pub at_end : IsAtEnd new
  pub text : IfSome old (λ rest. all ≡ rest)
  pub fits : length all ≤ limit

-- reading stopped at this fault: so many bytes were taken, and it is too long only where the rest
-- is
pub record StopsAt (old new : Option (List ℕ)) (limit : ℕ) (fault : ReadFault) : Type 0 where
  pub taken : TakesCount old new (TakenAt fault limit)
  pub too_long : fault ≡ TooLong → IfSome old (λ rest. limit < length rest)

-- the count of faults never falls, it stays where the whole rest was read, and is that of the fault
-- where it was not
pub record CountsFault {T : Type 0} (before now : ℕ) (result : Result T ReadFault) : Type 0 where
  pub later : before ≤ now
  pub stays : OnOk result (now ≡ before)
  pub at_fault : IfErr result (λ fault. CountsAt fault before now)
