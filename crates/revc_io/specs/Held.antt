-- What a sink says of the bytes that it took, and of those that it will take.
use Rattle.std.specs.Prelude.{◌≡◌, ℕ, ◌+◌, ◌≤◌, Bool, IsTrue, List, ◌++◌, Option, None, IfSome, length, take, Result, MatchResult}
use Rattle.std.specs.Io.KnownBytes.{Appends, Keeps}

pub record Held : Type 1 where
  -- the bytes that it took, where it tells them
  pub bytes : Option (List ℕ)
  -- it promises to take so many bytes more: no call fails before it took them
  pub promises : ℕ → Type 0
  -- whether it holds none of the bytes back, where it tells that
  pub flushed : Option Bool

-- it holds none of the bytes back, where it tells that
abbrev pub IsFlushed : Held → Type 0
IsFlushed held = IfSome held.flushed IsTrue

-- a sink that promises nothing of what it will take, and does not tell whether it holds bytes back
abbrev pub bytes_alone : Option (List ℕ) → Held
bytes_alone bytes = record { bytes = bytes; promises = λ room. ⊥; flushed = None }

-- it took these bytes; where it promised to take so many and more, it promises to take the others
pub record Took (old new : Held) (bytes : List ℕ) : Type 0 where
  pub grown : Appends old.bytes new.bytes bytes
  pub lasts : (more : ℕ) → old.promises (length bytes + more) → new.promises more

-- it took only a front of these bytes, which it may do only where it had promised no room for all
-- of them
pub record TookFront (old new : Held) (bytes : List ℕ) : Type 0 where
  pub front : List ℕ
  pub behind : List ℕ
  pub parts : bytes ≡ front ++ behind
  pub grown : Appends old.bytes new.bytes front
  pub unpromised : (room : ℕ) → length bytes ≤ room → ¬ old.promises room

-- it took nothing, and had promised no room for so many bytes
pub record TookNone (old new : Held) (count : ℕ) : Type 0 where
  pub kept : Keeps old.bytes new.bytes
  pub unpromised : (room : ℕ) → count ≤ room → ¬ old.promises room

-- it took nothing, and holds nothing back, where it tells that
pub record HandedOn (old new : Held) : Type 0 where
  pub kept : Keeps old.bytes new.bytes
  pub lasts : (more : ℕ) → old.promises more → new.promises more
  pub flushed : IsFlushed new

-- one call of `write` took as many bytes of the piece as it answers, or none
abbrev pub WritesSome : {E : Type 0} → Result ℕ E → Held → Held → List ℕ → Type 0
WritesSome result old new piece = MatchResult result
    (λ count. Took old new (take count piece)) (λ _. TookNone old new (length piece))

-- one call of `flush` handed on what was held back
abbrev pub Flushes : {T E : Type 0} → Result T E → Held → Held → Type 0
Flushes result old new = MatchResult result (λ _. HandedOn old new) (λ _. TookNone old new 0)
