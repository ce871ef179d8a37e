-- What calls in a row do to a sink.
use Rattle.std.specs.Prelude.{◌≡◌, ℕ, List, [], ◌++◌, Result, MatchResult}
use Rattle.revc_io.specs.Held.{Held, IsFlushed, Took, TookFront}

-- these bytes were sent to a sink: all of them at `Ok`, a front of them at `Err`
abbrev pub Sends : {T E : Type 0} → Result T E → Held → Held → List ℕ → Type 0
Sends result old new bytes = MatchResult result
    (λ _. Took old new bytes) (λ _. TookFront old new bytes)

-- a writer of these bytes: they were sent, and at `Ok` none of them is held back, where the sink
-- tells that
abbrev pub Writes : {T E : Type 0} → Result T E → Held → Held → List ℕ → Type 0
Writes result old new bytes = MatchResult result
    (λ _. Took old new bytes × IsFlushed new) (λ _. TookFront old new bytes)

-- the bytes that waited, and then the piece: some went on to the sink, and the others wait behind
-- them
pub record Gathered (old new : Held) (waiting_old waiting_new piece : List ℕ) : Type 0 where
  pub front : List ℕ
  pub parts : waiting_old ++ piece ≡ front ++ waiting_new
  pub took : Took old new front

-- a writer of this piece through a buffer: the piece was gathered at `Ok`; at `Err` a front of what
-- waited and the piece was sent, and nothing waits
abbrev pub Gathers : {T E : Type 0} → Result T E → Held → Held → List ℕ → List ℕ → List ℕ → Type 0
Gathers result old new waiting_old waiting_new piece =
    MatchResult result (λ _. Gathered old new waiting_old waiting_new piece)
    (λ _. TookFront old new (waiting_old ++ piece) × (waiting_new ≡ []))
