-- A text that is written in pieces, through a buffer or past it.
use Rattle.std.proofs.Common.{◌≡◌, ℕ, ◌+◌, ◌-◌, List, [], ◌++◌, length, take, drop, refl, sym, ap, subst, ◌∙◌, append_assoc, append-nil}
use Rattle.std.proofs.Common.{arith, length-append}
use Rattle.std.proofs.lemmas.List.{take_rest, take-append-drop, nil_from_length}
use Rattle.std.proofs.KnownBytes.{Appends-nil, Appends-trans, Appends-kept}
use Rattle.std.specs.Prelude.{Result, Ok, Err, IsErrAnd}
use Rattle.revc_io.specs.Held.{Flushes, Held, Took, TookFront, TookNone}
use Rattle.revc_io.specs.Passing.{Gathered, Gathers, Sends, Writes}

-- ---- what a sink took

pub took_nothing : (old : Held) → Took old old []
took_nothing old = record { grown = Appends-nil old.bytes; lasts = λ more promised. subst old.promises (omega arith) promised }

pub took_more : {old now new : Held} {first then : List ℕ} → Took old now first → Took now new then → Took old new (first ++ then)
took_more {old} {now} {new} {first} {then} p q = record {
  grown = Appends-trans old.bytes now.bytes new.bytes first then p.grown q.grown;
  lasts = λ more promised. q.lasts more (p.lasts (length then + more) (subst old.promises (omega (arith, length-append first then)) promised));
}

-- it took a part of a text, and then a front of a part behind it
pub fell_short : {old now new : Held} {first part : List ℕ} (whole left : List ℕ) → whole ≡ first ++ (part ++ left) → Took old now first
    → TookFront now new part → TookFront old new whole
fell_short {old} {now} {new} {first} {part} whole left e p q = record {
  front = first ++ q.front;
  behind = q.behind ++ left;
  parts = e ∙ ap (λ (l : List ℕ). first ++ (l ++ left)) q.parts ∙ ap (λ (l : List ℕ). first ++ l) (append_assoc q.front q.behind left)
      ∙ sym (append_assoc first q.front (q.behind ++ left));
  grown = Appends-trans old.bytes now.bytes new.bytes first q.front p.grown q.grown;
  unpromised = λ room low promised.
      let long : length whole ≡ length first + (length part + length left) =
      omega (arith, ap length e, length-append first (part ++ left), length-append part left) in
      let same : room ≡ length first + (room - length first) = omega (arith, long, low) in
      q.unpromised (room - length first) (omega (arith, long, low)) (p.lasts (room - length first) (subst old.promises same promised));
}

-- it took a part of a text, and then nothing
pub stopped_short : {old now : Held} {first : List ℕ} (new : Held) (whole left : List ℕ) → whole ≡ first ++ left → Took old now first
    → TookNone now new (length left) → TookFront old new whole
stopped_short {old} {now} {first} new whole left e p q = record {
  front = first;
  behind = left;
  parts = e;
  grown = Appends-kept old.bytes now.bytes new.bytes first p.grown q.kept;
  unpromised = λ room low promised.
      let long : length whole ≡ length first + length left = omega (arith, ap length e, length-append first left) in
      let same : room ≡ length first + (room - length first) = omega (arith, long, low) in
      q.unpromised (room - length first) (omega (arith, long, low)) (p.lasts (room - length first) (subst old.promises same promised));
}

-- a text on its way: a front of it was sent, some of it waits in a buffer, and the rest is left to be written
pub record Underway (old now : Held) (waiting whole left : List ℕ) : Type 0 where
  pub front : List ℕ
  pub parts : whole ≡ front ++ (waiting ++ left)
  pub took : Took old now front

-- ---- regrouping

-- a piece of what is left moved on
moved : (front waiting piece left more waiting_new : List ℕ) → waiting ++ piece ≡ more ++ waiting_new
    → front ++ (waiting ++ (piece ++ left)) ≡ front ++ more ++ (waiting_new ++ left)
moved front waiting piece left more waiting_new e =
    let first : waiting ++ (piece ++ left) ≡ more ++ (waiting_new ++ left) =
    sym (append_assoc waiting piece left) ∙ ap (λ (l : List ℕ). l ++ left) e ∙ append_assoc more waiting_new left in
    ap (λ (l : List ℕ). front ++ l) first ∙ sym (append_assoc front more (waiting_new ++ left))

-- ---- a text through a buffer

-- before the first piece of a whole text, with a new buffer
pub started : (old : Held) (whole : List ℕ) → Underway old old [] whole whole
started old whole = record { front = []; parts = refl; took = took_nothing old }

-- before the first piece of a part of a text, behind what waits
pub begun : (old : Held) (waiting piece : List ℕ) → Underway old old waiting (waiting ++ piece) piece
begun old waiting piece = record { front = []; parts = refl; took = took_nothing old }

-- a piece was gathered, and more is left
pub step : {old now new : Held} {waiting waiting_new whole : List ℕ} (piece left : List ℕ) → Gathered now new waiting waiting_new piece
    → Underway old now waiting whole (piece ++ left) → Underway old new waiting_new whole left
step {waiting = waiting} {waiting_new} piece left put so_far = record {
  front = so_far.front ++ put.front;
  parts = so_far.parts ∙ moved so_far.front waiting piece left put.front waiting_new put.parts;
  took = took_more so_far.took put.took;
}

-- the last piece was gathered
pub last : {old now new : Held} {waiting waiting_new whole piece : List ℕ} → Gathered now new waiting waiting_new piece
    → Underway old now waiting whole piece → Underway old new waiting_new whole []
last {waiting} {piece = piece} put so_far =
    let padded : Underway _ _ waiting _ (piece ++ []) = record {
      front = so_far.front;
      parts = so_far.parts ∙ ap (λ (l : List ℕ). so_far.front ++ (waiting ++ l)) (sym (append-nil piece));
      took = so_far.took;
    } in
    step piece [] put padded

-- a call failed within a piece
pub failed : {old now new : Held} {waiting whole : List ℕ} (piece left : List ℕ) → TookFront now new (waiting ++ piece)
    → Underway old now waiting whole (piece ++ left) → TookFront old new whole
failed {waiting = waiting} piece left put so_far =
    fell_short _ left (so_far.parts ∙ ap (λ (l : List ℕ). so_far.front ++ l) (sym (append_assoc waiting piece left))) so_far.took put

-- a call failed within the last piece
pub last_failed : {old now new : Held} {waiting whole : List ℕ} (piece : List ℕ) → TookFront now new (waiting ++ piece)
    → Underway old now waiting whole piece → TookFront old new whole
last_failed {waiting = waiting} piece put so_far =
    fell_short _ [] (so_far.parts ∙ ap (λ (l : List ℕ). so_far.front ++ l) (sym (append-nil (waiting ++ piece)))) so_far.took put

-- all pieces of a part of a text were gathered
pub gathered : {old now : Held} {waiting waiting_new piece : List ℕ} → Underway old now waiting_new (waiting ++ piece) []
    → Gathered old now waiting waiting_new piece
gathered {waiting_new = waiting_new} so_far = record {
  front = so_far.front;
  parts = so_far.parts ∙ ap (λ (l : List ℕ). so_far.front ++ l) (append-nil waiting_new);
  took = so_far.took;
}

-- a part of a text is a whole text where nothing waited before it
pub whole_gathered : {old now : Held} {waiting_new whole : List ℕ} → Gathered old now [] waiting_new whole → Underway old now waiting_new whole []
whole_gathered {old} put = last put (started old _)

-- what waited went on, and the text is written
pub finished : {old now new : Held} {waiting whole : List ℕ} → Took now new waiting → Underway old now waiting whole [] → Took old new whole
finished {old} {now} {new} {waiting} rest so_far =
    let e : so_far.front ++ waiting ≡ _ = ap (λ (l : List ℕ). so_far.front ++ l) (sym (append-nil waiting)) ∙ sym so_far.parts in
    subst (Took old new) e (took_more so_far.took rest)

-- the finish failed
pub finish_failed : {old now new : Held} {waiting whole : List ℕ} → TookFront now new waiting → Underway old now waiting whole []
    → TookFront old new whole
finish_failed rest so_far = fell_short _ [] so_far.parts so_far.took rest

-- ---- in a loop: what is left begins with a piece, by an equation

pub step_at : {old now new : Held} {waiting waiting_new whole left : List ℕ} (piece left_new : List ℕ) → left ≡ piece ++ left_new
    → Gathered now new waiting waiting_new piece → Underway old now waiting whole left → Underway old new waiting_new whole left_new
step_at {old} {now} {waiting = waiting} {whole = whole} piece left_new e put so_far =
    step piece left_new put (subst (λ (l : List ℕ). Underway old now waiting whole l) e so_far)

pub failed_at : {old now new : Held} {waiting whole left : List ℕ} (piece left_new : List ℕ) → left ≡ piece ++ left_new
    → TookFront now new (waiting ++ piece) → Underway old now waiting whole left → TookFront old new whole
failed_at {old} {now} {waiting = waiting} {whole = whole} piece left_new e put so_far =
    failed piece left_new put (subst (λ (l : List ℕ). Underway old now waiting whole l) e so_far)

-- nothing is left
pub ended : {old now : Held} {waiting whole left : List ℕ} → left ≡ [] → Underway old now waiting whole left → Underway old now waiting whole []
ended {old} {now} {waiting} {whole} e so_far = subst (λ (l : List ℕ). Underway old now waiting whole l) e so_far

-- ---- a call of a writer whose result is returned as it is

-- the last piece of a part of a text
pub last_call : {T E : Type 0} {old now : Held} {waiting piece : List ℕ} (first whole waiting_new : List ℕ) (new : Held) (result : Result T E)
    → Gathers result now new waiting waiting_new piece → Underway old now waiting (first ++ whole) piece → Gathers result old new first waiting_new whole
last_call first whole waiting_new new (Ok x) put so_far = gathered (last put so_far)
last_call {piece = piece} first whole waiting_new new (Err e) put so_far = (last_failed piece put.0 so_far, put.1)

-- the finish
pub finish_call : {T E : Type 0} {old now : Held} {waiting whole : List ℕ} (new : Held) (result : Result T E)
    → Writes result now new waiting → Underway old now waiting whole [] → Writes result old new whole
finish_call new (Ok x) put so_far = (finished put.0 so_far, put.1)
finish_call new (Err e) put so_far = finish_failed put so_far

-- a flush behind all that waited
pub flush_call : {T E : Type 0} {old now : Held} {bytes : List ℕ} (new : Held) (result : Result T E) → Flushes result now new → Took old now bytes
    → Writes result old new bytes
flush_call {old = old} {now} {bytes} new (Ok x) flush sent = (
  record {
    grown = Appends-kept old.bytes now.bytes new.bytes bytes sent.grown flush.kept;
    lasts = λ more promised. flush.lasts more (sent.lasts more promised);
  },
  flush.flushed,
)
flush_call {bytes = bytes} new (Err e) flush sent = stopped_short new bytes [] (sym (append-nil bytes)) sent flush

-- ---- a text past the buffer

-- the sink took a front of what is left
pub went_on : {old now new : Held} {whole left : List ℕ} (count : ℕ) → Underway old now [] whole left
    → Took now new (take count left) → Underway old new [] whole (take (length left - count) (drop count left))
went_on {left = left} count so_far taken = record {
  front = so_far.front ++ take count left;
  parts = so_far.parts ∙ ap (λ (l : List ℕ). so_far.front ++ l) (sym (take-append-drop count left))
      ∙ sym (append_assoc so_far.front (take count left) (drop count left))
      ∙ ap (λ (l : List ℕ). so_far.front ++ take count left ++ l) (sym (take_rest left count));
  took = took_more so_far.took taken;
}

-- the sink took all that is left
pub arrived_with : {old now new : Held} {whole : List ℕ} (left : List ℕ) → Underway old now [] whole left → Took now new left → Took old new whole
arrived_with {old} {new = new} left so_far taken = subst (Took old new) (sym so_far.parts) (took_more so_far.took taken)

-- nothing is left
pub arrived : {old now : Held} {whole left : List ℕ} → Underway old now [] whole left → length left ≡ 0 → Took old now whole
arrived {old} {now} {whole} {left} so_far none =
    let e : so_far.front ≡ whole = sym (append-nil so_far.front) ∙ ap (λ (l : List ℕ). so_far.front ++ l) (sym (nil_from_length left none))
    ∙ sym so_far.parts in
    subst (Took old now) e so_far.took

-- a call failed and took nothing
pub stopped : {old now : Held} {whole left : List ℕ} (new : Held) → Underway old now [] whole left → TookNone now new (length left)
    → TookFront old new whole
stopped {left = left} new so_far none = stopped_short new _ left so_far.parts so_far.took none

-- what waited went on with the first part of a piece, and then the rest of the piece past the buffer
pub passed_on : {T E : Type 0} {old now : Held} {waiting_new rest : List ℕ} (waiting piece : List ℕ) (new : Held) (result : Result T E)
    → waiting_new ≡ []
    → Underway old now [] (waiting ++ piece) rest → Sends result now new rest → Gathers result old new waiting waiting_new piece
passed_on {waiting_new = waiting_new} {rest} waiting piece new (Ok x) none so_far put = record {
  front = waiting ++ piece;
  parts = sym (append-nil (waiting ++ piece)) ∙ ap (λ (l : List ℕ). waiting ++ piece ++ l) (sym none);
  took = arrived_with rest so_far put;
}
passed_on {rest = rest} waiting piece new (Err e) none so_far put = (last_failed rest put so_far, none)

-- the first part of a piece is behind what waited, and the rest of the piece is left
pub halfway : {old now : Held} {rest piece sent : List ℕ} (waiting first : List ℕ) → sent ≡ waiting ++ first → piece ≡ first ++ rest
    → Took old now sent → Underway old now [] (waiting ++ piece) rest
halfway {rest = rest} {sent = sent} waiting first e cut taken = record {
  front = sent;
  parts = ap (λ (l : List ℕ). waiting ++ l) cut ∙ sym (append_assoc waiting first rest) ∙ ap (λ (l : List ℕ). l ++ rest) (sym e);
  took = taken;
}

-- the same front, of more bytes
pub front_of_more : {old new : Held} {piece sent : List ℕ} (waiting first rest : List ℕ) → sent ≡ waiting ++ first → piece ≡ first ++ rest
    → TookFront old new sent → TookFront old new (waiting ++ piece)
front_of_more {old} {piece = piece} {sent} waiting first rest e cut put =
    let parts : waiting ++ piece ≡ [] ++ (sent ++ rest) =
    ap (λ (l : List ℕ). waiting ++ l) cut ∙ sym (append_assoc waiting first rest) ∙ ap (λ (l : List ℕ). l ++ rest) (sym e) in
    fell_short _ rest parts (took_nothing old) put

-- ---- at the exit of a `?`

pub gathers_fault : {T E : Type 0} {old new : Held} {waiting_new : List ℕ} (waiting piece : List ℕ) (Q : E → Type 0) (result : Result T E)
    → IsErrAnd result Q
    → TookFront old new (waiting ++ piece) → waiting_new ≡ [] → Gathers result old new waiting waiting_new piece
gathers_fault waiting piece Q (Ok x) h put none = absurd h
gathers_fault waiting piece Q (Err e) h put none = (put, none)

pub writes_fault : {T E : Type 0} {old new : Held} {bytes : List ℕ} (Q : E → Type 0) (result : Result T E) → IsErrAnd result Q
    → TookFront old new bytes → Writes result old new bytes
writes_fault Q (Ok x) h put = absurd h
writes_fault Q (Err e) h put = put

pub sends_fault : {T E : Type 0} {old new : Held} {bytes : List ℕ} (Q : E → Type 0) (result : Result T E) → IsErrAnd result Q
    → TookFront old new bytes → Sends result old new bytes
sends_fault Q (Ok x) h put = absurd h
sends_fault Q (Err e) h put = put

-- a call failed within a piece of a part of a text
pub failed_call : {T E : Type 0} {old now new : Held} {waiting waiting_new : List ℕ} (first whole piece left : List ℕ) (Q : E → Type 0)
    (result : Result T E)
    → IsErrAnd result Q → TookFront now new (waiting ++ piece) × (waiting_new ≡ []) → Underway old now waiting (first ++ whole) (piece ++ left)
    → Gathers result old new first waiting_new whole
failed_call first whole piece left Q result h put so_far = gathers_fault first whole Q result h (failed piece left put.0 so_far) put.1

pub ruleset writing = (started, went_on, arrived, stopped)

pub ruleset gathering = (begun, step, failed, last_failed, last_call, failed_call, whole_gathered, finish_call)
