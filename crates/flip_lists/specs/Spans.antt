-- Where a walk need not look again.
use Rattle.std.specs.Prelude.{◌≡◌, ℕ, ◌+◌, ◌-◌, ◌^◌, ◌<◌, ◌≤◌, ◌==◌, nat_lt, if◌then◌else◌, min, Option, Some, None, IfSome, List, ◌++◌, length, map, slice_get}
use Rattle.std.specs.List.{AllByRecursion}
use Rattle.flip_lists.specs.declared.spans.Span.{Span}

abbrev pub end_of : Option Span → ℕ
end_of None = 0
end_of (Some span) = span.end

-- the nearest one
abbrev pub nearest : List Span → Option Span
nearest spans = slice_get spans (length spans - 1)

-- the end of the nearest one, or 0
abbrev pub last_end : List Span → ℕ
last_end spans = end_of (nearest spans)

-- the nearest one, if it does not end before the place
abbrev pub nearest_from : ℕ → List Span → Option Span
nearest_from place spans = if nat_lt (last_end spans) place then None else nearest spans

-- how long a span is that begins at the place, or 0
abbrev pub length_from : ℕ → Option Span → ℕ
length_from place None = 0
length_from place (Some span) = if span.start == place then span.end - span.start else 0

-- the spans are a front, whose nearest one does not meet the fact, and an end, of which all do
pub record IsCut (P : Span → Type 0) (spans front end : List Span) : Type 0 where
  pub cut : spans ≡ front ++ end
  pub stays : IfSome (nearest front) (λ span. ¬ P span)
  pub meet : AllByRecursion P end

-- the longest end goes of which each span begins before the place
pub record DropsBefore (place : ℕ) (old new : List Span) : Type 0 where
  pub gone : List Span
  pub cut : IsCut (λ span. span.start < place) old new gone

-- the longest end changes of which each span meets the fact
pub record Changes (P : Span → Type 0) (change : Span → Span) (old new : List Span) : Type 0 where
  pub front : List Span
  pub end : List Span
  pub cut : IsCut P old front end
  pub changed : new ≡ front ++ map change end

-- the flip at a place went out: a span behind it comes nearer by one, and another one is emptied
abbrev pub closed : ℕ → Span → Span
closed place span =
    if nat_lt place span.start then record { start = span.start - 1; end = span.end - 1 }
    else record { start = span.start; end = span.start }

-- the same of spans ahead: one before it comes nearer by one, and another one is emptied
abbrev pub opened : ℕ → Span → Span
opened place span =
    if nat_lt span.end place
    then record { start = min (span.start + 1) (2 ^ 64 - 1); end = min (span.end + 1) (2 ^ 64 - 1) }
    else record { start = span.start; end = span.start }

-- the spans up to the first that does not reach the place are closed
abbrev pub IsClosed : ℕ → List Span → List Span → Type 0
IsClosed place = Changes (λ span. place ≤ span.end) (closed place)

-- the spans ahead, up to the first that begins behind the place, are opened
abbrev pub IsOpened : ℕ → List Span → List Span → Type 0
IsOpened place = Changes (λ span. span.start ≤ place) (opened place)
