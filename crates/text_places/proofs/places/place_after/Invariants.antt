use Rattle.std.proofs.Common.{◌≡◌, ◌≤◌, ◌+◌, take}
use Rattle.text_places.specs.Places.{place_after}
use Rattle.text_places.proofs.places.place_after.Given as goal

abbrev pub invariant-loop-byte : goal.invariant-loop-byte
invariant-loop-byte l =
    record {
      place : l.at ≡ place_after l.initial.at (take l.byte-index l.bytes);
      line : 1 ≤ l.at.line;
      column : 1 ≤ l.at.column;
      room : l.at.line + l.at.column ≤ l.initial.at.line + l.initial.at.column + l.byte-index;
    }
