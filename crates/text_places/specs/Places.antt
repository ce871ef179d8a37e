-- Places in a text: lines, and columns in bytes, each counted from 1.
use Rattle.std.specs.Prelude.{ℕ, ◌+◌, List, fold, if◌then◌else◌}
use Rattle.revc_base.specs.declared.place.Place.{Place}
use Rattle.text_places.specs.Bytes.{is_line_feed}

-- the place of a text's first byte
abbrev pub start : Place
start = record { line = 1; column = 1 }

-- the place behind a byte: a line feed ends its line
abbrev pub place_behind : Place → ℕ → Place
place_behind at b =
    if is_line_feed b then record { line = at.line + 1; column = 1 }
    else record { line = at.line; column = at.column + 1 }

-- the place behind bytes that begin at a place
abbrev pub place_after : Place → List ℕ → Place
place_after at bytes = fold place_behind at bytes
