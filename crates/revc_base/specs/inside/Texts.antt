-- Where the bytes of a text stand.
use Rattle.std.specs.Prelude.{ℕ, ◌≤◌, ◌<◌, List, take, length}
use Rattle.revc_base.specs.declared.text.Kept.{Kept}
use Rattle.revc_base.specs.declared.text.Kept.TheVariants as kept
use Rattle.revc_base.specs.declared.text.TheConstants.{MOST_IN_PLACE}

-- the bytes of the text
abbrev pub bytes_of : Kept → List ℕ
bytes_of (kept.InPlace len bytes) = take len bytes
bytes_of (kept.InMemory bytes) = bytes.value.items

-- those in place have room there
abbrev pub HasRoom : Kept → Type 0
HasRoom (kept.InPlace len bytes) = len ≤ MOST_IN_PLACE
HasRoom (kept.InMemory bytes) = MOST_IN_PLACE < length bytes.value.items
