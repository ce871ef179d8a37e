-- Names that a text lends.
use Rattle.std.specs.Prelude.{ℕ, ◌≤◌, Bool, List, length, map}
use Rattle.std.specs.Borrow.{Bor}
use Rattle.std.specs.List.{list_any}
use Rattle.std.specs.Str.{bytes_eq}
use Rattle.revc_base.specs.declared.limits.TheConstants.{MOST_NAME_BYTES}

-- the bytes of each
abbrev pub names_in : List (Bor (List ℕ)) → List (List ℕ)
names_in keys = map (λ (key : Bor (List ℕ)). key.now) keys

abbrev pub has_word : List (List ℕ) → List ℕ → Bool
has_word names word = list_any (bytes_eq word) names

-- a name that can be copied: 1 to 64 bytes
abbrev pub IsText : List ℕ → Type 0
IsText name = (1 ≤ length name) × (length name ≤ MOST_NAME_BYTES)
