-- The place behind bytes, piece by piece.
use Rattle.std.proofs.Common.{◌≡◌, ℕ, List, ◌++◌, take, drop, sym, ap, ◌∙◌}
use Rattle.std.proofs.lemmas.List.{take-append-drop}
use Rattle.std.proofs.lemmas.List.Sums.{fold-append}
use Rattle.revc_base.specs.declared.place.Place.{Place}
use Rattle.text_places.specs.Places.{place_behind, place_after}

pub place_after-append : (at : Place) (front behind : List ℕ) → place_after at (front ++ behind) ≡ place_after (place_after at front) behind
place_after-append at front behind = fold-append place_behind at front behind

-- the place of the end, past a piece
pub place_past : (at : Place) (text : List ℕ) (len : ℕ) → place_after (place_after at (take len text)) (drop len text) ≡ place_after at text
place_past at text len = sym (place_after-append at (take len text) (drop len text)) ∙ ap (place_after at) (take-append-drop len text)
