use Rattle.std.proofs.Common.{◌≡◌, ◌<◌, ℕ, eqb, get_or, length}
use Rattle.circuit_tidy.specs.inside.BitRows.{bit_at_place}
use Rattle.circuit_tidy.proofs.rows.own_words.Given as goal

abbrev pub invariant-loop-place : goal.invariant-loop-place
invariant-loop-place l =
    (length l.words.items ≡ l.place) × ((p q : ℕ) → p < l.place → q < 64 → bit_at_place q (get_or l.words.items p 0) ≡ eqb p q)
