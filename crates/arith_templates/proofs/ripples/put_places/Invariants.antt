use Rattle.std.proofs.Common.{◌≡◌, ℕ, ◌-◌, ◌≤◌, ◌++◌, List, string_bytes}
use Rattle.std.specs.List.{flat_map, range_with_len}
use Rattle.arith_templates.specs.Ripples.{Puts}
use Rattle.arith_templates.proofs.ripples.put_places.Given as goal

abbrev pub invariant-loop-i : goal.invariant-loop-i
invariant-loop-i g l = record {
  within : l.i - l.first ≤ l.end - l.first;
  written : (piece : ℕ → List ℕ) → Puts (λ text. string_bytes text.now) (goal.P-post g l.put) piece
      → string_bytes l.text ≡ string_bytes l.initial.text ++ flat_map piece (range_with_len l.first (l.i - l.first));
}
