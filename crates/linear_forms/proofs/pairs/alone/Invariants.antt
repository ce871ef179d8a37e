use Rattle.std.proofs.Common.{◌≡◌, ℕ, drop}
use Rattle.std.specs.Bool.{xor}
use Rattle.linear_forms.specs.Sums.{xor_by}
use Rattle.linear_forms.specs.Pairs.{alone_in, is_in}
use Rattle.linear_forms.specs.inside.Exchanged.{both_ones}
use Rattle.linear_forms.proofs.pairs.alone.Given as goal

abbrev pub invariant-loop-pair : goal.invariant-loop-pair
invariant-loop-pair l =
    ((i : ℕ) → xor (is_in l.set i) (xor_by (λ p. alone_in p i) (drop l.pair-index l.pairs)) ≡ xor_by (λ p. alone_in p i) l.pairs)
    × (xor l.one (xor_by both_ones (drop l.pair-index l.pairs)) ≡ xor_by both_ones l.pairs)
