use Rattle.std.proofs.Common.{◌≡◌, ℕ, drop}
use Rattle.std.specs.Bool.{xor}
use Rattle.linear_forms.specs.Sums.{xor_by}
use Rattle.linear_forms.specs.Pairs.{is_in}
use Rattle.linear_forms.specs.inside.Exchanged.{exchanged_in}
use Rattle.linear_forms.proofs.pairs.exchanged.Given as goal

abbrev pub invariant-loop-pair : goal.invariant-loop-pair
invariant-loop-pair l =
    (j : ℕ) → xor (is_in l.row j) (xor_by (λ p. exchanged_in l.fn.place p j) (drop l.pair-index l.pairs))
    ≡ xor_by (λ p. exchanged_in l.fn.place p j) l.pairs
