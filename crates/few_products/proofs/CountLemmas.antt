-- How many products there are, sum by sum.
use Rattle.std.proofs.Common.{◌≡◌, ℕ, ◌+◌, ◌≤◌, List, [], ◌∷◌, ◌++◌, length, take, slice_get, Some}
use Rattle.std.proofs.Common.{ap, ◌∙◌, arith}
use Rattle.std.proofs.lemmas.List.{take_all}
use Rattle.std.proofs.lemmas.List.Sums.{sum_by-append, sum_by-cons}
use Rattle.bit_sums.specs.Sums.{SumView}
use Rattle.sum_graph.specs.Graphs.{products_in}
use Rattle.sum_graph.proofs.WalkLemmas.{take_next}

pub none_counted : (sums : List SumView) (count : ℕ) → count ≡ 0 → count ≡ products_in (take 0 sums)
none_counted sums count is = is

pub one_counted : (sums : List SumView) (k : ℕ) (s : SumView) (old new more : ℕ) → slice_get sums k ≡ Some s → old ≡ products_in (take k sums)
    → more ≡ length s.products → new ≡ old + more → new ≡ products_in (take (k + 1) sums)
one_counted sums k s old new more e before at is =
    let size = λ (t : SumView). length t.products in
    let both : products_in (take k sums ++ s ∷ []) ≡ products_in (take k sums) + products_in (s ∷ []) = sum_by-append size (take k sums) (s ∷ []) in
    let last : products_in (s ∷ []) ≡ length s.products + 0 = sum_by-cons size s [] in
    rw (take_next sums k s e) (omega (arith, before, at, is, both, last))

pub all_counted : (sums : List SumView) (k count : ℕ) → length sums ≤ k → count ≡ products_in (take k sums) → count ≡ products_in sums
all_counted sums k count end is = is ∙ ap products_in (take_all k sums end)
