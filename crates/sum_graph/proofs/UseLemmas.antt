-- How often nodes stand in lists of uses.
use Rattle.std.proofs.Common.{◌≡◌, ℕ, ◌+◌, ◌≤◌, cond, List, [], ◌∷◌, ◌++◌, refl, ap, arith}
use Rattle.std.proofs.lemmas.Bool.{eq-eqb}
use Rattle.sum_graph.specs.Lone.{times_in}

pub times-append : (k : ℕ) (xs ys : List ℕ) → times_in k (xs ++ ys) ≡ times_in k xs + times_in k ys
times-append k [] ys = omega arith
times-append k (x ∷ xs) ys = omega (arith, times-append k xs ys)

pub times_behind : (k : ℕ) (xs ys : List ℕ) → times_in k ys ≤ times_in k (xs ++ ys)
times_behind k xs ys = omega (arith, times-append k xs ys)

pub times_first : (k : ℕ) (xs : List ℕ) → times_in k (k ∷ xs) ≡ 1 + times_in k xs
times_first k xs = ap (λ b. cond b 1 0 + times_in k xs) (eq-eqb k k refl)
