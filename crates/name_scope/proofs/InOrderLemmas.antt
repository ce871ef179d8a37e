-- Lists whose elements are bound one after another: what was bound and what is left make the whole.
use Rattle.std.proofs.Common.{◌≡◌, ℕ, List, ◌++◌, length, take, drop}
use Rattle.revs_terms.specs.Scopes.{Scoped, scoped, and_then}

-- So many elements of a list are bound, and the others are as they were.
pub record IsBoundTo {A : Type 0} (all : List A → Scoped (List A)) (whole now : List A) (i : ℕ) : Type 0 where
  pub long : length now ≡ length whole
  pub is : all whole ≡ and_then (all (drop i now)) (λ rest. scoped (take i now ++ rest))
