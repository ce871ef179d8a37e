-- Bits that count only where the input is looked at.
use Rattle.std.proofs.Common.{◌≡◌, ℕ, zero, suc, Bool, true, false, ◌&&◌, List, [], ◌∷◌, map, refl, ap, ap₂, ◌∙◌}
use Rattle.list_facts.specs.Bits.{bit_of}
use Rattle.circuit_verify.specs.Comparisons.{Comparison, looked_on}
use Rattle.circuit_verify.specs.inside.Numbers.{where_looked}

pub always : (b : Bool) → (b && true) ≡ b
always true = refl
always false = refl

pub bit_looked : (q : Comparison) (bits xs : List Bool) (i : ℕ) → bit_of (map (where_looked q bits) xs) i ≡ where_looked q bits (bit_of xs i)
bit_looked q bits [] i = refl
bit_looked q bits (x ∷ xs) zero = refl
bit_looked q bits (x ∷ xs) (suc i) = bit_looked q bits xs i

pub all_looked : (q : Comparison) (bits xs : List Bool) → looked_on q bits ≡ true → map (where_looked q bits) xs ≡ xs
all_looked q bits [] is = refl
all_looked q bits (x ∷ xs) is = ap₂ ◌∷◌ (ap (λ l. x && l) is ∙ always x) (all_looked q bits xs is)
