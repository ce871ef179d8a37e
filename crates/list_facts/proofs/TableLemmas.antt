-- Functions of a few bits whose tables are the same are the same: the tables are computed.
use Rattle.std.proofs.Common.{◌≡◌, ℕ, ◌==◌, Bool, true, false, ◌&&◌, refl, sym}
use Rattle.std.proofs.lemmas.Bool.{false≢true, eqb-true}

abbrev is_bit : Bool → Bool → Bool
is_bit true b = b
is_bit false true = false
is_bit false false = true

bit_is : (a b : Bool) → is_bit a b ≡ true → a ≡ b
bit_is true b e = sym e
bit_is false true e = e
bit_is false false e = refl

both_rows : (a b : Bool) → (a && b) ≡ true → (a ≡ true) × (b ≡ true)
both_rows true b e = (refl, e)
both_rows false b e = absurd (false≢true e)

abbrev pub same_table_1 : (f g : Bool → Bool) → Bool
same_table_1 f g = is_bit (f true) (g true) && is_bit (f false) (g false)

abbrev pub same_table_2 : (f g : Bool → Bool → Bool) → Bool
same_table_2 f g = same_table_1 (f true) (g true) && same_table_1 (f false) (g false)

abbrev pub same_table_3 : (f g : Bool → Bool → Bool → Bool) → Bool
same_table_3 f g = same_table_2 (f true) (g true) && same_table_2 (f false) (g false)

abbrev pub same_table_4 : (f g : Bool → Bool → Bool → Bool → Bool) → Bool
same_table_4 f g = same_table_3 (f true) (g true) && same_table_3 (f false) (g false)

pub of_one_bit : (f g : Bool → Bool) → same_table_1 f g ≡ true → (a : Bool) → f a ≡ g a
of_one_bit f g e true = bit_is (f true) (g true) (both_rows _ _ e).0
of_one_bit f g e false = bit_is (f false) (g false) (both_rows _ _ e).1

pub of_two_bits : (f g : Bool → Bool → Bool) → same_table_2 f g ≡ true → (a b : Bool) → f a b ≡ g a b
of_two_bits f g e true b = of_one_bit (f true) (g true) (both_rows _ _ e).0 b
of_two_bits f g e false b = of_one_bit (f false) (g false) (both_rows _ _ e).1 b

pub of_three_bits : (f g : Bool → Bool → Bool → Bool) → same_table_3 f g ≡ true → (a b c : Bool) → f a b c ≡ g a b c
of_three_bits f g e true b c = of_two_bits (f true) (g true) (both_rows _ _ e).0 b c
of_three_bits f g e false b c = of_two_bits (f false) (g false) (both_rows _ _ e).1 b c

pub of_four_bits : (f g : Bool → Bool → Bool → Bool → Bool) → same_table_4 f g ≡ true → (a b c d : Bool) → f a b c d ≡ g a b c d
of_four_bits f g e true b c d = of_three_bits (f true) (g true) (both_rows _ _ e).0 b c d
of_four_bits f g e false b c d = of_three_bits (f false) (g false) (both_rows _ _ e).1 b c d

-- ---- numbers

pub number_of_two_bits : (f g : Bool → Bool → ℕ) → same_table_2 (λ a b. f a b == g a b) (λ a b. true) ≡ true → (a b : Bool) → f a b ≡ g a b
number_of_two_bits f g e a b = eqb-true (f a b) (g a b) (of_two_bits (λ a b. f a b == g a b) (λ a b. true) e a b)

pub number_of_three_bits : (f g : Bool → Bool → Bool → ℕ) → same_table_3 (λ a b c. f a b c == g a b c) (λ a b c. true) ≡ true
    → (a b c : Bool) → f a b c ≡ g a b c
number_of_three_bits f g e a b c = eqb-true (f a b c) (g a b c) (of_three_bits (λ a b c. f a b c == g a b c) (λ a b c. true) e a b c)
