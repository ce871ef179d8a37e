-- Lists of bits.
use Rattle.std.specs.Prelude.{◌≡◌, ℕ, ◌⊎◌, Bool, true, false, List, length, replicate, slice_index_or}

-- the bit at a place of a list; past its end it is false
abbrev pub bit_of : List Bool → ℕ → Bool
bit_of bits place = slice_index_or bits place false

-- so many bits that are all false
abbrev pub zeros : ℕ → List Bool
zeros count = replicate count false

-- a test holds of all lists of n bits, or fails at one of them
abbrev pub IsSettled : ℕ → (List Bool → Bool) → Type 0
IsSettled n test =
    ((bits : List Bool) → length bits ≡ n → test bits ≡ true)
    ⊎ ((bits : List Bool) × (length bits ≡ n) × (test bits ≡ false))

-- the law of the finite search
abbrev pub EachTestIsSettled : Type 0
EachTestIsSettled = (n : ℕ) (test : List Bool → Bool) → IsSettled n test
