-- Exclusive sums of atoms and of a constant: what they are where each atom has a bit.
use Rattle.std.specs.Prelude.{◌≡◌, ℕ, ◌+◌, ◌*◌, Bool, false, ◌&&◌, List}
use Rattle.std.specs.Bool.{xor}
use Rattle.std.specs.declared.cmp.Ordering.{Ordering}
use Rattle.std.specs.declared.cmp.Ordering.TheVariants.{Less, Equal, Greater}
use Rattle.linear_forms.specs.Sums.{xor_below, xor_by}
use Rattle.linear_forms.specs.Pairs.{is_in}
use Rattle.linear_forms.specs.declared.form.Term.{Term}

-- ---- values

-- the sum of the atoms of a word at a place: its bit b is atom 64 place + b
unfoldable pub word_value : (ℕ → Bool) → ℕ → ℕ → Bool
word_value atom place word = xor_below 64 (λ b. is_in word b && atom (64 * place + b))

abbrev pub term_value : (ℕ → Bool) → Term → Bool
term_value atom t = word_value atom t.place t.word

unfoldable pub terms_value : (ℕ → Bool) → List Term → Bool
terms_value atom terms = xor_by (term_value atom) terms

pub record FormView : Type 0 where
  pub one : Bool
  pub terms : List Term

unfoldable pub form_value : (ℕ → Bool) → FormView → Bool
form_value atom f = xor f.one (terms_value atom f.terms)

-- ---- sums, whatever the atoms are

abbrev pub IsConstant : Bool → FormView → Type 0
IsConstant one f = (atom : ℕ → Bool) → form_value atom f ≡ one

abbrev pub IsAtom : ℕ → FormView → Type 0
IsAtom number f = (atom : ℕ → Bool) → form_value atom f ≡ atom number

abbrev pub IsSum : FormView → FormView → FormView → Type 0
IsSum f g sum =
    (atom : ℕ → Bool) → form_value atom sum ≡ xor (form_value atom f) (form_value atom g)

abbrev pub AreSum : List Term → List Term → List Term → Type 0
AreSum left right sum =
    (atom : ℕ → Bool) → terms_value atom sum
    ≡ xor (terms_value atom left) (terms_value atom right)

-- of two terms the lesser one, and both where they tie
abbrev pub taken_value : (ℕ → Bool) → Term → Term → Ordering → Bool
taken_value atom x y Less = term_value atom x
taken_value atom x y Equal = xor (term_value atom x) (term_value atom y)
taken_value atom x y Greater = term_value atom y

-- these are added to a sum
abbrev pub AreTaken : List Term → List Term → Term → Term → Ordering → Type 0
AreTaken old now x y order =
    (atom : ℕ → Bool) → terms_value atom now
    ≡ xor (terms_value atom old) (taken_value atom x y order)
