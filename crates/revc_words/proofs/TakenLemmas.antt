-- What a command takes its positional words for: bits, a number, or a kind with its factor and a number.
use Rattle.std.proofs.Common.{◌≤◌, arith, ◌≡◌, ℕ, true, false, List, [], ◌∷◌, length, Option}
use Rattle.std.proofs.Common.{MatchOption, eqb}
use Rattle.std.proofs.Common.{Some, None, Bool, cond, refl, sym, ap, ◌∙◌, subst, codes}
use Rattle.std.specs.Option.{option_map, option_and_then}
use Rattle.std.proofs.lemmas.Bool.{false≢true}
use Rattle.std.proofs.lemmas.Bool.Decides.{Decides-eqb, nat_tests}
use Rattle.std.proofs.lemmas.Option.{same_Some}
use Rattle.arith_templates.specs.declared.kind.Kind.{Kind}
use Rattle.arith_templates.specs.declared.kind.Kind.TheVariants.{Add, Sub, Less, Inc, Mul}
use Rattle.arith_templates.specs.declared.limits.TheConstants.{MOST_BITS, MOST_FACTOR}
use Rattle.revc_words.specs.declared.commands.Command.{Command}
use Rattle.revc_words.specs.declared.commands.Command.TheVariants.{Verify}
use Rattle.revc_words.specs.declared.commands.Positional.{Positional}
use Rattle.revc_words.specs.declared.commands.Positional.TheVariants.{Nothing, Word, Words, Number, KindAndNumber}
use Rattle.revc_words.specs.Commands.{takes_of}
use Rattle.revc_words.specs.Words.{HasFactor, IsBy, IsNumberIn, Taken, TakesWords}
use Rattle.revc_words.specs.Words.{TakesKind, TakesNumber, Setting, kind_word}
use Rattle.revc_words.specs.Words.{first_word, value_of}
use Rattle.revc_words.specs.inside.Parsing.{bits_for, kind_for, kind_of, number_for, number_of, number_word}
use Rattle.revc_words.specs.inside.Parsing.{takes_any, takes_count, takes_factor}
use Rattle.revc_words.specs.inside.Parsing.{takes_kind, with_factor}
use Rattle.revc_words.proofs.ValueLemmas.{number_says, number_found, kind_named, kind_says}
use Rattle.revc_words.proofs.WalkLemmas.{by_test}

-- ---- what a command takes its positional words for

one_word : (plain : List (List ℕ)) → length plain ≡ 1 → plain ≡ number_word plain ∷ []
one_word [] one = absurd (omega arith)
one_word (word ∷ []) one = refl
one_word (word ∷ more ∷ rest) one = absurd (omega arith)

two_words : (plain : List (List ℕ)) → length plain ≡ 2 → plain ≡ first_word plain ∷ number_word plain ∷ []
two_words [] two = absurd (omega arith)
two_words (kind ∷ []) two = absurd (omega arith)
two_words (kind ∷ word ∷ []) two = refl
two_words (kind ∷ word ∷ more ∷ rest) two = absurd (omega arith)

zero_is : (number : ℕ) → Some 0 ≡ Some number → number ≡ 0
zero_is number e = sym (same_Some _ _ e)

no_kind : (kind : Kind) → Some Add ≡ Some kind → kind ≡ Add
no_kind kind e = sym (same_Some _ _ e)

abbrev taken_for : Kind → ℕ → List (List ℕ) → Taken
taken_for kind number bits = record { kind = kind; number = number; bits = bits }

number_so : (plain : List (List ℕ)) (kind : Kind) (number : ℕ) → length plain ≡ 1 → kind ≡ Add → number_of 1 MOST_BITS (number_word plain) ≡ Some number
    → TakesNumber plain (taken_for kind number [])
number_so plain kind number one add is = record {
  word = number_word plain;
  only = one_word plain one;
  in_range = number_says 1 MOST_BITS (number_word plain) number is;
  no_kind = add;
  no_bits = refl;
}

number_gives : (plain : List (List ℕ)) (taken : Taken) → (is : TakesNumber plain taken)
    → (length plain ≡ 1) × (number_of 1 MOST_BITS (number_word plain) ≡ Some taken.number)
number_gives plain taken is = (
  ap length is.only,
  ap (λ (ws : List (List ℕ)). number_of 1 MOST_BITS (number_word ws)) is.only ∙ number_found 1 MOST_BITS is.word taken.number is.in_range,
)

-- ---- the kind, and its factor

pub and_says : {A B : Type 0} (f : A → Option B) (found : Option A) (b : B) → option_and_then f found ≡ Some b → (a : A) × (found ≡ Some a) × (f a ≡ Some b)
and_says f None b e = absurd cc
and_says f (Some a) b e = (a, refl, e)

pub map_says : {A B : Type 0} (f : A → B) (found : Option A) (b : B) → option_map f found ≡ Some b → (a : A) × (found ≡ Some a) × (f a ≡ b)
map_says f None b e = absurd cc
map_says f (Some a) b e = (a, refl, same_Some _ _ e)

-- the kind, by whether its factor is 0
abbrev factor_by : Bool → Kind → Option Kind
factor_by none kind = cond (takes_factor kind) (cond none None (Some kind)) (cond none (Some kind) None)

no_kind_left : (kind : Kind) → None ≡ Some kind → ⊥
no_kind_left kind e = absurd cc

without_factor : (found kind : Kind) → factor_by true found ≡ Some kind → (found ≡ kind) × HasFactor found None
without_factor Add kind e = (same_Some _ _ e, refl)
without_factor Sub kind e = (same_Some _ _ e, refl)
without_factor Less kind e = (same_Some _ _ e, refl)
without_factor Inc kind e = (same_Some _ _ e, refl)
without_factor Mul kind e = absurd (no_kind_left kind e)

beside_factor : (word : List ℕ) (found kind : Kind) → factor_by false found ≡ Some kind → (found ≡ kind) × HasFactor found (Some word)
beside_factor word Add kind e = absurd (no_kind_left kind e)
beside_factor word Sub kind e = absurd (no_kind_left kind e)
beside_factor word Less kind e = absurd (no_kind_left kind e)
beside_factor word Inc kind e = absurd (no_kind_left kind e)
beside_factor word Mul kind e = (same_Some _ _ e, refl)

is_above : (by : ℕ) → 1 ≤ by → eqb by 0 ≡ false
is_above by some = by_test (eqb by 0)
    (λ t. let none = (Decides-eqb by 0).0 t in absurd (omega arith))
    (λ f. f)

abbrev IsRightFactor : Option (List ℕ) → ℕ → Type 0
IsRightFactor factor by = MatchOption factor (by ≡ 0) (λ word. IsNumberIn 1 MOST_FACTOR word by)

-- the kind that is found has the factor that is given
factor_says : (by : ℕ) (factor : Option (List ℕ)) (found kind : Kind) → IsRightFactor factor by → with_factor by found ≡ Some kind
    → (found ≡ kind) × HasFactor found factor
factor_says by None found kind is e = without_factor found kind (ap (λ t. factor_by t found) (sym ((Decides-eqb by 0).1 is)) ∙ e)
factor_says by (Some word) found kind is e = beside_factor word found kind (ap (λ t. factor_by t found) (sym (is_above by is.least_is)) ∙ e)

no_factor_needed : (kind : Kind) → HasFactor kind None → factor_by true kind ≡ Some kind
no_factor_needed Add has = refl
no_factor_needed Sub has = refl
no_factor_needed Less has = refl
no_factor_needed Inc has = refl
no_factor_needed Mul has = absurd (false≢true has)

factor_needed : (word : List ℕ) (kind : Kind) → HasFactor kind (Some word) → factor_by false kind ≡ Some kind
factor_needed word Add has = absurd (false≢true (sym has))
factor_needed word Sub has = absurd (false≢true (sym has))
factor_needed word Less has = absurd (false≢true (sym has))
factor_needed word Inc has = absurd (false≢true (sym has))
factor_needed word Mul has = refl

factor_gives : (by : ℕ) (factor : Option (List ℕ)) (kind : Kind) → IsRightFactor factor by → HasFactor kind factor → with_factor by kind ≡ Some kind
factor_gives by None kind is has = ap (λ t. factor_by t kind) ((Decides-eqb by 0).1 is) ∙ no_factor_needed kind has
factor_gives by (Some word) kind is has = ap (λ t. factor_by t kind) (is_above by is.least_is) ∙ factor_needed word kind has

kind_so : (given : List Setting) (plain : List (List ℕ)) (by : ℕ) (kind : Kind) (number : ℕ) → length plain ≡ 2 → IsRightFactor (value_of (codes "by") given) by
    → option_and_then (with_factor by) (kind_of (first_word plain)) ≡ Some kind → number_of 1 MOST_BITS (number_word plain) ≡ Some number
    → TakesKind given plain (taken_for kind number [])
kind_so given plain by kind number two own e is =
    let found = and_says (with_factor by) (kind_of (first_word plain)) kind e in
    let factor = value_of (codes "by") given in
    let said = factor_says by factor found.0 kind own found.2 in
    let named : first_word plain ≡ kind_word kind = kind_says (first_word plain) found.0 found.1 ∙ ap kind_word said.0 in
    record {
      word = number_word plain;
      both = two_words plain two ∙ ap (λ (w : List ℕ). w ∷ number_word plain ∷ []) named;
      factor = subst (λ (k : Kind). HasFactor k factor) said.0 said.1;
      in_range = number_says 1 MOST_BITS (number_word plain) number is;
      no_bits = refl;
    }

kind_gives : (given : List Setting) (plain : List (List ℕ)) (by : ℕ) (taken : Taken) → IsRightFactor (value_of (codes "by") given) by
    → (is : TakesKind given plain taken)
    → (length plain ≡ 2) × (option_and_then (with_factor by) (kind_of (first_word plain)) ≡ Some taken.kind)
    × (number_of 1 MOST_BITS (number_word plain) ≡ Some taken.number)
kind_gives given plain by taken own is = (
  ap length is.both,
  ap (λ (ws : List (List ℕ)). option_and_then (with_factor by) (kind_of (first_word ws))) is.both
      ∙ ap (option_and_then (with_factor by)) (kind_named taken.kind) ∙ factor_gives by (value_of (codes "by") given) taken.kind own is.factor,
  ap (λ (ws : List (List ℕ)). number_of 1 MOST_BITS (number_word ws)) is.both ∙ number_found 1 MOST_BITS is.word taken.number is.in_range,
)

-- where a kind is taken, the factor is that of `--by`
abbrev HasOwnFactor : Positional → List Setting → ℕ → Type 0
HasOwnFactor takes given by = takes ≡ KindAndNumber → IsRightFactor (value_of (codes "by") given) by

pub own_factor : (command : Command) (given : List Setting) (by : ℕ) → IsBy command given by → HasOwnFactor (takes_of command) given by
own_factor Verify given by is e = absurd (false≢true (ap takes_kind e))
own_factor command given by is e = is

pub takes_so : (takes : Positional) (given : List Setting) (plain : List (List ℕ)) (by : ℕ) (kind : Kind) (number : ℕ) → HasOwnFactor takes given by
    → takes_count takes (length plain) ≡ true → kind_for takes by plain ≡ Some kind → number_for takes plain ≡ Some number
    → TakesWords takes given plain (taken_for kind number (bits_for takes plain))
takes_so Nothing given plain by kind number own count named is =
    (grind (arith, nat_tests, count), record { no_kind = no_kind kind named; no_number = zero_is number is; same = refl })
takes_so Word given plain by kind number own count named is =
    (grind (arith, nat_tests, count), record { no_kind = no_kind kind named; no_number = zero_is number is; same = refl })
takes_so Words given plain by kind number own count named is =
    (grind (arith, nat_tests, count), record { no_kind = no_kind kind named; no_number = zero_is number is; same = refl })
takes_so Number given plain by kind number own count named is =
    number_so plain kind number (grind (arith, nat_tests, count)) (no_kind kind named) is
takes_so KindAndNumber given plain by kind number own count named is =
    kind_so given plain by kind number (grind (arith, nat_tests, count)) (own refl) named is

-- the count, the kind, the number and the bits
pub takes_gives : (takes : Positional) (given : List Setting) (plain : List (List ℕ)) (by : ℕ) (taken : Taken) → HasOwnFactor takes given by
    → TakesWords takes given plain taken
    → (takes_count takes (length plain) ≡ true) × (kind_for takes by plain ≡ Some taken.kind) × (number_for takes plain ≡ Some taken.number)
    × (taken.bits ≡ bits_for takes plain)
takes_gives Nothing given plain by taken own is =
    let n = is.0 in (grind (arith, nat_tests), ap Some (sym is.1.no_kind), ap Some (sym is.1.no_number), is.1.same)
takes_gives Word given plain by taken own is =
    let n = is.0 in (grind (arith, nat_tests), ap Some (sym is.1.no_kind), ap Some (sym is.1.no_number), is.1.same)
takes_gives Words given plain by taken own is =
    let n = is.0 in (grind (arith, nat_tests), ap Some (sym is.1.no_kind), ap Some (sym is.1.no_number), is.1.same)
takes_gives Number given plain by taken own is =
    let said = number_gives plain taken is in let n = said.0 in (grind (arith, nat_tests), ap Some (sym is.no_kind), said.1, is.no_bits)
takes_gives KindAndNumber given plain by taken own is =
    let said = kind_gives given plain by taken (own refl) is in let n = said.0 in (grind (arith, nat_tests), said.1, said.2, is.no_bits)

no_length : (plain : List (List ℕ)) → length plain ≡ 0 → plain ≡ []
no_length [] e = refl
no_length (word ∷ plain) e = absurd (omega arith)

pub takes_none : (takes : Positional) (given : List Setting) (plain : List (List ℕ)) (taken : Taken) → TakesWords takes given plain taken
    → takes_any takes ≡ false → plain ≡ []
takes_none Nothing given plain taken is none = no_length plain is.0
takes_none Word given plain taken is none = absurd (false≢true (sym none))
takes_none Words given plain taken is none = absurd (false≢true (sym none))
takes_none Number given plain taken is none = absurd (false≢true (sym none))
takes_none KindAndNumber given plain taken is none = absurd (false≢true (sym none))
