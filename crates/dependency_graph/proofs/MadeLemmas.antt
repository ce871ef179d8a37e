-- Bits that are made one after another.
use Rattle.std.proofs.Common.{◌≡◌, ℕ, zero, suc, ◌+◌, Bool, List, [], ◌∷◌, ◌++◌, length, slice_get, Some, refl, sym, ap, ◌∙◌, subst, arith}
use Rattle.std.proofs.Common.{append_assoc, append-nil, length-append}
use Rattle.std.proofs.lemmas.List.{get_or_at}
use Rattle.std.proofs.lemmas.Option.{none-some, same_Some}
use Rattle.list_facts.specs.Bits.{bit_of}
use Rattle.list_facts.specs.Lists.{AllFrom}
use Rattle.dependency_graph.specs.Graphs.{bits_made}

module _ {A : Type 0} (bit : List Bool → A → Bool) where
  pub length-bits_made : (made : List Bool) (xs : List A) → length (bits_made bit made xs) ≡ length made + length xs
  length-bits_made made [] = omega arith
  length-bits_made made (x ∷ xs) = length-bits_made (made ++ bit made x ∷ []) xs ∙ omega (arith, length-append made (bit made x ∷ []))

  pub bits_made-append : (made : List Bool) (xs more : List A) → bits_made bit made (xs ++ more) ≡ bits_made bit (bits_made bit made xs) more
  bits_made-append made [] more = refl
  bits_made-append made (x ∷ xs) more = bits_made-append (made ++ bit made x ∷ []) xs more

  -- bits made later change no earlier ones
  pub record HasMore (made : List Bool) (xs : List A) : Type 0 where
    pub more : List Bool
    pub parts : bits_made bit made xs ≡ made ++ more

  pub made_front : (made : List Bool) (xs : List A) → HasMore made xs
  made_front made [] = record { more = []; parts = sym (append-nil made) }
  made_front made (x ∷ xs) =
      let rest = made_front (made ++ bit made x ∷ []) xs in
      record { more = bit made x ∷ rest.more; parts = rest.parts ∙ append_assoc made (bit made x ∷ []) rest.more }

  -- where the bit of what is known at a place is that over the bits below it
  module _ (IsKnown : ℕ → A → Type 0)
      (stays : (made more : List Bool) (x : A) → IsKnown (length made) x → bit (made ++ more) x ≡ bit made x) where
    here : (made : List Bool) (x : A) (xs : List A) → IsKnown (length made) x
        → bit_of (bits_made bit made (x ∷ xs)) (length made) ≡ bit (bits_made bit made (x ∷ xs)) x
    here made x xs known =
        let rest = made_front (made ++ bit made x ∷ []) xs in
        let parts : bits_made bit made (x ∷ xs) ≡ made ++ bit made x ∷ rest.more = rest.parts ∙ append_assoc made (bit made x ∷ []) rest.more in
        ap (λ (bits : List Bool). bit_of bits (length made)) parts
        ∙ get_or_at made (bit made x) rest.more _ (length made) refl
        ∙ sym (ap (λ (bits : List Bool). bit bits x) parts ∙ stays made (bit made x ∷ rest.more) x known)

    bit_at : (made : List Bool) (xs : List A) (i : ℕ) (x : A) → AllFrom IsKnown (length made) xs → slice_get xs i ≡ Some x
        → bit_of (bits_made bit made xs) (length made + i) ≡ bit (bits_made bit made xs) x
    bit_at made [] i x known is = absurd (none-some x is)
    bit_at made (y ∷ ys) zero x known is =
        let same : length made + 0 ≡ length made = omega arith in
        ap (bit_of (bits_made bit made (y ∷ ys))) same
        ∙ here made y ys known.0
        ∙ ap (bit (bits_made bit made (y ∷ ys))) (same_Some y x is)
    bit_at made (y ∷ ys) (suc i) x known is =
        let longer : length (made ++ bit made y ∷ []) ≡ length made + 1 = length-append made (bit made y ∷ []) in
        let same : length made + suc i ≡ length (made ++ bit made y ∷ []) + i = omega (arith, longer) in
        ap (bit_of (bits_made bit made (y ∷ ys))) same
        ∙ bit_at (made ++ bit made y ∷ []) ys i x (subst (λ (k : ℕ). AllFrom IsKnown k ys) (sym longer) known.1) is

    pub made_at : (xs : List A) (i : ℕ) (x : A) → AllFrom IsKnown 0 xs → slice_get xs i ≡ Some x
        → bit_of (bits_made bit [] xs) i ≡ bit (bits_made bit [] xs) x
    made_at xs i x known is = let same : i ≡ 0 + i = omega arith in ap (bit_of (bits_made bit [] xs)) same ∙ bit_at [] xs i x known is
