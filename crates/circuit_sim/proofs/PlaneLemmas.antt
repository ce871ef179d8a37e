-- The bits of planes under `&`, `^` and all ones, and the masks of a gate.
use Rattle.std.proofs.Common.{◌≡◌, ℕ, ◌-◌, ◌<◌, ◌^◌, ◌==◌, min, bit_and, bit_xor, Bool, true, false, not, ◌&&◌, cond, inl, inr, refl}
use Rattle.std.proofs.Common.{ap, ◌∙◌}
use Rattle.std.specs.Bool.{xor}
use Rattle.std.proofs.lemmas.Nat.{xor_comm}
use Rattle.std.proofs.lemmas.Nat.Bits.{bit_at_and, bit_at_xor, bit_at_ones, bit_at-lt}
use Rattle.list_facts.proofs.BitLemmas.{bit_cases, is_one-sum}
use Rattle.list_facts.proofs.TableLemmas.{of_two_bits, of_three_bits}
use Rattle.circuit_sim.specs.Planes.{plane_bit}
use Rattle.circuit_sim.specs.inside.Masks.{IsNarrowed, IsChosen}

-- ---- one place

is_one-min : (x y : ℕ) → x < 2 → y < 2 → (min x y == 1) ≡ ((x == 1) && (y == 1))
is_one-min x y h k =
    elim (bit_cases x h) [
      | inl e ↦ elim (bit_cases y k) [ inl f ↦ rw (e, f) refl | inr f ↦ rw (e, f) refl ]
      | inr e ↦ elim (bit_cases y k) [ inl f ↦ rw (e, f) refl | inr f ↦ rw (e, f) refl ]
    ]

pub plane_bit-and : (place a b : ℕ) → plane_bit place (bit_and a b) ≡ (plane_bit place a && plane_bit place b)
plane_bit-and place a b =
    ap (λ (x : ℕ). x == 1) (bit_at_and a b place)
    ∙ is_one-min _ _ (bit_at-lt a place) (bit_at-lt b place)

pub plane_bit-xor : (place a b : ℕ) → plane_bit place (bit_xor a b) ≡ xor (plane_bit place a) (plane_bit place b)
plane_bit-xor place a b =
    ap (λ (x : ℕ). x == 1) (bit_at_xor a b place)
    ∙ is_one-sum _ _ (bit_at-lt a place) (bit_at-lt b place)

pub plane_bit-ones : (place : ℕ) → place < 64 → plane_bit place (2 ^ 64 - 1) ≡ true
plane_bit-ones place low = ap (λ (x : ℕ). x == 1) (bit_at_ones 64 place low)

-- ---- the steps of a gate

and_other : (m p : Bool) → (m && xor m p) ≡ (m && not p)
unfolding mathlib.Core.Bool.xor
and_other = of_two_bits (λ m p. m && xor m p) (λ m p. m && not p) refl

pub narrowed_by_one : (mask plane : ℕ) → IsNarrowed mask plane true (bit_and mask plane)
narrowed_by_one mask plane = record { each = λ place. plane_bit-and place mask plane }

pub narrowed_by_zero : (mask plane : ℕ) → IsNarrowed mask plane false (bit_and mask (bit_xor mask plane))
narrowed_by_zero mask plane = record {
  each = λ place.
      plane_bit-and place mask (bit_xor mask plane)
      ∙ ap (λ (b : Bool). plane_bit place mask && b) (plane_bit-xor place mask plane)
      ∙ and_other (plane_bit place mask) (plane_bit place plane);
}

changed_where : (m there elsewhere : Bool) → xor elsewhere (xor elsewhere there && m) ≡ cond m there elsewhere
unfolding mathlib.Core.Bool.xor
changed_where = of_three_bits (λ m there elsewhere. xor elsewhere (xor elsewhere there && m)) (λ m there elsewhere. cond m there elsewhere) refl

pub chosen_first : (mask first second : ℕ) → IsChosen mask second first (bit_xor first (bit_and (bit_xor first second) mask))
chosen_first mask first second = record {
  each = λ place.
      plane_bit-xor place first (bit_and (bit_xor first second) mask)
      ∙ ap (xor (plane_bit place first)) (plane_bit-and place (bit_xor first second) mask
      ∙ ap (λ (b : Bool). b && plane_bit place mask) (plane_bit-xor place first second))
      ∙ changed_where (plane_bit place mask) (plane_bit place second) (plane_bit place first);
}

pub chosen_second : (mask first second : ℕ) → IsChosen mask first second (bit_xor second (bit_and (bit_xor first second) mask))
chosen_second mask first second =
    rw (xor_comm first second) (chosen_first mask second first)
