-- A list cut at a place: what stands before it, at it and behind it.
use mir.Val.{bool_byte}
use Rattle.std.proofs.Common.{◌≡◌, ℕ, zero, suc, ◌+◌, ◌-◌, ◌<◌, ◌≤◌, Bool, true, false, List, [], ◌∷◌, ◌++◌, length, take, drop, get_or, replicate, slice_get, Some, refl, sym, ap}
use Rattle.std.proofs.Common.{◌∙◌, arith}
use Rattle.std.proofs.lemmas.List.{drop_more}
use Rattle.std.proofs.lemmas.Option.{slice_get_within, get_or_from_slice_get}
use Rattle.std.proofs.Math.Seq.{drop-cons}

pub cut_at : {A : Type 0} (xs : List A) (place : ℕ) (d : A) → place < length xs → xs ≡ take place xs ++ get_or xs place d ∷ drop (suc place) xs
cut_at [] place d lt = absurd (omega (arith, lt))
cut_at (x ∷ xs) zero d lt = refl
cut_at (x ∷ xs) (suc place) d lt = ap (λ z. x ∷ z) (cut_at xs place d (omega (arith, lt)))

pub length-take_below : {A : Type 0} (xs : List A) (place : ℕ) → place < length xs → length (take place xs) ≡ place
length-take_below [] place lt = omega (arith, lt)
length-take_below (x ∷ xs) zero lt = refl
length-take_below (x ∷ xs) (suc place) lt = ap suc (length-take_below xs place (omega (arith, lt)))

-- what is left of a list at an element that was read, as `v[i]` gives it
pub drop_read : {A : Type 0} (xs : List A) (i : ℕ) (x : A) → i < length xs → x ≡ get_or xs i x → drop i xs ≡ x ∷ drop (i + 1) xs
drop_read xs i x lt e = drop_more xs i x lt ∙ ap (λ y. y ∷ drop (i + 1) xs) (sym e)

-- the same, as `v.get(i)` gives it
pub drop_got : {A : Type 0} (xs : List A) (i : ℕ) (x : A) → slice_get xs i ≡ Some x → drop i xs ≡ x ∷ drop (i + 1) xs
drop_got xs i x e =
    drop_more xs i x (slice_get_within xs i x e) ∙ ap (λ y. y ∷ drop (i + 1) xs) (get_or_from_slice_get xs i x x e)

-- ---- one place further, or not

pub advanced : {A : Type 0} (xs : List A) (i : ℕ) (d : A) (t : Bool) → i < length xs
    → drop (i + bool_byte t) xs ≡ drop (bool_byte t) (get_or xs i d ∷ drop (suc i) xs)
advanced xs i d true inside = let more : i + 1 ≡ suc i = omega arith in ap (λ (n : ℕ). drop n xs) more
advanced xs i d false inside = let none : i + 0 ≡ i = omega arith in ap (λ (n : ℕ). drop n xs) none ∙ drop-cons xs i d inside

pub at_most_one : (i n more : ℕ) (t : Bool) → i < n → more ≡ bool_byte t → i + more ≤ n
at_most_one i n more true inside is = omega (arith, inside, is)
at_most_one i n more false inside is = omega (arith, inside, is)

-- ---- two lists side by side

-- what is made of two lists as far as i and j, in front of what the rest of both makes, is what both make
pub record IsMadeSoFar {A B : Type 0} (make : List A → List A → List B) (left right : List A) (made : List B) (i j : ℕ) : Type 0 where
  pub in_left : i ≤ length left
  pub in_right : j ≤ length right
  pub left_over : made ++ make (drop i left) (drop j right) ≡ make left right

pub made_whole : {A B : Type 0} {make : List A → List A → List B} {left right : List A} {made : List B} {i j : ℕ} {rest : List B}
    → IsMadeSoFar make left right made i j → make (drop i left) (drop j right) ≡ rest → made ++ rest ≡ make left right
made_whole {made = made} is last = ap (λ r. made ++ r) (sym last) ∙ is.left_over

-- ---- one element again and again

pub replicate_left : {A : Type 0} (x : A) (i n : ℕ) → i < n → replicate (n - i) x ≡ x ∷ replicate (n - (i + 1)) x
replicate_left x i n lt = let more : n - i ≡ suc (n - (i + 1)) = omega (arith, lt) in ap (λ k. replicate k x) more

pub replicate_over : {A : Type 0} (x : A) (i n : ℕ) → n ≤ i → replicate (n - i) x ≡ []
replicate_over x i n le = let none : n - i ≡ 0 = omega (arith, le) in ap (λ k. replicate k x) none
