-- What merging keeps: the exclusive or of the cubes, their inputs, and that they do not grow in number.
use Rattle.std.proofs.Common.{◌≡◌, ℕ, zero, suc, ◌+◌, ◌<◌, ◌≤◌, Bool, List, [], ◌∷◌, ◌++◌, length, map, get_or, refl, sym, ap, ◌∙◌, subst, inl, inr, arith}
use Rattle.std.specs.Bool.{xor}
use Rattle.std.specs.List.{AllByRecursion, remove}
use Rattle.std.proofs.lemmas.List.{length-append, get_or_default}
use Rattle.std.proofs.lemmas.Bool.{cases_order}
use Rattle.std.proofs.lemmas.List.Edits.{length-remove, get_or-remove_below}
use Rattle.exclusive_sums.specs.declared.cube.Literal.{Literal}
use Rattle.list_facts.specs.Lists.{IsRising}
use Rattle.revs_tape.specs.Polynomials.{value_of_monomial, value_of_polynomial}
use Rattle.exclusive_sums.specs.Cubes.{value_of_cube, value_of_cubes, IsCube, distance_of, IsJoined, cube_at, distance_at, AreFarApart, IsFirstClosePair}
use Rattle.exclusive_sums.specs.Cubes.{without_pair, Merges, done, cancelled, joined, positive, cubes_of, IsExclusiveSumOf}
use Rattle.exclusive_sums.specs.Inputs.{StandsIn}
use Rattle.exclusive_sums.specs.inside.Merging.{IsStep}
use Rattle.list_facts.proofs.BitLemmas.{xor_none, xor_same, xor_left, xor_right}
use Rattle.list_facts.proofs.AllLemmas.{AllByRecursion-at, AllByRecursion-push}
use Rattle.list_facts.proofs.AmongLemmas.{all_from_among}
use Rattle.exclusive_sums.proofs.CubeLemmas.{IsCube-positive, same_if_no_distance, same_states_same, value-joined, inputs-joined}

-- ---- taking cubes out

value-remove : (x : ℕ → Bool) (cubes : List (List Literal)) (j : ℕ) → j < length cubes
    → value_of_cubes x cubes ≡ xor (value_of_cube x (cube_at cubes j)) (value_of_cubes x (remove cubes j))
value-remove x [] j h = absurd (omega arith)
value-remove x (c ∷ cs) zero h = refl
value-remove x (c ∷ cs) (suc j) h =
    rw (value-remove x cs j (omega arith)) (xor_right (value_of_cube x c) (value_of_cube x (cube_at cs j)) (value_of_cubes x (remove cs j)))

pub All-remove : (P : List Literal → Type 0) (cubes : List (List Literal)) (j : ℕ) → AllByRecursion P cubes → AllByRecursion P (remove cubes j)
All-remove P [] zero h = tt
All-remove P [] (suc j) h = tt
All-remove P (c ∷ cs) zero h = h.1
All-remove P (c ∷ cs) (suc j) h = (h.0, All-remove P cs j h.1)

value-push : (x : ℕ → Bool) (cubes : List (List Literal)) (c : List Literal)
    → value_of_cubes x (cubes ++ c ∷ []) ≡ xor (value_of_cube x c) (value_of_cubes x cubes)
value-push x [] c = refl
value-push x (d ∷ ds) c = rw (value-push x ds c) (xor_right (value_of_cube x d) (value_of_cube x c) (value_of_cubes x ds))

value-without_pair : (x : ℕ → Bool) (cubes : List (List Literal)) (i j : ℕ) → i < j → j < length cubes
    → value_of_cubes x cubes ≡ xor (xor (value_of_cube x (cube_at cubes i)) (value_of_cube x (cube_at cubes j))) (value_of_cubes x (without_pair cubes i j))
value-without_pair x cubes i j l h =
    let shorter = length-remove cubes j h in
    let same : cube_at (remove cubes j) i ≡ cube_at cubes i = get_or-remove_below cubes j [] i l h in
    value-remove x cubes j h
    ∙ rw (value-remove x (remove cubes j) i (omega arith), same)
    (xor_right (value_of_cube x (cube_at cubes j)) (value_of_cube x (cube_at cubes i)) (value_of_cubes x (without_pair cubes i j))
    ∙ xor_left (value_of_cube x (cube_at cubes i)) (value_of_cube x (cube_at cubes j)) (value_of_cubes x (without_pair cubes i j)))

length-without_pair : (cubes : List (List Literal)) (i j : ℕ) → i < j → j < length cubes → length (without_pair cubes i j) + 2 ≡ length cubes
length-without_pair cubes i j l h =
    let shorter = length-remove cubes j h in
    let last = length-remove (remove cubes j) i (omega arith) in
    omega arith

-- ---- one step

-- the cubes at two places as the code took them out
pub record HasRemoved (cubes rest last : List (List Literal)) (i j : ℕ) (left right : List Literal) : Type 0 where
  pub pair : IsFirstClosePair cubes i j
  pub right_is : right ≡ get_or cubes j right
  pub without_right : rest ≡ remove cubes j
  pub left_is : left ≡ get_or rest i left
  pub without_left : last ≡ remove rest i

module _ (cubes rest last : List (List Literal)) (i j : ℕ) (left right : List Literal) (r : HasRemoved cubes rest last i j left right) where
  right_at : right ≡ cube_at cubes j
  right_at = r.right_is ∙ get_or_default cubes j right [] r.pair.in_range

  left_at : left ≡ cube_at cubes i
  left_at =
      let shorter = length-remove cubes j r.pair.in_range in
      let order = r.pair.ordered in
      let same : get_or rest i left ≡ get_or (remove cubes j) i left = ap (λ cs. get_or cs i left) r.without_right in
      r.left_is ∙ same ∙ get_or-remove_below cubes j left i r.pair.ordered r.pair.in_range ∙ get_or_default cubes i left [] (omega (arith, r.pair.in_range))

  distance_is : distance_of left right ≡ distance_at cubes i j
  distance_is = ap (λ c. distance_of c right) left_at ∙ ap (λ d. distance_of (cube_at cubes i) d) right_at

  last_is : last ≡ without_pair cubes i j
  last_is = r.without_left ∙ ap (λ cs. remove cs i) r.without_right

  pub cancels : distance_of left right ≡ 0 → IsStep cubes last
  cancels h = record {
    merges = λ end m. cancelled cubes end i j r.pair (sym distance_is ∙ h) (subst (λ cs. Merges cs end) last_is m);
    fewer = omega (arith, ap length last_is, length-without_pair cubes i j r.pair.ordered r.pair.in_range);
  }

  pub joins : (distance_of left right ≡ 0 → ⊥) → (cube : List Literal) → IsJoined left right cube → IsStep cubes (last ++ cube ∷ [])
  joins h cube k =
      let one : distance_at cubes i j ≡ 1 = let close = r.pair.close in let apart : distance_at cubes i j ≡ 0 → ⊥ = λ e. h (distance_is ∙ e) in omega arith in
      let here : IsJoined (cube_at cubes i) (cube_at cubes j) cube = subst (λ c. IsJoined c (cube_at cubes j) cube) left_at
      (subst (λ d. IsJoined left d cube) right_at k) in
      record {
        merges = λ end m. joined cubes end i j cube r.pair one here (subst (λ cs. Merges (cs ++ cube ∷ []) end) last_is m);
        fewer = omega (arith, length-append last (cube ∷ []), ap length last_is, length-without_pair cubes i j r.pair.ordered r.pair.in_range);
      }

-- ---- all steps

-- what the end of merging is to its beginning
record IsMergedFrom (P : ℕ → Type 0) (cubes last : List (List Literal)) : Type 0 where
  values : (x : ℕ → Bool) → value_of_cubes x last ≡ value_of_cubes x cubes
  few : length last ≤ length cubes
  are_cubes : AllByRecursion IsCube last
  over_inputs : AllByRecursion (AllByRecursion (λ (l : Literal). P l.input)) last
  apart : AreFarApart last

xor_itself : (b c : Bool) → xor (xor b b) c ≡ c
xor_itself b c = rw (xor_same b) (xor_none c)

merged : (P : ℕ → Type 0) (cubes last : List (List Literal)) → Merges cubes last → AllByRecursion IsCube cubes
    → AllByRecursion (AllByRecursion (λ (l : Literal). P l.input)) cubes → IsMergedFrom P cubes last
merged P cubes last (done cs a) k p = record { values = λ x. refl; few = omega arith; are_cubes = k; over_inputs = p; apart = a }
merged P cubes last (cancelled cs end i j f h m) k p =
    let low : i < length cs = omega (arith, f.ordered, f.in_range) in
    let rest = merged P (without_pair cs i j) end m (All-remove IsCube (remove cs j) i (All-remove IsCube cs j k))
    (All-remove (AllByRecursion (λ (l : Literal). P l.input)) (remove cs j) i (All-remove (AllByRecursion (λ (l : Literal). P l.input)) cs j p)) in
    let same : cube_at cs i ≡ cube_at cs j = same_if_no_distance (cube_at cs i) (cube_at cs j) (AllByRecursion-at IsCube cs i [] k low)
    (AllByRecursion-at IsCube cs j [] k f.in_range) h in
    record {
      values = λ x. rest.values x ∙ sym
          (value-without_pair x cs i j f.ordered f.in_range ∙ rw same (xor_itself (value_of_cube x (cube_at cs j)) (value_of_cubes x (without_pair cs i j))));
      few = omega (arith, rest.few, length-without_pair cs i j f.ordered f.in_range);
      are_cubes = rest.are_cubes;
      over_inputs = rest.over_inputs;
      apart = rest.apart;
    }
merged P cubes last (joined cs end i j cube f h g m) k p =
    let low : i < length cs = omega (arith, f.ordered, f.in_range) in
    let Over : List Literal → Type 0 = λ (c : List Literal). AllByRecursion (λ (l : Literal). P l.input) c in
    let left = AllByRecursion-at IsCube cs i [] k low in
    let right = AllByRecursion-at IsCube cs j [] k f.in_range in
    let inside = inputs-joined P (cube_at cs i) (cube_at cs j) cube left right g (AllByRecursion-at Over cs i [] p low)
    (AllByRecursion-at Over cs j [] p f.in_range) in
    let rest = merged P (without_pair cs i j ++ cube ∷ []) end m
    (AllByRecursion-push IsCube (without_pair cs i j) cube (All-remove IsCube (remove cs j) i (All-remove IsCube cs j k)) g.is_cube)
    (AllByRecursion-push Over (without_pair cs i j) cube (All-remove Over (remove cs j) i (All-remove Over cs j p)) inside) in
    record {
      values = λ x. rest.values x ∙ value-push x (without_pair cs i j) cube
          ∙ rw (value-joined x (cube_at cs i) (cube_at cs j) cube left right h g) (sym (value-without_pair x cs i j f.ordered f.in_range));
      few = omega (arith, rest.few, length-without_pair cs i j f.ordered f.in_range, length-append (without_pair cs i j) (cube ∷ []));
      are_cubes = rest.are_cubes;
      over_inputs = rest.over_inputs;
      apart = rest.apart;
    }

-- ---- from the monomials

value-positive : (x : ℕ → Bool) (m : List ℕ) → value_of_cube x (map positive m) ≡ value_of_monomial x m
value-positive x [] = refl
value-positive x (i ∷ is) = rw (value-positive x is) refl

value-cubes_of : (x : ℕ → Bool) (ms : List (List ℕ)) → value_of_cubes x (cubes_of ms) ≡ value_of_polynomial x ms
value-cubes_of x [] = refl
value-cubes_of x (m ∷ ms) = rw (value-positive x m, value-cubes_of x ms) refl

are_cubes-cubes_of : (ms : List (List ℕ)) → AllByRecursion IsRising ms → AllByRecursion IsCube (cubes_of ms)
are_cubes-cubes_of [] h = tt
are_cubes-cubes_of (m ∷ ms) h = (IsCube-positive m h.0, are_cubes-cubes_of ms h.1)

inputs-positive : (P : ℕ → Type 0) (m : List ℕ) → AllByRecursion P m → AllByRecursion (λ (l : Literal). P l.input) (map positive m)
inputs-positive P [] h = tt
inputs-positive P (i ∷ is) h = (h.0, inputs-positive P is h.1)

inputs-cubes_of : (P : ℕ → Type 0) (ms : List (List ℕ)) → ((i : ℕ) → StandsIn ms i → P i)
    → AllByRecursion (AllByRecursion (λ (l : Literal). P l.input)) (cubes_of ms)
inputs-cubes_of P [] f = tt
inputs-cubes_of P (m ∷ ms) f = (inputs-positive P m (all_from_among P m (λ i k. f i (inl k))), inputs-cubes_of P ms (λ i k. f i (inr k)))

length-cubes_of : (ms : List (List ℕ)) → length (cubes_of ms) ≡ length ms
length-cubes_of [] = refl
length-cubes_of (m ∷ ms) = omega (arith, length-cubes_of ms)

pub sum_from_merges : (ms : List (List ℕ)) (last : List (List Literal)) → AllByRecursion IsRising ms → Merges (cubes_of ms) last → IsExclusiveSumOf ms last
sum_from_merges ms last h m =
    let end = merged (StandsIn ms) (cubes_of ms) last m (are_cubes-cubes_of ms h) (inputs-cubes_of (StandsIn ms) ms (λ i k. k)) in
    record {
      values = λ x. end.values x ∙ value-cubes_of x ms;
      few = omega (arith, end.few, length-cubes_of ms);
      are_cubes = end.are_cubes;
      over_inputs = end.over_inputs;
      apart = end.apart;
    }

-- ---- merging has one end

pair_is_one : (cubes : List (List Literal)) (i j k l : ℕ) → IsFirstClosePair cubes i j → IsFirstClosePair cubes k l → (i ≡ k) × (j ≡ l)
pair_is_one cubes i j k l p q =
    let first : i ≡ k = elim (cases_order i k) [
      | inl e ↦ e
      | inr o ↦ elim o [
        | inl a ↦ absurd (omega (arith, p.close, q.first i j a p.ordered p.in_range))
        | inr a ↦ absurd (omega (arith, q.close, p.first k l a q.ordered q.in_range))
      ]
    ] in
    let second : j ≡ l = elim (cases_order j l) [
      | inl e ↦ e
      | inr o ↦ elim o [
        | inl a ↦ let before : 1 < distance_at cubes k j = q.second j (subst (λ n. n < j) first p.ordered) a in
            let close : distance_at cubes k j ≤ 1 = subst (λ n. distance_at cubes n j ≤ 1) first p.close in absurd (omega arith)
        | inr a ↦ let before : 1 < distance_at cubes i l = p.second l (subst (λ n. n < l) (sym first) q.ordered) a in
            let close : distance_at cubes i l ≤ 1 = subst (λ n. distance_at cubes n l ≤ 1) (sym first) q.close in absurd (omega arith)
      ]
    ] in
    (first, second)

not_done : (cubes : List (List Literal)) (i j : ℕ) → AreFarApart cubes → IsFirstClosePair cubes i j → ⊥
not_done cubes i j a p = absurd (omega (arith, p.close, a i j p.ordered p.in_range))

done_is_it : (cubes b : List (List Literal)) → AreFarApart cubes → Merges cubes b → cubes ≡ b
done_is_it cubes b apart (done cs other) = refl
done_is_it cubes b apart (cancelled cs end i j f h m) = absurd (not_done cs i j apart f)
done_is_it cubes b apart (joined cs end i j cube f h g m) = absurd (not_done cs i j apart f)

cancelled_is_it : (cubes a b : List (List Literal)) (i j : ℕ) → IsFirstClosePair cubes i j → distance_at cubes i j ≡ 0
    → ((c : List (List Literal)) → Merges (without_pair cubes i j) c → a ≡ c) → Merges cubes b → a ≡ b
cancelled_is_it cubes a b i j f h rest (done cs apart) = absurd (not_done cs i j apart f)
cancelled_is_it cubes a b i j f h rest (cancelled cs end k l p e m) =
    let one = pair_is_one cs i j k l f p in
    rest end (subst (λ n. Merges (without_pair cs n j) end) (sym one.0) (subst (λ n. Merges (without_pair cs k n) end) (sym one.1) m))
cancelled_is_it cubes a b i j f h rest (joined cs end k l cube p e g m) =
    let one = pair_is_one cs i j k l f p in
    let same : distance_at cs i j ≡ distance_at cs k l = ap (λ n. distance_at cs n j) one.0 ∙ ap (λ n. distance_at cs k n) one.1 in
    absurd (omega arith)

joined_is_it : (cubes a b : List (List Literal)) (i j : ℕ) (cube : List Literal) → IsFirstClosePair cubes i j → distance_at cubes i j ≡ 1
    → IsJoined (cube_at cubes i) (cube_at cubes j) cube
    → ((c : List (List Literal)) → Merges (without_pair cubes i j ++ cube ∷ []) c → a ≡ c) → Merges cubes b → a ≡ b
joined_is_it cubes a b i j cube f h g rest (done cs apart) = absurd (not_done cs i j apart f)
joined_is_it cubes a b i j cube f h g rest (cancelled cs end k l p e m) =
    let one = pair_is_one cs i j k l f p in
    let same : distance_at cs i j ≡ distance_at cs k l = ap (λ n. distance_at cs n j) one.0 ∙ ap (λ n. distance_at cs k n) one.1 in
    absurd (omega arith)
joined_is_it cubes a b i j cube f h g rest (joined cs end k l other p e o m) =
    let one = pair_is_one cs i j k l f p in
    let there : IsJoined (cube_at cs i) (cube_at cs j) other = subst (λ n. IsJoined (cube_at cs n) (cube_at cs j) other) (sym one.0)
    (subst (λ n. IsJoined (cube_at cs k) (cube_at cs n) other) (sym one.1) o) in
    let cubes_same : other ≡ cube = same_states_same other cube there.is_cube g.is_cube (λ i. there.states i ∙ sym (g.states i)) in
    rest end (subst (λ (c : List Literal). Merges (without_pair cs i j ++ c ∷ []) end) cubes_same
    (subst (λ n. Merges (without_pair cs n j ++ other ∷ []) end) (sym one.0) (subst (λ n. Merges (without_pair cs k n ++ other ∷ []) end) (sym one.1) m)))

pub merging_is_determined : (cubes a b : List (List Literal)) → Merges cubes a → Merges cubes b → a ≡ b
merging_is_determined cubes a b (done cs apart) m = done_is_it cs b apart m
merging_is_determined cubes a b (cancelled cs end i j f h m) n = cancelled_is_it cs end b i j f h
    (λ c n. merging_is_determined (without_pair cs i j) end c m n) n
merging_is_determined cubes a b (joined cs end i j cube f h g m) n = joined_is_it cs end b i j cube f h g
    (λ c n. merging_is_determined (without_pair cs i j ++ cube ∷ []) end c m n) n
