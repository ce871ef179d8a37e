-- The table of the nearest bindings goes along with the names in scope.
use Rattle.std.proofs.Common.{◌≡◌, ℕ, suc, ◌+◌, ◌-◌, ◌<◌, ◌≤◌, Bool, true, false, cond, ltb, Option, Some, None, List, [], ◌∷◌, ◌++◌, length, reverse, map}
use Rattle.std.proofs.Common.{drop, position, bytes_eq, Result, Ok, Err, OnOk, OnErr, refl, sym, ap, subst, ◌∙◌, arith}
use Rattle.std.specs.List.{position_or_len}
use Rattle.std.proofs.lemmas.Bool.{lt-ltb, ltb-true}
use Rattle.std.proofs.lemmas.List.{reverse-append, length-reverse, drop-drop}
use Rattle.std.proofs.lemmas.Slice.Eq.{bytes_eq-Decides}
use Rattle.name_scope.specs.declared.names.Bound.{Bound}
use Rattle.name_scope.specs.inside.Bindings.{depth_of, held, Hide}

-- ---- texts

equal : (a b : List ℕ) → bytes_eq a b ≡ true → a ≡ b
equal a b e = (bytes_eq-Decides a b).0 e

pub itself : (a : List ℕ) → bytes_eq a a ≡ true
itself a = (bytes_eq-Decides a a).1 refl

pub by_cases : (b : Bool) {P : Type 0} → (b ≡ true → P) → (b ≡ false → P) → P
by_cases true t f = t refl
by_cases false t f = f refl

not_equal : (x : Bool) (a b : List ℕ) → bytes_eq b a ≡ x → x ≡ false → bytes_eq a b ≡ false
not_equal x a b e f =
    by_cases (bytes_eq a b) (λ t. let same : a ≡ b = equal a b t in let u : bytes_eq b a ≡ true = subst (λ (y : List ℕ). bytes_eq b y ≡ true) (sym same)
    (itself b) in cc) (λ g. g)

-- ---- a name is bound

pub bound_more : (f g : List ℕ → Option (Option ℕ)) (bs : List Bound) (b : Bound) (depth : ℕ) → depth ≡ length bs
    → ((q : List ℕ) → g q ≡ cond (bytes_eq b.name q) (Some (Some depth)) (f q)) → ((q : List ℕ) → held (f q) ≡ depth_of q bs)
    → (q : List ℕ) → held (g q) ≡ depth_of q (b ∷ bs)
bound_more f g bs b depth e u h q = by_cases (bytes_eq q b.name)
    (λ t. let same : q ≡ b.name = equal q b.name t in
    let back : bytes_eq b.name q ≡ true = subst (λ (y : List ℕ). bytes_eq b.name y ≡ true) (sym same) (itself b.name) in
    rw (u q) (rw back (rw t (ap Some e))))
    (λ t. let back : bytes_eq b.name q ≡ false = not_equal false b.name q t refl in
    rw (u q) (rw back (rw t (h q))))

-- ---- a name goes out of scope

bound_less : (f g : List ℕ → Option (Option ℕ)) (bs : List Bound) (b : Bound) → b.hidden ≡ depth_of b.name bs
    → ((q : List ℕ) → g q ≡ cond (bytes_eq b.name q) (Some b.hidden) (f q)) → ((q : List ℕ) → held (f q) ≡ depth_of q (b ∷ bs))
    → (q : List ℕ) → held (g q) ≡ depth_of q bs
bound_less f g bs b e u h q = by_cases (bytes_eq b.name q)
    (λ t. let same : b.name ≡ q = equal b.name q t in
    rw (u q) (rw t (e ∙ ap (λ (y : List ℕ). depth_of y bs) same)))
    (λ t. let back : bytes_eq q b.name ≡ false = not_equal false q b.name t refl in
    let known : held (f q) ≡ depth_of q bs = rw back at (h q) in
    rw (u q) (rw t known))

-- a name in scope has an entry
has_entry : (f : List ℕ → Option (Option ℕ)) (bs : List Bound) (b : Bound) → ((q : List ℕ) → held (f q) ≡ depth_of q (b ∷ bs)) → f b.name ≡ None → ⊥
has_entry f bs b h e =
    let known : held (f b.name) ≡ Some (length bs) = rw (itself b.name) at (h b.name) in
    let none : held (f b.name) ≡ None = ap held e in
    cc

after_insert : {A E : Type 0} (r : Result A E) (P U V : Type 0) → OnOk r U → OnErr r V → (U → P) → (V → P) → P
after_insert (Ok a) P U V u v f g = f u
after_insert (Err a) P U V u v f g = g v

-- ---- the list of names

pub drop_one : {A : Type 0} (l : List A) (i d : ℕ) → d ≤ i → drop 1 (drop (i - d) l) ≡ drop (i + 1 - d) l
drop_one l i d below =
    let e : i + 1 - d ≡ i - d + 1 = omega arith in
    rw e (drop-drop 1 (i - d) l)

pub reverse-push : (bs : List Bound) (b : Bound) → reverse (bs ++ b ∷ []) ≡ b ∷ reverse bs
reverse-push bs b = reverse-append bs (b ∷ [])

-- The last binding goes out of scope, and what it hid is written to the table, where it has an entry.
pub gone : {A E U V : Type 0} (f g : List ℕ → Option (Option ℕ)) {old : List Bound} (new : List Bound) (b : Bound) (r : Result A E) → old ≡ new ++ b ∷ []
    → Hide (reverse old) × ((q : List ℕ) → held (f q) ≡ depth_of q (reverse old)) → OnOk r U → OnErr r V
    → (U → (q : List ℕ) → g q ≡ cond (bytes_eq b.name q) (Some b.hidden) (f q)) → (V → f b.name ≡ None)
    → Hide (reverse new) × ((q : List ℕ) → held (g q) ≡ depth_of q (reverse new))
gone {U = U} {V = V} f g new b r e h ok err written absent =
    let i = rw (ap reverse e ∙ reverse-push new b) at h in (
      i.0.1,
      after_insert r _ U V ok err (λ u. bound_less f g (reverse new) b i.0.0 (written u) i.1) (λ v. absurd (has_entry f (reverse new) b i.1 (absent v))),
    )

pub names-length : (bs : List Bound) → length (map (λ b. b.name) (reverse bs)) ≡ length bs
names-length bs = names_of (reverse bs) ∙ length-reverse bs where
  names_of : (l : List Bound) → length (map (λ b. b.name) l) ≡ length l
  names_of [] = refl
  names_of (b ∷ l) = ap suc (names_of l)

-- ---- look-ups

record IsAt (name : List ℕ) (bs : List Bound) (depth : ℕ) : Type 0 where
  below : depth < length bs
  first : position_or_len (bytes_eq name) (map (λ b. b.name) bs) ≡ length bs - 1 - depth

place_of_depth : (name : List ℕ) (bs : List Bound) (depth : ℕ) → depth_of name bs ≡ Some depth → IsAt name bs depth
place_of_depth name [] depth e = cc
place_of_depth name (b ∷ bs) depth e = by_cases (bytes_eq name b.name)
    (λ t. let d : Some (length bs) ≡ Some depth = rw t at e in
    let same : length bs ≡ depth = cc in
    record { below = omega arith; first = rw t (omega arith) })
    (λ t. let h = place_of_depth name bs depth (rw t at e) in
    record { below = omega (arith, h.below); first = rw t (omega (arith, h.first, h.below)) })

none_first : (name : List ℕ) (bs : List Bound) → depth_of name bs ≡ None
    → position_or_len (bytes_eq name) (map (λ b. b.name) bs) ≡ length (map (λ b. b.name) bs)
none_first name [] e = refl
none_first name (b ∷ bs) e = by_cases (bytes_eq name b.name)
    (λ t. let no : Some (length bs) ≡ None = rw t at e in cc)
    (λ t. rw t (omega (arith, none_first name bs (rw t at e))))

pub nowhere : (name : List ℕ) (bs : List Bound) → depth_of name bs ≡ None → None ≡ position (bytes_eq name) (map (λ b. b.name) bs)
nowhere name bs e =
    let k = position_or_len (bytes_eq name) (map (λ b. b.name) bs) in
    let n = length (map (λ b. b.name) bs) in
    by_cases (ltb k n)
    (λ t. absurd (omega (arith, ltb-true k n t, none_first name bs e)))
    (λ t. rw t refl)

pub somewhere : (name : List ℕ) (bs : List Bound) (depth : ℕ) → depth_of name (reverse bs) ≡ Some depth
    → (depth < length bs) × (Some (length bs - 1 - depth) ≡ position (bytes_eq name) (map (λ b. b.name) (reverse bs)))
somewhere name bs depth e =
    let h = place_of_depth name (reverse bs) depth e in
    let len : length (reverse bs) ≡ length bs = length-reverse bs in
    let names : length (map (λ b. b.name) (reverse bs)) ≡ length bs = names-length bs in
    let below : depth < length bs = omega (arith, h.below) in
    let first : position_or_len (bytes_eq name) (map (λ b. b.name) (reverse bs)) ≡ length bs - 1 - depth = rw len at h.first in
    let less : ltb (position_or_len (bytes_eq name) (map (λ b. b.name) (reverse bs))) (length (map (λ b. b.name) (reverse bs))) ≡ true = rw first
    (rw names (lt-ltb _ _ (omega (arith, below)))) in
    (below, rw less (ap Some (sym first)))
