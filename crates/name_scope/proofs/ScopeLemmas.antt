-- The names that a block or a function binds stand before those that were in scope.
use Rattle.std.proofs.Common.{◌≡◌, ℕ, ◌+◌, ◌-◌, ◌*◌, ◌≤◌, ◌<◌, max, List, [], ◌∷◌, ◌++◌, length, get_or, drop, refl, sym, ap, ◌∙◌}
use Rattle.std.proofs.Common.{arith, append_assoc, length-append}
use denote.Param.Weighed.{most, at_most}
use Rattle.std.proofs.Math.Seq.{drop-append_seam}
use Rattle.revs_terms.specs.declared.term.Name.{Name}
use Rattle.revs_terms.specs.Trees.{Tree, ItemTree, ItemTrees, no_items, item, bind, run, trees, item_trees}
use Rattle.revs_terms.specs.Scopes.{Scoped, scoped, nearer, scoped_tree, scoped_items}
use Rattle.revs_terms.specs.Terms.{names_of, names_of_all, names_of_items, names_of_item}
use Rattle.name_scope.proofs.VerdictLemmas.{first_is_bound}

-- Some names, so many at most, stand before those of a scope.
pub record Stands (before now : List (List ℕ)) (most : ℕ) : Type 0 where
  pub front : List (List ℕ)
  pub is : now ≡ front ++ before
  pub few : length front ≤ most

last_of : (is js : ItemTrees) (s n : List (List ℕ)) → ◌≡◌ {A = Scoped (ItemTrees × List (List ℕ))} (scoped (is, s)) (scoped (js, n)) → n ≡ s
last_of is js s n e =
    let p : ItemTrees × List (List ℕ) = (is, s) in
    let q : ItemTrees × List (List ℕ) = (js, n) in
    let h : p ≡ q = cc in
    sym (ap (λ (r : ItemTrees × List (List ℕ)). r.1) h)

pub items_stand : (is : ItemTrees) (s : List (List ℕ)) (js : ItemTrees) (n : List (List ℕ)) → scoped_items s is ≡ scoped (js, n)
    → Stands s n (names_of_items is)
items_stand no_items s js n e = record { front = []; is = last_of no_items js s n e; few = omega arith }
items_stand (item (bind name value) is) s js n e =
    let h = first_is_bound (scoped_tree s value) _ _ e in
    let g = first_is_bound (scoped_items (name.text ∷ s) is) _ _ h.1.1 in
    let b = items_stand is (name.text ∷ s) g.0.0 g.0.1 g.1.0 in
    record {
      front = b.front ++ name.text ∷ [];
      is = last_of _ _ _ _ g.1.1 ∙ b.is ∙ sym (append_assoc b.front (name.text ∷ []) s);
      few = omega
          (arith, length-append b.front (name.text ∷ []), b.few);
    }
items_stand (item (run t) is) s js n e =
    let h = first_is_bound (scoped_tree s t) _ _ e in
    let g = first_is_bound (scoped_items s is) _ _ h.1.1 in
    let b = items_stand is s g.0.0 g.0.1 g.1.0 in
    record { front = b.front; is = last_of _ _ _ _ g.1.1 ∙ b.is; few = omega (arith, b.few) }

pub names_stand : (names : List Name) (s : List (List ℕ)) → Stands s (nearer names s) (length names)
names_stand [] s = record { front = []; is = refl; few = omega arith }
names_stand (name ∷ names) s =
    let b = names_stand names (name.text ∷ s) in
    record {
      front = b.front ++ name.text ∷ [];
      is = b.is ∙ sym (append_assoc b.front (name.text ∷ []) s);
      few = omega
          (arith, length-append b.front (name.text ∷ []), b.few);
    }

-- a name, and those in front of it
pub inside_stands : (s m n : List (List ℕ)) (name : List ℕ) (most : ℕ) → m ≡ name ∷ s → Stands m n most → Stands s n (most + 1)
inside_stands s m n name most e h =
    record {
      front = h.front ++ name ∷ [];
      is = h.is ∙ ap (λ (r : List (List ℕ)). h.front ++ r) e ∙ sym (append_assoc h.front (name ∷ []) s);
      few = omega (arith, length-append h.front (name ∷ []), h.few);
    }

-- what is left where the names go out of scope
pub left_again : (s n : List (List ℕ)) (most : ℕ) → Stands s n most → drop (length n - length s) n ≡ s
left_again s n most h =
    let e : length n - length s ≡ length h.front = omega (arith, ap length h.is ∙ length-append h.front s) in
    rw e (rw h.is (drop-append_seam h.front s))

pub deeper : (s n : List (List ℕ)) (most : ℕ) → Stands s n most → length s ≤ length n
deeper s n most h = omega (arith, ap length h.is ∙ length-append h.front s)

pub few_deeper : (s n : List (List ℕ)) (most : ℕ) → Stands s n most → length n ≤ length s + most
few_deeper s n most h = omega (arith, ap length h.is ∙ length-append h.front s, h.few)

pub names_of-split : (ts rest : List Tree) (t : Tree)
    → names_of_all (trees (ts ++ t ∷ rest)) ≡ names_of_all (trees ts) + (names_of t + names_of_all (trees rest))
names_of-split [] rest t = omega arith
names_of-split (u ∷ ts) rest t = omega (arith, names_of-split ts rest t)

pub names_of-items_split : (ts rest : List ItemTree) (t : ItemTree)
    → names_of_items (item_trees (ts ++ t ∷ rest)) ≡ names_of_items (item_trees ts) + (names_of_item t + names_of_items (item_trees rest))
names_of-items_split [] rest t = omega arith
names_of-items_split (u ∷ ts) rest t = omega (arith, names_of-items_split ts rest t)

-- the same where the scope and its depth go by other names
pub left_at_depth : (s m n : List (List ℕ)) (d most : ℕ) → Stands s m most → n ≡ m → d ≡ length s → drop (length n - d) n ≡ s
left_at_depth s m n d most h e f = rw e (rw f (left_again s m most h))

pub depth_below : (s m n : List (List ℕ)) (d most : ℕ) → Stands s m most → n ≡ m → d ≡ length s → d ≤ length n
depth_below s m n d most h e f = rw e (rw f (deeper s m most h))

-- ---- parts of a term, within what the term binds

pub front_fits : (n a most : ℕ) → n + a < most → n < most
front_fits n a most h = omega arith

pub behind_fits : (s m : List (List ℕ)) (a b most : ℕ) → Stands s m a → length s + (a + b) < most → length m + b < most
behind_fits s m a b most stands h = omega (arith, few_deeper s m a stands, h)

pub element_fits : (s m : List (List ℕ)) (a b most : ℕ) → m ≡ s → a ≤ b → length s + b < most → length m + a < most
element_fits s m a b most e few h = rw e (omega (arith, few, h))

pub within : (n m most : ℕ) → n ≤ m → m < most → n < most
within n m most few h = omega arith

pub itself : (n : ℕ) → n ≤ n
itself n = omega arith

-- ---- parts of a term, by the measure of the calls

pub second_falls : (a b t : ℕ) → 3 * max a b + 2 ≡ t → 3 * b < t
second_falls a b t e = omega arith

pub element_falls : {A : Type 0} (size : A → ℕ) (l : List A) (i t : ℕ) (d : A) → i < length l → 3 * most size l + 1 ≡ t → 3 * size (get_or l i d) < t
element_falls size l i t d below e = omega (arith, at_most size l i d below)
