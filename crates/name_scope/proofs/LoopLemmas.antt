-- The loops over the terms of a chain and over the items of a block, as far as they have come.
use Rattle.std.proofs.Common.{◌≡◌, ℕ, suc, ◌+◌, ◌<◌, ◌≤◌, List, [], ◌∷◌, ◌++◌, length, get_or, set, take, drop, map, ap, ◌∙◌, arith, length-set}
use Rattle.std.proofs.lemmas.List.{map-append, take_more, take_more_set, get_or-set_other}
use Rattle.revs_terms.specs.declared.term.Term.{Term}
use Rattle.revs_terms.specs.declared.term.Item.{Item}
use Rattle.revs_terms.specs.Trees.{no_items, item, trees, item_trees, tree_of, item_tree_of}
use Rattle.revs_terms.specs.Scopes.{scoped, scoped_tree, scoped_trees, scoped_items}
use Rattle.revs_terms.specs.Terms.{names_of, names_of_all, names_of_items, names_of_item}
use Rattle.name_scope.specs.declared.binding.ScopeFault.{ScopeFault}
use Rattle.name_scope.specs.inside.Verdicts.{IsUnbound}
use Rattle.name_scope.proofs.VerdictLemmas.{split_at, trees_more, trees_stop, items_more, items_stop}
use Rattle.name_scope.proofs.ScopeLemmas.{items_stand, few_deeper, names_of-split, names_of-items_split}

-- what is not reached yet is as it was
pub unreached : {A : Type 0} (now l : List A) (i : ℕ) (y : A) → (length now ≡ length l) × ((k : ℕ) (d : A) → i ≤ k → get_or now k d ≡ get_or l k d)
    → (length (set now i y) ≡ length l) × ((k : ℕ) (d : A) → i + 1 ≤ k → get_or (set now i y) k d ≡ get_or l k d)
unreached now l i y h = (length-set now i y ∙ h.0, λ k d le. get_or-set_other now i k y d (omega arith) ∙ h.1 k d (omega arith))

-- ---- terms

pub term_fits : (l : List Term) (i : ℕ) (d x : Term) → i < length l → get_or l i d ≡ x → names_of (tree_of x) ≤ names_of_all (trees (map tree_of l))
term_fits l i d x below e =
    let all : map tree_of l ≡ map tree_of (take i l) ++ tree_of x ∷ map tree_of (drop (suc i) l) = ap (map tree_of)
    (split_at l i d x below e) ∙ map-append tree_of (take i l) (x ∷ drop (suc i) l) in
    rw all (omega (arith, names_of-split (map tree_of (take i l)) (map tree_of (drop (suc i) l)) (tree_of x)))

pub terms_go_on : (s : List (List ℕ)) (l now : List Term) (i : ℕ) (d x y : Term) → i < length l → length now ≡ length l → get_or l i d ≡ x
    → scoped_trees s (trees (map tree_of (take i l))) ≡ scoped (trees (map tree_of (take i now))) → scoped_tree s (tree_of x) ≡ scoped (tree_of y)
    → scoped_trees s (trees (map tree_of (take (i + 1) l))) ≡ scoped (trees (map tree_of (take (i + 1) (set now i y))))
terms_go_on s l now i d x y below len e h g =
    rw (take_more l i d below) (rw (take_more_set now i y (omega arith))
    (rw e (rw (map-append tree_of (take i l) (x ∷ [])) (rw (map-append tree_of (take i now) (y ∷ []))
    (trees_more s (map tree_of (take i l)) (map tree_of (take i now)) (tree_of x) (tree_of y) h g)))))

pub terms_stop : (s : List (List ℕ)) (l now : List Term) (i : ℕ) (d x : Term) (f : ScopeFault) → i < length l → get_or l i d ≡ x
    → scoped_trees s (trees (map tree_of (take i l))) ≡ scoped (trees (map tree_of (take i now))) → IsUnbound f (scoped_tree s (tree_of x))
    → IsUnbound f (scoped_trees s (trees (map tree_of l)))
terms_stop s l now i d x f below e h g =
    let all : map tree_of l ≡ map tree_of (take i l) ++ tree_of x ∷ map tree_of (drop (suc i) l) = ap (map tree_of)
    (split_at l i d x below e) ∙ map-append tree_of (take i l) (x ∷ drop (suc i) l) in
    rw all (trees_stop s (map tree_of (take i l)) (map tree_of (take i now)) (tree_of x) (map tree_of (drop (suc i) l)) f h g)

-- ---- items

pub item_fits : (s m : List (List ℕ)) (l now : List Item) (i : ℕ) (d x : Item) → i < length l → get_or l i d ≡ x
    → scoped_items s (item_trees (map item_tree_of (take i l))) ≡ scoped (item_trees (map item_tree_of (take i now)), m)
    → length m + names_of_item (item_tree_of x) ≤ length s + names_of_items (item_trees (map item_tree_of l))
item_fits s m l now i d x below e h =
    let all : map item_tree_of l ≡ map item_tree_of (take i l) ++ item_tree_of x ∷ map item_tree_of (drop (suc i) l) = ap (map item_tree_of)
    (split_at l i d x below e) ∙ map-append item_tree_of (take i l) (x ∷ drop (suc i) l) in
    rw all (omega (
      arith,
      names_of-items_split (map item_tree_of (take i l)) (map item_tree_of (drop (suc i) l)) (item_tree_of x),
      few_deeper s m _
          (items_stand (item_trees (map item_tree_of (take i l))) s _ m h),
    ))

pub items_go_on : (s m n : List (List ℕ)) (l now : List Item) (i : ℕ) (d x y : Item) → i < length l → length now ≡ length l → get_or l i d ≡ x
    → scoped_items s (item_trees (map item_tree_of (take i l))) ≡ scoped (item_trees (map item_tree_of (take i now)), m)
    → scoped_items m (item (item_tree_of x) no_items) ≡ scoped (item (item_tree_of y) no_items, n)
    → scoped_items s (item_trees (map item_tree_of (take (i + 1) l))) ≡ scoped (item_trees (map item_tree_of (take (i + 1) (set now i y))), n)
items_go_on s m n l now i d x y below len e h g =
    rw (take_more l i d below) (rw (take_more_set now i y (omega arith))
    (rw e (rw (map-append item_tree_of (take i l) (x ∷ [])) (rw (map-append item_tree_of (take i now) (y ∷ []))
    (items_more s m n (map item_tree_of (take i l)) (map item_tree_of (take i now)) (item_tree_of x) (item_tree_of y) h g)))))

pub items_end : (s m : List (List ℕ)) (l now : List Item) (i : ℕ) (d x : Item) (f : ScopeFault) → i < length l → get_or l i d ≡ x
    → scoped_items s (item_trees (map item_tree_of (take i l))) ≡ scoped (item_trees (map item_tree_of (take i now)), m)
    → IsUnbound f (scoped_items m (item (item_tree_of x) no_items)) → IsUnbound f (scoped_items s (item_trees (map item_tree_of l)))
items_end s m l now i d x f below e h g =
    let all : map item_tree_of l ≡ map item_tree_of (take i l) ++ item_tree_of x ∷ map item_tree_of (drop (suc i) l) = ap (map item_tree_of)
    (split_at l i d x below e) ∙ map-append item_tree_of (take i l) (x ∷ drop (suc i) l) in
    rw all (items_stop s m (map item_tree_of (take i l)) (map item_tree_of (take i now)) (item_tree_of x) (map item_tree_of (drop (suc i) l)) f h g)
