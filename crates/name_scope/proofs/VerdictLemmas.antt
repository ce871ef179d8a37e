-- Binding goes through a tree from left to right: what a step says of the whole.
use Rattle.std.proofs.Common.{◌≡◌, ℕ, suc, ◌<◌, List, [], ◌∷◌, ◌++◌, length, get_or, take, drop, refl, sym, ap, ◌∙◌, Result, Ok, Err, IsErrAnd}
use Rattle.std.proofs.Math.Seq.{drop-cons}
use Rattle.std.proofs.lemmas.List.{take-append-drop}
use Rattle.revc_base.specs.declared.place.Place.{Place}
use Rattle.revs_terms.specs.declared.term.Name.{Name}
use Rattle.revs_terms.specs.declared.term.Unit as u
use Rattle.revs_terms.specs.declared.term.Step.{Step}
use Rattle.revs_terms.specs.Numbers.{plus}
use Rattle.revs_terms.specs.Trees.{Tree, Trees, ItemTree, ItemTrees, nil, cons, no_items, item, bind, run, trees, item_trees, block, function, loop}
use Rattle.revs_terms.specs.Scopes.{Scoped, unbound, scoped, and_then, scoped_tree, scoped_trees, scoped_items, scoped_num, scoped_unit}
use Rattle.name_scope.specs.declared.binding.ScopeFault.{ScopeFault}
use Rattle.name_scope.specs.declared.binding.ScopeFault.TheVariants as fault
use Rattle.name_scope.specs.inside.Verdicts.{IsUnbound, Binds, BindsIn, in_turn, with_last, with_names, alone}

-- ---- one step

-- a part of a term, and the term
pub part_binds : {A C : Type 0} (f : A → C) (r : Result (Unit {0}) ScopeFault) (v : Scoped A) (a : A) (s n : List (List ℕ)) → BindsIn r v a s n
    → BindsIn r (and_then v (λ u. scoped (f u))) (f a) s n
part_binds f (Ok done) v a s n e = (rw e.0 refl, e.1)
part_binds f (Err (fault.Unbound at)) v a s n e = rw e refl
part_binds f (Err (fault.TwoParams at)) v a s n e = e
part_binds f (Err (fault.Memory _)) v a s n e = tt

pub run_binds : (r : Result (Unit {0}) ScopeFault) (old term : Tree) (s n : List (List ℕ)) → BindsIn r (scoped_tree s old) term s n
    → Binds r (scoped_items s (item (run old) no_items)) (item (run term) no_items, n)
run_binds (Ok done) old term s n e = rw e.0 (rw e.1 refl)
run_binds (Err (fault.Unbound at)) old term s n e = rw e refl
run_binds (Err (fault.TwoParams at)) old term s n e = e
run_binds (Err (fault.Memory _)) old term s n e = tt

onward : {A B C : Type 0} (x : Scoped A) (f : A → B) (g : B → C)
    → and_then x (λ a. scoped (g (f a))) ≡ and_then (and_then x (λ a. scoped (f a))) (λ b. scoped (g b))
onward (unbound at) f g = refl
onward (scoped a) f g = refl

of_both : {A B C : Type 0} (f : A → B → C) (v : Scoped A) (w : Scoped B)
    → and_then v (λ a. and_then w (λ b. scoped (f a b))) ≡ and_then (in_turn v w) (λ p. scoped (f p.0 p.1))
of_both f (unbound at) w = refl
of_both f (scoped a) (unbound at) = refl
of_both f (scoped a) (scoped b) = refl

of_last : (v : Scoped (ItemTrees × List (List ℕ))) (last : Tree) (at : Place)
    → and_then v (λ r. and_then (scoped_tree r.1 last) (λ l. scoped (block r.0 l at))) ≡ and_then (with_last v last) (λ p. scoped (block p.0 p.1 at))
of_last (unbound from) last at = refl
of_last (scoped q) last at = onward (scoped_tree q.1 last) (λ l. (q.0, l)) (λ p. block p.0 p.1 at)

of_loop : {A B C D : Type 0} (f : A → B → C → D) (v : Scoped A) (w : Scoped B) (x : Scoped (C × List (List ℕ)))
    → and_then v (λ a. and_then w (λ b. and_then x (λ r. scoped (f a b r.0)))) ≡ and_then (in_turn (in_turn v w) (and_then x (λ r. scoped r.0)))
    (λ p. scoped (f p.0.0 p.0.1 p.1))
of_loop f (unbound at) w x = refl
of_loop f (scoped a) (unbound at) x = refl
of_loop f (scoped a) (scoped b) (unbound at) = refl
of_loop f (scoped a) (scoped b) (scoped c) = refl

-- two parts of a term, and the term
pub both_bind : {A B C : Type 0} (f : A → B → C) (r : Result (Unit {0}) ScopeFault) (v : Scoped A) (w : Scoped B) (a : A) (b : B) (s n : List (List ℕ))
    → BindsIn r (in_turn v w) (a, b) s n → BindsIn r (and_then v (λ c. and_then w (λ d. scoped (f c d)))) (f a b) s n
both_bind {A} {B} {C} f r v w a b s n h = rw (of_both f v w) (part_binds {A = A × B} {C = C} (λ p. f p.0 p.1) r (in_turn v w) (a, b) s n h)

-- the items and the last expression of a block, and the block
pub block_binds : (r : Result (Unit {0}) ScopeFault) (v : Scoped (ItemTrees × List (List ℕ))) (last : Tree) (items : ItemTrees) (l : Tree) (at : Place)
    (s n : List (List ℕ)) → BindsIn r (with_last v last) (items, l) s n
    → BindsIn r (and_then v (λ r. and_then (scoped_tree r.1 last) (λ l. scoped (block r.0 l at)))) (block items l at) s n
block_binds r v last items l at s n h =
    rw (of_last v last at) (part_binds {A = ItemTrees × Tree} {C = Tree} (λ p. block p.0 p.1 at) r (with_last v last) (items, l) s n h)

-- the numbers and the items of a `for`, and the `for` as an item
pub loop_binds : (r : Result (Unit {0}) ScopeFault) (s n : List (List ℕ)) (name : Name) (a b c d : List Step) (is js : ItemTrees) (at : Place)
    → BindsIn r (in_turn (in_turn (scoped_num s a) (scoped_num s b)) (alone (scoped_items (name.text ∷ s) is))) ((c, d), js) s n
    → Binds r (scoped_items s (item (run (loop name a b is at)) no_items)) (item (run (loop name c d js at)) no_items, n)
loop_binds r s n name a b c d is js at h =
    let v = scoped_num s a in
    let w = scoped_num s b in
    let x = scoped_items (name.text ∷ s) is in
    let whole : BindsIn r (scoped_tree s (loop name a b is at)) (loop name c d js at) s n =
    rw (of_loop (λ k l ks. loop name k l ks at) v w x)
    (part_binds {A = (List Step × List Step) × ItemTrees} {C = Tree} (λ p. loop name p.0.0 p.0.1 p.1 at) r (in_turn (in_turn v w) (alone x))
    ((c, d), js) s n h) in
    run_binds r (loop name a b is at) (loop name c d js at) s n whole

-- the body of a function, and the function
pub function_binds : (r : Result (Unit {0}) ScopeFault) (v : Scoped Tree) (old new : List Name) (body : Tree) (at : Place) (s n : List (List ℕ))
    → BindsIn r (with_names old v) (new, body) s n → BindsIn r (and_then v (λ b. scoped (function old b at))) (function new body at) s n
function_binds r v old new body at s n h =
    rw (onward {A = Tree} {B = List Name × Tree} {C = Tree} v (λ b. (old, b)) (λ p. function p.0 p.1 at))
    (part_binds {A = List Name × Tree} {C = Tree} (λ p. function p.0 p.1 at) r (with_names old v) (new, body) s n h)

-- the first unit of a number, and the steps behind it
pub steps_bind : (r : Result (Unit {0}) ScopeFault) (s : List (List ℕ)) (a b : u.Unit) (ps qs : List Step) → scoped_unit s a ≡ scoped b
    → Binds r (scoped_num s ps) qs → Binds r (scoped_num s (plus a ∷ ps)) (plus b ∷ qs)
steps_bind (Ok done) s a b ps qs e h = rw e (rw h refl)
steps_bind (Err (fault.Unbound at)) s a b ps qs e h = rw e (rw h refl)
steps_bind (Err (fault.TwoParams at)) s a b ps qs e h = h
steps_bind (Err (fault.Memory _)) s a b ps qs e h = tt

-- a part whose refusal is passed on
pub first_is_unbound : {A C : Type 0} (next : A → Scoped C) (f : ScopeFault) (v : Scoped A) → IsUnbound f v → IsUnbound f (and_then v next)
first_is_unbound next (fault.Unbound at) v e = rw e refl
first_is_unbound next (fault.TwoParams at) v e = e
first_is_unbound next (fault.Memory _) v e = tt

pub items_bound : {A : Type 0} (v : Scoped A) (a : A) (s m n : List (List ℕ)) (name : List ℕ) (is js : ItemTrees) → v ≡ scoped a → m ≡ name ∷ s
    → scoped_items m is ≡ scoped (js, n) → in_turn v (alone (scoped_items (name ∷ s) is)) ≡ scoped (a, js)
items_bound v a s m n name is js e b h = rw e (rw (← b) (rw h refl))

-- a call that passes on a refusal
pub passed_on : {A : Type 0} (r : Result (Unit {0}) ScopeFault) (f : ScopeFault) (v : Scoped A) (a : A) → IsErrAnd r (λ e. e ≡ f) → IsUnbound f v
    → Binds r v a
passed_on (Ok done) f v a e h = absurd e
passed_on (Err g) f v a e h = rw e h

pub refused_in : {A : Type 0} (r : Result (Unit {0}) ScopeFault) (f : ScopeFault) (v : Scoped A) (a : A) (s n : List (List ℕ)) → IsErrAnd r (λ e. e ≡ f)
    → IsUnbound f v → BindsIn r v a s n
refused_in (Ok done) f v a s n e h = absurd e
refused_in (Err g) f v a s n e h = rw e h

-- a tree is bound only where its first part is
pub first_is_bound : {A C : Type 0} (v : Scoped A) (next : A → Scoped C) (c : C) → and_then v next ≡ scoped c
    → (a : A) × ((v ≡ scoped a) × (next a ≡ scoped c))
first_is_bound (unbound at) next c e = cc
first_is_bound (scoped a) next c e = (a, (refl, e))

-- ---- lists

pub split_at : {A : Type 0} (l : List A) (i : ℕ) (d x : A) → i < length l → get_or l i d ≡ x → l ≡ take i l ++ x ∷ drop (suc i) l
split_at {A} l i d x below e = sym (take-append-drop i l) ∙ ap (λ (r : List A). take i l ++ r) (drop-cons l i d below ∙ ap (λ (y : A). y ∷ drop (suc i) l) e)

join : Trees → Trees → Trees
join nil vs = vs
join (cons t ts) vs = cons t (join ts vs)

join_items : ItemTrees → ItemTrees → ItemTrees
join_items no_items js = js
join_items (item i is) js = item i (join_items is js)

trees-append : (us vs : List Tree) → trees (us ++ vs) ≡ join (trees us) (trees vs)
unfolding join
trees-append [] vs = refl
trees-append (u ∷ us) vs = ap (cons u) (trees-append us vs)

item_trees-append : (us vs : List ItemTree) → item_trees (us ++ vs) ≡ join_items (item_trees us) (item_trees vs)
unfolding join_items
item_trees-append [] vs = refl
item_trees-append (u ∷ us) vs = ap (item u) (item_trees-append us vs)

and_then_scoped : {A : Type 0} (v : Scoped A) → v ≡ and_then v (λ a. scoped a)
and_then_scoped (unbound at) = refl
and_then_scoped (scoped a) = refl

regroup : (a : Scoped Tree) (b c : Scoped Trees)
    → and_then a (λ u. and_then (and_then b (λ us. and_then c (λ vs. scoped (join us vs)))) (λ ws. scoped (cons u ws))) ≡ and_then
    (and_then a (λ u. and_then b (λ us. scoped (cons u us)))) (λ us. and_then c (λ vs. scoped (join us vs)))
unfolding join
regroup (unbound at) b c = refl
regroup (scoped a) (unbound at) c = refl
regroup (scoped a) (scoped b) (unbound at) = refl
regroup (scoped a) (scoped b) (scoped c) = refl

-- trees, one after another
split_trees : (ts rest : List Tree) (s : List (List ℕ))
    → scoped_trees s (trees (ts ++ rest)) ≡ and_then (scoped_trees s (trees ts)) (λ us. and_then (scoped_trees s (trees rest)) (λ vs. scoped (join us vs)))
unfolding join
split_trees [] rest s = and_then_scoped (scoped_trees s (trees rest))
split_trees (t ∷ ts) rest s = rw (split_trees ts rest s) (regroup (scoped_tree s t) (scoped_trees s (trees ts)) (scoped_trees s (trees rest)))

pub trees_more : (s : List (List ℕ)) (ts us : List Tree) (t u : Tree) → scoped_trees s (trees ts) ≡ scoped (trees us) → scoped_tree s t ≡ scoped u
    → scoped_trees s (trees (ts ++ t ∷ [])) ≡ scoped (trees (us ++ u ∷ []))
trees_more s ts us t u e h = rw (split_trees ts (t ∷ []) s) (rw e (rw h (ap scoped (sym (trees-append us (u ∷ []))))))

pub trees_stop : (s : List (List ℕ)) (ts us : List Tree) (t : Tree) (rest : List Tree) (f : ScopeFault) → scoped_trees s (trees ts) ≡ scoped (trees us)
    → IsUnbound f (scoped_tree s t) → IsUnbound f (scoped_trees s (trees (ts ++ t ∷ rest)))
trees_stop s ts us t rest f e h = rw (split_trees ts (t ∷ rest) s) (rw e (first_is_unbound _ f _ (first_is_unbound _ f (scoped_tree s t) h)))

-- an item, before others that were bound
abbrev ahead : ItemTree → ItemTrees × List (List ℕ) → Scoped (ItemTrees × List (List ℕ))
ahead i q = scoped (item i q.0, q.1)

-- items, before others that were bound
abbrev behind : ItemTrees → ItemTrees × List (List ℕ) → Scoped (ItemTrees × List (List ℕ))
unfolding join_items
behind is q = scoped (join_items is q.0, q.1)

regroup_behind : (i : ItemTree) (is : ItemTrees) (x : Scoped (ItemTrees × List (List ℕ)))
    → and_then (and_then x (behind is)) (ahead i) ≡ and_then x (behind (item i is))
unfolding join_items
regroup_behind i is (unbound at) = refl
regroup_behind i is (scoped q) = refl

regroup_items : {A : Type 0} (a : Scoped A) (f : A → ItemTree) (b : Scoped (ItemTrees × List (List ℕ)))
    (c : List (List ℕ) → Scoped (ItemTrees × List (List ℕ)))
    → and_then a (λ u. and_then (and_then b (λ r. and_then (c r.1) (behind r.0))) (ahead (f u))) ≡ and_then (and_then a (λ u. and_then b (ahead (f u))))
    (λ r. and_then (c r.1) (behind r.0))
regroup_items (unbound at) f b c = refl
regroup_items (scoped a) f (unbound at) c = refl
regroup_items (scoped a) f (scoped b) c = regroup_behind (f a) b.0 (c b.1)

same_items : (v : Scoped (ItemTrees × List (List ℕ))) → v ≡ and_then v (behind no_items)
unfolding join_items
same_items (unbound at) = refl
same_items (scoped a) = refl

split_items : (is rest : List ItemTree) (s : List (List ℕ))
    → scoped_items s (item_trees (is ++ rest)) ≡ and_then (scoped_items s (item_trees is)) (λ r. and_then (scoped_items r.1 (item_trees rest)) (behind r.0))
split_items [] rest s = same_items (scoped_items s (item_trees rest))
split_items (bind name value ∷ is) rest s = rw (split_items is rest (name.text ∷ s))
    (regroup_items (scoped_tree s value) (bind name) (scoped_items (name.text ∷ s) (item_trees is)) (λ x. scoped_items x (item_trees rest)))
split_items (run t ∷ is) rest s = rw (split_items is rest s)
    (regroup_items (scoped_tree s t) run (scoped_items s (item_trees is)) (λ x. scoped_items x (item_trees rest)))

items_with : List (List ℕ) → ItemTrees → Scoped (ItemTrees × List (List ℕ))
items_with n x = scoped (x, n)

pub items_more : (s m n : List (List ℕ)) (is js : List ItemTree) (i j : ItemTree) → scoped_items s (item_trees is) ≡ scoped (item_trees js, m)
    → scoped_items m (item i no_items) ≡ scoped (item j no_items, n) → scoped_items s (item_trees (is ++ i ∷ [])) ≡ scoped (item_trees (js ++ j ∷ []), n)
unfolding items_with behind
items_more s m n is js i j e h = rw (split_items is (i ∷ []) s) (rw e (rw h (ap (items_with n) (sym (item_trees-append js (j ∷ []))))))

part_is_unbound : {A C : Type 0} (g : A → C) (f : ScopeFault) (v : Scoped A) → IsUnbound f (and_then v (λ a. scoped (g a))) → IsUnbound f v
part_is_unbound g (fault.Unbound at) (unbound from) h = cc
part_is_unbound g (fault.Unbound at) (scoped a) h = cc
part_is_unbound g (fault.TwoParams at) v h = h
part_is_unbound g (fault.Memory _) v h = tt

item_is_unbound : (m : List (List ℕ)) (i : ItemTree) (rest : ItemTrees) (f : ScopeFault) → IsUnbound f (scoped_items m (item i no_items))
    → IsUnbound f (scoped_items m (item i rest))
item_is_unbound m (bind name value) rest f h = first_is_unbound _ f (scoped_tree m value)
    (part_is_unbound (λ v. (item (bind name v) no_items, name.text ∷ m)) f (scoped_tree m value) h)
item_is_unbound m (run t) rest f h = first_is_unbound _ f (scoped_tree m t) (part_is_unbound (λ v. (item (run v) no_items, m)) f (scoped_tree m t) h)

pub items_stop : (s m : List (List ℕ)) (is js : List ItemTree) (i : ItemTree) (rest : List ItemTree) (f : ScopeFault)
    → scoped_items s (item_trees is) ≡ scoped (item_trees js, m) → IsUnbound f (scoped_items m (item i no_items))
    → IsUnbound f (scoped_items s (item_trees (is ++ i ∷ rest)))
items_stop s m is js i rest f e h = rw (split_items is (i ∷ rest) s) (rw e (first_is_unbound _ f _ (item_is_unbound m i (item_trees rest) f h)))
