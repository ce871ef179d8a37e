-- Binding names changes nothing but the `back` of used names, and puts each in range.
use Rattle.std.proofs.Common.{◌≡◌, ℕ, ◌+◌, ◌<◌, leb, max, Bool, true, ◌&&◌, Option, Some, None, List, [], ◌∷◌, length, position, bytes_eq}
use Rattle.std.proofs.Common.{refl, sym, ◌∙◌, ap, subst, arith, add-one}
use Rattle.std.proofs.lemmas.Bool.{le-leb}
use Rattle.std.proofs.lemmas.List.Quantifiers.{position-Some}
use Rattle.revs_terms.specs.declared.term.Name.{Name}
use Rattle.revs_terms.specs.Trees.{Tree, Trees, ItemTrees, used, bool, reg, block, function, parts, apply, append, rotate, clean, assert, ands, xors, assign}
use Rattle.revs_terms.specs.Trees.{loop, nil, cons, no_items, item, bind, run, list_of, items_of}
use Rattle.revs_terms.specs.declared.term.Unit as u
use Rattle.revs_terms.specs.declared.term.Unit.TheVariants as units
use Rattle.revs_terms.specs.declared.term.Step.{Step}
use Rattle.revs_terms.specs.declared.term.Part.{Part}
use Rattle.revs_terms.specs.declared.term.Part.TheVariants as part
use Rattle.revs_terms.specs.Scopes.{Scoped, unbound, scoped, and_then, bound_name, nearer, scoped_tree, scoped_trees, scoped_items, scoped_unit, scoped_num}
use Rattle.revs_terms.specs.Scopes.{scoped_part, scoped_parts}
use Rattle.revs_terms.specs.Terms.{has_one, has_two, is_formed, are_formed, items_are_formed, form_of, levels_as, levels_of, levels_of_all, levels_of_item}
use Rattle.revs_terms.specs.Terms.{levels_of_items, names_of, names_of_all, names_of_items, base, atom, application, product, sum, expression}
use Rattle.revs_terms.specs.Terms.{num_is_formed, part_is_formed, parts_are_formed, names_of_unit, names_of_num, names_of_part, names_of_parts}
use Rattle.std.proofs.lemmas.Bool.{and_from}
use Rattle.name_scope.specs.Bound.{is_bound, are_bound, items_are_bound, bindings_of, unit_is_bound, num_is_bound, part_is_bound, parts_are_bound}
use Rattle.name_scope.proofs.VerdictLemmas.{first_is_bound}
use Rattle.name_scope.proofs.NearerLemmas.{nearer-length}

-- what a tree keeps
pub record Keeps (depth : ℕ) (t u : Tree) : Type 0 where
  pub bound : is_bound depth u ≡ true
  pub formed : is_formed u ≡ is_formed t
  pub form : form_of u ≡ form_of t
  pub levels : levels_of u ≡ levels_of t
  pub in_let : (name : Name) → levels_of_item (bind name u) ≡ levels_of_item (bind name t)
  pub names : names_of u ≡ names_of t

pub record KeepsAll (depth : ℕ) (ts us : Trees) : Type 0 where
  pub bound : are_bound depth us ≡ true
  pub formed : are_formed us ≡ are_formed ts
  pub one : has_one (list_of us) ≡ has_one (list_of ts)
  pub two : has_two (list_of us) ≡ has_two (list_of ts)
  pub levels : (form : ℕ) → levels_of_all form us ≡ levels_of_all form ts
  pub names : names_of_all us ≡ names_of_all ts

pub record KeepsItems (s n : List (List ℕ)) (is js : ItemTrees) : Type 0 where
  pub bound : items_are_bound (length s) js ≡ true
  pub depth : length n ≡ length s + bindings_of js
  pub formed : items_are_formed js ≡ items_are_formed is
  pub one : has_one (items_of js) ≡ has_one (items_of is)
  pub levels : levels_of_items js ≡ levels_of_items is
  pub names : names_of_items js ≡ names_of_items is

same_of : {A : Type 0} (a b : A) → scoped a ≡ scoped b → a ≡ b
same_of a b e = cc

as_same : (form : ℕ) (t u : Tree) → form_of u ≡ form_of t → levels_of u ≡ levels_of t → levels_as form u (levels_of u) ≡ levels_as form t (levels_of t)
as_same form t u e h = rw e (rw h refl)

both_same : (f : ℕ → ℕ → ℕ) (a b c d : ℕ) → a ≡ c → b ≡ d → f a b ≡ f c d
both_same f a b c d e h = cc

and_same : (a b c d : Bool) → a ≡ c → b ≡ d → a && b ≡ c && d
and_same a b c d e h = rw e (rw h refl)

used_at : (name n : Name) (o : Option ℕ) (depth : ℕ) → ((i : ℕ) → o ≡ Some i → i < depth)
    → elim o as (λ x. Scoped Name) [ None ↦ unbound name.at | Some back ↦ scoped (record name { back = back }) ] ≡ scoped n → leb (n.back + 1) depth ≡ true
used_at name n None depth h e = cc
used_at name n (Some i) depth h e =
    let m : Name = record name { back = i } in
    let same : m ≡ n = cc in
    let below : i < depth = h i refl in
    subst (λ (x : Name). leb (x.back + 1) depth ≡ true) same (le-leb (i + 1) depth (omega arith))

used_in : (s : List (List ℕ)) (name : Name) (n : Name) → bound_name s name ≡ scoped n → leb (n.back + 1) (length s) ≡ true
used_in s name n e = used_at name n (position (bytes_eq name.text) s) (length s) (λ i h. (position-Some (bytes_eq name.text) s i [] h).0) e

to_items : (s : List (List ℕ)) (is js ks : ItemTrees) (m n : List (List ℕ)) → ◌≡◌ {A = Scoped (ItemTrees × List (List ℕ))} (scoped (js, m)) (scoped (ks, n))
    → KeepsItems s m is js → KeepsItems s n is ks
to_items s is js ks m n e h =
    let p : ItemTrees × List (List ℕ) = (js, m) in
    let q : ItemTrees × List (List ℕ) = (ks, n) in
    let same : p ≡ q = cc in
    subst (λ (x : ItemTrees × List (List ℕ)). KeepsItems s x.1 is x.0) same h

levels_of_both : {depth : ℕ} {a b c d : Tree} (form : ℕ) → Keeps depth a c → Keeps depth b d
    → max (levels_as form c (levels_of c)) (levels_as form d (levels_of d)) ≡ max (levels_as form a (levels_of a)) (levels_as form b (levels_of b))
levels_of_both {a = a} {b = b} {c = c} {d = d} form k l =
    both_same max _ _ _ _ (as_same form a c k.form k.levels) (as_same form b d l.form l.levels)

-- ---- numbers and parts

-- what a number keeps
record KeepsNum (depth : ℕ) (k l : List Step) : Type 0 where
  bound : num_is_bound depth l ≡ true
  formed : num_is_formed l ≡ num_is_formed k
  names : names_of_num l ≡ names_of_num k

record KeepsParts (depth : ℕ) (ps qs : List Part) : Type 0 where
  bound : parts_are_bound depth qs ≡ true
  formed : parts_are_formed qs ≡ parts_are_formed ps
  one : has_one qs ≡ has_one ps
  names : names_of_parts qs ≡ names_of_parts ps

record KeepsPart (depth : ℕ) (p q : Part) : Type 0 where
  bound : part_is_bound depth q ≡ true
  formed : part_is_formed q ≡ part_is_formed p
  names : names_of_part q ≡ names_of_part p

record KeepsUnit (depth : ℕ) (k l : u.Unit) : Type 0 where
  bound : unit_is_bound depth l ≡ true
  names : names_of_unit l ≡ names_of_unit k

-- ---- what is made of bound parts

-- What is made of a part that is bound is known from what the part keeps, and so it is with two parts.
of_part : {A C : Type 0} {P : A → Type 0} (K : C → Type 0) (f : A → C) (v : Scoped A) (c : C) → and_then v (λ a. scoped (f a)) ≡ scoped c
    → ((a : A) → v ≡ scoped a → P a) → ((a : A) → P a → K (f a)) → K c
of_part K f v c e part whole =
    let g = first_is_bound v _ c e in
    subst K (same_of (f g.0) c g.1.1) (whole g.0 (part g.0 g.1.0))

of_parts : {A B C : Type 0} {P : A → Type 0} {Q : A → B → Type 0} (K : C → Type 0) (f : A → B → C) (v : Scoped A) (w : A → Scoped B) (c : C)
    → and_then v (λ a. and_then (w a) (λ b. scoped (f a b))) ≡ scoped c → ((a : A) → v ≡ scoped a → P a) → ((a : A) (b : B) → w a ≡ scoped b → Q a b)
    → ((a : A) (b : B) → P a → Q a b → K (f a b)) → K c
of_parts K f v w c e first second whole =
    let g = first_is_bound v _ c e in
    of_part K (f g.0) (w g.0) c g.1.1 (second g.0) (λ b q. whole g.0 b (first g.0 g.1.0) q)

keeps_unit : (s : List (List ℕ)) (k l : u.Unit) → scoped_unit s k ≡ scoped l → KeepsUnit (length s) k l
keeps_unit s (units.Digits value at) l e =
    subst (KeepsUnit (length s) (units.Digits value at)) (same_of _ l e) (record { bound = refl; names = refl })
keeps_unit s (units.Name name) l e =
    of_part (KeepsUnit (length s) (units.Name name)) units.Name (bound_name s name) l e (λ n h. used_in s name n h)
    (λ n b. record { bound = b; names = refl })

keeps_num : (s : List (List ℕ)) (k l : List Step) → scoped_num s k ≡ scoped l → KeepsNum (length s) k l
keeps_num s [] l e = subst (KeepsNum (length s) []) (same_of _ l e) (record { bound = refl; formed = refl; names = refl })
keeps_num s (a ∷ others) l e =
    of_parts (KeepsNum (length s) (a ∷ others)) (λ v vs. record a { unit = v } ∷ vs) (scoped_unit s a.unit) (λ _. scoped_num s others) l e
    (keeps_unit s a.unit) (λ _. keeps_num s others)
    (λ v vs p q. record { bound = and_from _ _ p.bound q.bound; formed = refl; names = both_same ◌+◌ _ _ _ _ p.names q.names })

keeps_part : (s : List (List ℕ)) (p q : Part) → scoped_part s p ≡ scoped q → KeepsPart (length s) p q
keeps_part s (part.Index i at) q e =
    of_part (KeepsPart (length s) (part.Index i at)) (λ k. part.Index k at) (scoped_num s i) q e (keeps_num s i)
    (λ k h. record { bound = h.bound; formed = h.formed; names = h.names })
keeps_part s (part.Slice i j at) q e =
    of_parts (KeepsPart (length s) (part.Slice i j at)) (λ k l. part.Slice k l at) (scoped_num s i) (λ _. scoped_num s j) q e
    (keeps_num s i) (λ _. keeps_num s j)
    (λ k l g h. record {
      bound = and_from _ _ g.bound h.bound;
      formed = and_same _ _ _ _ g.formed h.formed;
      names = both_same ◌+◌ _ _ _ _ g.names h.names;
    })

keeps_parts : (s : List (List ℕ)) (ps qs : List Part) → scoped_parts s ps ≡ scoped qs → KeepsParts (length s) ps qs
keeps_parts s [] qs e = subst (KeepsParts (length s) []) (same_of _ qs e) (record { bound = refl; formed = refl; one = refl; names = refl })
keeps_parts s (p ∷ ps) qs e =
    of_parts (KeepsParts (length s) (p ∷ ps)) (λ q rs. q ∷ rs) (scoped_part s p) (λ _. scoped_parts s ps) qs e (keeps_part s p) (λ _. keeps_parts s ps)
    (λ q rs g h. record {
      bound = and_from _ _ g.bound h.bound;
      formed = and_same _ _ _ _ g.formed h.formed;
      one = refl;
      names = both_same ◌+◌ _ _ _ _ g.names h.names;
    })

-- ---- trees

-- A tree that is no function has in a `let` the levels that it has.
kept : {depth : ℕ} {t u : Tree} → is_bound depth u ≡ true → is_formed u ≡ is_formed t → form_of u ≡ form_of t → levels_of u ≡ levels_of t
    → names_of u ≡ names_of t → ((name : Name) → levels_of_item (bind name u) ≡ levels_of u) → ((name : Name) → levels_of_item (bind name t) ≡ levels_of t)
    → Keeps depth t u
kept b f o l n e h = record { bound = b; formed = f; form = o; levels = l; in_let = λ name. e name ∙ l ∙ sym (h name); names = n }

mutual
  pub keeps : (s : List (List ℕ)) (t u : Tree) → scoped_tree s t ≡ scoped u → Keeps (length s) t u
  keeps s (used name) u e =
      of_part (Keeps (length s) (used name)) used (bound_name s name) u e (λ n h. used_in s name n h)
      (λ n b. kept b refl refl refl refl (λ x. refl) (λ x. refl))
  keeps s (bool b at) u e = subst (Keeps (length s) (bool b at)) (same_of _ u e) (kept refl refl refl refl refl (λ x. refl) (λ x. refl))
  keeps s (reg ts at) u e =
      of_part (Keeps (length s) (reg ts at)) (λ us. reg us at) (scoped_trees s ts) u e (keeps_all s ts)
      (λ us k. kept k.bound (and_same _ _ _ _ k.one k.formed) refl (ap (λ (x : ℕ). x + 1) (k.levels expression)) k.names (λ x. refl) (λ x. refl))
  keeps s (block items last at) u e =
      of_parts (Keeps (length s) (block items last at)) (λ r l. block r.0 l at) (scoped_items s items) (λ r. scoped_tree r.1 last) u e
      (λ r. keeps_items s items r.0 r.1) (λ r. keeps r.1 last)
      (λ r l k h. kept (and_from _ _ k.bound (rw k.depth at h.bound)) (and_same _ _ _ _ k.formed h.formed) refl
      (ap (λ (x : ℕ). x + 1) (both_same max _ _ _ _ k.levels h.levels)) (both_same ◌+◌ _ _ _ _ k.names h.names) (λ x. refl) (λ x. refl))
  keeps s (function names body at) u e =
      of_part (Keeps (length s) (function names body at)) (λ b. function names b at) (scoped_tree (nearer names s) body) u e
      (keeps (nearer names s) body)
      (λ b k. record {
        bound = rw (nearer-length names s) at k.bound;
        formed = and_same _ _ _ _ refl k.formed;
        form = refl;
        levels = ap (λ (x : ℕ). x + 1) k.levels;
        in_let = λ name. k.levels;
        names = ap (λ (x : ℕ). length names + x) k.names;
      })
  keeps s (parts t ps) u e =
      of_parts (Keeps (length s) (parts t ps)) parts (scoped_tree s t) (λ _. scoped_parts s ps) u e (keeps s t) (λ _. keeps_parts s ps)
      (λ b qs k h. kept (and_from _ _ k.bound h.bound) (and_same _ _ _ _ (and_same _ _ _ _ h.one h.formed) k.formed) refl
      (as_same base t b k.form k.levels) (both_same ◌+◌ _ _ _ _ k.names h.names) (λ x. refl) (λ x. refl))
  keeps s (apply head ts) u e =
      of_parts (Keeps (length s) (apply head ts)) apply (scoped_tree s head) (λ _. scoped_trees s ts) u e (keeps s head) (λ _. keeps_all s ts)
      (λ f us k h. kept (and_from _ _ k.bound h.bound) (and_same _ _ _ _ k.formed (and_same _ _ _ _ h.one h.formed)) refl
      (both_same max _ _ _ _ (as_same atom head f k.form k.levels) (h.levels atom)) (both_same ◌+◌ _ _ _ _ k.names h.names) (λ x. refl) (λ x. refl))
  keeps s (append a b at) u e =
      of_parts (Keeps (length s) (append a b at)) (λ c d. append c d at) (scoped_tree s a) (λ _. scoped_tree s b) u e (keeps s a) (λ _. keeps s b)
      (λ c d k h. kept (and_from _ _ k.bound h.bound) (and_same _ _ _ _ k.formed h.formed) refl (levels_of_both atom k h)
      (both_same ◌+◌ _ _ _ _ k.names h.names) (λ x. refl) (λ x. refl))
  keeps s (rotate i t at) u e =
      of_parts (Keeps (length s) (rotate i t at)) (λ k v. rotate k v at) (scoped_num s i) (λ _. scoped_tree s t) u e (keeps_num s i) (λ _. keeps s t)
      (λ k v h l. kept (and_from _ _ h.bound l.bound) (and_same _ _ _ _ h.formed l.formed) refl (as_same atom t v l.form l.levels)
      (both_same ◌+◌ _ _ _ _ h.names l.names) (λ x. refl) (λ x. refl))
  keeps s (clean t at) u e =
      of_part (Keeps (length s) (clean t at)) (λ v. clean v at) (scoped_tree s t) u e (keeps s t)
      (λ v k. kept k.bound k.formed refl (as_same atom t v k.form k.levels) k.names (λ x. refl) (λ x. refl))
  keeps s (assert t at) u e =
      of_part (Keeps (length s) (assert t at)) (λ v. assert v at) (scoped_tree s t) u e (keeps s t)
      (λ v k. kept k.bound k.formed refl (as_same atom t v k.form k.levels) k.names (λ x. refl) (λ x. refl))
  keeps s (ands ts) u e =
      of_part (Keeps (length s) (ands ts)) ands (scoped_trees s ts) u e (keeps_all s ts)
      (λ us k. kept k.bound (and_same _ _ _ _ k.two k.formed) refl (k.levels application) k.names (λ x. refl) (λ x. refl))
  keeps s (xors ts) u e =
      of_part (Keeps (length s) (xors ts)) xors (scoped_trees s ts) u e (keeps_all s ts)
      (λ us k. kept k.bound (and_same _ _ _ _ k.two k.formed) refl (k.levels product) k.names (λ x. refl) (λ x. refl))
  keeps s (assign a b) u e =
      of_parts (Keeps (length s) (assign a b)) assign (scoped_tree s a) (λ _. scoped_tree s b) u e (keeps s a) (λ _. keeps s b)
      (λ c d k h. kept (and_from _ _ k.bound h.bound) (and_same _ _ _ _ k.formed h.formed) refl (levels_of_both sum k h)
      (both_same ◌+◌ _ _ _ _ k.names h.names) (λ x. refl) (λ x. refl))
  keeps s (loop name a b items at) u e =
      let g = first_is_bound (scoped_num s a) _ _ e in
      let k = keeps_num s a g.0 g.1.0 in
      of_parts (Keeps (length s) (loop name a b items at)) (λ d r. loop name g.0 d r.0 at) (scoped_num s b) (λ _. scoped_items (name.text ∷ s) items) u g.1.1
      (keeps_num s b) (λ _ r. keeps_items (name.text ∷ s) items r.0 r.1)
      (λ d r l i. kept (and_from _ _ (and_from _ _ k.bound l.bound) (rw (add-one (length s)) i.bound))
      (and_same _ _ _ _ (and_same _ _ _ _ k.formed l.formed) (and_same _ _ _ _ i.one i.formed)) refl
      (ap (λ (x : ℕ). x + 1) i.levels) (ap (λ (x : ℕ). x + 1) (both_same ◌+◌ _ _ _ _ (both_same ◌+◌ _ _ _ _ k.names l.names) i.names))
      (λ x. refl) (λ x. refl))

  pub keeps_all : (s : List (List ℕ)) (ts us : Trees) → scoped_trees s ts ≡ scoped us → KeepsAll (length s) ts us
  keeps_all s nil us e = subst (KeepsAll (length s) nil) (same_of _ us e)
      (record { bound = refl; formed = refl; one = refl; two = refl; levels = λ form. refl; names = refl })
  keeps_all s (cons t ts) us e =
      of_parts (KeepsAll (length s) (cons t ts)) cons (scoped_tree s t) (λ _. scoped_trees s ts) us e (keeps s t) (λ _. keeps_all s ts)
      (λ v vs k l. record {
        bound = and_from _ _ k.bound l.bound;
        formed = and_same _ _ _ _ k.formed l.formed;
        one = refl;
        two = l.one;
        levels = λ form. both_same max _ _ _ _ (as_same form t v k.form k.levels) (l.levels form);
        names = both_same ◌+◌ _ _ _ _ k.names l.names;
      })

  pub keeps_items : (s : List (List ℕ)) (is js : ItemTrees) (n : List (List ℕ))
      → ◌≡◌ {A = Scoped (ItemTrees × List (List ℕ))} (scoped_items s is) (scoped (js, n)) → KeepsItems s n is js
  keeps_items s no_items js n e = to_items s no_items no_items js s n e
      (record { bound = refl; depth = omega arith; formed = refl; one = refl; levels = refl; names = refl })
  keeps_items s (item (bind name value) is) js n e =
      let g = first_is_bound (scoped_tree s value) _ _ e in
      let k = keeps s value g.0 g.1.0 in
      let g2 = first_is_bound (scoped_items (name.text ∷ s) is) _ _ g.1.1 in
      let l = keeps_items (name.text ∷ s) is g2.0.0 g2.0.1 g2.1.0 in
      to_items s (item (bind name value) is) (item (bind name g.0) g2.0.0) js g2.0.1 n g2.1.1
      (record {
        bound = and_from _ _ k.bound (rw (add-one (length s)) l.bound);
        depth = omega
            (arith, l.depth);
        formed = and_same _ _ _ _ k.formed l.formed;
        one = refl;
        levels = both_same max _ _ _ _
            (k.in_let name) l.levels;
        names = both_same ◌+◌ _ _ _ _ (ap (λ (x : ℕ). x + 1) k.names) l.names;
      })
  keeps_items s (item (run t) is) js n e =
      let g = first_is_bound (scoped_tree s t) _ _ e in
      let k = keeps s t g.0 g.1.0 in
      let g2 = first_is_bound (scoped_items s is) _ _ g.1.1 in
      let l = keeps_items s is g2.0.0 g2.0.1 g2.1.0 in
      to_items s (item (run t) is) (item (run g.0) g2.0.0) js g2.0.1 n g2.1.1
      (record {
        bound = and_from _ _ k.bound l.bound;
        depth = l.depth;
        formed = and_same _ _ _ _ k.formed l.formed;
        one = refl;
        levels = both_same max _ _ _ _
            k.levels l.levels;
        names = both_same ◌+◌ _ _ _ _ k.names l.names;
      })
