-- A used name is bound to the nearest binding of its name.
use Rattle.std.proofs.Common.{◌≡◌, ℕ, zero, suc, ◌<◌, Bool, true, false, Option, Some, None, List, [], ◌∷◌, length, get_or, position, bytes_eq, slice_get, ltb}
use Rattle.std.proofs.Common.{refl, sym, ap, ◌∙◌, arith}
use Rattle.std.specs.Prelude.{◌≢◌}
use Rattle.std.specs.List.{position_or_len}
use Rattle.std.proofs.lemmas.Bool.{lt-ltb}
use Rattle.std.proofs.lemmas.List.Quantifiers.{position-Some}
use Rattle.std.proofs.lemmas.Slice.Eq.{bytes_eq-Decides}
use Rattle.revc_base.specs.declared.place.Place.{Place}
use Rattle.revs_terms.specs.declared.term.Name.{Name}
use Rattle.revs_terms.specs.Scopes.{Scoped, unbound, scoped, IsNearest, BindsToNearest, UnboundHasNone}
use Rattle.name_scope.proofs.TableLemmas.{by_cases}

got : {A : Type 0} (xs : List A) (i : ℕ) (d : A) → i < length xs → slice_get xs i ≡ Some (get_or xs i d)
got [] i d h = absurd (omega arith)
got (x ∷ xs) zero d h = refl
got (x ∷ xs) (suc i) d h = got xs i d (omega arith)

-- a place that holds an element is below the length
held_below : {A : Type 0} (xs : List A) (i : ℕ) (x : A) → slice_get xs i ≡ Some x → i < length xs
held_below [] i x e = absurd cc
held_below (y ∷ xs) zero x e = omega arith
held_below (y ∷ xs) (suc i) x e = let h = held_below xs i x e in omega (arith, h)

other_name : (name other : List ℕ) → bytes_eq name other ≡ false → Some other ≢ Some name
other_name name other differs e =
    let same : other ≡ name = cc in
    let yes : bytes_eq name other ≡ true = (bytes_eq-Decides name other).1 (sym same) in
    cc

nearest_at : (name : List ℕ) (scope : List (List ℕ)) (i : ℕ) → position (bytes_eq name) scope ≡ Some i → IsNearest name scope i
nearest_at name scope i e =
    let p = position-Some (bytes_eq name) scope i [] e in
    record {
      here = got scope i [] p.0 ∙ ap Some (sym ((bytes_eq-Decides name (get_or scope i [])).0 p.1));
      none_nearer = λ k below h. other_name name (get_or scope k []) (p.2 k below) (sym (got scope k [] (omega (arith, below, p.0))) ∙ h);
    }

bound_at : (name bound : Name) (scope : List (List ℕ)) (o : Option ℕ) → position (bytes_eq name.text) scope ≡ o
    → elim o as (λ x. Scoped Name) [ None ↦ unbound name.at | Some back ↦ scoped (record name { back = back }) ] ≡ scoped bound
    → (bound ≡ record name { back = bound.back }) × IsNearest name.text scope bound.back
bound_at name bound scope None e h = absurd cc
bound_at name bound scope (Some i) e h =
    let m : Name = record name { back = i } in
    let same : m ≡ bound = cc in
    rw (← same) (refl, nearest_at name.text scope i e)

pub binds_to_nearest : BindsToNearest
binds_to_nearest scope name bound h = bound_at name bound scope (position (bytes_eq name.text) scope) refl h

-- an element that passes is found
passes_early : (p : List ℕ → Bool) (xs : List (List ℕ)) (k : ℕ) (x : List ℕ) → slice_get xs k ≡ Some x → p x ≡ true → position_or_len p xs < length xs
passes_early p [] k x e t = absurd cc
passes_early p (y ∷ ys) zero x e t =
    let same : x ≡ y = cc in
    let here : p y ≡ true = ap p (sym same) ∙ t in
    rw here (omega arith)
passes_early p (y ∷ ys) (suc k) x e t = by_cases (p y)
    (λ here. rw here (omega arith))
    (λ other. let rest = passes_early p ys k x e t in rw other (omega (arith, rest)))

pub nowhere : (name : List ℕ) (scope : List (List ℕ)) → position (bytes_eq name) scope ≡ None → (k : ℕ) → slice_get scope k ≢ Some name
nowhere name scope e k h =
    let early = passes_early (bytes_eq name) scope k name h ((bytes_eq-Decides name name).1 refl) in
    let some : ltb (position_or_len (bytes_eq name) scope) (length scope) ≡ true = lt-ltb _ _ early in
    let found : Some (position_or_len (bytes_eq name) scope) ≡ None = rw some at e in
    cc

unbound_at : (name : Name) (at : Place) (scope : List (List ℕ)) (o : Option ℕ) → position (bytes_eq name.text) scope ≡ o
    → elim o as (λ x. Scoped Name) [ None ↦ unbound name.at | Some back ↦ scoped (record name { back = back }) ] ≡ unbound at
    → (at ≡ name.at) × ((k : ℕ) → slice_get scope k ≢ Some name.text)
unbound_at name at scope None e h = (cc, nowhere name.text scope e)
unbound_at name at scope (Some i) e h = absurd cc

pub unbound_has_none : UnboundHasNone
unbound_has_none scope name at h = unbound_at name at scope (position (bytes_eq name.text) scope) refl h
