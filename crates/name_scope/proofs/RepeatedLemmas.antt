-- The first parameter whose name one before it has.
use Rattle.std.proofs.Common.{◌≡◌, ◌⊎◌, inl, inr, ℕ, zero, suc, Option, Some, None, List, [], ◌∷◌, ◌++◌, get_or, map, position, bytes_eq, slice_get}
use Rattle.std.proofs.Common.{refl, sym, ap, ◌∙◌, arith}
use Rattle.std.specs.Prelude.{◌≢◌}
use Rattle.std.specs.List.{Contains}
use Rattle.std.proofs.lemmas.List.Quantifiers.{position-Some}
use Rattle.std.proofs.lemmas.Slice.Eq.{bytes_eq-Decides}
use Rattle.revc_base.specs.declared.place.Place.{Place}
use Rattle.revs_terms.specs.declared.program.Param.{Param}
use Rattle.revs_terms.specs.Scopes.{second_of}
use Rattle.name_scope.specs.Repeated.{HaveOwnNames, RefusesFirstRepeated, PassesOwnNames}
use Rattle.name_scope.proofs.NearestLemmas.{nowhere}

-- names that stand before parameters, and none of the parameters has one of them
record AreNew (before : List (List ℕ)) (params : List Param) : Type 0 where
  pub new : (i : ℕ) (p : Param) → slice_get params i ≡ Some p → (k : ℕ) → slice_get before k ≢ Some p.name.text
  pub own_names : HaveOwnNames params

none_new : (before : List (List ℕ)) → AreNew before []
none_new before = record { new = λ i p e k f. absurd cc; own_names = λ i j p q low e f g. absurd cc }

-- one parameter in front of those that are new behind its name
one_new : (before : List (List ℕ)) (p : Param) (ps : List Param) → ((k : ℕ) → slice_get before k ≢ Some p.name.text)
    → AreNew (p.name.text ∷ before) ps → AreNew before (p ∷ ps)
one_new before p ps none rest = record { new = new_at before p ps none rest; own_names = own_at before p ps rest } where
  new_at : (before : List (List ℕ)) (p : Param) (ps : List Param) → ((k : ℕ) → slice_get before k ≢ Some p.name.text)
      → AreNew (p.name.text ∷ before) ps → (i : ℕ) (q : Param) → slice_get (p ∷ ps) i ≡ Some q → (k : ℕ) → slice_get before k ≢ Some q.name.text
  new_at before p ps none rest zero q e k f = none k (let same : p ≡ q = cc in f ∙ ap (λ (r : Param). Some r.name.text) (sym same))
  new_at before p ps none rest (suc i) q e k f = rest.new i q e (suc k) f

  own_at : (before : List (List ℕ)) (p : Param) (ps : List Param) → AreNew (p.name.text ∷ before) ps → HaveOwnNames (p ∷ ps)
  own_at before p ps rest zero zero a b low e f g = absurd (omega arith)
  own_at before p ps rest zero (suc j) a b low e f g =
      let same : p ≡ a = cc in rest.new j b f zero (ap Some (ap (λ (r : Param). r.name.text) same ∙ g))
  own_at before p ps rest (suc i) zero a b low e f g = absurd (omega arith)
  own_at before p ps rest (suc i) (suc j) a b low e f g = rest.own_names i j a b (omega (arith, low)) e f g

-- ---- none is refused

none_behind : (before : List (List ℕ)) (p : Param) (ps : List Param) (o : Option ℕ) → position (bytes_eq p.name.text) before ≡ o
    → elim o as (λ x. Option Place) [ None ↦ second_of (p.name.text ∷ before) ps | Some back ↦ Some p.name.at ] ≡ None
    → (second_of (p.name.text ∷ before) ps ≡ None → AreNew (p.name.text ∷ before) ps) → AreNew before (p ∷ ps)
none_behind before p ps None e h rest = one_new before p ps (nowhere p.name.text before e) (rest h)
none_behind before p ps (Some back) e h rest = absurd cc

none_repeated : (ps : List Param) (before : List (List ℕ)) → second_of before ps ≡ None → AreNew before ps
none_repeated [] before h = none_new before
none_repeated (p ∷ ps) before h =
    none_behind before p ps (position (bytes_eq p.name.text) before) refl h (none_repeated ps (p.name.text ∷ before))

pub passes_own_names : PassesOwnNames
passes_own_names params h = (none_repeated params [] h).own_names

-- ---- one is refused

-- The parameter at this place has one of the names before, or that of a parameter before it; those before it are new.
record IsRepeated (before : List (List ℕ)) (params : List Param) (at : Place) : Type 0 where
  pub front : List Param
  pub repeated : Param
  pub behind : List Param
  pub parts : params ≡ front ++ repeated ∷ behind
  pub place : at ≡ repeated.name.at
  pub again : Contains before repeated.name.text ⊎ Contains (map (λ p. p.name.text) front) repeated.name.text
  pub new : AreNew before front

contained : (name : List ℕ) (names : List (List ℕ)) (i : ℕ) → position (bytes_eq name) names ≡ Some i → Contains names name
contained name names i e =
    let p = position-Some (bytes_eq name) names i name e in
    (i, p.0, sym ((bytes_eq-Decides name (get_or names i name)).0 p.1))

first_contained : (x : List ℕ) (xs : List (List ℕ)) → Contains (x ∷ xs) x
first_contained x xs = (zero, omega arith, refl)

-- a name among one more is that one, or among the others
either : (x y : List ℕ) (xs : List (List ℕ)) → Contains (x ∷ xs) y → (x ≡ y) ⊎ Contains xs y
either x y xs (zero, low, e) = inl e
either x y xs (suc k, low, e) = inr (k, omega (arith, low), e)

later_contained : (x y : List ℕ) (xs : List (List ℕ)) → Contains xs y → Contains (x ∷ xs) y
later_contained x y xs (k, low, e) = (suc k, omega (arith, low), e)

again_behind : (before : List (List ℕ)) (p : Param) (front : List Param) (name : List ℕ)
    → Contains (p.name.text ∷ before) name ⊎ Contains (map (λ q. q.name.text) front) name
    → Contains before name ⊎ Contains (map (λ q. q.name.text) (p ∷ front)) name
again_behind before p front name (inl h) = elim (either p.name.text name before h) [
  | inl e ↦ inr (rw (← e) (first_contained p.name.text (map (λ q. q.name.text) front)))
  | inr rest ↦ inl rest
]
again_behind before p front name (inr h) = inr (later_contained p.name.text name (map (λ q. q.name.text) front) h)

one_behind : (before : List (List ℕ)) (p : Param) (ps : List Param) (at : Place) → ((k : ℕ) → slice_get before k ≢ Some p.name.text)
    → IsRepeated (p.name.text ∷ before) ps at → IsRepeated before (p ∷ ps) at
one_behind before p ps at none rest = record {
  front = p ∷ rest.front;
  repeated = rest.repeated;
  behind = rest.behind;
  parts = ap (λ (qs : List Param). p ∷ qs) rest.parts;
  place = rest.place;
  again = again_behind before p rest.front rest.repeated.name.text rest.again;
  new = one_new before p rest.front none rest.new;
}

some_behind : (before : List (List ℕ)) (p : Param) (ps : List Param) (at : Place) (o : Option ℕ) → position (bytes_eq p.name.text) before ≡ o
    → elim o as (λ x. Option Place) [ None ↦ second_of (p.name.text ∷ before) ps | Some back ↦ Some p.name.at ] ≡ Some at
    → (second_of (p.name.text ∷ before) ps ≡ Some at → IsRepeated (p.name.text ∷ before) ps at) → IsRepeated before (p ∷ ps) at
some_behind before p ps at None e h rest = one_behind before p ps at (nowhere p.name.text before e) (rest h)
some_behind before p ps at (Some back) e h rest = record {
  front = [];
  repeated = p;
  behind = ps;
  parts = refl;
  place = cc;
  again = inl (contained p.name.text before back e);
  new = none_new before;
}

some_repeated : (ps : List Param) (before : List (List ℕ)) (at : Place) → second_of before ps ≡ Some at → IsRepeated before ps at
some_repeated [] before at h = absurd cc
some_repeated (p ∷ ps) before at h =
    some_behind before p ps at (position (bytes_eq p.name.text) before) refl h (some_repeated ps (p.name.text ∷ before) at)

-- a name that is among none or among these is among these
among : (names : List (List ℕ)) (name : List ℕ) → Contains [] name ⊎ Contains names name → Contains names name
among names name (inl (k, low, e)) = absurd (omega (arith, low))
among names name (inr h) = h

pub refuses_first_repeated : RefusesFirstRepeated
refuses_first_repeated params at h =
    let r = some_repeated params [] at h in
    record {
      front = r.front;
      repeated = r.repeated;
      behind = r.behind;
      parts = r.parts;
      place = r.place;
      again = among (map (λ p. p.name.text) r.front) r.repeated.name.text r.again;
      own_names = r.new.own_names;
    }
