-- Names that are bound one after another.
use Rattle.std.proofs.Common.{◌≡◌, ℕ, suc, ◌+◌, ◌<◌, Bool, false, Option, Some, None, is_some, position, bytes_eq, List, [], ◌∷◌, ◌++◌, length, get_or, take}
use Rattle.std.proofs.Common.{drop, map, ap, sym, refl, ◌∙◌, arith}
use Rattle.std.proofs.Math.Seq.{drop-cons}
use Rattle.std.proofs.lemmas.List.{take_more, map-append}
use Rattle.revs_terms.specs.declared.program.Param.{Param}
use Rattle.revs_terms.specs.declared.term.Name.{Name}
use Rattle.revs_terms.specs.Scopes.{nearer, second_of, params_scope}

nearer-push : (names : List Name) (name : Name) (s : List (List ℕ)) → nearer (names ++ name ∷ []) s ≡ name.text ∷ nearer names s
nearer-push [] name s = refl
nearer-push (n ∷ names) name s = nearer-push names name (n.text ∷ s)

pub nearer_more : (names : List Name) (i : ℕ) (d : Name) (s now new : List (List ℕ)) → i < length names → now ≡ nearer (take i names) s
    → new ≡ (get_or names i d).text ∷ now → new ≡ nearer (take (i + 1) names) s
nearer_more names i d s now new below e f =
    rw (take_more names i d below) (rw (nearer-push (take i names) (get_or names i d) s) (f ∙ ap (λ (r : List (List ℕ)). (get_or names i d).text ∷ r) e))

-- ---- parameters

pub none_of : (o p : Option ℕ) (b : Bool) → o ≡ p → b ≡ is_some o → b ≡ false → p ≡ None
none_of None p b e f g = sym e
none_of (Some back) p b e f g = cc

pub second_more : (s : List (List ℕ)) (l : List Param) (i : ℕ) (d : Param) → i < length l → position (bytes_eq (get_or l i d).name.text) s ≡ None
    → second_of s (drop i l) ≡ second_of ((get_or l i d).name.text ∷ s) (drop (i + 1) l)
second_more s l i d below e =
    let one : i + 1 ≡ suc i = omega arith in
    rw (drop-cons l i d below) (rw one (rw (e, second_of) refl))

pub params_more : (l : List Param) (i : ℕ) (d : Param) (s now : List (List ℕ)) → i < length l → now ≡ nearer (map (λ p. p.name) (take i l)) s
    → (get_or l i d).name.text ∷ now ≡ nearer (map (λ p. p.name) (take (i + 1) l)) s
params_more l i d s now below e =
    rw (take_more l i d below) (rw (map-append {A = Param} {B = Name} (λ p. p.name) (take i l) (get_or l i d ∷ []))
    (rw (nearer-push (map (λ p. p.name) (take i l)) (get_or l i d).name s) (ap (λ (r : List (List ℕ)). (get_or l i d).name.text ∷ r) e)))

pub nearer-length : (names : List Name) (s : List (List ℕ)) → length (nearer names s) ≡ length s + length names
nearer-length [] s = omega arith
nearer-length (name ∷ names) s = omega (arith, nearer-length names (name.text ∷ s))

names_of-length : (params : List Param) → length (map (λ p. p.name) params) ≡ length params
names_of-length [] = refl
names_of-length (p ∷ ps) = ap suc (names_of-length ps)

pub params-length : (params : List Param) → length (params_scope params) ≡ length params
params-length params = nearer-length (map (λ p. p.name) params) [] ∙ omega (arith, names_of-length params)
