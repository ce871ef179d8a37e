-- Which parameter is refused for its name.
use Rattle.std.specs.Prelude.{◌≡◌, ◌≢◌, ◌<◌, ℕ, Some, None, List, [], ◌∷◌, ◌++◌, map, slice_get}
use Rattle.std.specs.List.{Contains}
use Rattle.revc_base.specs.declared.place.Place.{Place}
use Rattle.revs_terms.specs.declared.program.Param.{Param}
use Rattle.revs_terms.specs.Scopes.{second_of}

-- No two of these parameters have one name.
abbrev pub HaveOwnNames : List Param → Type 0
HaveOwnNames params =
    (i j : ℕ) (p q : Param) → i < j → slice_get params i ≡ Some p → slice_get params j ≡ Some q
    → p.name.text ≢ q.name.text

-- The parameter at this place has the name of one before it, and those before it have names of
-- their own.
pub record IsFirstRepeated (params : List Param) (at : Place) : Type 0 where
  pub front : List Param
  pub repeated : Param
  pub behind : List Param
  pub parts : params ≡ front ++ repeated ∷ behind
  pub place : at ≡ repeated.name.at
  pub again : Contains (map (λ p. p.name.text) front) repeated.name.text
  pub own_names : HaveOwnNames front

-- The place that is refused is that of the first parameter whose name one before it has.
abbrev pub RefusesFirstRepeated : Type 0
RefusesFirstRepeated =
    (params : List Param) (at : Place) → second_of [] params ≡ Some at → IsFirstRepeated params at

-- Where no place is refused, no two parameters have one name.
abbrev pub PassesOwnNames : Type 0
PassesOwnNames = (params : List Param) → second_of [] params ≡ None → HaveOwnNames params
