-- What a program keeps.
use Rattle.std.specs.Prelude.{ℕ, ◌+◌, ◌<◌, ◌≤◌, ◌^◌, leb, Option, Some, None, List, length, map, sum, IsTrue}
use Rattle.std.specs.List.{list_all}
use Rattle.revs_tape.specs.declared.limits.TheConstants.{MOST_INPUTS}
use Rattle.revs_terms.specs.declared.limits.TheConstants.{MOST_LEVELS}
use Rattle.revs_terms.specs.Terms.{is_formed, levels_of, names_of}
use Rattle.revs_terms.specs.declared.program.Param.{Param}
use Rattle.revs_terms.specs.Trees.{Tree}

-- how many bits a parameter has
abbrev pub width_of : Option ℕ → ℕ
width_of None = 1
width_of (Some width) = width

abbrev pub widths_of : List Param → List ℕ
widths_of params = map (λ p. width_of p.width) params

-- What the parameters of a program keep.
pub record AreParams (params : List Param) : Type 0 where
  pub bits : IsTrue (list_all (λ width. leb 1 width) (widths_of params))
  pub inputs : sum (widths_of params) ≤ MOST_INPUTS

-- What the body of a program keeps.
pub record IsBody (body : Tree) : Type 0 where
  pub formed : IsTrue (is_formed body)
  pub nesting : levels_of body ≤ MOST_LEVELS

-- A program holds fewer than 2^32 names.
abbrev pub HasFewNames : List Param → Tree → Type 0
HasFewNames params body = length params + names_of body < 2 ^ 32
