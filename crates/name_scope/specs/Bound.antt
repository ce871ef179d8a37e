-- Whether each used name in a tree is bound to one of the names in scope.
use Rattle.std.specs.Prelude.{ℕ, ◌+◌, leb, Bool, true, ◌&&◌, List, [], ◌∷◌, length}
use Rattle.revs_terms.specs.declared.term.Unit as u
use Rattle.revs_terms.specs.declared.term.Unit.TheVariants as units
use Rattle.revs_terms.specs.declared.term.Step.{Step}
use Rattle.revs_terms.specs.declared.term.Part.{Part}
use Rattle.revs_terms.specs.declared.term.Part.TheVariants as part
use Rattle.revs_terms.specs.Trees.{Tree, Trees, ItemTrees, used, bool, reg, block, function, parts, apply, append, rotate, clean, assert, ands, xors, assign}
use Rattle.revs_terms.specs.Trees.{loop, nil, cons, bind, run, no_items, item}

-- how many names the items of a block or a `for` bind
abbrev pub bindings_of : ItemTrees → ℕ
bindings_of no_items = 0
bindings_of (item (bind name value) items) = bindings_of items + 1
bindings_of (item (run term) items) = bindings_of items

-- whether each `back` in a number and in parts is in range, where so many names are in scope
abbrev pub unit_is_bound : ℕ → u.Unit → Bool
unit_is_bound depth (units.Digits value at) = true
unit_is_bound depth (units.Name name) = leb (name.back + 1) depth

abbrev pub num_is_bound : ℕ → List Step → Bool
num_is_bound depth [] = true
num_is_bound depth (s ∷ ss) = unit_is_bound depth s.unit && num_is_bound depth ss

abbrev pub part_is_bound : ℕ → Part → Bool
part_is_bound depth (part.Index i at) = num_is_bound depth i
part_is_bound depth (part.Slice i j at) = num_is_bound depth i && num_is_bound depth j

abbrev pub parts_are_bound : ℕ → List Part → Bool
parts_are_bound depth [] = true
parts_are_bound depth (p ∷ ps) = part_is_bound depth p && parts_are_bound depth ps

-- whether each `back` is in range at its use, where so many names are in scope
abbrev mutual
  pub is_bound : ℕ → Tree → Bool
  is_bound depth (used name) = leb (name.back + 1) depth
  is_bound depth (bool value at) = true
  is_bound depth (reg elements at) = are_bound depth elements
  is_bound depth (block items last at) = items_are_bound depth items && is_bound
      (depth + bindings_of items) last
  is_bound depth (function names body at) = is_bound (depth + length names) body
  is_bound depth (parts inner inside) = is_bound depth inner && parts_are_bound depth inside
  is_bound depth (apply head arguments) = is_bound depth head && are_bound depth arguments
  is_bound depth (append first second at) = is_bound depth first && is_bound depth second
  is_bound depth (rotate by operand at) = num_is_bound depth by && is_bound depth operand
  is_bound depth (clean operand at) = is_bound depth operand
  is_bound depth (assert operand at) = is_bound depth operand
  is_bound depth (ands terms) = are_bound depth terms
  is_bound depth (xors terms) = are_bound depth terms
  is_bound depth (assign left right) = is_bound depth left && is_bound depth right
  is_bound depth (loop name first last items at) =
      (num_is_bound depth first && num_is_bound depth last) && items_are_bound (depth + 1) items

  pub are_bound : ℕ → Trees → Bool
  are_bound depth nil = true
  are_bound depth (cons t ts) = is_bound depth t && are_bound depth ts

  pub items_are_bound : ℕ → ItemTrees → Bool
  items_are_bound depth no_items = true
  items_are_bound depth (item (bind name value) items) = is_bound depth value && items_are_bound
      (depth + 1) items
  items_are_bound depth (item (run term) items) = is_bound depth term && items_are_bound depth items
