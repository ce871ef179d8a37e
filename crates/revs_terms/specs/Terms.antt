-- What holds of a term: its place, its shape, its nesting and its names.
use Rattle.std.specs.Prelude.{ℕ, ◌+◌, leb, max, Bool, true, false, not, ◌&&◌, List, [], ◌∷◌, length, if◌then◌else◌}
use Rattle.revc_base.specs.declared.place.Place.{Place}
use Rattle.revs_terms.specs.declared.term.Unit as u
use Rattle.revs_terms.specs.declared.term.Unit.TheVariants as units
use Rattle.revs_terms.specs.declared.term.Step.{Step}
use Rattle.revs_terms.specs.declared.term.Part.{Part}
use Rattle.revs_terms.specs.declared.term.Part.TheVariants as part
use Rattle.revs_terms.specs.Trees.{Tree, Trees, ItemTree, ItemTrees, used, bool, reg, block, function, parts, apply, append, rotate, clean, assert, ands, xors}
use Rattle.revs_terms.specs.Trees.{assign, loop, nil, cons, bind, run, no_items, item, list_of, items_of}

-- the place of a unit of a number
abbrev pub unit_place : u.Unit → Place
unit_place (units.Digits value at) = at
unit_place (units.Name name) = name.at

-- the place of a term: that of its first token, or of the first token inside where the term stood
-- in brackets
abbrev mutual
  pub place_of : Tree → Place
  place_of (used name) = name.at
  place_of (bool value at) = at
  place_of (reg elements at) = at
  place_of (block items last at) = at
  place_of (function names body at) = at
  place_of (parts inner inside) = place_of inner
  place_of (apply head arguments) = place_of head
  place_of (append first second at) = at
  place_of (rotate by operand at) = at
  place_of (clean operand at) = at
  place_of (assert operand at) = at
  place_of (ands terms) = place_of_first terms
  place_of (xors terms) = place_of_first terms
  place_of (assign left right) = place_of left
  place_of (loop name first last items at) = at

  pub place_of_first : Trees → Place
  place_of_first nil = record { line = 0; column = 0 }
  place_of_first (cons t ts) = place_of t

-- whether a list has an element, and whether it has two
abbrev pub has_one : {A : Type 0} → List A → Bool
has_one [] = false
has_one (x ∷ xs) = true

abbrev pub has_two : {A : Type 0} → List A → Bool
has_two [] = false
has_two (x ∷ xs) = has_one xs

-- whether a number has a step, and its first is added
abbrev pub num_is_formed : List Step → Bool
num_is_formed [] = false
num_is_formed (s ∷ ss) = not s.minus

abbrev pub part_is_formed : Part → Bool
part_is_formed (part.Index i at) = num_is_formed i
part_is_formed (part.Slice i j at) = num_is_formed i && num_is_formed j

abbrev pub parts_are_formed : List Part → Bool
parts_are_formed [] = true
parts_are_formed (p ∷ ps) = part_is_formed p && parts_are_formed ps

-- whether each `And` and `Xor` in a term has two parts at least, each `Reg` an element, each
-- `Apply` an argument, each `At` a part, each function a name, each `For` an item and each number a
-- first step, which is added
abbrev mutual
  pub is_formed : Tree → Bool
  is_formed (used name) = true
  is_formed (bool value at) = true
  is_formed (reg elements at) = has_one (list_of elements) && are_formed elements
  is_formed (block items last at) = items_are_formed items && is_formed last
  is_formed (function names body at) = has_one names && is_formed body
  is_formed (parts inner inside) = (has_one inside && parts_are_formed inside) && is_formed inner
  is_formed (apply head arguments) = is_formed head &&
      (has_one (list_of arguments) && are_formed arguments)
  is_formed (append first second at) = is_formed first && is_formed second
  is_formed (rotate by operand at) = num_is_formed by && is_formed operand
  is_formed (clean operand at) = is_formed operand
  is_formed (assert operand at) = is_formed operand
  is_formed (ands terms) = has_two (list_of terms) && are_formed terms
  is_formed (xors terms) = has_two (list_of terms) && are_formed terms
  is_formed (assign left right) = is_formed left && is_formed right
  is_formed (loop name first last items at) = (num_is_formed first && num_is_formed last) &&
      (has_one (items_of items) && items_are_formed items)

  pub are_formed : Trees → Bool
  are_formed nil = true
  are_formed (cons t ts) = is_formed t && are_formed ts

  pub item_is_formed : ItemTree → Bool
  item_is_formed (bind name value) = is_formed value
  item_is_formed (run term) = is_formed term

  pub items_are_formed : ItemTrees → Bool
  items_are_formed no_items = true
  items_are_formed (item i is) = item_is_formed i && items_are_formed is

-- The forms that an expression has, the tightest first: a base, an atom, an application, a product,
-- a sum, an expression.
abbrev pub base : ℕ
base = 0

abbrev pub atom : ℕ
atom = 1

abbrev pub application : ℕ
application = 2

abbrev pub product : ℕ
product = 3

abbrev pub sum : ℕ
sum = 4

abbrev pub expression : ℕ
expression = 5

-- the form in which a term stands in a text; a `for` is an item alone, and never in brackets
abbrev pub form_of : Tree → ℕ
form_of (used name) = base
form_of (bool value at) = base
form_of (reg elements at) = base
form_of (block items last at) = base
form_of (function names body at) = expression
form_of (parts inner inside) = atom
form_of (apply head arguments) = application
form_of (append first second at) = application
form_of (rotate by operand at) = application
form_of (clean operand at) = application
form_of (assert operand at) = application
form_of (ands terms) = product
form_of (xors terms) = sum
form_of (assign left right) = expression
form_of (loop name first last items at) = expression

-- the levels of a term in a place for one form: a looser one stands in brackets, which open a level
abbrev pub levels_as : ℕ → Tree → ℕ → ℕ
levels_as form term levels = if leb (form_of term) form then levels else levels + 1

-- how many levels the shortest text of a term has, where it stands at the first
abbrev mutual
  pub levels_of : Tree → ℕ
  levels_of (used name) = 1
  levels_of (bool value at) = 1
  levels_of (reg elements at) = levels_of_all expression elements + 1
  levels_of (block items last at) = max (levels_of_items items) (levels_of last) + 1
  levels_of (function names body at) = levels_of body + 1
  levels_of (parts inner inside) = levels_as base inner (levels_of inner)
  levels_of (apply head arguments) = max (levels_as atom head (levels_of head))
      (levels_of_all atom arguments)
  levels_of (append first second at) = max (levels_as atom first (levels_of first))
      (levels_as atom second (levels_of second))
  levels_of (rotate by operand at) = levels_as atom operand (levels_of operand)
  levels_of (clean operand at) = levels_as atom operand (levels_of operand)
  levels_of (assert operand at) = levels_as atom operand (levels_of operand)
  levels_of (ands terms) = levels_of_all application terms
  levels_of (xors terms) = levels_of_all product terms
  levels_of (assign left right) = max (levels_as sum left (levels_of left))
      (levels_as sum right (levels_of right))
  levels_of (loop name first last items at) = levels_of_items items + 1

  -- the most levels of terms in places for one form
  pub levels_of_all : ℕ → Trees → ℕ
  levels_of_all form nil = 1
  levels_of_all form (cons t ts) = max (levels_as form t (levels_of t)) (levels_of_all form ts)

  -- A `let` can have a function's names behind its own, and then its function opens no level.
  pub levels_of_item : ItemTree → ℕ
  levels_of_item (bind name (function names body at)) = levels_of body
  levels_of_item (bind name value) = levels_of value
  levels_of_item (run term) = levels_of term

  pub levels_of_items : ItemTrees → ℕ
  levels_of_items no_items = 1
  levels_of_items (item i is) = max (levels_of_item i) (levels_of_items is)

-- how many names stand in a number, and in parts
abbrev pub names_of_unit : u.Unit → ℕ
names_of_unit (units.Digits value at) = 0
names_of_unit (units.Name name) = 1

abbrev pub names_of_num : List Step → ℕ
names_of_num [] = 0
names_of_num (s ∷ ss) = names_of_unit s.unit + names_of_num ss

abbrev pub names_of_part : Part → ℕ
names_of_part (part.Index i at) = names_of_num i
names_of_part (part.Slice i j at) = names_of_num i + names_of_num j

abbrev pub names_of_parts : List Part → ℕ
names_of_parts [] = 0
names_of_parts (p ∷ ps) = names_of_part p + names_of_parts ps

-- how many names stand in a term, used or bound
abbrev mutual
  pub names_of : Tree → ℕ
  names_of (used name) = 1
  names_of (bool value at) = 0
  names_of (reg elements at) = names_of_all elements
  names_of (block items last at) = names_of_items items + names_of last
  names_of (function names body at) = length names + names_of body
  names_of (parts inner inside) = names_of inner + names_of_parts inside
  names_of (apply head arguments) = names_of head + names_of_all arguments
  names_of (append first second at) = names_of first + names_of second
  names_of (rotate by operand at) = names_of_num by + names_of operand
  names_of (clean operand at) = names_of operand
  names_of (assert operand at) = names_of operand
  names_of (ands terms) = names_of_all terms
  names_of (xors terms) = names_of_all terms
  names_of (assign left right) = names_of left + names_of right
  names_of (loop name first last items at) =
      names_of_num first + names_of_num last + names_of_items items + 1

  pub names_of_all : Trees → ℕ
  names_of_all nil = 0
  names_of_all (cons t ts) = names_of t + names_of_all ts

  pub names_of_item : ItemTree → ℕ
  names_of_item (bind name value) = names_of value + 1
  names_of_item (run term) = names_of term

  pub names_of_items : ItemTrees → ℕ
  names_of_items no_items = 0
  names_of_items (item i is) = names_of_item i + names_of_items is
