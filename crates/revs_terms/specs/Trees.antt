-- Terms as contracts see them: trees, with lists in place of vectors. A `for` is a tree of its own,
-- which stands as an item alone.
use Rattle.std.specs.Prelude.{Bool, List, [], ◌∷◌}
use Rattle.revc_base.specs.declared.place.Place.{Place}
use Rattle.revs_terms.specs.declared.term.Name.{Name}
use Rattle.revs_terms.specs.declared.term.Part.{Part}
use Rattle.revs_terms.specs.declared.term.Step.{Step}
use Rattle.revs_terms.specs.declared.term.Item.{Item}
use Rattle.revs_terms.specs.declared.term.Term.{Term}
use Rattle.revs_terms.specs.declared.term.Item.TheOpen.{Item-F, Term-F, Lambda-F}
use Rattle.revs_terms.specs.declared.term.Item.TheOpen as layer
use Rattle.revs_terms.specs.declared.term.Item.TheFolds.{fold-Term, fold-Item}

-- A term, an item of a block or a `for`, and the lists of them, which are those of the vectors'
-- elements.
mutual
  pub data Tree : Type 0 where
    used : Name → Tree
    bool : Bool → Place → Tree
    reg : Trees → Place → Tree
    block : ItemTrees → Tree → Place → Tree
    function : List Name → Tree → Place → Tree
    parts : Tree → List Part → Tree
    apply : Tree → Trees → Tree
    append : Tree → Tree → Place → Tree
    rotate : List Step → Tree → Place → Tree
    clean : Tree → Place → Tree
    assert : Tree → Place → Tree
    ands : Trees → Tree
    xors : Trees → Tree
    assign : Tree → Tree → Tree
    loop : Name → List Step → List Step → ItemTrees → Place → Tree

  pub data Trees : Type 0 where
    nil : Trees
    cons : Tree → Trees → Trees

  pub data ItemTree : Type 0 where
    bind : Name → Tree → ItemTree
    run : Tree → ItemTree

  pub data ItemTrees : Type 0 where
    no_items : ItemTrees
    item : ItemTree → ItemTrees → ItemTrees

abbrev pub trees : List Tree → Trees
trees [] = nil
trees (t ∷ ts) = cons t (trees ts)

abbrev pub list_of : Trees → List Tree
list_of nil = []
list_of (cons t ts) = t ∷ list_of ts

abbrev pub item_trees : List ItemTree → ItemTrees
item_trees [] = no_items
item_trees (i ∷ is) = item i (item_trees is)

abbrev pub items_of : ItemTrees → List ItemTree
items_of no_items = []
items_of (item i is) = i ∷ items_of is

-- the names and the body of a function
pub record FunctionTree : Type 0 where
  pub names : List Name
  pub body : Tree

abbrev pub item_step : Item-F ItemTree Tree FunctionTree → ItemTree
item_step (layer.Let name value) = bind name value
item_step (layer.Do term) = run term
item_step (layer.For name ends items at) =
    run (loop name ends.value.first ends.value.last (item_trees items.items) at)

-- One layer of a term, with the tree of each inner term in its stead.
abbrev pub tree_step : Term-F ItemTree Tree FunctionTree → Tree
tree_step (layer.Name name) = used name
tree_step (layer.Bool value at) = bool value at
tree_step (layer.Reg elements at) = reg (trees elements.items) at
tree_step (layer.Block items last at) = block (item_trees items.items) last.value at
tree_step (layer.Fun inner at) = function inner.value.names inner.value.body at
tree_step (layer.At base inside) = parts base.value inside.items
tree_step (layer.Apply head arguments) = apply head.value (trees arguments.items)
tree_step (layer.Append first second at) = append first.value second.value at
tree_step (layer.Rotate by operand at) = rotate by operand.value at
tree_step (layer.Clean operand at) = clean operand.value at
tree_step (layer.Assert operand at) = assert operand.value at
tree_step (layer.And terms) = ands (trees terms.items)
tree_step (layer.Xor terms) = xors (trees terms.items)
tree_step (layer.Assign left right) = assign left.value right.value

abbrev pub function_step : Lambda-F ItemTree Tree FunctionTree → FunctionTree
function_step inner = record { names = inner.names.items; body = inner.body }

-- the tree of a term, and of an item
abbrev pub tree_of : Term → Tree
tree_of = fold-Term ItemTree Tree FunctionTree item_step tree_step function_step

abbrev pub item_tree_of : Item → ItemTree
item_tree_of = fold-Item ItemTree Tree FunctionTree item_step tree_step function_step
