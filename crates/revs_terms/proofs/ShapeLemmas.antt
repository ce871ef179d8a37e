-- The tree of a term of each variant, and of an item.
use Rattle.std.proofs.Common.{◌≡◌, Bool, List, map, sym, ap, ◌∙◌}
use Rattle.std.specs.Prelude.{Vec, Box}
use Rattle.std.specs.Global.{Global}
use Rattle.revc_base.specs.declared.place.Place.{Place}
use Rattle.revs_terms.specs.Trees.{ItemTree, Tree, FunctionTree, used, bool, reg, block, function, parts, apply, append, rotate, clean, assert, ands, xors}
use Rattle.revs_terms.specs.Trees.{assign, loop, bind, run, trees, item_trees, item_step, tree_step, function_step, tree_of, item_tree_of}
use Rattle.revs_terms.specs.declared.term.Name.{Name}
use Rattle.revs_terms.specs.declared.term.Step.{Step}
use Rattle.revs_terms.specs.declared.term.Part.{Part}
use Rattle.revs_terms.specs.declared.term.Ends.{Ends}
use Rattle.revs_terms.specs.declared.term.Lambda.{Lambda, fold_out-Lambda}
use Rattle.revs_terms.specs.declared.term.Item.{Item, fold-roll-Item}
use Rattle.revs_terms.specs.declared.term.Item.TheVariants as items
use Rattle.revs_terms.specs.declared.term.Item.TheOpen as layer
use Rattle.revs_terms.specs.declared.term.Item.TheFolds.{fold-Lambda}
use Rattle.revs_terms.specs.declared.term.Term.{Term, fold-roll-Term}
use Rattle.revs_terms.specs.declared.term.Term.TheVariants as terms

pub tree_of-Name : (name : Name) → tree_of (terms.Name name) ≡ used name
tree_of-Name name = ap tree_of (sym (terms.rolls-Name name)) ∙ fold-roll-Term ItemTree Tree FunctionTree item_step tree_step function_step (layer.Name name)

pub tree_of-Bool : (value : Bool) (at : Place) → tree_of (terms.Bool value at) ≡ bool value at
tree_of-Bool value at = ap tree_of (sym (terms.rolls-Bool value at)) ∙ fold-roll-Term ItemTree Tree FunctionTree item_step tree_step function_step
    (layer.Bool value at)

pub tree_of-Reg : (elements : Vec Term Global) (at : Place) → tree_of (terms.Reg elements at) ≡ reg (trees (map tree_of elements.items)) at
tree_of-Reg elements at = ap tree_of (sym (terms.rolls-Reg elements at)) ∙ fold-roll-Term ItemTree Tree FunctionTree item_step tree_step function_step
    (layer.Reg elements at)

pub tree_of-Block : (inside : Vec Item Global) (last : Box Term Global) (at : Place)
    → tree_of (terms.Block inside last at) ≡ block (item_trees (map item_tree_of inside.items)) (tree_of last.value) at
tree_of-Block inside last at = ap tree_of
    (sym (terms.rolls-Block inside last at)) ∙ fold-roll-Term ItemTree Tree FunctionTree item_step tree_step function_step (layer.Block inside last at)

function_tree : (inner : Lambda) → fold-Lambda ItemTree Tree FunctionTree item_step tree_step function_step inner ≡ record
    { names = inner.names.items; body = tree_of inner.body }
function_tree inner = fold_out-Lambda ItemTree Tree FunctionTree item_step tree_step function_step inner

pub tree_of-Fun : (inner : Box Lambda Global) (at : Place) → tree_of (terms.Fun inner at) ≡ function inner.value.names.items (tree_of inner.value.body) at
tree_of-Fun inner at = ap tree_of (sym (terms.rolls-Fun inner at)) ∙ fold-roll-Term ItemTree Tree FunctionTree item_step tree_step function_step
    (layer.Fun inner at) ∙ ap (λ (f : FunctionTree). function f.names f.body at) (function_tree inner.value)

pub tree_of-At : (inner : Box Term Global) (inside : Vec Part Global) → tree_of (terms.At inner inside) ≡ parts (tree_of inner.value) inside.items
tree_of-At inner inside = ap tree_of (sym (terms.rolls-At inner inside)) ∙ fold-roll-Term ItemTree Tree FunctionTree item_step tree_step function_step
    (layer.At inner inside)

pub tree_of-Apply : (head : Box Term Global) (arguments : Vec Term Global)
    → tree_of (terms.Apply head arguments) ≡ apply (tree_of head.value) (trees (map tree_of arguments.items))
tree_of-Apply head arguments = ap tree_of
    (sym (terms.rolls-Apply head arguments)) ∙ fold-roll-Term ItemTree Tree FunctionTree item_step tree_step function_step (layer.Apply head arguments)

pub tree_of-Append : (first second : Box Term Global) (at : Place)
    → tree_of (terms.Append first second at) ≡ append (tree_of first.value) (tree_of second.value) at
tree_of-Append first second at = ap tree_of
    (sym (terms.rolls-Append first second at)) ∙ fold-roll-Term ItemTree Tree FunctionTree item_step tree_step function_step (layer.Append first second at)

pub tree_of-Rotate : (by : List Step) (operand : Box Term Global) (at : Place) → tree_of (terms.Rotate by operand at) ≡ rotate by (tree_of operand.value) at
tree_of-Rotate by operand at = ap tree_of
    (sym (terms.rolls-Rotate by operand at)) ∙ fold-roll-Term ItemTree Tree FunctionTree item_step tree_step function_step (layer.Rotate by operand at)

pub tree_of-Clean : (operand : Box Term Global) (at : Place) → tree_of (terms.Clean operand at) ≡ clean (tree_of operand.value) at
tree_of-Clean operand at = ap tree_of (sym (terms.rolls-Clean operand at)) ∙ fold-roll-Term ItemTree Tree FunctionTree item_step tree_step function_step
    (layer.Clean operand at)

pub tree_of-Assert : (operand : Box Term Global) (at : Place) → tree_of (terms.Assert operand at) ≡ assert (tree_of operand.value) at
tree_of-Assert operand at = ap tree_of (sym (terms.rolls-Assert operand at)) ∙ fold-roll-Term ItemTree Tree FunctionTree item_step tree_step function_step
    (layer.Assert operand at)

pub tree_of-And : (all : Vec Term Global) → tree_of (terms.And all) ≡ ands (trees (map tree_of all.items))
tree_of-And all = ap tree_of (sym (terms.rolls-And all)) ∙ fold-roll-Term ItemTree Tree FunctionTree item_step tree_step function_step (layer.And all)

pub tree_of-Xor : (all : Vec Term Global) → tree_of (terms.Xor all) ≡ xors (trees (map tree_of all.items))
tree_of-Xor all = ap tree_of (sym (terms.rolls-Xor all)) ∙ fold-roll-Term ItemTree Tree FunctionTree item_step tree_step function_step (layer.Xor all)

pub tree_of-Assign : (left right : Box Term Global) → tree_of (terms.Assign left right) ≡ assign (tree_of left.value) (tree_of right.value)
tree_of-Assign left right = ap tree_of (sym (terms.rolls-Assign left right)) ∙ fold-roll-Term ItemTree Tree FunctionTree item_step tree_step function_step
    (layer.Assign left right)

pub item_tree_of-Let : (name : Name) (value : Term) → item_tree_of (items.Let name value) ≡ bind name (tree_of value)
item_tree_of-Let name value = ap item_tree_of (sym (items.rolls-Let name value)) ∙ fold-roll-Item ItemTree Tree FunctionTree item_step tree_step function_step
    (layer.Let name value)

pub item_tree_of-Do : (term : Term) → item_tree_of (items.Do term) ≡ run (tree_of term)
item_tree_of-Do term = ap item_tree_of (sym (items.rolls-Do term)) ∙ fold-roll-Item ItemTree Tree FunctionTree item_step tree_step function_step
    (layer.Do term)

pub item_tree_of-For : (name : Name) (ends : Box Ends Global) (inside : Vec Item Global) (at : Place)
    → item_tree_of (items.For name ends inside at) ≡ run (loop name ends.value.first ends.value.last (item_trees (map item_tree_of inside.items)) at)
item_tree_of-For name ends inside at = ap item_tree_of
    (sym (items.rolls-For name ends inside at)) ∙ fold-roll-Item ItemTree Tree FunctionTree item_step tree_step function_step
    (layer.For name ends inside at)

-- All of them, for a search or a `simp`.
pub ruleset shapes = (
  tree_of-Name,
  tree_of-Bool,
  tree_of-Reg,
  tree_of-Block,
  tree_of-Fun,
  tree_of-At,
  tree_of-Apply,
  tree_of-Append,
  tree_of-Rotate,
  tree_of-Clean,
  tree_of-Assert,
  tree_of-And,
  tree_of-Xor,
  tree_of-Assign,
  item_tree_of-Let,
  item_tree_of-Do,
  item_tree_of-For,
)
