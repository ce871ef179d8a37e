use Rattle.std.proofs.Common.{◌≡◌, ◌+◌, ◌*◌, max, map, take}
use denote.Param.Weighed.{most}
use Rattle.revs_terms.proofs.term.Term.TheLaws.{the_size}
use Rattle.revs_terms.proofs.term.Item.TheLaws as items
use Rattle.revs_terms.proofs.term.Lambda.TheLaws as functions
use Rattle.revs_terms.specs.Scopes.{scoped, scoped_trees, scoped_items}
use Rattle.revs_terms.specs.Trees.{tree_of, trees, item_tree_of, item_trees}
use Rattle.name_scope.proofs.terms.+bind.Given as goal

-- A function that takes parts of a term or an item stands between it and its parts.
abbrev pub decreases-bind_term : goal.decreases-bind_term
decreases-bind_term l = 3 * the_size l.term.now

abbrev pub decreases-bind_terms : goal.decreases-bind_terms
decreases-bind_terms l = 3 * most the_size l.terms.now + 1

abbrev pub decreases-bind_items : goal.decreases-bind_items
decreases-bind_items l = 3 * most items.the_size l.items.now + 1

abbrev pub decreases-bind_item : goal.decreases-bind_item
decreases-bind_item l = 3 * items.the_size l.item.now

abbrev pub decreases-bind_function : goal.decreases-bind_function
decreases-bind_function l = 3 * functions.the_size l.function.now

abbrev pub decreases-bind_both : goal.decreases-bind_both
decreases-bind_both l = 3 * max (the_size l.first.now) (the_size l.second.now) + 2

abbrev pub decreases-bind_with_parts : goal.decreases-bind_with_parts
decreases-bind_with_parts l = 3 * the_size l.base.now + 1

abbrev pub decreases-bind_rotation : goal.decreases-bind_rotation
decreases-bind_rotation l = 3 * the_size l.operand.now + 1

abbrev pub decreases-bind_loop : goal.decreases-bind_loop
decreases-bind_loop l = 3 * most items.the_size l.items.now + 2

abbrev pub decreases-bind_application : goal.decreases-bind_application
decreases-bind_application l = 3 * max (the_size l.head.now) (most the_size l.arguments.now) + 2

abbrev pub decreases-bind_block : goal.decreases-bind_block
decreases-bind_block l = 3 * max (most items.the_size l.items.now) (the_size l.last.now) + 2

abbrev pub invariant-bind_terms-loop-i : goal.invariant-bind_terms-loop-i
invariant-bind_terms-loop-i l =
    goal.unvisited-bind_terms-loop-i l × ((l.names ≡ l.initial.names) ×
    (scoped_trees l.initial.names (trees (map tree_of (take l.i l.initial.terms))) ≡ scoped (trees (map tree_of (take l.i l.terms)))))

abbrev pub invariant-bind_items-loop-i : goal.invariant-bind_items-loop-i
invariant-bind_items-loop-i l =
    goal.unvisited-bind_items-loop-i l × (scoped_items l.initial.names (item_trees (map item_tree_of (take l.i l.initial.items))) ≡ scoped
    (item_trees (map item_tree_of (take l.i l.items)), l.names))
