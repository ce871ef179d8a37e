use Rattle.std.proofs.Common.{◌∙◌, rules, map, refl}
use Rattle.std.proofs.lemmas.List.{with_items_is, places}
use Rattle.revs_terms.specs.declared.term.Item.TheVariants as items
use Rattle.revs_terms.specs.declared.term.Term.TheVariants as terms
use Rattle.revs_terms.specs.declared.term.Term.{the_lemmas}
use Rattle.revs_terms.proofs.term.Term.TheLaws.{the_size}
use Rattle.revs_terms.proofs.term.Item.TheLaws as item_laws
use Rattle.std.specs.Vec.{with_items}
use Rattle.std.specs.Box.{with_value}
use Rattle.revs_terms.specs.Trees.{reg, parts, apply, append, rotate, clean, assert, ands, xors, assign, item_trees, tree_of, item_tree_of}
use Rattle.revs_terms.specs.Scopes.{scoped_items}
use Rattle.revs_terms.proofs.ShapeLemmas.{tree_of-Reg, tree_of-Block, tree_of-Fun, tree_of-At, tree_of-Apply, tree_of-Append, tree_of-Rotate, tree_of-Clean}
use Rattle.revs_terms.proofs.ShapeLemmas.{tree_of-Assert, tree_of-And, tree_of-Xor, tree_of-Assign}
use Rattle.revs_terms.proofs.ShapeLemmas.{item_tree_of-For}
use Rattle.name_scope.proofs.VerdictLemmas.{part_binds, both_bind}
use Rattle.name_scope.proofs.VerdictLemmas.{block_binds, function_binds, loop_binds}
use Rattle.name_scope.proofs.VerdictLemmas.{items_bound, passed_on, refused_in}
use Rattle.name_scope.proofs.ScopeLemmas.{items_stand, names_stand, inside_stands, left_at_depth, depth_below}
use Rattle.name_scope.proofs.ScopeLemmas.{behind_fits, element_fits, within, itself}
use Rattle.name_scope.proofs.ScopeLemmas.{second_falls, element_falls}
use Rattle.name_scope.proofs.LoopLemmas.{term_fits, terms_go_on, terms_stop, item_fits, items_go_on, items_end, unreached}
use Rattle.name_scope.proofs.terms.+bind.Goals as goal

pub bind_term-returns-in-Reg : goal.bind_term-returns-in-Reg
bind_term-returns-in-Reg t c =
    rw (
      c.in-Reg.is,
      terms.outs-Reg c.in-Reg.elements c.in-Reg.field-1,
      tree_of-Reg c.in-Reg.elements c.in-Reg.field-1,
      tree_of-Reg (with_items c.in-Reg.elements c.bind_terms.new.terms) c.in-Reg.field-1,
      with_items_is c.in-Reg.elements c.bind_terms.new.terms (search (rules, places)),
    )
    (part_binds (λ us. reg us c.in-Reg.field-1) c.bind_terms.result _ _ _ _ (rw (c.deref_mut.ensures.value, c.in-Reg.elements-is) at c.bind_terms.ensures))

pub bind_term-returns-in-Block : goal.bind_term-returns-in-Block
bind_term-returns-in-Block t c =
    rw (
      c.in-Block.is,
      terms.outs-Block c.in-Block.items c.in-Block.last c.in-Block.field-2,
      tree_of-Block c.in-Block.items c.in-Block.last c.in-Block.field-2,
      tree_of-Block (with_items c.in-Block.items c.bind_block.new.items) (with_value c.in-Block.last c.bind_block.new.last) c.in-Block.field-2,
      with_items_is c.in-Block.items c.bind_block.new.items (search (rules, places)),
    )
    (block_binds c.bind_block.result (scoped_items c.args.names.now (item_trees (map item_tree_of c.in-Block.items.items)))
    (tree_of c.in-Block.last.value) (item_trees (map item_tree_of c.bind_block.new.items)) (tree_of c.bind_block.new.last) c.in-Block.field-2
    c.args.names.now c.bind_block.new.names
    (rw (c.deref_mut-in-Block.ensures.value, c.in-Block.items-is, c.deref_mut-in-Block-2.ensures.value, c.in-Block.last-is) at c.bind_block.ensures))

pub bind_term-returns-in-Fun : goal.bind_term-returns-in-Fun
bind_term-returns-in-Fun t c =
    rw (
      c.in-Fun.is,
      terms.outs-Fun c.in-Fun.function c.in-Fun.field-1,
      tree_of-Fun c.in-Fun.function c.in-Fun.field-1,
      tree_of-Fun (with_value c.in-Fun.function c.bind_function.new.function) c.in-Fun.field-1,
    )
    (function_binds c.bind_function.result _ _ _ _ c.in-Fun.field-1 _ _
    (rw (c.deref_mut-in-Fun.ensures.value, c.in-Fun.function-is) at c.bind_function.ensures))

pub bind_term-returns-in-At : goal.bind_term-returns-in-At
bind_term-returns-in-At t c =
    rw (
      c.in-At.is,
      terms.outs-At c.in-At.base c.in-At.parts,
      tree_of-At c.in-At.base c.in-At.parts,
      tree_of-At (with_value c.in-At.base c.bind_with_parts.new.base) (with_items c.in-At.parts c.bind_with_parts.new.parts),
      with_items_is c.in-At.parts c.bind_with_parts.new.parts (search (rules, places)),
    )
    (both_bind parts c.bind_with_parts.result _ _ _ _ _ _
    (rw (c.deref_mut-in-At.ensures.value, c.in-At.base-is, c.deref_mut-in-At-2.ensures.value, c.in-At.parts-is) at c.bind_with_parts.ensures))

pub bind_term-returns-in-Apply : goal.bind_term-returns-in-Apply
bind_term-returns-in-Apply t c =
    rw (
      c.in-Apply.is,
      terms.outs-Apply c.in-Apply.head c.in-Apply.arguments,
      tree_of-Apply c.in-Apply.head c.in-Apply.arguments,
      tree_of-Apply (with_value c.in-Apply.head c.bind_application.new.head) (with_items c.in-Apply.arguments c.bind_application.new.arguments),
      with_items_is c.in-Apply.arguments c.bind_application.new.arguments (search (rules, places)),
    )
    (both_bind apply c.bind_application.result _ _ _ _ _ _
    (rw (c.deref_mut-in-Apply.ensures.value, c.in-Apply.head-is, c.deref_mut-in-Apply-2.ensures.value, c.in-Apply.arguments-is) at c.bind_application.ensures))

pub bind_term-returns-in-Append : goal.bind_term-returns-in-Append
bind_term-returns-in-Append t c =
    rw (
      c.in-Append.is,
      terms.outs-Append c.in-Append.first c.in-Append.second c.in-Append.field-2,
      tree_of-Append c.in-Append.first c.in-Append.second c.in-Append.field-2,
      tree_of-Append (with_value c.in-Append.first c.bind_both.new.first) (with_value c.in-Append.second c.bind_both.new.second) c.in-Append.field-2,
    )
    (both_bind (λ a b. append a b c.in-Append.field-2) c.bind_both.result _ _ _ _ _ _
    (rw (c.deref_mut-in-Append.ensures.value, c.in-Append.first-is, c.deref_mut-in-Append-2.ensures.value, c.in-Append.second-is) at c.bind_both.ensures))

pub bind_term-returns-in-Rotate : goal.bind_term-returns-in-Rotate
bind_term-returns-in-Rotate t c =
    rw (
      c.in-Rotate.is,
      terms.outs-Rotate c.in-Rotate.by c.in-Rotate.operand c.in-Rotate.field-2,
      tree_of-Rotate c.in-Rotate.by c.in-Rotate.operand c.in-Rotate.field-2,
      tree_of-Rotate c.bind_rotation.new.by (with_value c.in-Rotate.operand c.bind_rotation.new.operand) c.in-Rotate.field-2,
    )
    (both_bind (λ k v. rotate k v c.in-Rotate.field-2) c.bind_rotation.result _ _ _ _ _ _
    (rw (c.in-Rotate.by-is, c.deref_mut-in-Rotate.ensures.value, c.in-Rotate.operand-is) at c.bind_rotation.ensures))

pub bind_term-returns-in-Clean : goal.bind_term-returns-in-Clean
bind_term-returns-in-Clean t c =
    rw (
      c.in-Clean.is,
      terms.outs-Clean c.in-Clean.operand c.in-Clean.field-1,
      tree_of-Clean c.in-Clean.operand c.in-Clean.field-1,
      tree_of-Clean (with_value c.in-Clean.operand c.bind_term.new.term) c.in-Clean.field-1,
    )
    (part_binds (λ u. clean u c.in-Clean.field-1) c.bind_term.result _ _ _ _
    (rw (c.deref_mut-in-Clean.ensures.value, c.in-Clean.operand-is) at c.bind_term.ensures))

pub bind_term-returns-in-Assert : goal.bind_term-returns-in-Assert
bind_term-returns-in-Assert t c =
    rw (
      c.in-Assert.is,
      terms.outs-Assert c.in-Assert.operand c.in-Assert.field-1,
      tree_of-Assert c.in-Assert.operand c.in-Assert.field-1,
      tree_of-Assert (with_value c.in-Assert.operand c.bind_term-in-Assert.new.term) c.in-Assert.field-1,
    )
    (part_binds (λ u. assert u c.in-Assert.field-1) c.bind_term-in-Assert.result _ _ _ _
    (rw (c.deref_mut-in-Assert.ensures.value, c.in-Assert.operand-is) at c.bind_term-in-Assert.ensures))

pub bind_term-returns-in-And : goal.bind_term-returns-in-And
bind_term-returns-in-And t c =
    rw (
      c.in-And.is,
      terms.outs-And c.in-And.operands,
      tree_of-And c.in-And.operands,
      tree_of-And (with_items c.in-And.operands c.bind_terms-in-And.new.terms),
      with_items_is c.in-And.operands c.bind_terms-in-And.new.terms (search (rules, places)),
    )
    (part_binds ands c.bind_terms-in-And.result _ _ _ _ (rw (c.deref_mut-in-And.ensures.value, c.in-And.operands-is) at c.bind_terms-in-And.ensures))

pub bind_term-returns-in-Xor : goal.bind_term-returns-in-Xor
bind_term-returns-in-Xor t c =
    rw (
      c.in-Xor.is,
      terms.outs-Xor c.in-Xor.operands,
      tree_of-Xor c.in-Xor.operands,
      tree_of-Xor (with_items c.in-Xor.operands c.bind_terms-in-Xor.new.terms),
      with_items_is c.in-Xor.operands c.bind_terms-in-Xor.new.terms (search (rules, places)),
    )
    (part_binds xors c.bind_terms-in-Xor.result _ _ _ _ (rw (c.deref_mut-in-Xor.ensures.value, c.in-Xor.operands-is) at c.bind_terms-in-Xor.ensures))

pub bind_term-returns-in-Assign : goal.bind_term-returns-in-Assign
bind_term-returns-in-Assign t c =
    rw (
      c.in-Assign.is,
      terms.outs-Assign c.in-Assign.left c.in-Assign.right,
      tree_of-Assign c.in-Assign.left c.in-Assign.right,
      tree_of-Assign (with_value c.in-Assign.left c.bind_both-in-Assign.new.first) (with_value c.in-Assign.right c.bind_both-in-Assign.new.second),
    )
    (both_bind assign c.bind_both-in-Assign.result _ _ _ _ _ _
    (rw c.in-Assign.right-is at (rw c.deref_mut-in-Assign-2.ensures.value at
    (rw c.in-Assign.left-is at (rw c.deref_mut-in-Assign.ensures.value at c.bind_both-in-Assign.ensures)))))

-- ---- two parts, one after the other

-- ---- loops

pub bind_loop-leave-requires : goal.bind_loop-leave-requires
bind_loop-leave-requires t c =
    let b = c.in_ok-bind.ensures {u = tt} in
    let s = items_stand (item_trees (map item_tree_of c.args.items.now)) _ _ _ (c.in_ok-bind_items.ensures {u = tt}) in
    depth_below _ _ _ _ _ (inside_stands _ _ _ _ _ b s) refl c.depth-depth.ensures

pub bind_loop-returns : goal.bind_loop-returns
bind_loop-returns t c =
    let b = c.in_ok-bind.ensures {u = tt} in
    let i = c.in_ok-bind_items.ensures {u = tt} in
    let s = items_stand (item_trees (map item_tree_of c.args.items.now)) _ _ _ i in (
      items_bound _ _ _ _ _ _ (item_trees (map item_tree_of c.args.items.now)) _ (c.in_ok-bind_ends.ensures {u = tt}) b i,
      c.leave.ensures ∙ left_at_depth _ _ _ _ _ (inside_stands _ _ _ _ _ b s) refl c.depth-depth.ensures,
    )

-- ---- blocks

pub bind_block-bind_term-requires : goal.bind_block-bind_term-requires
bind_block-bind_term-requires t c =
    let s = items_stand (item_trees (map item_tree_of c.args.items.now)) _ _ _ (c.in_ok-bind_items.ensures {u = tt}) in
    (second_falls _ _ _ c.decreases, behind_fits _ _ _ _ _ s c.requires)

pub bind_block-leave-requires : goal.bind_block-leave-requires
bind_block-leave-requires t c =
    let s = items_stand (item_trees (map item_tree_of c.args.items.now)) _ _ _ (c.in_ok-bind_items.ensures {u = tt}) in
    let b = c.in_ok-bind_term.ensures {u = tt} in
    depth_below _ _ _ _ _ s b.1 c.depth-depth.ensures

pub bind_block-returns : goal.bind_block-returns
bind_block-returns t c =
    let i = c.in_ok-bind_items.ensures {u = tt} in
    let s = items_stand (item_trees (map item_tree_of c.args.items.now)) _ _ _ i in
    let b = c.in_ok-bind_term.ensures {u = tt} in
    (rw i (rw b.0 refl), c.leave.ensures ∙ left_at_depth _ _ _ _ _ s b.1 c.depth-depth.ensures)

-- ---- functions

pub bind_function-bind_term-requires : goal.bind_function-bind_term-requires
bind_function-bind_term-requires t c =
    let e = rw c.deref.ensures.value at (c.in_ok-bind_all.ensures {u = tt}) in
    let s = names_stand c.args.function.now.names.items c.args.names.now in
    (search (rules, the_lemmas), rw e (behind_fits _ _ _ _ _ s c.requires))

pub bind_function-leave-requires : goal.bind_function-leave-requires
bind_function-leave-requires t c =
    let e = rw c.deref.ensures.value at (c.in_ok-bind_all.ensures {u = tt}) in
    let s = names_stand c.args.function.now.names.items c.args.names.now in
    let b = c.in_ok-bind_term.ensures {u = tt} in
    depth_below _ _ _ _ _ s (b.1 ∙ e) c.depth-depth.ensures

pub bind_function-returns : goal.bind_function-returns
bind_function-returns t c =
    let e = rw c.deref.ensures.value at (c.in_ok-bind_all.ensures {u = tt}) in
    let s = names_stand c.args.function.now.names.items c.args.names.now in
    let b = c.in_ok-bind_term.ensures {u = tt} in
    (rw (rw e at b.0) refl, c.leave.ensures ∙ left_at_depth _ _ _ _ _ s (b.1 ∙ e) c.depth-depth.ensures)

-- ---- terms and items, one after another

pub bind_terms-bind_term-requires : goal.bind_terms-bind_term-requires
bind_terms-bind_term-requires t c =
    let u = c.loop-i.invariant.0.1 c.loop-i.i c.index-terms-i.result (itself _) in
    let h = term_fits c.args.terms.now c.loop-i.i c.index-terms-i.result _ c.loop-i-test.true refl in (
      rw u (element_falls the_size c.args.terms.now c.loop-i.i _ c.index-terms-i.result c.loop-i-test.true c.decreases),
      rw u
          (element_fits _ _ _ _ _ c.loop-i.invariant.1.0 h c.requires),
    )

pub bind_terms-returns-in_err-bind_term : goal.bind_terms-returns-in_err-bind_term
bind_terms-returns-in_err-bind_term t c =
    let u = c.loop-i.invariant.0.1 c.loop-i.i c.index-terms-i.result (itself _) in
    let e = c.in_err-bind_term.ensures {u = tt} in
    refused_in c.from_residual.result _ _ _ _ _ c.from_residual.ensures.1
    (terms_stop c.args.names.now c.args.terms.now c.loop-i.terms c.loop-i.i c.index-terms-i.result _ _ c.loop-i-test.true refl c.loop-i.invariant.1.1
    (rw c.loop-i.invariant.1.0 at (rw u at e)))

pub bind_terms-loop-i-preserved : goal.bind_terms-loop-i-preserved
bind_terms-loop-i-preserved t c =
    let u = c.loop-i.invariant.0.1 c.loop-i.i c.index-terms-i.result (itself _) in
    let e = c.in_ok-bind_term.ensures {u = tt} in (
      unreached _ _ _ _ c.loop-i.invariant.0,
      (
        e.1 ∙ c.loop-i.invariant.1.0,
        terms_go_on c.args.names.now c.args.terms.now c.loop-i.terms c.loop-i.i c.index-terms-i.result _ _ c.loop-i-test.true
            c.loop-i.invariant.0.0 refl c.loop-i.invariant.1.1 (rw c.loop-i.invariant.1.0 at (rw u at e.0)),
      ),
    )

pub bind_items-bind_item-requires : goal.bind_items-bind_item-requires
bind_items-bind_item-requires t c =
    let u = c.loop-i.invariant.0.1 c.loop-i.i c.index-items-i.result (itself _) in
    let h = item_fits c.args.names.now c.loop-i.names c.args.items.now c.loop-i.items c.loop-i.i c.index-items-i.result _
    c.loop-i-test.true refl c.loop-i.invariant.1 in (
      rw u (element_falls item_laws.the_size c.args.items.now c.loop-i.i _
          c.index-items-i.result c.loop-i-test.true c.decreases),
      rw u (within _ _ _ h c.requires),
    )

pub bind_items-returns-in_err-bind_item : goal.bind_items-returns-in_err-bind_item
bind_items-returns-in_err-bind_item t c =
    let u = c.loop-i.invariant.0.1 c.loop-i.i c.index-items-i.result (itself _) in
    let e = c.in_err-bind_item.ensures {u = tt} in
    passed_on _ _ _ _ c.from_residual.ensures.1
    (items_end c.args.names.now c.loop-i.names c.args.items.now c.loop-i.items c.loop-i.i c.index-items-i.result _ _
    c.loop-i-test.true refl c.loop-i.invariant.1 (rw u at e))

pub bind_items-loop-i-preserved : goal.bind_items-loop-i-preserved
bind_items-loop-i-preserved t c =
    let u = c.loop-i.invariant.0.1 c.loop-i.i c.index-items-i.result (itself _) in
    let e = c.in_ok-bind_item.ensures {u = tt} in (
      unreached _ _ _ _ c.loop-i.invariant.0,
      items_go_on c.args.names.now c.loop-i.names _ c.args.items.now c.loop-i.items c.loop-i.i c.index-items-i.result _
          _ c.loop-i-test.true c.loop-i.invariant.0.0 refl c.loop-i.invariant.1 (rw u at e),
    )

pub bind_item-returns-in-For : goal.bind_item-returns-in-For
bind_item-returns-in-For t c =
    rw (
      c.in-For.is,
      items.outs-For c.in-For.name c.in-For.ends c.in-For.items c.in-For.at,
      item_tree_of-For c.in-For.name c.in-For.ends c.in-For.items c.in-For.at,
      item_tree_of-For c.in-For.name (with_value c.in-For.ends c.bind_loop.new.ends) (with_items c.in-For.items c.bind_loop.new.items) c.in-For.at,
      with_items_is c.in-For.items c.bind_loop.new.items (search (rules, places)),
    )
    (loop_binds c.bind_loop.result c.args.names.now c.bind_loop.new.names c.in-For.name c.in-For.ends.value.first c.in-For.ends.value.last
    c.bind_loop.new.ends.first c.bind_loop.new.ends.last (item_trees (map item_tree_of c.in-For.items.items))
    (item_trees (map item_tree_of c.bind_loop.new.items)) c.in-For.at
    (rw (c.in-For.name-is, c.deref_mut.ensures.value, c.in-For.ends-is, c.deref_mut-in-For.ensures.value, c.in-For.items-is) at c.bind_loop.ensures))
