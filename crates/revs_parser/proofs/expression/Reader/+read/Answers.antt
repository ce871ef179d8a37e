use Rattle.std.proofs.Common.{sym, ◌∙◌}
use Rattle.revs_terms.specs.Trees.{tree_of}
use Rattle.revs_terms.proofs.ShapeLemmas.{tree_of-Reg, tree_of-Block, tree_of-Apply}
use Rattle.revs_terms.proofs.ShapeLemmas.{item_tree_of-Let, item_tree_of-Do, item_tree_of-For}
use Rattle.std.proofs.lemmas.Result.{MatchResult-weaker}
use Rattle.revs_lexer.specs.Rest.{left}
use Rattle.revs_parser.proofs.PassingLemmas.{only, smaller_behind, halts_on, lacks}
use Rattle.revs_parser.proofs.ReadingLemmas as r
use Rattle.revs_parser.proofs.ItemLemmas as i
use Rattle.revs_parser.specs.declared.expression.Infix.TheVariants as infixes
use Rattle.revs_parser.proofs.expression.Reader.+read.Goals as goal

-- ---- expressions

pub expression-returns-in-Some : goal.expression-returns-in-Some
expression-returns-in-Some t c = MatchResult-weaker c.function.result c.function.ensures
    (λ x. r.expression_function c.args.self.level c.in-Some.ensures.found c.in_ok-level.ensures.inner c.in_ok-level.ensures.within)
    (λ x. r.expression_in_function c.args.self.level c.in-Some.ensures.found c.in_ok-level.ensures.inner c.in_ok-level.ensures.within)

pub expression-returns-in_err-left : goal.expression-returns-in_err-left
expression-returns-in_err-left t c =
    halts_on _ _ _ c.from_residual-in_err-left.ensures.1 (r.expression_in_sum c.args.self.level c.in_default.ensures.none c.in_err-left.ensures)

pub expression-returns-in_default-after : goal.expression-returns-in_default-after
expression-returns-in_default-after t c = r.expression_sum c.args.self.level c.in_default.ensures.none c.in_ok-left.ensures
    c.in_default-after.ensures.none

pub expression-returns : goal.expression-returns
expression-returns t c = MatchResult-weaker c.assigned.result c.assigned.ensures
    (λ x read. r.expression_assign c.args.self.level c.in_default.ensures.none c.in_ok-left.ensures c.in-Some-after.ensures.found read.reads read.is)
    (λ x. r.expression_in_assigned c.args.self.level c.in_default.ensures.none c.in_ok-left.ensures c.in-Some-after.ensures.found)

pub assigned-returns-in_err-target : goal.assigned-returns-in_err-target
assigned-returns-in_err-target t c = halts_on _ _ _ c.from_residual.ensures.1 (rw c.in_err-target.ensures at c.sum.ensures)

pub assigned-returns : goal.assigned-returns
assigned-returns t c =
    let both = c.in_ok-target.ensures in
    record { value = tree_of c.in_ok-target.value; is = rw both.0 at c.in_ok-term.ensures; reads = rw both.1 at c.sum.ensures }

-- ---- functions

pub function-returns : goal.function-returns
function-returns t c =
    r.function_reads c.args.self.level c.in_ok-names.ensures c.args.at c.in_ok-body.ensures c.in_ok-term.ensures

-- ---- chains

pub sum-returns-in_err-first : goal.sum-returns-in_err-first
sum-returns-in_err-first t c = halts_on _ _ _ c.from_residual.ensures.1 (r.chain_no_first infixes.Xor c.args.self.level c.in_err-first.ensures)

pub sum-returns-in_default : goal.sum-returns-in_default
sum-returns-in_default t c =
    let chain = r.chain_alone infixes.Xor c.args.self.level (record { reads = c.in_ok-first.ensures }) c.in_default.ensures.none in chain.reads

pub sum-returns : goal.sum-returns
sum-returns t c = MatchResult-weaker c.chained_behind.result c.chained_behind.ensures
    (λ x more. let chain = more.chain _ _ _ (record { reads = c.in_ok-first.ensures }) c.in-Some.ensures.found in chain.reads)
    (λ x more. more.chain _ _ _ (record { reads = c.in_ok-first.ensures }) c.in-Some.ensures.found)

pub product-returns-in_err-first : goal.product-returns-in_err-first
product-returns-in_err-first t c = halts_on _ _ _ c.from_residual.ensures.1 (r.chain_no_first infixes.And c.args.self.level c.in_err-first.ensures)

pub product-returns-in_default : goal.product-returns-in_default
product-returns-in_default t c =
    let chain = r.chain_alone infixes.And c.args.self.level (record { reads = c.in_ok-first.ensures }) c.in_default.ensures.none in chain.reads

pub product-returns : goal.product-returns
product-returns t c = MatchResult-weaker c.chained_behind.result c.chained_behind.ensures
    (λ x more. let chain = more.chain _ _ _ (record { reads = c.in_ok-first.ensures }) c.in-Some.ensures.found in chain.reads)
    (λ x more. more.chain _ _ _ (record { reads = c.in_ok-first.ensures }) c.in-Some.ensures.found)

pub chained_behind-operands-init : goal.chained_behind-operands-init
chained_behind-operands-init t c = record {
  read = λ all between at first heads. r.chain_begun c.args.operator c.args.self.level first heads
      (only c.new-terms.result.items c.args.first c.in_ok-push.ensures.items c.new-terms.ensures.items);
}

pub chained_behind-returns-in_err-rest : goal.chained_behind-returns-in_err-rest
chained_behind-returns-in_err-rest t c =
    halts_on _ _ _ c.from_residual-in_err-rest.ensures.1 (record {
      chain = λ all between at first heads. lacks c.in_err-rest.ensures
          (λ e. r.chain_no_next c.args.operator c.args.self.level (c.operands.invariant.read all between at first heads) (rw e at c.operand.ensures));
    })

pub chained_behind-returns-in_default : goal.chained_behind-returns-in_default
chained_behind-returns-in_default t c =
    let put = c.in_ok-rest.ensures in
    record {
      chain = λ all between at first heads. r.chain_done c.args.operator c.args.self.level c.operands.terms.items put.next
          (c.operands.invariant.read all between at first heads) (rw put.was_read at c.operand.ensures)
          (rw c.sign.ensures at c.in_default.ensures.none) put.all c.term.ensures;
    }

pub chained_behind-operands-preserved : goal.chained_behind-operands-preserved
chained_behind-operands-preserved t c =
    let put = c.in_ok-rest.ensures in
    record {
      read = λ all between at first heads. r.chain_more c.args.operator c.args.self.level c.operands.terms.items put.next
          (c.operands.invariant.read all between at first heads) (rw put.was_read at c.operand.ensures)
          (rw c.sign.ensures at c.in-Some.ensures.found) put.all;
    }

pub chained_behind-operands-smaller : goal.chained_behind-operands-smaller
chained_behind-operands-smaller t c =
    let read = rw c.in_ok-rest.ensures.was_read at c.operand.ensures in
    r.chain_shorter c.args.operator c.args.self.level read c.in-Some.ensures.found

pub operand-returns-in-Xor : goal.operand-returns-in-Xor
operand-returns-in-Xor t c =
    rw c.in-Xor.is (MatchResult-weaker c.product.result c.product.ensures (λ x r. record { reads = r }) (λ x h. h))

pub operand-returns-in-And : goal.operand-returns-in-And
operand-returns-in-And t c =
    rw c.in-And.is (MatchResult-weaker c.application.result c.application.ensures (λ x r. record { reads = r }) (λ x h. h))

-- ---- applications

pub application-returns-in-Some : goal.application-returns-in-Some
application-returns-in-Some t c =
    MatchResult-weaker c.append.result c.append.ensures
    (λ x. r.application_append c.args.self.level c.in-Some.ensures.found)
    (λ x. r.append_halts c.args.self.level c.in-Some.ensures.found)

pub application-returns-in_default-2 : goal.application-returns-in_default-2
application-returns-in_default-2 t c =
    let none = rw c.in_default-2.is at c.in_ok-operator.ensures.none in
    MatchResult-weaker c.atoms.result c.atoms.ensures
    (λ x. r.application_plain c.args.self.level (r.plain c.in_default.ensures.none none))
    (λ x. r.plain_halts c.args.self.level (r.plain c.in_default.ensures.none none))

pub application-returns : goal.application-returns
application-returns t c =
    let found = rw c.in-Some-2.is at c.in_ok-operator.ensures.found in
    MatchResult-weaker c.operated.result c.operated.ensures
    (λ x read. r.application_operator c.args.self.level found read.reads read.is)
    (λ x. r.operand_halts c.args.self.level found)

pub operated-returns-in_err-operator : goal.operated-returns-in_err-operator
operated-returns-in_err-operator t c = halts_on _ _ _ c.from_residual.ensures.1 (rw c.in_err-operator.ensures at c.atom.ensures)

pub operated-returns : goal.operated-returns
operated-returns t c =
    let both = c.in_ok-operator.ensures in
    record { operand = tree_of c.in_ok-operator.operand; is = rw both.0 at c.in_ok-term.ensures; reads = rw both.1 at c.atom.ensures }

pub append-returns : goal.append-returns
append-returns t c =
    let both = c.in_ok-first-2.ensures in
    r.append_reads c.args.self.level c.args.at c.in_ok-first.ensures (rw both.1 at c.atom-2.ensures) (rw both.0 at c.in_ok-term.ensures)

-- ---- an atom and its arguments

pub atoms-returns-then-not-begins_base : goal.atoms-returns-then-not-begins_base
atoms-returns-then-not-begins_base t c = r.atom_alone c.args.self.level c.in_ok-head.ensures (sym c.begins_base.ensures ∙ c.if-not-begins_base.true)

pub atoms-arguments-init : goal.atoms-arguments-init
atoms-arguments-init t c = record {
  read = r.arguments_begun c.args.self.level c.in_ok-head.head c.in_ok-head-2.head.value c.in_ok-head.ensures (sym c.begins_base.ensures
      ∙ c.if-not-begins_base.false) c.new-arguments.ensures.items c.in_ok-head-2.ensures.ok;
}

pub atoms-returns-then-not-begins_base-2 : goal.atoms-returns-then-not-begins_base-2
atoms-returns-then-not-begins_base-2 t c =
    let put = c.in_ok-rest.ensures in
    r.arguments_done c.args.self.level (tree_of c.in_ok-head-2.head.value) c.arguments.arguments.items put.next c.arguments.invariant.read
    (rw put.was_read at c.atom-in-arguments.ensures) (sym c.begins_base-in-arguments.ensures ∙ c.if-not-begins_base-2.true) put.all
    (tree_of-Apply c.in_ok-head-2.head c.put.new.all)

pub atoms-arguments-preserved : goal.atoms-arguments-preserved
atoms-arguments-preserved t c =
    let put = c.in_ok-rest.ensures in
    record {
      read = r.arguments_more c.args.self.level (tree_of c.in_ok-head-2.head.value) c.arguments.arguments.items put.next c.arguments.invariant.read
          (rw put.was_read at c.atom-in-arguments.ensures) (sym c.begins_base-in-arguments.ensures ∙ c.if-not-begins_base-2.false) put.all;
    }

pub atoms-arguments-smaller : goal.atoms-arguments-smaller
atoms-arguments-smaller t c =
    let read = rw c.in_ok-rest.ensures.was_read at c.atom-in-arguments.ensures in read.shorter

-- ---- atoms

pub atom-returns-then-not-is_part_behind : goal.atom-returns-then-not-is_part_behind
atom-returns-then-not-is_part_behind t c =
    r.base_alone c.args.self.profile c.args.self.level (left c.args.tokens) c.base-read.result c.base-read.ensures
    (c.is_part_behind.ensures c.if-not-is_part_behind.true)

pub atom-returns-in_err-inner : goal.atom-returns-in_err-inner
atom-returns-in_err-inner t c =
    halts_on _ _ _ c.from_residual.ensures.1 (r.atom_in_base c.args.self.level (rw c.in_err-inner.was at c.base-read.ensures))

pub atom-returns-in_err-inner-2 : goal.atom-returns-in_err-inner-2
atom-returns-in_err-inner-2 t c =
    halts_on _ _ _ c.from_residual-in_err-inner-2.ensures.1
    (r.atom_in_parts c.args.self.level (rw c.in_ok-inner.was at c.base-read.ensures) (rw c.in_err-inner-2.ensures at c.all_parts.ensures))

pub atom-returns : goal.atom-returns
atom-returns t c =
    let both = c.in_ok-inner-2.ensures in
    r.atom_reads c.args.self.level (rw c.in_ok-inner.was at c.base-read.ensures) (rw both.1 at c.all_parts.ensures) (rw both.0 at c.in_ok-term.ensures)

-- ---- bases

pub base-returns-in_default : goal.base-returns-in_default
base-returns-in_default t c = MatchResult-weaker c.single_base.result c.single_base.ensures
    (λ x read. read.at_level c.args.self.profile c.args.self.level)
    (λ x halt. halt.at_level c.args.self.profile c.args.self.level)

pub base-returns : goal.base-returns
base-returns t c = MatchResult-weaker c.opened.result c.opened.ensures
    (λ x. r.base_opened c.args.self.level c.in-Some.opener c.in-Some.ensures.found c.in_ok-level.ensures.inner c.in_ok-level.ensures.within)
    (λ x. r.opened_halts c.args.self.level c.in-Some.opener c.in-Some.ensures.found c.in_ok-level.ensures.inner c.in_ok-level.ensures.within)

pub opened-returns-in-Register : goal.opened-returns-in-Register
opened-returns-in-Register t c =
    rw c.in-Register.is (MatchResult-weaker c.register.result c.register.ensures (λ x r. record { reads = r }) (λ x h. h))

pub opened-returns-in-Bracket : goal.opened-returns-in-Bracket
opened-returns-in-Bracket t c = rw c.in-Bracket.is (MatchResult-weaker c.closed.result c.closed.ensures (λ x r. record { reads = r }) (λ x h. h))

pub opened-returns-in-Block : goal.opened-returns-in-Block
opened-returns-in-Block t c = rw c.in-Block.is (MatchResult-weaker c.block.result c.block.ensures (λ x r. record { reads = r }) (λ x h. h))

pub closed-returns : goal.closed-returns
closed-returns t c =
    MatchResult-weaker c.both.result c.both.ensures
    (λ x e. rw e.0 (r.closed_reads c.args.self.level c.in_ok-term.ensures (rw e.1 at c.expect.ensures.ok)))
    (λ x e. r.unclosed c.args.self.level c.in_ok-term.ensures (rw e at c.expect.ensures.halts))

-- ---- registers

pub register-elements-init : goal.register-elements-init
register-elements-init t c = record { read = r.register_begun c.args.self.level c.in_ok-behind.ensures.ok c.new-elements.ensures.items }

pub register-returns-in_err-rest-2 : goal.register-returns-in_err-rest-2
register-returns-in_err-rest-2 t c =
    let read = rw c.in_ok-rest.ensures.was_read at c.expression.ensures in
    halts_on _ _ _ c.from_residual-in_err-rest-2.ensures.1
    (r.register_unclosed c.args.self.level c.elements.invariant.read read c.in_default.ensures.none c.in_err-rest-2.ensures.halts)

pub register-returns-in_default : goal.register-returns-in_default
register-returns-in_default t c =
    let put = c.in_ok-rest.ensures in
    r.register_done c.args.self.level c.args.at c.elements.elements.items put.next c.elements.invariant.read (rw put.was_read at c.expression.ensures)
    c.in_default.ensures.none put.all c.in_ok-rest-2.ensures.ok (tree_of-Reg c.put.new.all c.args.at)

pub register-elements-preserved : goal.register-elements-preserved
register-elements-preserved t c =
    let put = c.in_ok-rest.ensures in
    record {
      read = r.register_more c.args.self.level c.elements.elements.items put.next c.elements.invariant.read (rw put.was_read at c.expression.ensures)
          c.in-Some.ensures.found put.all;
    }

pub register-elements-smaller : goal.register-elements-smaller
register-elements-smaller t c =
    let read = rw c.in_ok-rest.ensures.was_read at c.expression.ensures in smaller_behind read c.in-Some.ensures.found

-- ---- blocks

pub block-items-init : goal.block-items-init
block-items-init t c = record { read = r.block_begun c.args.self.level (left c.args.tokens) c.new-items.ensures.items }

pub block-items-preserved : goal.block-items-preserved
block-items-preserved t c =
    let item = rw c.in-Item.is at c.in_ok-next.ensures in
    record {
      read = r.block_more c.args.self.level c.items.items.items c.in-Item.item {new = c.push.new.self.items} c.items.invariant.read item
          c.in_ok-push-in-Item.ensures.items;
    }

pub block-items-smaller : goal.block-items-smaller
block-items-smaller t c = let item = rw c.in-Item.is at c.in_ok-next.ensures in item.shorter

pub block-returns-in-Last : goal.block-returns-in-Last
block-returns-in-Last t c =
    let last = rw c.in-Last.is at c.in_ok-next.ensures in
    r.block_done c.args.self.level c.args.at c.items.invariant.read last (rw (tree_of-Block, c.in_ok-new-in-Last.ensures.ok))

-- ---- items

pub item_or_last-returns-in_err-item : goal.item_or_last-returns-in_err-item
item_or_last-returns-in_err-item t c =
    halts_on _ _ _ c.from_residual.ensures.1 (i.item_halts c.args.self.level (sym c.begins_item.ensures ∙ c.if-begins_item.true) c.in_err-item.ensures)

pub item_or_last-returns-then-begins_item : goal.item_or_last-returns-then-begins_item
item_or_last-returns-then-begins_item t c = i.item_in_body c.args.self.level (sym c.begins_item.ensures ∙ c.if-begins_item.true) c.in_ok-item.ensures

pub item_or_last-returns-in_err-term : goal.item_or_last-returns-in_err-term
item_or_last-returns-in_err-term t c =
    halts_on _ _ _ c.from_residual-in_err-term.ensures.1
    (i.do_halts c.args.self.level (sym c.begins_item.ensures ∙ c.if-begins_item.false) c.in_err-term.ensures)

pub item_or_last-returns : goal.item_or_last-returns
item_or_last-returns t c = MatchResult-weaker c.piece_of.result c.piece_of.ensures
    (λ x. i.piece_reads c.args.self.level (sym c.begins_item.ensures ∙ c.if-begins_item.false) c.in_ok-term.ensures x.0 (left x.1))
    (λ x. i.piece_halts c.args.self.level (sym c.begins_item.ensures ∙ c.if-begins_item.false) c.in_ok-term.ensures)

pub item-returns-in-Some : goal.item-returns-in-Some
item-returns-in-Some t c = MatchResult-weaker c.binding.result c.binding.ensures
    (λ x. i.item_let c.args.self.level c.in-Some.ensures.found)
    (λ x. i.let_halts c.args.self.level c.in-Some.ensures.found)

pub item-returns-in_default-after_for : goal.item-returns-in_default-after_for
item-returns-in_default-after_for t c =
    rw c.len.ensures (i.item_stops c.args.self.level c.in_default.ensures.none c.in_default-after_for.ensures.none)

pub item-returns : goal.item-returns
item-returns t c = MatchResult-weaker c.repetition.result c.repetition.ensures
    (λ x. i.item_for c.args.self.level c.in-Some-after_for.ensures.found)
    (λ x. i.for_halts c.args.self.level c.in-Some-after_for.ensures.found)

-- ---- loops

pub repetition-returns-in_default : goal.repetition-returns-in_default
repetition-returns-in_default t c = rw c.len.ensures (i.for_no_curly c.args.self.level c.in_ok-name.ensures c.in_default.ensures.none)

pub repetition-returns : goal.repetition-returns
repetition-returns t c =
    i.for_reads c.args.self.level c.in_ok-name.ensures c.in-Some.ensures.found c.args.at c.in_ok-level.ensures.inner c.in_ok-level.ensures.within
    c.in_ok-items.ensures (item_tree_of-For _ _ _ c.args.at)

pub loop_items-items-init : goal.loop_items-items-init
loop_items-items-init t c = record { read = i.loop_begun c.args.self.level (left c.args.tokens) c.new-items.ensures.items }

pub loop_items-returns-in-Some : goal.loop_items-returns-in-Some
loop_items-returns-in-Some t c =
    let put = c.in_ok-rest.ensures in
    i.loop_done c.args.self.level c.items.items.items put.next c.items.invariant.read (rw put.was_read at c.loop_item.ensures) c.in-Some.ensures.found
    put.all c.in_ok-rest-2.ensures.ok

pub loop_items-items-preserved : goal.loop_items-items-preserved
loop_items-items-preserved t c =
    let put = c.in_ok-rest.ensures in
    record {
      read = i.loop_more c.args.self.level c.items.items.items put.next c.items.invariant.read (rw put.was_read at c.loop_item.ensures)
          c.in_default.ensures.none put.all;
    }

pub loop_items-items-smaller : goal.loop_items-items-smaller
loop_items-items-smaller t c =
    let read = rw c.in_ok-rest.ensures.was_read at c.loop_item.ensures in read.shorter

pub loop_item-returns-then-begins_item : goal.loop_item-returns-then-begins_item
loop_item-returns-then-begins_item t c = MatchResult-weaker c.item.result c.item.ensures
    (λ x. i.item_in_loop c.args.self.level (sym c.begins_item.ensures ∙ c.if-begins_item.true))
    (λ x. i.item_halts_in_loop c.args.self.level (sym c.begins_item.ensures ∙ c.if-begins_item.true))

pub loop_item-returns-in_err-term : goal.loop_item-returns-in_err-term
loop_item-returns-in_err-term t c =
    halts_on _ _ _ c.from_residual.ensures.1
    (i.do_halts_in_loop c.args.self.level (sym c.begins_item.ensures ∙ c.if-begins_item.false) c.in_err-term.ensures)

pub loop_item-returns : goal.loop_item-returns
loop_item-returns t c =
    i.do_in_loop c.args.self.level (sym c.begins_item.ensures ∙ c.if-begins_item.false) c.in_ok-term.ensures (item_tree_of-Do c.in_ok-term.term)

-- ---- bindings

pub binding-returns : goal.binding-returns
binding-returns t c =
    r.binding_reads c.args.self.level c.in_ok-name.ensures c.in_ok-body.ensures
    (rw (item_tree_of-Let, c.in_ok-value.ensures))
