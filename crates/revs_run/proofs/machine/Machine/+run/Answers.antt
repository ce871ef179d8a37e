use Rattle.std.proofs.Common.{◌≡◌, ◌-◌, ◌+◌, drop, map, refl, sym, ap, ◌∙◌, subst, arith}
use Rattle.revs_terms.specs.Terms.{place_of}
use Rattle.revs_terms.specs.Trees.{ItemTree, tree_of, item_tree_of}
use Rattle.revs_terms.specs.Running as runs
use Rattle.revs_terms.specs.Running.{run_of, term_of, apply_to, claim_on, closure, rotated, went, Environment, Outcome}
use Rattle.revs_terms.proofs.ShapeLemmas.{tree_of-Name, tree_of-Bool, tree_of-Reg, tree_of-Clean, tree_of-Assert, tree_of-And, tree_of-Xor, tree_of-Assign}
use Rattle.revs_terms.proofs.ShapeLemmas.{tree_of-At, tree_of-Apply, tree_of-Append, tree_of-Rotate, tree_of-Block}
use Rattle.revs_terms.proofs.ShapeLemmas.{item_tree_of-Let, item_tree_of-Do, item_tree_of-For}
use Rattle.array_shapes.specs.declared.value.Value.{Value}
use Rattle.revs_terms.specs.Runs.{no_bits}
use Rattle.revs_run.specs.inside.Machines.{envs_of, env_in, value_in, state_of, Goes, Binds, Calls}
use Rattle.std.proofs.lemmas.Int.{to_z-of_z}
use Rattle.std.proofs.lemmas.Result.{MatchResult-weaker, MatchResult-from_both, IfOk-weaker, IfErr-weaker}
use Rattle.revs_run.proofs.ProgressLemmas.{on_ok_alone, begun, step, ends_goes, ends_calls, said, goes_in, says_in, stops, does_by, goes_on_so}
use Rattle.revs_run.proofs.ChainLemmas.{entered, assigns_from, assigns_stuck, reg_made, reg_stuck, bits_begun, bits_more}
use Rattle.revs_run.proofs.ChainLemmas.{bits_stuck, bits_done, chain_begun, chain_more, chain_stuck, chain_done}
use Rattle.revs_run.proofs.CallLemmas.{mapped_at, mapped_end, items_more, items_stuck, items_done, at_begun, rotation_run, rotation_stuck}
use Rattle.revs_run.proofs.CallLemmas.{named_goes, append_second, append_stuck, apply_begun, apply_more, apply_done}
use Rattle.revs_run.proofs.CallLemmas.{block_last, bit_ends, bit_stuck, item_stuck}
use Rattle.revs_run.proofs.CallLemmas.{apply_stuck, argument_run, call_stuck, call_last, call_next, call_ends, call_said, item_bound, item_run, block_term}
use Rattle.revs_run.proofs.LoopLemmas.{item_loop, item_loop_stuck, loop_begun, loop_no_last, turns_begun, turns_more}
use Rattle.revs_run.proofs.LoopLemmas.{turns_stuck, turns_done, turn_bound, turn_passes, binds_so, settled, settled_room}
use Rattle.revs_run.specs.inside.Calls.{Says, Follows, item_step, join_step}
use Rattle.revs_run.proofs.machine.Machine.+run.Goals as goal

pub run-returns-clause-run : goal.run-returns-clause-run
run-returns-clause-run t c = settled c.args.self.now c.entered.new.self c.settle.new.self c.last_environment-kept.result _ c.in_ok-value.value
    c.requires.machine c.last_environment-kept.ensures c.in_ok-value.ensures.run c.settle.ensures

pub run-returns-clause-room : goal.run-returns-clause-room
run-returns-clause-room t c = settled_room c.args.self.now c.entered.new.self c.settle.new.self c.last_environment-kept.result _ c.in_ok-value.value
    c.last_environment-kept.ensures c.in_ok-value.ensures.run c.in_ok-value.ensures.room c.settle.ensures

pub entered-returns-clause-run : goal.entered-returns-clause-run
entered-returns-clause-run t c =
    let old = c.args.self.now in
    let goes = entered old c.enter.new.self c.args.frame.left (env_in (envs_of old) c.args.frame.env) (tree_of c.args.term.now) c.requires.machine (omega arith)
    c.in_ok-enter.ensures.ok in
    let grows = c.in_ok-enter.ensures.ok.grows in
    let term : Environment → Outcome (Unit {0}) runs.Value = λ e.
    term_of no_bits (run_of no_bits (c.args.frame.left - 1)) e (tree_of c.args.term.now) (state_of c.enter.new.self) in
    MatchResult-weaker c.term.result c.term.ensures
    (λ v g. ends_goes goes (goes_in term old c.enter.new.self _ c.args.frame.env v grows c.requires.env g))
    (λ f s. said f goes (says_in term old c.enter.new.self c.args.frame.env f grows c.requires.env s))

pub entered-returns-clause-room : goal.entered-returns-clause-room
entered-returns-clause-room t c = on_ok_alone _ c.term.result (λ v g. omega (arith, c.in_ok-enter.ensures.room, g.does.worked)) c.term.ensures

pub assignment-returns : goal.assignment-returns
assignment-returns t c =
    goes_on_so c.assign.new.self c.assign.result
    (assigns_from c.args.self.now c.bit.new.self c.bit-2.new.self c.args.frame.left c.args.frame.env c.in_ok-to.to
    c.in_ok-from.from (tree_of c.args.left.now) (tree_of c.args.right.now)
    c.requires.machine c.requires.env c.in_ok-to.ensures c.in_ok-from.ensures)
    c.assign.ensures.run

pub reg-returns : goal.reg-returns
reg-returns t c =
    goes_on_so c.short_register.new.self c.short_register.result
    (reg_made c.args.self.now c.bits.new.self c.args.frame.left (env_in (envs_of c.args.self.now) c.args.frame.env)
    (map tree_of c.args.terms.now) c.args.at c.in_ok-locations.locations.items c.requires.machine c.in_ok-locations.ensures)
    c.short_register.ensures.run

pub assignment-returns-in_err-from : goal.assignment-returns-in_err-from
assignment-returns-in_err-from t c = stops _ _ c.from_residual-in_err-from.result c.from_residual-in_err-from.ensures.1
    (assigns_stuck c.args.self.now c.bit.new.self c.args.frame.left c.args.frame.env c.in_ok-to.to (tree_of c.args.left.now)
    (tree_of c.args.right.now) c.in_err-from.field-0.0 c.requires.machine c.requires.env c.in_ok-to.ensures c.in_err-from.ensures)

pub reg-returns-in_err-locations : goal.reg-returns-in_err-locations
reg-returns-in_err-locations t c = stops _ _ c.from_residual.result c.from_residual.ensures.1
    (reg_stuck c.args.self.now c.args.frame.left (env_in (envs_of c.args.self.now) c.args.frame.env)
    (map tree_of c.args.terms.now) c.args.at c.in_err-locations.field-0.0 c.requires.machine c.in_err-locations.ensures)

pub bits-loop-term-init : goal.bits-loop-term-init
bits-loop-term-init t c = bits_begun c.args.self.now c.args.frame.left (env_in (envs_of c.args.self.now) c.args.frame.env)
    (map tree_of c.args.terms.now) c.new-locations.result.items c.requires.machine c.new-locations.ensures.items

pub bits-returns-in_err-location : goal.bits-returns-in_err-location
bits-returns-in_err-location t c = stops _ _ c.from_residual.result c.from_residual.ensures.1
    (bits_stuck c.args.self.now c.loop-term.self c.args.frame.left c.args.frame.env
    (tree_of c.term-item.result) _ _ c.loop-term.locations.items _ c.in_err-location.field-0.0 c.requires.env
    (mapped_at tree_of c.args.terms.now c.loop-term.term-index c.term-item.result (omega arith) c.term-item.is) c.loop-term.invariant
    c.in_err-location.ensures)

pub bits-loop-term-preserved : goal.bits-loop-term-preserved
bits-loop-term-preserved t c = bits_more c.args.self.now c.loop-term.self c.bit.new.self c.args.frame.left c.args.frame.env c.in_ok-location.location
    (tree_of c.term-item.result) _ _ c.loop-term.locations.items c.push.new.self.items _ c.requires.env
    (mapped_at tree_of c.args.terms.now c.loop-term.term-index c.term-item.result (omega arith) c.term-item.is) c.in_ok-push.ensures.items
    c.loop-term.invariant c.in_ok-location.ensures

pub bits-returns : goal.bits-returns
bits-returns t c = bits_done c.args.self.now c.loop-term.self c.args.frame.left
    (env_in (envs_of c.args.self.now) c.args.frame.env) _ c.loop-term.locations.items _
    (mapped_end tree_of c.args.terms.now c.loop-term.term-index (omega arith)) c.loop-term.invariant

pub chain-loop-term-init : goal.chain-loop-term-init
chain-loop-term-init t c = chain_begun c.args.self.now c.bit.new.self c.args.frame.left c.args.op (env_in (envs_of c.args.self.now) c.args.frame.env)
    (map tree_of c.args.terms.now) (tree_of c.in-Some.first.now) (map tree_of c.in-Some.rest.now) c.in_ok-so_far.so_far c.requires.machine
    (ap (map tree_of) c.in-Some.ensures.cases.0) c.in_ok-so_far.ensures

pub chain-returns-in_err-so_far-2 : goal.chain-returns-in_err-so_far-2
chain-returns-in_err-so_far-2 t c = stops _ _ c.from_residual-in_err-so_far-2.result c.from_residual-in_err-so_far-2.ensures.1
    (chain_stuck c.args.self.now c.loop-term.self c.args.frame.left c.args.frame.env c.loop-term.so_far c.args.op (place_of (tree_of c.in-Some.first.now))
    (tree_of c.term-item.result) _ _ _ c.in_err-so_far-2.field-0.0 c.requires.env
    (mapped_at tree_of c.in-Some.rest.now c.loop-term.term-index c.term-item.result (omega arith) c.term-item.is) c.loop-term.invariant
    c.in_err-so_far-2.ensures)

pub chain-loop-term-preserved : goal.chain-loop-term-preserved
chain-loop-term-preserved t c =
    chain_more c.args.self.now c.loop-term.self c.link.new.self c.args.frame.left c.args.frame.env c.loop-term.so_far c.in_ok-so_far-2.so_far
    c.args.op (place_of (tree_of c.in-Some.first.now)) (tree_of c.term-item.result) _ _ _ c.requires.env
    (mapped_at tree_of c.in-Some.rest.now c.loop-term.term-index c.term-item.result (omega arith) c.term-item.is) c.loop-term.invariant
    c.in_ok-so_far-2.ensures

pub chain-returns : goal.chain-returns
chain-returns t c = chain_done c.args.self.now c.loop-term.self c.args.frame.left c.args.op (env_in (envs_of c.args.self.now) c.args.frame.env)
    (place_of (tree_of c.in-Some.first.now)) c.loop-term.so_far _ _
    (mapped_end tree_of c.in-Some.rest.now c.loop-term.term-index (omega arith)) c.loop-term.invariant

pub append-returns-in_err-back : goal.append-returns-in_err-back
append-returns-in_err-back t c = stops _ _ c.from_residual-in_err-back.result c.from_residual-in_err-back.ensures.1
    (append_stuck c.args.self.now c.run.new.self c.args.frame.left c.args.frame.env (tree_of c.args.first.now)
    (tree_of c.args.second.now) c.args.at c.in_ok-front.front c.in_err-back.field-0.0 c.requires.machine c.requires.env c.in_ok-front.ensures.run
    c.in_err-back.ensures.run)

pub append-returns : goal.append-returns
append-returns t c =
    goes_on_so c.appended.new.self c.appended.result
    (append_second c.args.self.now c.run.new.self c.run-2.new.self c.args.frame.left c.args.frame.env (tree_of c.args.first.now)
    (tree_of c.args.second.now) c.args.at c.in_ok-front.front c.in_ok-back.back c.requires.machine c.requires.env c.in_ok-front.ensures.run
    c.in_ok-back.ensures.run)
    c.appended.ensures.run

pub apply-loop-term-init : goal.apply-loop-term-init
apply-loop-term-init t c = apply_begun c.args.self.now c.run.new.self c.args.frame.left c.args.frame.env (tree_of c.args.head.now)
    (map tree_of c.args.terms.now) c.in_ok-value.value c.requires.machine c.in_ok-value.ensures.run

pub apply-returns-in_err-value-2 : goal.apply-returns-in_err-value-2
apply-returns-in_err-value-2 t c = stops _ _ c.from_residual-in_err-value-2.result c.from_residual-in_err-value-2.ensures.1
    (apply_stuck c.args.self.now c.loop-term.self c.args.frame.left c.args.frame.env
    (tree_of c.term-item.result) _ _ c.loop-term.value _ c.in_err-value-2.field-0.0 c.requires.env
    (mapped_at tree_of c.args.terms.now c.loop-term.term-index c.term-item.result (omega arith) c.term-item.is) c.loop-term.invariant
    c.in_err-value-2.ensures)

pub apply-loop-term-preserved : goal.apply-loop-term-preserved
apply-loop-term-preserved t c = apply_more c.args.self.now c.loop-term.self c.argument.new.self c.args.frame.left c.args.frame.env
    (tree_of c.term-item.result) _ _ c.loop-term.value c.in_ok-value-2.value _ c.requires.env
    (mapped_at tree_of c.args.terms.now c.loop-term.term-index c.term-item.result (omega arith) c.term-item.is) c.loop-term.invariant
    c.in_ok-value-2.ensures

pub argument-returns : goal.argument-returns
argument-returns t c =
    let so = argument_run c.args.self.now c.run.new.self c.args.frame.left c.args.frame.env (tree_of c.args.term.now) c.args.callee c.in_ok-argument.argument
    c.requires.machine c.requires.made c.in_ok-argument.ensures.run in
    MatchResult-weaker c.call.result c.call.ensures (λ v g. ends_calls so c.in_ok-argument.ensures.room g) (λ f s. said f so s)

pub at-returns : goal.at-returns
at-returns t c =
    goes_on_so c.parts.new.self c.parts.result
    (at_begun c.args.self.now c.run.new.self c.args.frame.left c.args.frame.env
    (tree_of c.args.base.now) c.args.inside.now c.in_ok-value.value c.place.result c.place.ensures c.requires.machine c.requires.env
    c.in_ok-value.ensures.run)
    c.parts.ensures

pub items-returns-in_err-inner : goal.items-returns-in_err-inner
items-returns-in_err-inner t c = stops _ _ c.from_residual.result c.from_residual.ensures.1
    (items_stuck c.args.self.now c.loop-item.self c.args.frame.left c.loop-item.inner (item_tree_of c.item-item.result) _ _ _ c.in_err-inner.field-0.0
    (mapped_at item_tree_of c.args.items.now c.loop-item.item-index c.item-item.result (omega arith) c.item-item.is) c.loop-item.invariant
    c.in_err-inner.ensures)

pub items-loop-item-preserved : goal.items-loop-item-preserved
items-loop-item-preserved t c = items_more c.args.self.now c.loop-item.self c.item.new.self c.args.frame.left c.loop-item.inner c.in_ok-inner.inner
    (item_tree_of c.item-item.result) _ _ _
    (mapped_at item_tree_of c.args.items.now c.loop-item.item-index c.item-item.result (omega arith) c.item-item.is) c.loop-item.invariant
    c.in_ok-inner.ensures

pub items-returns : goal.items-returns
items-returns t c = items_done c.args.self.now c.loop-item.self c.args.frame.left c.loop-item.inner _ _
    (mapped_end item_tree_of c.args.items.now c.loop-item.item-index (omega arith)) c.loop-item.invariant

pub call-returns-in_err-inner : goal.call-returns-in_err-inner
call-returns-in_err-inner t c = stops _ _ c.from_residual.result c.from_residual.ensures.1
    (subst (λ (w : Value). Says c.in_err-inner.field-0.0
    (apply_to no_bits (run_of no_bits c.args.left) (place_of (tree_of c.args.term.now)) (value_in (envs_of c.args.self.now) w)
    (value_in (envs_of c.args.self.now) c.args.argument) (state_of c.args.self.now))) (sym c.in-Fun.is)
    (call_stuck c.args.left (place_of (tree_of c.args.term.now)) c.in-Fun.of.now.names.items c.in-Fun.taken (tree_of c.in-Fun.of.now.body)
    (env_in (envs_of c.args.self.now) c.in-Fun.env) (value_in (envs_of c.args.self.now) c.args.argument)
    (state_of c.args.self.now) c.in_err-inner.field-0.0 (omega (arith, c.in-Fun.of.now.names.ok.0)) c.in_err-inner.ensures.err))

pub call-returns-then-len-taken-2 : goal.call-returns-then-len-taken-2
call-returns-then-len-taken-2 t c =
    let last = call_last c.args.self.now c.bind.new.self c.args.left c.in_ok-inner.inner
    (place_of (tree_of c.args.term.now)) c.in-Fun.of.now.names.items c.in-Fun.taken (tree_of c.in-Fun.of.now.body)
    (env_in (envs_of c.args.self.now) c.in-Fun.env) (value_in (envs_of c.args.self.now) c.args.argument)
    (omega (arith, c.in-Fun.of.now.names.ok.0)) c.in_ok-inner.ensures.ok in
    subst (λ (w : Value). Follows (Calls c.args.self.now c.run.new.self)
    (apply_to no_bits (run_of no_bits c.args.left) (place_of (tree_of c.args.term.now)) (value_in (envs_of c.args.self.now) w)
    (value_in (envs_of c.args.self.now) c.args.argument) (state_of c.args.self.now)) c.run.result) (sym c.in-Fun.is)
    (MatchResult-weaker c.run.result c.run.ensures.run (λ v g. call_ends last g) (λ f s. call_said f last s))

pub call-returns : goal.call-returns
call-returns t c = record {
  goes = subst (λ (w : Value). (apply_to no_bits (run_of no_bits c.args.left) (place_of (tree_of c.args.term.now)) (value_in (envs_of c.args.self.now) w)
      (value_in (envs_of c.args.self.now) c.args.argument) (state_of c.args.self.now)) ≡ went
      (closure (drop (c.in-Fun.taken + 1) c.in-Fun.of.now.names.items) (tree_of c.in-Fun.of.now.body) (env_in (envs_of c.bind.new.self) c.in_ok-inner.inner))
      (state_of c.bind.new.self)) (sym c.in-Fun.is)
      (call_next c.args.self.now c.bind.new.self c.args.left c.in_ok-inner.inner
      (place_of (tree_of c.args.term.now)) c.in-Fun.of.now.names.items c.in-Fun.taken (tree_of c.in-Fun.of.now.body)
      (env_in (envs_of c.args.self.now) c.in-Fun.env) (value_in (envs_of c.args.self.now) c.args.argument)
      (omega (arith, c.in-Fun.of.now.names.ok.0)) c.in_ok-inner.ensures.ok);
  grows = c.in_ok-inner.ensures.ok.grows;
  kept = c.in_ok-inner.ensures.ok.kept;
  worked = c.in_ok-inner.ensures.ok.worked;
  made = record { made = c.in_ok-inner.ensures.ok.made };
}

pub item-returns-in_ok-bound-in-Let : goal.item-returns-in_ok-bound-in-Let
item-returns-in_ok-bound-in-Let t c =
    subst (λ (i : ItemTree). Follows (Binds c.args.self.now c.bind.new.self)
    (item_step (run_of no_bits c.args.frame.left) (env_in (envs_of c.args.self.now) c.args.frame.env) i (state_of c.args.self.now)) c.bind.result)
    (sym (ap item_tree_of c.in-Let.is ∙ item_tree_of-Let c.in-Let.name c.in-Let.value))
    (MatchResult-from_both c.bind.result _ _ (IfOk-weaker c.bind.result _ _
    (λ b g. item_bound c.args.self.now c.run.new.self c.bind.new.self c.args.frame.left c.args.frame.env b c.in-Let.name
    (tree_of c.in-Let.value) c.in_ok-bound-in-Let.bound c.requires.machine c.requires.env c.in_ok-bound-in-Let.ensures.run
    c.in_ok-bound-in-Let.ensures.room g) c.bind.ensures.ok)
    (IfErr-weaker c.bind.result _ _
    (λ f s. item_stuck c.args.self.now c.run.new.self c.args.frame.left c.args.frame.env c.in-Let.name (tree_of c.in-Let.value) c.in_ok-bound-in-Let.bound f
    c.requires.machine c.requires.env c.in_ok-bound-in-Let.ensures.run s) c.bind.ensures.err))

pub item-returns-in_ok-run-in-Do : goal.item-returns-in_ok-run-in-Do
item-returns-in_ok-run-in-Do t c = subst
    (λ (i : ItemTree). Binds c.args.self.now c.run-in-Do.new.self
    (item_step (run_of no_bits c.args.frame.left) (env_in (envs_of c.args.self.now) c.args.frame.env) i (state_of c.args.self.now)) c.args.frame.env)
    (sym (ap item_tree_of c.in-Do.is ∙ item_tree_of-Do c.in-Do.term))
    (item_run c.args.self.now c.run-in-Do.new.self c.args.frame.left c.args.frame.env
    (tree_of c.in-Do.term) c.in_ok-run-in-Do.field-0 c.requires.machine c.requires.env c.in_ok-run-in-Do.ensures.run)

pub term-returns-in-Block : goal.term-returns-in-Block
term-returns-in-Block t c =
    subst (λ (o : Outcome (Unit {0}) runs.Value). Follows (Goes c.args.self.now c.block.new.self) o c.block.result)
    (sym (block_term c.args.frame.left (env_in (envs_of c.args.self.now) c.args.frame.env) (map item_tree_of c.in-Block.items.items)
    (map item_tree_of c.deref-in-Block.result.now) (tree_of c.in-Block.last.value) (tree_of c.deref-in-Block-2.result.now) c.in-Block.field-2
    (state_of c.args.self.now) (tree_of c.args.term.now)
    (ap tree_of c.in-Block.is ∙ tree_of-Block c.in-Block.items c.in-Block.last c.in-Block.field-2) (ap (map item_tree_of) c.deref-in-Block.ensures.value)
    (ap tree_of c.deref-in-Block-2.ensures))) c.block.ensures

-- ---- terms by their forms

pub term-returns-in-Bool : goal.term-returns-in-Bool
term-returns-in-Bool t c = rw (c.in-Bool.is, tree_of-Bool c.in-Bool.bit c.in-Bool.at) c.constant.ensures

pub term-returns-in-Reg : goal.term-returns-in-Reg
term-returns-in-Reg t c = rw (c.in-Reg.is, tree_of-Reg c.in-Reg.terms c.in-Reg.at, ← c.deref.ensures.value) c.reg.ensures

pub term-returns-in-Clean : goal.term-returns-in-Clean
term-returns-in-Clean t c = rw (c.in-Clean.is, tree_of-Clean c.in-Clean.operand c.in-Clean.at, ← c.deref-in-Clean.ensures) c.claimed.ensures

pub term-returns-in-Assert : goal.term-returns-in-Assert
term-returns-in-Assert t c =
    rw (c.in-Assert.is, tree_of-Assert c.in-Assert.operand c.in-Assert.at, ← c.deref-in-Assert.ensures) c.claimed-in-Assert.ensures

pub term-returns-in-And : goal.term-returns-in-And
term-returns-in-And t c = rw (c.in-And.is, tree_of-And c.in-And.terms, ← c.deref-in-And.ensures.value) c.chain.ensures

pub term-returns-in-Xor : goal.term-returns-in-Xor
term-returns-in-Xor t c = rw (c.in-Xor.is, tree_of-Xor c.in-Xor.terms, ← c.deref-in-Xor.ensures.value) c.chain-in-Xor.ensures

pub term-returns-in-Assign : goal.term-returns-in-Assign
term-returns-in-Assign t c =
    rw (c.in-Assign.is, tree_of-Assign c.in-Assign.to c.in-Assign.from, ← c.deref-in-Assign.ensures, ← c.deref-in-Assign-2.ensures) c.assignment.ensures

pub term-returns-in-At : goal.term-returns-in-At
term-returns-in-At t c =
    rw (c.in-At.is, tree_of-At c.in-At.base c.in-At.parts, ← c.deref-in-At.ensures, ← c.deref-in-At-2.ensures.value) c.at.ensures

pub term-returns-in-Apply : goal.term-returns-in-Apply
term-returns-in-Apply t c =
    rw (c.in-Apply.is, tree_of-Apply c.in-Apply.head c.in-Apply.terms, ← c.deref-in-Apply.ensures, ← c.deref-in-Apply-2.ensures.value) c.apply.ensures

pub term-returns-in-Append : goal.term-returns-in-Append
term-returns-in-Append t c =
    rw (
      c.in-Append.is,
      tree_of-Append c.in-Append.first c.in-Append.second c.in-Append.at,
      ← c.deref-in-Append.ensures,
      ← c.deref-in-Append-2.ensures,
    ) c.append.ensures

pub term-returns-in-Rotate : goal.term-returns-in-Rotate
term-returns-in-Rotate t c =
    rw (c.in-Rotate.is, tree_of-Rotate c.in-Rotate.by c.in-Rotate.operand c.in-Rotate.at, ← c.deref-in-Rotate.ensures) c.rotation.ensures

pub term-returns-in-Name : goal.term-returns-in-Name
term-returns-in-Name t c =
    named_goes c.args.self.now c.args.frame.left c.args.frame.env c.in-Name.name (tree_of c.args.term.now) c.named.result
    (ap tree_of c.in-Name.is ∙ tree_of-Name c.in-Name.name) c.requires.machine c.named.ensures.ok c.named.ensures.made c.named.ensures.err

-- ---- where a part fails

-- ---- the last step

pub claimed-returns : goal.claimed-returns
claimed-returns t c =
    goes_on_so c.claim.new.self c.claim.result
    (step (λ l s. claim_on no_bits c.args.kind l (place_of (tree_of c.args.operand.now)) c.args.at s)
    (begun c.args.self.now _ _ refl c.requires.machine) c.in_ok-location.ensures)
    c.claim.ensures.run

pub link-returns : goal.link-returns
link-returns t c =
    does_by c.join.new.self c.join.result
    (step (λ next s. join_step c.args.op c.args.so_far next (place_of (tree_of c.args.first.now)) (place_of (tree_of c.args.term.now)) s)
    (begun c.args.self.now _ _ refl c.requires.machine) c.in_ok-next.ensures)
    c.join.ensures.ok c.join.ensures.err

pub rotation-returns : goal.rotation-returns
rotation-returns t c =
    goes_on_so c.rotated.new.self c.rotated.result
    (rotation_run c.args.self.now c.number.new.self c.run.new.self c.args.frame.left c.args.frame.env c.args.by.now (tree_of c.args.operand.now)
    c.args.at c.in_ok-k.k c.in_ok-value.value c.requires.machine c.requires.env c.in_ok-k.ensures.ok c.in_ok-value.ensures.run)
    (simp (to_z-of_z, c.in_ok-k.ensures.fits) at c.rotated.ensures.run)

pub rotation-returns-in_err-value : goal.rotation-returns-in_err-value
rotation-returns-in_err-value t c = stops _ _ c.from_residual-in_err-value.result c.from_residual-in_err-value.ensures.1
    (rotation_stuck c.args.self.now c.number.new.self c.args.frame.left c.args.frame.env c.args.by.now (tree_of c.args.operand.now) c.args.at c.in_ok-k.k
    c.in_err-value.field-0.0 c.requires.machine c.requires.env c.in_ok-k.ensures.ok c.in_err-value.ensures.run)

pub block-returns : goal.block-returns
block-returns t c =
    goes_on_so c.run.new.self c.run.result
    (block_last c.args.self.now c.items.new.self c.args.frame.left c.args.frame.env c.in_ok-inner.inner (map item_tree_of c.args.items.now)
    (tree_of c.args.last.now) c.requires.machine c.in_ok-inner.ensures)
    c.run.ensures.run

pub apply-returns : goal.apply-returns
apply-returns t c = apply_done c.args.self.now c.loop-term.self c.args.frame.left (env_in (envs_of c.args.self.now) c.args.frame.env) _ c.loop-term.value _
    (mapped_end tree_of c.args.terms.now c.loop-term.term-index (omega arith)) c.loop-term.invariant

-- ---- the parts' calls

-- ---- the exits

pub bit-returns : goal.bit-returns
bit-returns t c = MatchResult-from_both c.bit_at.result _ _
    (IfOk-weaker c.bit_at.result _ _ (λ l b. bit_ends c.args.self.now c.run.new.self c.args.frame.left c.args.frame.env l (tree_of c.args.term.now)
    c.in_ok-value.value c.requires.machine c.in_ok-value.ensures.run b) c.bit_at.ensures.ok)
    (IfErr-weaker c.bit_at.result _ _ (λ f b. bit_stuck c.args.self.now c.run.new.self c.args.frame.left c.args.frame.env (tree_of c.args.term.now)
    c.in_ok-value.value f c.requires.machine c.in_ok-value.ensures.run b) c.bit_at.ensures.err)

-- ---- loops

pub item-returns-in_ok-repeat-in-For : goal.item-returns-in_ok-repeat-in-For
item-returns-in_ok-repeat-in-For t c = subst
    (λ (i : ItemTree). Binds c.args.self.now c.repeat.new.self
    (item_step (run_of no_bits c.args.frame.left) (env_in (envs_of c.args.self.now) c.args.frame.env) i (state_of c.args.self.now)) c.args.frame.env)
    (sym (ap item_tree_of c.in-For.is ∙ item_tree_of-For c.in-For.name c.in-For.ends c.in-For.items c.in-For.at))
    (item_loop c.args.self.now c.repeat.new.self c.args.frame.left c.args.frame.env c.in-For.name c.in-For.ends.value.first
    c.in-For.ends.value.last (map item_tree_of c.in-For.items.items) _ c.in-For.at c.in_ok-repeat-in-For.field-0
    (ap (map item_tree_of) c.deref-in-For.ensures.value) c.requires.machine c.requires.env (rw c.deref.ensures at c.in_ok-repeat-in-For.ensures))

pub item-returns-in_err-repeat-in-For : goal.item-returns-in_err-repeat-in-For
item-returns-in_err-repeat-in-For t c = stops _ _ c.from_residual-in_err-repeat-in-For.result c.from_residual-in_err-repeat-in-For.ensures.1
    (subst (λ (i : ItemTree). Says c.in_err-repeat-in-For.field-0.0
    (item_step (run_of no_bits c.args.frame.left) (env_in (envs_of c.args.self.now) c.args.frame.env) i (state_of c.args.self.now)))
    (sym (ap item_tree_of c.in-For.is ∙ item_tree_of-For c.in-For.name c.in-For.ends c.in-For.items c.in-For.at))
    (item_loop_stuck c.args.frame.left (env_in (envs_of c.args.self.now) c.args.frame.env) c.in-For.name c.in-For.ends.value.first
    c.in-For.ends.value.last (map item_tree_of c.in-For.items.items) _ c.in-For.at (state_of c.args.self.now) c.in_err-repeat-in-For.field-0.0
    (ap (map item_tree_of) c.deref-in-For.ensures.value) (rw c.deref.ensures at c.in_err-repeat-in-For.ensures)))

pub repeat-returns : goal.repeat-returns
repeat-returns t c =
    goes_on_so c.turns.new.self c.turns.result
    (loop_begun c.args.self.now c.work.new.self c.number.new.self c.number-2.new.self c.args.frame.left c.args.frame.env c.args.ends.now.first
    c.args.ends.now.last (map item_tree_of c.args.items.now) c.args.at c.in_ok-low.low c.in_ok-high.high c.requires.machine (omega arith) c.requires.env
    c.in_ok-work.ensures.ok c.in_ok-low.ensures.ok c.in_ok-high.ensures.ok)
    (simp (to_z-of_z, c.in_ok-low.ensures.fits, c.in_ok-high.ensures.fits) at c.turns.ensures)

pub repeat-returns-in_err-high : goal.repeat-returns-in_err-high
repeat-returns-in_err-high t c = stops _ _ c.from_residual-in_err-high.result c.from_residual-in_err-high.ensures.1
    (loop_no_last c.args.self.now c.work.new.self c.number.new.self c.args.frame.left c.args.frame.env c.args.ends.now.first c.args.ends.now.last
    (map item_tree_of c.args.items.now) c.args.at c.in_ok-low.low c.in_err-high.field-0.0 c.requires.machine (omega arith) c.requires.env
    c.in_ok-work.ensures.ok c.in_ok-low.ensures.ok c.in_err-high.ensures.err)

pub turns-loop-turn-init : goal.turns-loop-turn-init
turns-loop-turn-init t c = turns_begun c.args.self.now c.args.frame.left (env_in (envs_of c.args.self.now) c.args.frame.env) (map item_tree_of c.args.items.now)
    c.args.at _ _ c.requires.machine

pub turns-loop-turn-preserved : goal.turns-loop-turn-preserved
turns-loop-turn-preserved t c = turns_more c.args.self.now c.loop-turn.self c.turn.new.self c.args.frame.left c.args.frame.env
    (map item_tree_of c.args.items.now) c.args.at _ c.number_at.result _ c.loop-turn.turn _ c.requires.env
    (omega (arith, c.loop-turn-test.true, c.turn_count-turn-end.ensures)) c.number_at.ensures.is c.loop-turn.invariant
    (simp (to_z-of_z, c.number_at.ensures.fits) at c.in_ok-turn.ensures)

pub turns-returns-in_err-turn : goal.turns-returns-in_err-turn
turns-returns-in_err-turn t c = stops _ _ c.from_residual.result c.from_residual.ensures.1
    (turns_stuck c.args.self.now c.loop-turn.self c.args.frame.left c.args.frame.env (map item_tree_of c.args.items.now) c.args.at c.args.low c.number_at.result
    (runs.turns c.args.low c.args.high) c.loop-turn.turn _ c.in_err-turn.field-0.0 c.requires.env
    (omega (arith, c.loop-turn-test.true, simp (to_z-of_z, c.ranges.low, c.ranges.high) at c.turn_count-turn-end.ensures))
    (simp (to_z-of_z, c.ranges.low) at c.number_at.ensures.is) (simp (to_z-of_z, c.ranges.low, c.ranges.high) at c.loop-turn.invariant)
    (simp (to_z-of_z, c.number_at.ensures.fits) at c.in_err-turn.ensures))

pub turns-returns : goal.turns-returns
turns-returns t c = record {
  does = turns_done c.args.self.now c.loop-turn.self c.args.frame.left (env_in (envs_of c.args.self.now) c.args.frame.env) (map item_tree_of c.args.items.now)
      c.args.at c.args.low (runs.turns c.args.low c.args.high) c.loop-turn.turn _
      (omega (arith, c.loop-turn-test.false, simp (to_z-of_z, c.ranges.low, c.ranges.high) at c.turn_count-turn-end.ensures))
      (simp (to_z-of_z, c.ranges.low, c.ranges.high) at c.loop-turn.invariant);
  made = record { made = tt };
}

pub turn-returns : goal.turn-returns
turn-returns t c = turn_passes c.args.self.now c.bound_turn.new.self c.forget.new.self c.last_environment-kept.result c.in_ok-bound_turn.field-0 _
    c.requires.machine c.last_environment-kept.ensures (simp (to_z-of_z, c.ranges.number) at c.in_ok-bound_turn.ensures) c.forget.ensures

pub bound_turn-returns : goal.bound_turn-returns
bound_turn-returns t c =
    binds_so c.items.new.self c.items.result
    (turn_bound c.args.self.now c.work.new.self c.push.new.self c.args.frame.left c.args.frame.env c.in_ok-inner.inner
    (map item_tree_of c.args.items.now) c.args.at c.args.number c.requires.machine c.requires.env c.in_ok-work.ensures.ok c.in_ok-work.ensures.added
    (simp (to_z-of_z, c.ranges.number) at c.in_ok-inner.ensures.ok))
    c.items.ensures
