use Rattle.std.proofs.Common.{refl, sym, ◌∙◌, arith, ◌-◌, Some, None, slice_index_or}
use Rattle.revs_run.proofs.LeapLemmas.{nearest, leap_is, leap_joins, leap_stays, leaps_none, out_twice, leap_twice, passed_twice}
use Rattle.revs_run.proofs.leaps.leap_from.Goals as goal

pub bounds-bindings-near : goal.bounds-bindings-near
bounds-bindings-near c =
    let n = nearest _ _ c.index-bindings-env.result c.requires.made c.requires.leaps c.if-env-eq0.false c.requires.env in
    omega (arith, n.before, c.requires.env)

pub bounds-bindings-near-else-near-eq0 : goal.bounds-bindings-near-else-near-eq0
bounds-bindings-near-else-near-eq0 c =
    let n = nearest _ _ c.index-bindings-env.result c.requires.made c.requires.leaps c.if-env-eq0.false c.requires.env in
    omega (arith, n.before, c.requires.env)

pub overflow_add-result : goal.overflow_add-result
overflow_add-result c =
    let p = passed_twice _ _ _ c.index-bindings-near.result c.requires.made c.requires.leaps c.if-env-eq0.false c.requires.env c.if-near-eq0.false in
    omega (arith, p, c.ranges.env.fits)

pub overflow_add-result-2 : goal.overflow_add-result-2
overflow_add-result-2 c =
    let p = passed_twice _ _ _ c.index-bindings-near.result c.requires.made c.requires.leaps c.if-env-eq0.false c.requires.env c.if-near-eq0.false in
    omega (arith, p, c.ranges.env.fits)

pub returns-clause-leaps : goal.returns-clause-leaps
returns-clause-leaps c =
    out_twice _ _ _ c.index-bindings-near.result c.requires.made c.requires.leaps c.if-env-eq0.false c.requires.env
    c.if-near-eq0.false _ refl

pub returns-then-env-eq0-clause-is : goal.returns-then-env-eq0-clause-is
returns-then-env-eq0-clause-is c = sym (leap_is c.args.bindings.now c.args.env None None (leaps_none c.args.bindings.now c.args.env c.if-env-eq0.true) refl)

pub returns-then-near-eq0-clause-is : goal.returns-then-near-eq0-clause-is
returns-then-near-eq0-clause-is c =
    let b = slice_index_or c.args.bindings.now (c.args.env - 1) c.index-bindings-env.result in
    let n = nearest _ _ c.index-bindings-env.result c.requires.made c.requires.leaps c.if-env-eq0.false c.requires.env in
    sym (leap_is c.args.bindings.now c.args.env (Some b.leap) None n.is (leaps_none c.args.bindings.now b.leap.to c.if-near-eq0.true))

pub returns-then-near-next-clause-is : goal.returns-then-near-next-clause-is
returns-then-near-next-clause-is c =
    let b = slice_index_or c.args.bindings.now (c.args.env - 1) c.index-bindings-env.result in
    let n = slice_index_or c.args.bindings.now (b.leap.to - 1) c.index-bindings-near.result in
    sym (leap_twice _ _ c.index-bindings-env.result c.index-bindings-near.result c.requires.made c.requires.leaps c.if-env-eq0.false c.requires.env
    c.if-near-eq0.false ∙ leap_stays c.args.env b.leap n.leap c.if-near-next.true)

pub returns-clause-is : goal.returns-clause-is
returns-clause-is c =
    let b = slice_index_or c.args.bindings.now (c.args.env - 1) c.index-bindings-env.result in
    let n = slice_index_or c.args.bindings.now (b.leap.to - 1) c.index-bindings-near.result in
    sym (leap_twice _ _ c.index-bindings-env.result c.index-bindings-near.result c.requires.made c.requires.leaps c.if-env-eq0.false c.requires.env
    c.if-near-eq0.false ∙ leap_joins c.args.env b.leap n.leap c.if-near-next.false)
