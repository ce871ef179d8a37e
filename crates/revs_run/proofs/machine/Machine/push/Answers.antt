use Rattle.std.proofs.Common.{refl, rules, sym, subst, arith, ap, List, [], length}
use Rattle.revs_run.specs.declared.machine.Binding.{Binding}
use Rattle.revs_run.specs.inside.Machines.{AreBindings, AreLeaps, Leaps, envs_from}
use Rattle.revs_run.proofs.EnvironmentLemmas.{pushed_done}
use Rattle.revs_run.proofs.LeapLemmas.{leaps_pushed}
use Rattle.revs_run.proofs.machine.Machine.push.Goals as goal

pub leap_from-leap-requires-clause-made : goal.leap_from-leap-requires-clause-made
leap_from-leap-requires-clause-made c = subst (AreBindings 0) (sym c.deref.ensures.value) c.requires.machine.made

pub leap_from-leap-requires-clause-leaps : goal.leap_from-leap-requires-clause-leaps
leap_from-leap-requires-clause-leaps c = subst (AreLeaps []) (sym c.deref.ensures.value) c.requires.machine.leaps

pub leap_from-leap-requires-clause-env : goal.leap_from-leap-requires-clause-env
leap_from-leap-requires-clause-env c = omega (arith, ap length c.deref.ensures.value, c.requires.env)

pub returns-clause-ok : goal.returns-clause-ok
returns-clause-ok c =
    let bs = c.args.self.now.bindings.items in
    let leap = c.leap_from-leap.result in
    let l : Leaps (envs_from [] bs) c.args.env leap = subst
    (λ (x : List Binding). Leaps (envs_from [] x) c.args.env leap) c.deref.ensures.value c.leap_from-leap.ensures.leaps in
    let leaps : AreLeaps [] c.push.new.self.items = subst (AreLeaps []) (sym c.in_ok-push.ensures.items)
    (leaps_pushed [] bs (record { value = c.args.value; parent = c.args.env; leap = leap }) c.requires.machine.leaps l) in
    pushed_done c.args.self.now _ c.args.value c.args.env _ leap c.requires.machine c.in_ok-push.ensures.items refl refl refl (search rules)
    c.requires.room c.requires.env c.requires.made leaps
