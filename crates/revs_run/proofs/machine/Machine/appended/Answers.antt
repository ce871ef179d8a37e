use Rattle.std.proofs.Common.{sym, subst}
use Rattle.revs_terms.specs.Running as runs
use Rattle.revs_terms.specs.Running.{Outcome}
use Rattle.array_shapes.specs.Values.{seen}
use Rattle.revs_run.specs.inside.Machines.{envs_of, state_of, Goes}
use Rattle.revs_run.specs.inside.Calls.{Follows}
use Rattle.revs_terms.specs.Terms.{place_of}
use Rattle.revs_terms.specs.Trees.{tree_of}
use Rattle.revs_run.proofs.PartLemmas.{append_is}
use Rattle.revs_run.proofs.machine.Machine.appended.Goals as goal

pub register-requires-in-Ok : goal.register-requires-in-Ok
register-requires-in-Ok c = c.requires

pub returns-in-Ok-clause-run : goal.returns-in-Ok-clause-run
returns-in-Ok-clause-run c =
    let e = append_is (envs_of c.args.self.now) (seen c.args.x.now) (seen c.args.y.now) c.in-Some.front.now c.in-Some-register.back.now c.in-Ok.joined.items
    (place_of (tree_of c.args.first.now)) (place_of (tree_of c.args.second.now)) c.args.at (state_of c.args.self.now) c.in-Some.ensures
    c.in-Some-register.ensures (λ n. let f = c.in-Ok.ensures.length.1 n in cc) c.in-Ok.ensures.ok in
    subst (λ (o : Outcome (Unit {0}) runs.Value). Follows (Goes c.args.self.now c.register-in-Ok.new.self) o c.register-in-Ok.result) (sym e)
    c.register-in-Ok.ensures
