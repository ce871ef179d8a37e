use Rattle.std.proofs.Common.{sym, subst}
use Rattle.std.proofs.lemmas.Int.{to_z-of_z}
use Rattle.revs_terms.specs.Running as runs
use Rattle.revs_terms.specs.Running.{Outcome}
use Rattle.revs_terms.specs.Terms.{place_of}
use Rattle.revs_terms.specs.Trees.{tree_of}
use Rattle.array_shapes.specs.Values.{seen}
use Rattle.revs_run.specs.inside.Machines.{envs_of, state_of, Goes}
use Rattle.revs_run.specs.inside.Calls.{Follows}
use Rattle.revs_run.proofs.PartLemmas.{rotate_is}
use Rattle.revs_run.proofs.machine.Machine.rotated.Goals as goal

pub returns-clause-run : goal.returns-clause-run
returns-clause-run c =
    let e = rotate_is (envs_of c.args.self.now) (seen c.args.value.now) c.in-Some.places.now c.args.k (place_of (tree_of c.args.operand.now)) c.args.at
    (state_of c.args.self.now) c.in-Some.ensures in
    subst (λ (o : Outcome (Unit {0}) runs.Value). Follows (Goes c.args.self.now c.turned.new.self) o c.turned.result) (sym e)
    (simp (to_z-of_z, c.ranges.k) at c.turned.ensures)
