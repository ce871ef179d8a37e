use Rattle.std.proofs.Common.{refl, arith, sym, ap, ◌∙◌}
use Rattle.array_shapes.specs.Values.{seen}
use Rattle.revs_run.specs.inside.Machines.{envs_of}
use Rattle.revs_run.specs.inside.Numbers.{number_in}
use Rattle.revs_run.proofs.EnvironmentLemmas.{none_bound, nearest}
use Rattle.revs_run.proofs.LeapLemmas.{value_there}
use Rattle.revs_run.proofs.NumberLemmas.{number_in-view}
use Rattle.revs_run.proofs.machine.Machine.number_named.Goals as goal

pub returns-then-there-eq0 : goal.returns-then-there-eq0
returns-then-there-eq0 c =
    ap number_in (sym (none_bound c.args.self.now c.outward-there.result 0 c.if-there-eq0.true) ∙ value_there c.args.self.now c.args.env
    c.outward-there.result c.args.back c.outward-there.ensures.is)

pub returns : goal.returns
returns c =
    let p = nearest c.args.self.now c.outward-there.result 0 c.index.result.now c.requires.machine
    (omega arith) c.outward-there.ensures.made refl c.index.ensures in
    c.number.ensures ∙ sym (number_in-view (envs_of c.args.self.now) (seen c.index.result.now.value)) ∙ ap number_in
    (p.0 ∙ value_there c.args.self.now c.args.env c.outward-there.result c.args.back c.outward-there.ensures.is)
