use Rattle.std.proofs.Common.{refl, arith, length, sym, ap, ◌∙◌, subst}
use Rattle.array_shapes.specs.Values.{ValueView}
use Rattle.revs_run.specs.inside.Machines.{envs_of, spec_value, IsValueView}
use Rattle.revs_run.proofs.EnvironmentLemmas.{none_bound, nearest}
use Rattle.revs_run.proofs.LeapLemmas.{value_there}
use Rattle.revc_base.proofs.ResultLemmas.{passes_on}
use Rattle.revs_run.proofs.machine.Machine.named.Goals as goal

pub returns-then-there-eq0-clause-ok : goal.returns-then-there-eq0-clause-ok
returns-then-there-eq0-clause-ok c =
    sym (none_bound c.args.self.now c.outward-there.result 0 c.if-there-eq0.true) ∙ value_there c.args.self.now c.args.env c.outward-there.result c.args.back
    c.outward-there.ensures.is

pub returns-clause-ok : goal.returns-clause-ok
returns-clause-ok c =
    let p = nearest c.args.self.now c.outward-there.result 0 c.index.result.now c.requires.machine
    (omega arith) c.outward-there.ensures.made refl c.index.ensures in
    ap (spec_value (envs_of c.args.self.now)) c.in_ok-copy.ensures ∙ p.0 ∙ value_there c.args.self.now c.args.env c.outward-there.result c.args.back
    c.outward-there.ensures.is

pub returns-clause-made : goal.returns-clause-made
returns-clause-made c =
    let p = nearest c.args.self.now c.outward-there.result 0 c.index.result.now c.requires.machine
    (omega arith) c.outward-there.ensures.made refl c.index.ensures in
    record { made = subst (λ (v : ValueView). IsValueView (length c.args.self.now.bindings.items) v) (sym c.in_ok-copy.ensures) p.1 }

pub returns-in_err-copy-clause-err : goal.returns-in_err-copy-clause-err
returns-in_err-copy-clause-err c = passes_on _ c.from_residual.result c.from_residual.ensures.1 refl
