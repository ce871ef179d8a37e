use Rattle.std.proofs.Common.{refl, rules, arith}
use Rattle.revs_run.proofs.WriteLemmas.{wrote}
use Rattle.revc_base.proofs.ResultLemmas.{passes_on}
use Rattle.revs_run.proofs.machine.Machine.write.Goals as goal

pub returns-clause-ok : goal.returns-clause-ok
returns-clause-ok c =
    wrote c.args.self.now _ c.args.entry c.args.at c.len-location.result (search rules) refl
    (cc (c.in_ok-push.ensures.items, c.in_ok-made.ensures.ok)) c.in_ok-made.ensures.pushed refl (omega arith) c.requires.machine

pub returns-in_err-made-clause-err : goal.returns-in_err-made-clause-err
returns-in_err-made-clause-err c = passes_on _ c.from_residual.result c.from_residual.ensures.1 (record { stuck = tt })

pub returns-in_err-push-clause-err : goal.returns-in_err-push-clause-err
returns-in_err-push-clause-err c = passes_on _ c.from_residual-in_err-push.result c.from_residual-in_err-push.ensures.1 (record { stuck = tt })
