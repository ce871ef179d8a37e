use Rattle.std.proofs.Common.{arith}
use Rattle.std.proofs.lemmas.Result.{IfOk-weaker}
use Rattle.revs_run.proofs.EnvironmentLemmas.{bound_done, grown_within, grown_made}
use Rattle.revs_run.proofs.machine.Machine.bind.Goals as goal

pub push-requires-clause-room : goal.push-requires-clause-room
push-requires-clause-room c = omega (arith, c.in_ok-work.ensures.ok.worked, c.requires.room)

pub push-requires-clause-env : goal.push-requires-clause-env
push-requires-clause-env c = grown_within c.in_ok-work.ensures.ok.grows c.requires.env

pub push-requires-clause-made : goal.push-requires-clause-made
push-requires-clause-made c = grown_made c.args.self.now c.work.new.self c.args.value c.in_ok-work.ensures.ok.grows c.requires.made

pub returns-clause-ok : goal.returns-clause-ok
returns-clause-ok c = IfOk-weaker c.push.result _ _
    (λ made b. bound_done c.args.self.now c.work.new.self c.push.new.self c.args.value c.args.env made c.place.result _ c.place.ensures
    c.bound_length.result c.bound_length.ensures c.in_ok-work.ensures.ok b c.requires.env c.requires.made) c.push.ensures.ok
