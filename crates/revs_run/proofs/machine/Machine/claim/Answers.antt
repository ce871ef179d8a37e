use Rattle.std.proofs.Common.{refl, rules, arith, length, ap}
use Rattle.revs_run.proofs.WriteLemmas.{asserted, cleaned}
use Rattle.revs_run.proofs.ProgressLemmas.{stops}
use Rattle.revs_run.proofs.FaultLemmas.{said_first}
use Rattle.revs_run.proofs.machine.Machine.claim.Goals.{then-eq, else-eq}
use Rattle.revs_run.proofs.machine.Machine.claim.Goals as goal

pub returns-clause-run : goal.returns-clause-run
returns-clause-run c =
    elim c.if-eq.branch [
      | then-eq w ↦ rw w.self-is (cleaned c.args.self.now _ c.args.kind c.args.location _ c.args.at c.in_ok-of.of
          (search rules) refl refl c.in_ok-claim.ensures.ok refl c.in_ok-of.ensures.ok (omega (arith, ap length c.claims.ensures.claims)) c.requires)
      | else-eq w ↦ rw w.self-is (asserted c.args.self.now _ c.args.kind c.args.location _ c.args.at c.in_ok-of.of
          (search rules) refl refl c.in_ok-claim.ensures.ok refl c.in_ok-of.ensures.ok (omega (arith, ap length c.claims.ensures.claims)) c.requires)
    ]

pub returns-in_err-of-clause-run : goal.returns-in_err-of-clause-run
returns-in_err-of-clause-run c = stops _ _ c.from_residual.result c.from_residual.ensures.1
    (said_first c.in_err-of.field-0.0 _ _ c.in_err-of.ensures.err)

pub returns-in_err-claim-clause-run : goal.returns-in_err-claim-clause-run
returns-in_err-claim-clause-run c = stops _ _ c.from_residual-in_err-claim.result c.from_residual-in_err-claim.ensures.1 (record { stuck = tt })
