use Rattle.std.proofs.Common.{◌≡◌, ℕ, ◌+◌, ◌∙◌, ap, length, subst, arith, refl}
use Rattle.claim_check.specs.inside.Labels.{claims_of}
use Rattle.claim_check.specs.inside.Numbers.{AreSettled}
use Rattle.claim_check.proofs.OutcomeLemmas.{all_settled}
use Rattle.claim_check.proofs.claims.settle_in_order.Goals as goal

pub loop-number-init : goal.loop-number-init
loop-number-init c = (c.requires.settled, refl)

pub loop-number-preserved : goal.loop-number-preserved
loop-number-preserved c =
    let t = c.args.tape.now in
    let labels = c.args.schedule.now.labels.items in
    let same : c.loop-number.diagram.limit ≡ c.args.diagram.now.limit = c.loop-number.invariant.1 in (
      subst (λ (l : ℕ). AreSettled t labels l (c.loop-number.number + 1) c.settle_claim.new.diagram c.settle_claim.new.numbers) same
          c.in_ok-settle_claim.ensures.settled,
      c.settle_claim.ensures.limit ∙ same,
    )

pub returns-clause-hold : goal.returns-clause-hold
returns-clause-hold c =
    let t = c.args.tape.now in
    let all : claims_of t ≡ c.loop-number.number =
    omega (arith, c.loop-number-test.false, c.loop-number.auto.number-end, ap length c.claims.ensures.claims) in
    all_settled t c.args.schedule.now.labels.items c.args.diagram.now.limit c.loop-number.number c.loop-number.diagram c.loop-number.numbers all
    c.loop-number.invariant.0
