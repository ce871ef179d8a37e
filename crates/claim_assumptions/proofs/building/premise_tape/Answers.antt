use Rattle.std.proofs.Common.{◌∙◌, ◌-◌, ap, take}
use Rattle.claim_assumptions.proofs.BuildingLemmas.{premise_made}
use Rattle.claim_assumptions.proofs.building.premise_tape.Goals as goal

pub returns : goal.returns
returns c =
    let t = c.args.tape.now in
    premise_made t c.in_ok-made.made c.claim.new.self c.set_outputs.new.self c.args.assumed c.assumed_claims.result _ (c.len.result - 1)
    c.in_ok-vec.field-0.items (c.split_at.ensures.front ∙ ap (take c.assumed_claims.result) c.claims.ensures.claims) c.assumed_claims.ensures
    c.in_ok-made.ensures (ap (λ n. n - 1) c.len.ensures.len) c.in_ok-claim.ensures.ok
    (c.in_ok-vec.ensures.items_if_clones_equal (λ y same. same)) c.set_outputs.ensures
