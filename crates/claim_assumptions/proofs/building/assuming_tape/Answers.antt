use Rattle.std.proofs.Common.{◌≡◌, ◌∙◌, ap, drop, length, subst, sym, take}
use Rattle.std.specs.Prelude.{IfOk}
use Rattle.revs_tape.specs.Tapes.{TapeView}
use Rattle.claim_assumptions.proofs.BuildingLemmas.{assuming_made, grant_size, others_few, others_known}
use Rattle.claim_assumptions.proofs.building.assuming_tape.Goals as goal

pub push_failing-requires-clause-start : goal.push_failing-requires-clause-start
push_failing-requires-clause-start c =
    grant_size c.args.tape.now c.in_ok-made.made c.grant.new.made _ c.len.result c.len-2.result c.assumed_claims-count.result c.in_ok-made.ensures
    c.in_ok-grant.ensures c.len-2.ensures.len (sym c.split_at.ensures.front_len)

pub push_failing-requires-clause-known : goal.push_failing-requires-clause-known
push_failing-requires-clause-known c =
    others_known c.args.tape.now c.in_ok-made.made c.grant.new.made _ _ c.len.result c.len-2.result c.assumed_claims-count.result c.claims.ensures.tape
    c.in_ok-made.ensures c.in_ok-grant.ensures c.len-2.ensures.len
    (c.split_at.ensures.back ∙ ap (drop c.assumed_claims-count.result) c.claims.ensures.claims)

pub push_failing-requires-clause-few : goal.push_failing-requires-clause-few
push_failing-requires-clause-few c =
    others_few c.args.tape.now c.in_ok-made.made c.grant.new.made _ _ c.len.result c.assumed_claims-count.result c.claims.ensures.tape
    c.in_ok-made.ensures c.in_ok-grant.ensures c.split_at.ensures.front_len (c.split_at.ensures.back_len ∙ ap length c.claims.ensures.claims)

pub returns : goal.returns
returns c =
    let t = c.args.tape.now in
    subst (λ (z : TapeView). IfOk c.with_outputs.result (λ made. made ≡ z))
    (assuming_made t c.in_ok-made.made c.grant.new.made c.push_failing.new.made c.args.assumed c.assumed_claims-count.result _ _ c.len.result c.len-2.result
    (c.split_at.ensures.front ∙ ap (take c.assumed_claims-count.result) c.claims.ensures.claims)
    (c.split_at.ensures.back ∙ ap (drop c.assumed_claims-count.result) c.claims.ensures.claims) c.assumed_claims-count.ensures c.requires.some
    c.in_ok-made.ensures c.len.ensures.len c.in_ok-grant.ensures c.len-2.ensures.len c.in_ok-push_failing.ensures) c.with_outputs.ensures
