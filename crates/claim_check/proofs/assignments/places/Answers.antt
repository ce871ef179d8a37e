use Rattle.std.proofs.Common.{get_or, ◌∙◌, arith}
use Rattle.std.proofs.lemmas.List.{length-set}
use Rattle.claim_check.proofs.OrderTableLemmas.{place_written, places_are}
use Rattle.claim_check.proofs.assignments.places.Goals as goal

pub loop-place-preserved : goal.loop-place-preserved
loop-place-preserved c =
    let order = c.args.order.now in
    let places = c.loop-place.places.items in
    let place = c.loop-place.place in (
      length-set places (get_or order place 0) place ∙ c.loop-place.invariant.0,
      place_written order places place c.requires.order c.loop-place.invariant.0 c.loop-place-test.true c.loop-place.invariant.1,
    )

pub returns : goal.returns
returns c =
    let order = c.args.order.now in
    let places = c.loop-place.places.items in
    places_are order places c.requires.order c.loop-place.invariant.0
    (λ k low. c.loop-place.invariant.1 k (omega (arith, low, c.loop-place-test.false)))
