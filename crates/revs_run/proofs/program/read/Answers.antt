use Rattle.std.proofs.Common.{arith, get_or}
use Rattle.revs_terms.specs.Terms.{place_of}
use Rattle.revs_terms.specs.Trees.{tree_of}
use Rattle.revs_run.proofs.ProgressLemmas.{stops}
use Rattle.revs_run.proofs.EndLemmas.{reads_begun, reads_more, reads_stuck, reads_done, at_default, at_last}
use Rattle.revs_run.proofs.program.read.Goals as goal

pub loop-location-init : goal.loop-location-init
loop-location-init c = reads_begun c.args.machine.now
    (place_of (tree_of c.args.body.now)) c.new-made.result.items c.args.locations.now c.new-made.ensures.items

pub returns-in_err-stamp : goal.returns-in_err-stamp
returns-in_err-stamp c = stops _ _ c.from_residual.result c.from_residual.ensures.1
    (reads_stuck c.args.machine.now (place_of (tree_of c.args.body.now)) c.loop-location.made.items
    (get_or c.args.locations.now c.loop-location.location-index 0) _ _ c.args.locations.now c.in_err-stamp.field-0.0
    (at_default c.args.locations.now c.loop-location.location-index 0 (omega arith)) c.loop-location.invariant c.in_err-stamp.ensures.err)

pub loop-location-preserved : goal.loop-location-preserved
loop-location-preserved c = reads_more c.args.machine.now (place_of (tree_of c.args.body.now)) c.loop-location.made.items c.push.new.self.items
    (get_or c.args.locations.now c.loop-location.location-index 0) c.in_ok-stamp.stamp _ _ c.args.locations.now
    (at_default c.args.locations.now c.loop-location.location-index 0 (omega arith)) c.in_ok-push.ensures.items
    c.in_ok-stamp.ensures.ok c.in_ok-stamp.ensures.known c.loop-location.invariant

pub returns : goal.returns
returns c = reads_done c.args.machine.now (place_of (tree_of c.args.body.now)) c.loop-location.made.items _ c.args.locations.now
    (at_last c.args.locations.now c.loop-location.location-index (omega arith)) c.loop-location.invariant

pub returns-in_err-push : goal.returns-in_err-push
returns-in_err-push c = stops _ _ c.from_residual-in_err-push.result c.from_residual-in_err-push.ensures.1 (record { stuck = tt })
