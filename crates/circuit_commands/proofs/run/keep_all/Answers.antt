use Rattle.std.proofs.Common.{◌∙◌, ap}
use Rattle.circuit_commands.specs.Run.{kept}
use Rattle.circuit_commands.proofs.RunLemmas.{kept_more}
use Rattle.circuit_commands.proofs.run.keep_all.Goals as goal

pub loop-row-preserved : goal.loop-row-preserved
loop-row-preserved c =
    c.in_ok-push.ensures.items
    ∙ kept_more c.args.garbage.now c.args.rows.now c.row-item.result c.loop-row.row-index c.loop-row.lines.items _ c.loop-row-test.true c.row-item.is
    (c.new.ensures ∙ c.in_ok-keep.ensures ∙ ap (kept c.args.garbage.now) c.deref.ensures.value) c.loop-row.invariant
