use Rattle.std.proofs.Common.{false, arith, refl}
use Rattle.std.proofs.lemmas.List.{drop_more}
use Rattle.circuit_commands.proofs.RunLemmas.{keeps_more, keeps_all}
use Rattle.circuit_commands.proofs.run.keep.Goals as goal

pub loop-line-init : goal.loop-line-init
loop-line-init c = rw c.new-bits.ensures.items refl

pub loop-line-preserved : goal.loop-line-preserved
loop-line-preserved c =
    let inside = c.loop-line-test.true in
    let same = c.requires in
    keeps_more c.args.garbage.now c.args.lines.now _ _ c.loop-line.line _ _ (drop_more c.args.garbage.now c.loop-line.line false (omega arith))
    (drop_more c.args.lines.now c.loop-line.line false inside) c.loop-line.invariant c.in_ok-keep_one.ensures

pub returns : goal.returns
returns c = keeps_all c.args.garbage.now c.args.lines.now c.loop-line.bits.items c.loop-line.line c.loop-line-test.false c.requires c.loop-line.invariant
