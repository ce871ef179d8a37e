use Rattle.revc_io.proofs.PieceLemmas.{item_within}
use Rattle.format_parts.proofs.FlipLemmas.{flip_at, flip_in_range}
use Rattle.format_parts.proofs.flips.GatesPieces.at.Goals as goal

pub returns-clause-can : goal.returns-clause-can
returns-clause-can g c =
    let within = item_within _ c.args.self.gates.now c.args.place c.requires.in_range in
    let low = flip_in_range _ c.args.self.gates.now c.args.place c.index-self-place.result c.in-Flip.target c.requires.can within
    c.in-Flip.ensures.op in
    (c.word.ensures.can, (c.requires.can.0, rw c.controls-controls.ensures.controls low.0), c.target.ensures.can)

pub returns-clause-bytes : goal.returns-clause-bytes
returns-clause-bytes g c =
    rw (c.word.ensures.bytes, c.target.ensures.bytes, c.controls-controls.ensures.controls)
    (flip_at (g.W.FlipWriter.texts c.args.self.writer) c.args.self.gates.now c.args.place c.index-self-place.result c.in-Flip.target
    c.requires.in_range c.in-Flip.ensures.op)
