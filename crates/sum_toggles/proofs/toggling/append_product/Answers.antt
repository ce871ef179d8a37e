use Rattle.sum_toggles.proofs.StepLemmas.{flip_different, placed_a, placed_b}
use Rattle.sum_toggles.proofs.toggling.append_product.Goals as goal

pub line_of-requires : goal.line_of-requires
line_of-requires c =
    rw (c.own_base-a.ensures, c.first.ensures.first, c.second.ensures.second)
    (placed_a c.args.on.first c.args.on.lines.now c.args.product.now c.first.ensures.product c.requires.lines_own)

pub line_of-requires-2 : goal.line_of-requires-2
line_of-requires-2 c =
    rw (c.own_base-b.ensures, c.first-2.ensures.first, c.second-2.ensures.second)
    (placed_b c.args.on.first c.args.on.lines.now c.args.product.now c.first.ensures.product c.requires.lines_own)

pub push_flip-requires : goal.push_flip-requires
push_flip-requires c =
    rw (
      c.line_of.ensures,
      c.line_of-2.ensures,
      c.own_base-a.ensures,
      c.own_base-b.ensures,
      c.first.ensures.first,
      c.second.ensures.second,
      c.first-2.ensures.first,
      c.second-2.ensures.second,
    )
    (flip_different c.args.on.first c.args.on.lines.now c.args.product.now c.first.ensures.product c.requires.lines_own c.args.target c.requires.apart)
