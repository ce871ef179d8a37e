use Rattle.std.proofs.Common.{◌∙◌, not, ap, sym}
use mir.Val.{bool_byte}
use Rattle.circuit_tidy.proofs.BlockLemmas.{takes_so}
use Rattle.circuit_tidy.proofs.blocks.takes.Goals as goal

pub returns-in-One : goal.returns-in-One
returns-in-One c =
    takes_so c.args.lines.now c.args.flip c.in-One.from c.from.result c.from-in-One.result (sym c.in-One.is) c.requires
    (c.from.ensures ∙ ap (λ b. bool_byte (not b)) c.contains-is_from_new.ensures)
    (c.from-in-One.ensures ∙ ap (λ b. bool_byte (not b)) c.contains_with-is_onto_new.ensures)
