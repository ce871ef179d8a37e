use Rattle.std.proofs.Common.{refl, sym, ap, ◌∙◌, bit_xor, get_or}
use Rattle.circuit_tidy.specs.Blocks.{addition_of, one_line}
use Rattle.circuit_tidy.proofs.BitRowLemmas.{adds_row}
use Rattle.circuit_tidy.proofs.rows.add_flip.Goals as goal

pub returns-in-One : goal.returns-in-One
returns-in-One c =
    adds_row c.args.lines.now c.args.words.now c.place_of-from.result c.place_of-onto.result
    (bit_xor (get_or c.args.words.now c.place_of-onto.result 0) (get_or c.args.words.now c.place_of-from.result 0)) (addition_of c.args.flip)
    c.requires.rising c.requires.long c.place_of-from.ensures.inside c.place_of-onto.ensures.inside refl
    (ap one_line c.in-One.is ∙ sym c.place_of-from.ensures.at) (sym c.place_of-onto.ensures.at)
