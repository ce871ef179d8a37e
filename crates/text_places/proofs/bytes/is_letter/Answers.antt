use Rattle.std.proofs.Common.{ap, sym, ◌∙◌, ◌||◌, ◌==◌}
use Rattle.text_places.proofs.bytes.is_letter.Goals as goal

pub returns-else-is_ascii_alphabetic : goal.returns-else-is_ascii_alphabetic
returns-else-is_ascii_alphabetic c =
    ap (λ a. a || (c.args.byte == 95)) (sym c.if-is_ascii_alphabetic.false ∙ c.is_ascii_alphabetic.ensures.value)
