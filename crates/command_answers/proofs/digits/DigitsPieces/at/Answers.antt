use Rattle.std.proofs.Common.{false, [], ◌∷◌}
use Rattle.revc_io.proofs.PieceLemmas.{item_within, mapped_at, mapped_item}
use Rattle.command_answers.specs.Lines.{digits_of}
use Rattle.command_answers.proofs.digits.DigitsPieces.at.Goals as goal

pub returns-clause-bytes : goal.returns-clause-bytes
returns-clause-bytes c =
    let bits = c.args.self.0.now in
    rw c.digit.ensures
    (mapped_at (λ byte. byte ∷ []) (digits_of bits) c.args.place _
    (mapped_item _ bits c.args.place false (item_within (λ byte. byte ∷ []) (digits_of bits) c.args.place c.requires.in_range)))
