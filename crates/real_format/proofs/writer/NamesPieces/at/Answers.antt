use Rattle.std.proofs.Common.{◌<◌, Some, arith, ap, ◌∙◌}
use Rattle.real_format.specs.inside.Labels.{count_of, name_by}
use Rattle.real_format.proofs.NameLemmas.{length-spaced_names, spaced_name_at}
use Rattle.real_format.proofs.writer.NamesPieces.at.Goals as goal

pub overflow_cast-place : goal.overflow_cast-place
overflow_cast-place c =
    let labels = c.args.self.0 in
    omega (arith, length-spaced_names (name_by labels) (count_of labels), c.requires.in_range, c.requires.can)

pub spaced_name-requires-clause-in_range : goal.spaced_name-requires-clause-in_range
spaced_name-requires-clause-in_range c =
    let labels = c.args.self.0 in
    omega (arith, length-spaced_names (name_by labels) (count_of labels), c.requires.in_range)

pub returns-clause-bytes : goal.returns-clause-bytes
returns-clause-bytes c =
    let labels = c.args.self.0 in
    let low : c.args.place < count_of labels = omega (arith, length-spaced_names (name_by labels) (count_of labels), c.requires.in_range) in
    spaced_name_at (name_by labels) (count_of labels) c.args.place low ∙ ap Some c.spaced_name.ensures
