use Rattle.std.proofs.Common.{sym, ◌∙◌}
use Rattle.real_format.specs.inside.Labels.{count_of, name_by}
use Rattle.real_format.proofs.NameLemmas.{length-spaced_names}
use Rattle.real_format.proofs.writer.NamesPieces.len.Goals as goal

pub returns : goal.returns
returns c =
    let labels = c.args.self.0 in
    c.lines.ensures ∙ sym (length-spaced_names (name_by labels) (count_of labels))
