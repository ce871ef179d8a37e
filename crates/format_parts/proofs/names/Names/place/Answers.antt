use Rattle.std.proofs.Common.{position, ap, ◌∙◌}
use Rattle.std.specs.Str.{bytes_eq}
use Rattle.format_parts.proofs.NameLemmas.{position_in}
use Rattle.format_parts.proofs.names.Names.place.Goals as goal

pub returns : goal.returns
returns c = c.get_index_of.ensures.index ∙ position_in c.args.name.now c.self.inside.set.keys ∙ ap (position (bytes_eq c.args.name.now)) c.self.view_is
