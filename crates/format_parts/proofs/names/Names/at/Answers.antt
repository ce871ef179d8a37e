use Rattle.std.proofs.Common.{ap, ◌∙◌}
use Rattle.format_parts.specs.Names.{names_in}
use Rattle.format_parts.proofs.NameLemmas.{name_in}
use Rattle.format_parts.proofs.names.Names.at.Goals as goal

pub returns : goal.returns
returns c =
    name_in c.as_slice.result.now c.args.place _ c.args.self.now (ap names_in c.as_slice.ensures.keys ∙ c.self.view_is) c.requires
