use Rattle.std.proofs.Common.{ap, ◌∙◌}
use Rattle.format_parts.specs.Names.{has_word}
use Rattle.format_parts.proofs.NameLemmas.{has_in}
use Rattle.format_parts.proofs.names.Names.has.Goals as goal

pub returns : goal.returns
returns c = c.contains.ensures ∙ has_in c.args.name.now c.self.inside.set.keys ∙ ap (λ names. has_word names c.args.name.now) c.self.view_is
