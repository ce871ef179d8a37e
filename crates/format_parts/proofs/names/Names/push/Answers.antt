use Rattle.std.proofs.Common.{ap, not, ◌∙◌}
use Rattle.format_parts.specs.Names.{has_word}
use Rattle.format_parts.proofs.NameLemmas.{has_in}
use Rattle.format_parts.proofs.names.Names.push.Goals as goal

pub returns-clause-added : goal.returns-clause-added
returns-clause-added c = c.in_ok-insert.ensures.added ∙ ap not (has_in c.args.name.now c.self.inside.set.keys
    ∙ ap (λ names. has_word names c.args.name.now) c.self.view_is)
