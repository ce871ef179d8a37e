use Rattle.std.proofs.Common.{◌≡◌, take}
use Rattle.format_parts.specs.Names.{names_in}
use Rattle.format_parts.proofs.names.Names.texts.Given as goal

abbrev pub invariant-loop-name : goal.invariant-loop-name
invariant-loop-name l = l.texts.items ≡ names_in (take l.name-index l.name-items)
