use Rattle.std.proofs.Common.{refl, sym, ◌∙◌}
use Rattle.real_format.proofs.reader.ends_gates.Goals as goal

pub returns-then-is_done-clause-ok : goal.returns-then-is_done-clause-ok
returns-then-is_done-clause-ok c = (refl, sym c.is_done.ensures ∙ c.if-is_done.true)
