use Rattle.held_nodes.proofs.NarrowLemmas.{narrow_toggles}
use Rattle.held_nodes.proofs.law.toggles_are_narrow.Goals as goal

pub returns : goal.returns
returns c = narrow_toggles
