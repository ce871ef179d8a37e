use Rattle.gate_chains.proofs.DepthLemmas.{depths_are_bounded}
use Rattle.gate_chains.proofs.depths_are_bounded.Goals as goal

pub returns : goal.returns
returns c = depths_are_bounded
